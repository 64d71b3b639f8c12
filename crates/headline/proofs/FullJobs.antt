-- The modules without halo lines have the jobs of the modules whose halos are the edge lines beside them
use Rattle.headline.proofs.Imports.{AreJobsOf, AreModules, Circuit, CircuitLine, JobView, List, ModuleLines, Pattern}
use Rattle.headline.proofs.Imports.{Setting, Some, [], ap, ap₂, arith, circuit_of, common_steps, false, job_demand}
use Rattle.headline.proofs.Imports.{has_nonlocal_edge_wire_beside, job_start, known, length, length-map, map}
use Rattle.headline.proofs.Imports.{numbered_all_times, numbered_event, numbered_signals, refl, setting_of, slice_get}
use Rattle.headline.proofs.Imports.{subst, suc, sym, with_halo_lines, zero, ℕ, ◌∙◌, ◌∷◌, ◌≡◌}
use Rattle.lemmas.proofs.Common.{mapped_at, mapped_from}
use Rattle.certificate_lines.specs.Entries.{halos}
use Rattle.certificate.specs.Jobs.{IsJobOf, line_signals, stops_of_lines}
use Rattle.certificate_lines.specs.Modules.{IsAllowedHalo}
use Rattle.module_job.specs.Signals.{IsSignalWireBelow}
use Rattle.certificate_lines.proofs.InList.{all_in}
use Rattle.certificate.proofs.FullModules.{all_of_each, full_cuts, full_edges, full_gates, full_keeps, full_known}
use Rattle.certificate.proofs.FullModules.{full_modules, full_stops}
use Rattle.certificate_lines.proofs.LineOrder.{in_each}
use Rattle.soundness.proofs.NumberedSignals.{IsNamed, lines_back}
use Rattle.certificate_lines.proofs.Pairs.{Each}

-- ---- the job of a module with the edge lines beside it

new_job : Circuit → Setting → List ModuleLines → ModuleLines → JobView → JobView
new_job c g ms m j = record j
    { halos = numbered_signals c j.locals.circuit_wires (line_signals c (halos (with_halo_lines g ms m))) }

module _ (lines : List CircuitLine) (p : Pattern) (ms : List ModuleLines) (good : AreModules (setting_of lines p) ms)
    (complete : has_nonlocal_edge_wire_beside (setting_of lines p) ms ≡ false) where
  abbrev g : Setting
  g = setting_of lines p

  abbrev c : Circuit
  c = circuit_of lines

  new_is : (k : ℕ) (m : ModuleLines) (j : JobView) → slice_get ms k ≡ Some m → IsJobOf c p m j →
      IsJobOf c p (with_halo_lines g ms m) (new_job c g ms m j)
  unfolding with_halo_lines job_start job_demand new_job numbered_signals
  new_is k m j at is =
      let full = with_halo_lines g ms m in
      let module_is = (full_modules g ms good complete).each k full (mapped_at (with_halo_lines g ms) ms k m at) in
      let ws = j.locals.circuit_wires in
      let same : known c full ≡ ws = full_known g ms good m ∙ sym is.wires in
      let named : Each (IsNamed c ws) (halos full) =
      in_each (IsNamed c ws) (halos full)
      (λ e i. subst (λ vs. IsNamed c vs e) same
      (all_in (IsAllowedHalo g full.area (known c full)) (halos full) module_is.halo_lines e i).border.signal) in
      let back = lines_back c ws (halos full) named in
      record {
        area = is.area;
        steps = is.steps;
        locals = is.locals;
        cut = is.cut ∙ ap length (sym (full_cuts g ms good m));
        wires = is.wires ∙ sym (full_known g ms good m);
        used = is.used ∙ sym (full_gates g ms good m);
        start_count = is.start_count;
        demand_count = is.demand_count;
        start = is.start;
        demand = is.demand;
        edges = is.edges ∙ ap (line_signals c) (sym (full_edges g ms good m));
        halos = ap₂ (λ a b. record { all_times = a; events = b }) back.all_times back.events;
        own = record {
          starts = is.own.starts;
          demands = is.own.demands;
          edge_all_times = is.own.edge_all_times;
          edge_events = is.own.edge_events;
          halo_all_times = all_of_each _ _ (subst
              (λ n. Each (λ h. IsSignalWireBelow n h.signal)
              (map (numbered_all_times c ws) (line_signals c (halos full)).all_times))
              is.locals.sized back.all_times_below);
          halo_events = all_of_each _ _
              (subst (λ n. Each (λ e. IsSignalWireBelow n e.signal)
              (map (numbered_event c ws) (line_signals c (halos full)).events)) is.locals.sized back.events_below);
          stops = is.own.stops;
        };
        stops = is.stops ∙ ap (stops_of_lines c) (sym (full_stops g ms good m));
        kept = is.kept ∙ sym (full_keeps g ms good m);
        kept_are_used = is.kept_are_used;
      }

  -- ---- and the jobs of all

  new_jobs : List ModuleLines → List JobView → List JobView
  new_jobs [] js = []
  new_jobs (m ∷ ns) [] = []
  new_jobs (m ∷ ns) (j ∷ js) = new_job c g ms m j ∷ new_jobs ns js

  new_count : (ns : List ModuleLines) (js : List JobView) → length js ≡ length ns → length (new_jobs ns js) ≡ length ns
  unfolding new_jobs
  new_count [] js e = refl
  new_count (m ∷ ns) [] e = absurd (omega (arith, e))
  new_count (m ∷ ns) (j ∷ js) e = let less : length js ≡ length ns = omega (arith, e) in ap suc (new_count ns js less)

  record IsNew (ns : List ModuleLines) (js : List JobView) (k : ℕ) (m : ModuleLines) (new : JobView) : Type 0 where
    pub job : JobView
    pub at : slice_get js k ≡ Some job
    pub is : new_job c g ms m job ≡ new

  new_at : (ns : List ModuleLines) (js : List JobView) (k : ℕ) (m : ModuleLines) (new : JobView) →
      slice_get ns k ≡ Some m → slice_get (new_jobs ns js) k ≡ Some new → IsNew ns js k m new
  unfolding new_jobs
  new_at [] js k m new at e = absurd cc
  new_at (n ∷ ns) [] k m new at e = absurd cc
  new_at (n ∷ ns) (j ∷ js) zero m new at e = grind (arith, common_steps)
  new_at (n ∷ ns) (j ∷ js) (suc k) m new at e = grind (arith, common_steps, (new_at ns js k m new at e))

  pub full_jobs : (js : List JobView) → AreJobsOf c p ms js →
      (others : List JobView) × AreJobsOf c p (map (with_halo_lines g ms) ms) others
  full_jobs js own = (
    new_jobs ms js,
    record {
      count = new_count ms js own.count ∙ sym (length-map ms (with_halo_lines g ms));
      each = λ k n new at e.
          let m = mapped_from (with_halo_lines g ms) ms k n at in
          let t = new_at ms js k m.0 new m.1 e in
          subst (λ o. IsJobOf c p o new) m.2
          (subst (λ j. IsJobOf c p (with_halo_lines g ms m.0) j) t.is
          (new_is k m.0 t.job m.1 (own.each k m.0 t.job m.1 t.at)));
    },
  )
