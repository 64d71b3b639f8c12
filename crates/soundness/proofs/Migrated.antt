-- From modules with halo lines to modules without
use Rattle.soundness.proofs.Imports.{Accepts, AreDistinct, AreJobsOf, AreModules, Bool, BorderLine, Box2, Circuit}
use Rattle.soundness.proofs.Imports.{CircuitLine, Fault, IfSome, IsFault, IsJobOf, IsKeepFault, IsModule}
use Rattle.soundness.proofs.Imports.{IsSignalWireBelow, IsTrue, JobView, KeepFault, List, ModuleLines, None, Option}
use Rattle.soundness.proofs.Imports.{Pattern, Setting, Signal, Some, Wire, Zero, [], ap, are_all_timings_obeyed, arith}
use Rattle.soundness.proofs.Imports.{cases_Bool, circuit_of, circuit_wire, common_steps, edge_signal, edges, false}
use Rattle.soundness.proofs.Imports.{first_seen_time, halo_same, halo_signal, halos, in_box, in_halo, inl, inr}
use Rattle.soundness.proofs.Imports.{is_among, is_local, is_local_wire, job_demand, job_start, known, last_seen_time}
use Rattle.soundness.proofs.Imports.{length, length-map, line_signals, list_any, map, mapped_from, modules, nat_lt}
use Rattle.soundness.proofs.Imports.{nat_tests, not, one_or_named_wire, refl, renumber_signal, renumber_signals}
use Rattle.soundness.proofs.Imports.{setting, setting_of, signal_at, slice_get, slice_get_within, slice_index, some_at}
use Rattle.soundness.proofs.Imports.{stops, stops_of_lines, stops_stand, subst, sym, time_lines_of_gates, true, whole}
use Rattle.soundness.proofs.Imports.{wire_of, wire_or_zero, wires, ℕ, ℤ, ◌%◌, ◌<◌, ◌∙◌, ◌∷◌, ◌≡◌, ◌≤◌}
use Rattle.lemmas.proofs.Common.{slice_index_or, mapped_at}
use Rattle.std.specs.List.{All}
use Rattle.certificate_lines.specs.Entries.{modules_of}
use Rattle.certificate_lines.specs.Versions.{edge_lines_beside, is_haloless_version, is_nonlocal_signal}
use Rattle.certificate_lines.specs.Versions.{has_nonlocal_edge_wire_beside, with_halo_lines}
use Rattle.certificate.proofs.FullModules.{edge_cell, edge_of, edges_rising, full_cuts, full_gates, full_keeps}
use Rattle.certificate.proofs.FullModules.{full_edges, full_stops, full_known, full_modules, in_beside, meant_old}
use Rattle.certificate_lines.proofs.InList.{placed}
use Rattle.certificate.proofs.HaloSignals.{halo_is_edge_beside}
use Rattle.certificate_lines.proofs.LineOrder.{In, in_flat}
use Rattle.certificate.proofs.LineSignals.{SaysAt, line_said}
use Rattle.certificate.proofs.MeantLines.{kept_of_all, stops_of_all}
use Rattle.certificate.proofs.Migrated.{migrated_modules, section_modules, section_without_halos}
use Rattle.local_run.specs.Laws.{HasSameHaloSignals}
use Rattle.local_run.proofs.SameHalos.{same_halos_agree}
use Rattle.border_match.proofs.Haloless.{haloless_match}
use Rattle.border_match.proofs.SameSignals.{not_different}
use Rattle.soundness.specs.MigrationLaws.{AcceptedStaysWithoutHalos, IsAcceptedWithoutHalos, MigrationKeepsAcceptance}
use Rattle.soundness.proofs.ModuleJobs.{one_job, signal_back}
use Rattle.soundness.proofs.JobSignals.{no_signal, other_cell}
use Rattle.module_job.proofs.OwnSignals.{halo_below}

one_less : (n : ℕ) → nat_lt 1 n ≡ true → 1 < n
one_less n h = grind (arith, nat_tests)

none_any : {A : Type 0} (test : A → Bool) (xs : List A) → ((x : A) → In x xs → test x ≡ false) →
    list_any test xs ≡ false
unfolding In
none_any test [] h = refl
none_any test (x ∷ xs) h = rw (h x (inl refl), none_any test xs (λ y i. h y (inr i))) refl

-- a local name is that of a wire
local_wire_of : (c : Circuit) (local name : List ℕ) → is_local c local name ≡ true → (w : ℕ) × (wire_of c name ≡ Some w)
local_wire_of c local name h = grind (arith, common_steps)

-- the wire that stands for a wire by other numbers
wire_behind : (f : ℕ → ℕ) (n : ℕ) (s : Signal) (w : ℕ) → IsSignalWireBelow n s → renumber_signal f s ≡ Wire w →
    (i : ℕ) × (i < n) × (f i ≡ w)
wire_behind f n s w h1 h2 = grind (arith, common_steps)

module _ (lines : List CircuitLine) (p : Pattern) (ms : List ModuleLines) (jobs : List JobView)
    (good : AreModules (setting_of lines p) ms) (own : AreJobsOf (circuit_of lines) p ms jobs)
    (ok : Accepts (setting_of lines p) ms jobs) where
  abbrev g : Setting
  g = setting_of lines p

  abbrev c : Circuit
  c = circuit_of lines

  -- what a halo line says is what the edge line of the owner says
  halo_is_edge : (i k : ℕ) (m owner : ModuleLines) (t : ℕ) (x y : ℤ) → slice_get ms i ≡ Some m →
      slice_get ms k ≡ Some owner → t % 2 ≡ 1 → t < p.size.steps →
      in_halo m.area x y ≡ true → in_box owner.area x y ≡ true → halo_signal c m t x y ≡ edge_signal c owner t x y
  halo_is_edge i k m owner t x y at numbered odd early halo owned =
      not_different (halo_signal c m t x y) (edge_signal c owner t x y)
      (λ differ. ok.no_border_fault i (record { time = t; cell = record { x = x; y = y } }) (record {
        odd = odd;
        early = early;
        inside = good.tile.inside x y k owner.area (mapped_at (λ (m : ModuleLines). m.area) ms k owner numbered) owned;
        lines = m;
        numbered = at;
        halo = halo;
        owner_number = k;
        owner = owner;
        owner_numbered = numbered;
        owned = owned;
        differ = differ;
      }))

  -- ---- the wires of the edge lines beside a module are local in it

  the_job : (i : ℕ) (m : ModuleLines) → slice_get ms i ≡ Some m → (j : JobView) × (slice_get jobs i ≡ Some j)
  the_job i m at = some_at jobs i (let lt = slice_get_within ms i m at in let n = own.count in omega (arith, lt, n))

  -- a wire that the halo of a job is said to carry is local in the module
  halo_names : (i : ℕ) (m : ModuleLines) (t : ℕ) (x y : ℤ) (w : ℕ) → slice_get ms i ≡ Some m →
      halo_signal c m t x y ≡ Wire w → is_among (known c m) w ≡ true
  halo_names i m t x y w at e =
      let j = the_job i m at in
      let is = own.each i m j.0 at j.1 in
      let named = wire_behind (circuit_wire j.0.locals) (wires j.0.locals.netlist) (signal_at j.0.halos t x y) w
      (halo_below j.0 t x y is.own) (halo_same lines p m j.0 t x y is ∙ e) in
      grind (arith, common_steps)

  time_of : (e : BorderLine) → IfSome e.time (λ t. (t % 2 ≡ 1) × (t < p.size.steps)) → 1 < p.size.steps →
      (t : ℕ) × SaysAt t e.time × (t % 2 ≡ 1) × (t < p.size.steps)
  time_of e odd long = grind (arith, common_steps)

  named_local : (i : ℕ) (m : ModuleLines) (e : BorderLine) (s : Option (List ℕ)) → slice_get ms i ≡ Some m →
      In e (edge_lines_beside g ms m.area) → e.signal ≡ s → is_nonlocal_signal c (known c m) s ≡ false
  named_local i m e None at i_beside is = refl
  named_local i m e (Some name) at i_beside is =
      let b = in_beside g ms good m.area e i_beside in
      let n = in_flat edges e ms b.2 in
      let k = placed n.0 ms n.1 in
      let edge = edge_of g ms good n.0 e n.1 n.2 in
      let wire = local_wire_of c (known c n.0) name
      (subst (λ s. IfSome s (λ name. IsTrue (is_local c (known c n.0) name))) is edge.border.signal) in
      let t = time_of e edge.border.time (one_less p.size.steps b.0) in
      let said : edge_signal c n.0 t.0 e.cell.x e.cell.y ≡ Wire wire.0 =
      line_said c e t.0 (edges n.0) t.1 (edges_rising n.0.lines (good.each k.0 n.0 k.1).order)
      (good.each k.0 n.0 k.1).unstarred n.2
      ∙ ap (one_or_named_wire c) is ∙ ap wire_or_zero wire.1 in
      let halo : halo_signal c m t.0 e.cell.x e.cell.y ≡ Wire wire.0 =
      halo_is_edge i k.0 m n.0 t.0 e.cell.x e.cell.y at k.1 t.2 t.3 b.1 (edge_cell g ms good n.0 e n.1 n.2) ∙ said in
      ap not (ap (is_local_wire (known c m)) wire.1 ∙ halo_names i m t.0 e.cell.x e.cell.y wire.0 at halo)

  no_strange : has_nonlocal_edge_wire_beside g ms ≡ false
  unfolding has_nonlocal_edge_wire_beside
  no_strange = none_any (λ m. list_any (λ e. is_nonlocal_signal c (known c m) e.signal) (edge_lines_beside g ms m.area))
      ms
      (λ m i.
      none_any (λ e. is_nonlocal_signal c (known c m) e.signal) (edge_lines_beside g ms m.area) (
      grind (arith, common_steps, placed, named_local)))

  -- ---- the job of a module, and that of the module with the edge lines beside it

  full_is : AreModules g (map (with_halo_lines g ms) ms)
  full_is = full_modules g ms good no_strange

  none_outside : (m : ModuleLines) → IsModule g m → (t : ℕ) (x y : ℤ) → in_box (whole p.size) x y ≡ false →
      halo_signal c m t x y ≡ Zero
  none_outside m is t x y out = no_signal c (halos m) t x y (grind (arith, common_steps, other_cell))

  module _ (i : ℕ) (m : ModuleLines) (j k : JobView) (at : slice_get ms i ≡ Some m) (of_j : IsJobOf c p m j)
      (of_k : IsJobOf c p (with_halo_lines g ms m) k) where
    abbrev full : ModuleLines
    full = with_halo_lines g ms m

    same_wires : k.locals.circuit_wires ≡ j.locals.circuit_wires
    same_wires = of_k.wires ∙ full_known g ms good m ∙ sym of_j.wires

    many : wires j.locals.netlist ≡ wires k.locals.netlist
    many = sym of_j.locals.sized ∙ ap length (sym same_wires) ∙ of_k.locals.sized

    -- the second job with the halos of the first
    abbrev between : JobView
    between = record k { halos = j.halos }

    of_between : IsJobOf c p m between
    unfolding with_halo_lines job_start job_demand
    of_between = record {
      area = of_k.area;
      steps = of_k.steps;
      locals = of_k.locals;
      cut = of_k.cut ∙ ap length (full_cuts g ms good m);
      wires = of_k.wires ∙ full_known g ms good m;
      used = of_k.used ∙ full_gates g ms good m;
      start_count = of_k.start_count;
      demand_count = of_k.demand_count;
      start = of_k.start;
      demand = of_k.demand;
      edges = of_k.edges ∙ ap (line_signals c) (full_edges g ms good m);
      halos = ap (λ ws. renumber_signals (slice_index ws) j.halos) same_wires ∙ of_j.halos;
      own = grind (arith, common_steps, many);
      stops = of_k.stops ∙ ap (stops_of_lines c) (full_stops g ms good m);
      kept = of_k.kept ∙ full_keeps g ms good m;
      kept_are_used = of_k.kept_are_used;
    }

    -- the stops of the second job are at times up to the last one
    early_stops : All (λ s. s.at.time ≤ k.steps) k.stops
    early_stops = stops_stand (λ q. q.time ≤ k.steps) c k.locals (stops full) k.stops
        (record { same = of_k.stops; own = of_k.own.stops })
        (λ n d lt. subst (λ steps. (slice_index_or (stops full) n d).time ≤ steps) (sym of_k.steps)
        ((full_is.each i full (mapped_at (with_halo_lines g ms) ms i m at)).stop_lines n d lt).time)

    same_halo : (t : ℕ) (x y : ℤ) → t % 2 ≡ 1 → t < p.size.steps → in_halo m.area x y ≡ true →
        halo_signal c full t x y ≡ halo_signal c m t x y
    same_halo t x y odd early halo = elim (cases_Bool (in_box (whole p.size) x y)) [
      | inl inside ↦
          let b = good.tile.covered x y inside in
          let n = mapped_from (λ (m : ModuleLines). m.area) ms b.0 b.1 b.2 in
          let owned : in_box n.0.area x y ≡ true = ap (λ (a : Box2). in_box a x y) n.2 ∙ b.3 in
          halo_is_edge_beside g ms good i b.0 m n.0 t x y at n.1 odd early halo owned
          ∙ sym (halo_is_edge i b.0 m n.0 t x y at n.1 odd early halo owned)
      | inr outside ↦
          none_outside full (full_is.each i full (mapped_at (with_halo_lines g ms) ms i m at)) t x y outside
          ∙ sym (none_outside m (good.each i m at) t x y outside)
    ]

    say_the_same : HasSameHaloSignals k j.halos
    unfolding with_halo_lines
    say_the_same t x y odd early halo =
        let ws = k.locals.circuit_wires in
        let different : AreDistinct ws =
        subst AreDistinct (sym (of_k.wires ∙ full_known g ms good m)) (good.each i m at).local.different in
        let below_k : IsSignalWireBelow (length ws) (signal_at k.halos t x y) =
        subst (λ n. IsSignalWireBelow n (signal_at k.halos t x y)) (sym of_k.locals.sized)
        (halo_below k t x y of_k.own) in
        let below_j : IsSignalWireBelow (length ws) (signal_at j.halos t x y) =
        subst (λ n. IsSignalWireBelow n (signal_at j.halos t x y)) (sym of_j.locals.sized ∙ ap length (sym same_wires))
        (halo_below j t x y of_j.own) in
        signal_back ws different (signal_at k.halos t x y) (signal_at j.halos t x y) below_k below_j
        (halo_same lines p full k t x y of_k
        ∙ same_halo t x y odd (subst (λ n. t < n) of_k.steps early)
        (ap (λ (a : Box2). in_halo a x y) (sym of_k.area) ∙ halo)
        ∙ sym (halo_same lines p m j t x y of_j)
        ∙ ap (λ w. renumber_signal (slice_index w) (signal_at j.halos t x y)) (sym same_wires))

    -- with the halos of the first job the second is the first
    between_is : between ≡ j
    between_is = one_job c p m between j (good.each i m at).local.different of_between of_j

    fault_kept : (f : Fault) → IsFault k f → IsFault j f
    fault_kept f is = grind (arith, common_steps, between_is, same_halos_agree, early_stops, say_the_same)

    keep_fault_kept : (f : KeepFault) → IsKeepFault k f → IsKeepFault j f
    keep_fault_kept f is = grind (arith, common_steps, between_is)

  pub accepted_without : IsAcceptedWithoutHalos lines p ms
  accepted_without = record {
    complete = no_strange;
    accepted = λ others are. record {
      no_fault = λ number k f at is.
          let m = some_at ms number (let lt = slice_get_within others number k at in let n = are.count in let l =
          length-map ms (with_halo_lines g ms) in omega (arith, lt, n, l)) in
          let j = the_job number m.0 m.1 in
          ok.no_fault number j.0 f j.1 (fault_kept number m.0 j.0 k m.1 (own.each number m.0 j.0 m.1 j.1)
          (are.each number (with_halo_lines g ms m.0) k (mapped_at (with_halo_lines g ms) ms number m.0 m.1) at) f is);
      no_border_fault = λ number f. haloless_match g ms good number f;
      no_keep_fault = λ number k f at is.
          let m = some_at ms number (let lt = slice_get_within others number k at in let n = are.count in let l =
          length-map ms (with_halo_lines g ms) in omega (arith, lt, n, l)) in
          let j = the_job number m.0 m.1 in
          ok.no_keep_fault number j.0 f j.1
          (keep_fault_kept number m.0 j.0 k m.1 (own.each number m.0 j.0 m.1 j.1)
          (are.each number (with_halo_lines g ms m.0) k (mapped_at (with_halo_lines g ms) ms number m.0 m.1) at) f is);
      kept = λ number gate at inverse. kept_of_all g ms ms number ∙ ok.kept number gate at inverse;
      on_time = subst (λ ss. IsTrue
          (are_all_timings_obeyed (time_lines_of_gates (first_seen_time c ss) (last_seen_time c ss) c.netlist.gates)))
          (sym (stops_of_all g ms ms)) ok.on_time;
    };
  }

pub without_halos_accepted : AcceptedStaysWithoutHalos
without_halos_accepted lines p ms jobs good own ok = accepted_without lines p ms jobs good own ok

-- ---- certificates

pub migration_accepted : MigrationKeepsAcceptance
migration_accepted l s jobs one section own ok =
    let ms = modules_of s.entries in
    let same : modules s ≡ ms = meant_old s.version (setting s) ms (ap is_haloless_version one) in
    let good : AreModules (setting s) ms = section_modules l (setting s) 1 s.entries section in
    let a = without_halos_accepted s.circuit s.layout ms jobs good
    (subst (λ ns. AreJobsOf (circuit_of s.circuit) s.layout ns jobs) same own)
    (subst (λ ns. Accepts (setting s) ns jobs) same ok) in
    record {
      section = section_without_halos l (setting s) s.entries section a.complete;
      accepted = grind (arith, common_steps, migrated_modules);
    }
