-- The run of the whole plane is that of the jobs
use Rattle.soundness.proofs.Imports.{All, BelongTogether, Bool, CircuitLine, Contains, Demand, Fault, HasGoodBorders}
use Rattle.soundness.proofs.Imports.{HasInputNames, IsAcceptedBundle, IsAllowedStop, IsAssignmentOf, IsFault}
use Rattle.soundness.proofs.Imports.{IsFaultUnderValues, IsJobOf, IsRunOfJobs, JobView, Kind, List, LooksAsAsked}
use Rattle.soundness.proofs.Imports.{MeetsDemand, ModuleLines, Pattern, Satisfies, Some, State, StopHolds, StopLine}
use Rattle.soundness.proofs.Imports.{Valuation, and_parts, ap, arith, cases_Bool, choices_are_assignments, circuit_of}
use Rattle.soundness.proofs.Imports.{circuit_wire, common_steps, end_demand, false, false≢true, halo_parts}
use Rattle.soundness.proofs.Imports.{has_neighbour_in_set, in_box, in_halo, in_ring, inl, inr, is_live, job_demand}
use Rattle.soundness.proofs.Imports.{known, local_run, local_values_agree_with_circuit, netlist_of, not, option_map_or}
use Rattle.soundness.proofs.Imports.{refl, renumber_stop, run, run_under, setting_of, signal_at, slice_get}
use Rattle.soundness.proofs.Imports.{slice_get-get_or, slice_get_within, some_at, step, stop_with_wire_number, stops}
use Rattle.soundness.proofs.Imports.{subst, suc, sym, true, true≢false, values_by_local_number, values_by_name, whole}
use Rattle.soundness.proofs.Imports.{wire_of, with_halo, zero, ℕ, ℤ, ◌%◌, ◌&&◌, ◌<◌, ◌∙◌, ◌≡◌, ◌≢◌, ◌≤◌}
use Rattle.lemmas.proofs.Common.{All-contains_itself, not-true, not_from_false}
use Rattle.bbm_rule.proofs.Steps.{step_dead}
use Rattle.module_box.specs.Laws.{IsDeadOutsideBox, SameInBox}
use Rattle.module_box.proofs.BoxSteps.{even_stays, even_local}
use Rattle.module_box.proofs.Neighbours.{some_neighbour_more, block_x, block_y, block_both, ring_from, near_step}
use Rattle.module_box.proofs.Neighbours.{halo_in_ring}
use Rattle.certificate.proofs.ArrivalLemmas.{kept_is_on_time}
use Rattle.certificate_lines.specs.Entries.{areas}
use Rattle.certificate_lines.proofs.FlatParts.{flat_part}
use Rattle.local_run.proofs.LocalRuns.{even_or_odd, local_even, local_odd}
use Rattle.local_run.proofs.Stepping.{with_halo_inside, with_halo_outside}
use Rattle.certificate_lines.proofs.OddBlocks.{area_of}
use Rattle.border_match.proofs.SameSignals.{same_at}
use Rattle.soundness.specs.FirstFaults.{GoodBordersKeepRunOfJobs}
use Rattle.soundness.specs.PlainCertificates.{AcceptedKeepsOffRim}
use Rattle.soundness.specs.HeadlineLaws.{HasNoEndFault, HasNoJobOrBorderFault, PlaneStartsAsJobs, PlaneStepsAsJobs}
use Rattle.soundness.specs.HeadlineLaws.{PlaneEndsAsAsked, AcceptedIsCorrect, AcceptedIsOnTime}
use Rattle.soundness.proofs.InputRuns.{inputs_decide}
use Rattle.soundness.proofs.StopParts.{all_flat, all_map, local_wire_is, one_said}
use Rattle.soundness.proofs.KeptGates.{accepted_has_valuation}
use Rattle.soundness.proofs.JobSignals.{Known, Owner, known_job, owner_of, meets_for_circuit_wires, live_renumbered}
use Rattle.soundness.proofs.JobSignals.{rim_edge_dead, outer_halo_dead, edge_by_circuit, halo_by_circuit}
use Rattle.soundness.proofs.LayoutCells.{live_start, start_outside, whole_inside, whole_even, mirror_inside, IsOutput}
use Rattle.soundness.proofs.LayoutCells.{is_output, met_mirror, met_output, met_other}
use Rattle.local_run.specs.declared.fault.Kind.TheVariants.{Edge, End, Stop as AtStop}
use Rattle.module_job.specs.declared.job.Stop as listed
use Rattle.local_run.proofs.OwnWires as own

stable : (a b : Bool) → ¬ (a ≢ b) → a ≡ b
stable a b h1 = grind (arith, common_steps, false≢true)

stable_meets : (v : Valuation) (d : Demand) (b : Bool) → ¬ (¬ MeetsDemand v d b) → MeetsDemand v d b
stable_meets v d b h1 = grind (arith, common_steps, stable)

-- what the laws on a step share
record Setting (lines : List CircuitLine) (p : Pattern) (ms : List ModuleLines) (jobs : List JobView)
    (inputs v : Valuation)
    (t : ℕ) : Type 0 where
  bundle : BelongTogether lines p ms jobs
  right : HasGoodBorders lines p ms jobs v t
  satisfied : Satisfies (netlist_of lines) inputs v

-- what is accepted has no fault
right_of : (lines : List CircuitLine) (p : Pattern) (ms : List ModuleLines) (jobs : List JobView) →
    IsAcceptedBundle lines p ms jobs → HasNoJobOrBorderFault lines p ms jobs
right_of lines p ms jobs all = record { of_jobs = all.accepted.no_fault; of_borders = all.accepted.no_border_fault }

-- ---- the start

pub starts : PlaneStartsAsJobs
unfolding run local_run
starts lines p ms jobs v b = record {
  outside = λ x y out. start_outside p (values_by_name (circuit_of lines) v) x y b.laid_out out;
  inside = λ i j e x y h.
      let k = known_job lines p ms jobs i j b e in
      sym (grind (arith, common_steps, live_renumbered, live_start));
}

-- ---- no fault

abbrev fault_at : ℕ → Kind → ℤ → ℤ → ℕ → Fault
fault_at t kind x y a = record { time = t; kind = kind; cell = record { x = x; y = y }; assignment = a }

-- every job has an assignment of v
pub its_assignment : (j : JobView) (v : Valuation) → (a : ℕ) × IsAssignmentOf j v a
its_assignment j v = let a = choices_are_assignments j.locals.netlist.given (values_by_local_number j.locals v) in
    (a.0, record { in_range = a.1; bits = a.2 })

-- and under it, where the wires have their values in v, its faults are those of the job
own_fault : (lines : List CircuitLine) (p : Pattern) (ms : List ModuleLines) (inputs v : Valuation) (i t a : ℕ)
    (j : JobView) (kind : Kind) (x y : ℤ) → Known lines p ms i j → Satisfies (netlist_of lines) inputs v →
    IsAssignmentOf j v a → IsFaultUnderValues j (values_by_local_number j.locals v) t kind x y →
    IsFault j (fault_at t kind x y a)
own_fault lines p ms inputs v i t a j kind x y k s is differs =
    let agree = local_values_agree_with_circuit (netlist_of lines) j.locals inputs v a k.is_job.locals s is.bits in
    grind (arith, common_steps)

-- ---- local runs stay in their boxes

local_stays : (lines : List CircuitLine) (p : Pattern) (ms : List ModuleLines) (i : ℕ) (j : JobView) (u : Valuation)
    (t : ℕ) → Known lines p ms i j → IsDeadOutsideBox j.area (local_run j u t)
unfolding local_run
local_stays lines p ms i j u zero k x y out = ap (is_live u) (own.start_outside j x y out)
local_stays lines p ms i j u (suc t) k x y out =
    grind (arith, common_steps, even_or_odd, local_even, even_stays, local_odd, (local_stays lines p ms i j u t k))

-- what is outside the rectangle is outside every box
outer : (lines : List CircuitLine) (p : Pattern) (ms : List ModuleLines) (jobs : List JobView) (x y : ℤ)
    (o : Owner lines p ms jobs x y) → BelongTogether lines p ms jobs → (x' y' : ℤ) →
    not (in_box (whole p.size) x' y') ≡ true → not (in_box o.job.area x' y') ≡ true
outer lines p ms jobs x y o b x' y' out =
    grind (arith, common_steps, cases_Bool, false≢true, not-true, area_of, not_from_false)

module _ (lines : List CircuitLine) (p : Pattern) (ms : List ModuleLines) (jobs : List JobView)
    (inputs v : Valuation) where
  no_edge_fault : (i t : ℕ) (j : JobView) (x y : ℤ) → Setting lines p ms jobs inputs v t → slice_get jobs i ≡ Some j →
      t % 2 ≡ 1 → t < p.size.steps → in_ring j.area x y ≡ true →
      local_run j (values_by_local_number j.locals v) t x y
      ≡ is_live (values_by_local_number j.locals v) (signal_at j.edges t x y)
  no_edge_fault i t j x y set e odd early ring =
      let k = known_job lines p ms jobs i j set.bundle e in
      let a = its_assignment j v in
      stable _ _ (λ differ. set.right.of_jobs i j (fault_at t Edge x y a.0) e refl refl a.1
      (own_fault lines p ms inputs v i t a.0 j Edge x y k set.satisfied a.1 (record {
        odd = odd;
        early = subst (λ n. t < n) (sym k.is_job.steps) early;
        ring = ring;
        differs = differ;
      })))

  no_end_fault : (i : ℕ) (j : JobView) (x y : ℤ) → BelongTogether lines p ms jobs → HasNoEndFault jobs →
      Satisfies (netlist_of lines) inputs v → slice_get jobs i ≡ Some j → in_box j.area x y ≡ true →
      MeetsDemand (values_by_local_number j.locals v) (job_demand j x y)
      (local_run j (values_by_local_number j.locals v) p.size.steps x y)
  no_end_fault i j x y b right s e h =
      let k = known_job lines p ms jobs i j b e in
      let a = its_assignment j v in
      stable_meets _ (job_demand j x y) _ (λ differ. right i j (fault_at p.size.steps End x y a.0) e refl
      (own_fault lines p ms inputs v i p.size.steps a.0 j End x y k s a.1
      (record { last = sym k.is_job.steps; inside = h; differs = differ })))

  -- ---- an even step

  even_outside : (t : ℕ) → Setting lines p ms jobs inputs v t → t % 2 ≡ 0 → IsRunOfJobs lines p jobs v t →
      IsDeadOutsideBox (whole p.size) (run_under (circuit_of lines) p v (suc t))
  unfolding run
  even_outside t set e now =
      even_stays (whole p.size) t (run_under (circuit_of lines) p v t)
      (whole_even p.size set.bundle.limits) e now.outside

  even_inside : (t i : ℕ) (j : JobView) → Setting lines p ms jobs inputs v t → t % 2 ≡ 0 →
      IsRunOfJobs lines p jobs v t → slice_get jobs i ≡ Some j →
      SameInBox j.area (run_under (circuit_of lines) p v (suc t))
      (local_run j (values_by_local_number j.locals v) (suc t))
  unfolding run local_run
  even_inside t i j set e now at x y h =
      let k = known_job lines p ms jobs i j set.bundle at in
      grind (arith, common_steps, even_local, local_even)

  -- ---- an odd step

  -- a cell with a neighbour outside the rectangle is dead
  rim_dead : (t : ℕ) (x y : ℤ) → Setting lines p ms jobs inputs v t → t % 2 ≡ 1 → t < p.size.steps →
      IsRunOfJobs lines p jobs v t → has_neighbour_in_set (λ x' y'. not (in_box (whole p.size) x' y')) x y ≡ true →
      run_under (circuit_of lines) p v t x y ≡ false
  rim_dead t x y set odd early now near = elim (cases_Bool (in_box (whole p.size) x y)) [
    | inr out ↦ now.outside x y out
    | inl h ↦
        let o : Owner lines p ms jobs x y = owner_of lines p ms jobs x y set.bundle h in
        let ring = ring_from o.job.area x y o.owned
        (some_neighbour_more _ (λ x' y'. not (in_box o.job.area x' y')) x y
        (outer lines p ms jobs x y o set.bundle) near) in
        now.inside o.number o.job o.numbered x y o.owned
        ∙ no_edge_fault o.number t o.job x y set o.numbered odd early ring
        ∙ rim_edge_dead lines p ms o.number o.job v t x y o.known (ring_from (whole p.size) x y h near)
  ]

  odd_outside : (t : ℕ) → Setting lines p ms jobs inputs v t → t % 2 ≡ 1 → t < p.size.steps →
      IsRunOfJobs lines p jobs v t → IsDeadOutsideBox (whole p.size) (run_under (circuit_of lines) p v (suc t))
  unfolding run
  odd_outside t set odd early now x y out =
      grind (arith, common_steps, not_from_false, step_dead, rim_dead, block_both, block_x, block_y)

  -- a cell of the halo is what the halo lines say
  halo_agrees : (t i : ℕ) (j : JobView) (x y : ℤ) → Setting lines p ms jobs inputs v t → t % 2 ≡ 1 → t < p.size.steps →
      IsRunOfJobs lines p jobs v t → slice_get jobs i ≡ Some j → in_halo j.area x y ≡ true →
      run_under (circuit_of lines) p v t x y ≡ is_live (values_by_local_number j.locals v) (signal_at j.halos t x y)
  halo_agrees t i j x y set odd early now at halo =
      let b : BelongTogether lines p ms jobs = set.bundle in
      let k = known_job lines p ms jobs i j b at in
      elim (cases_Bool (in_box (whole p.size) x y)) [
        | inr out ↦ now.outside x y out ∙ sym (outer_halo_dead lines p ms i j v t x y k out)
        | inl h ↦
            let o : Owner lines p ms jobs x y = owner_of lines p ms jobs x y b h in
            let beside : in_halo k.of.area x y ≡ true = ap (λ a. in_halo a x y) (sym k.is_job.area) ∙ halo in
            let owned : in_box o.known.of.area x y ≡ true =
            ap (λ a. in_box a x y) (sym o.known.is_job.area) ∙ o.owned in
            let ring : in_ring o.known.of.area x y ≡ true =
            halo_in_ring (whole p.size) (areas ms) b.are_modules.tile i o.number k.of.area o.known.of.area x y
            (area_of ms i k.of k.numbered) (area_of ms o.number o.known.of o.known.numbered) beside owned in
            now.inside o.number o.job o.numbered x y o.owned
            ∙ no_edge_fault o.number t o.job x y set o.numbered odd early
            (ap (λ a. in_ring a x y) o.known.is_job.area ∙ ring)
            ∙ edge_by_circuit lines p ms o.number o.job v t x y o.known
            ∙ sym (same_at _ ms i o.number k.of o.known.of t x y v (set.right.of_modules i) (record {
              tile = b.are_modules.tile;
              numbered = k.numbered;
              owner_numbered = o.known.numbered;
              odd = odd;
              early = early;
              halo = beside;
              owned = owned;
            }))
            ∙ sym (halo_by_circuit lines p ms i j v t x y k)
      ]

  odd_inside : (t i : ℕ) (j : JobView) → Setting lines p ms jobs inputs v t → t % 2 ≡ 1 → t < p.size.steps →
      IsRunOfJobs lines p jobs v t → slice_get jobs i ≡ Some j →
      SameInBox j.area (run_under (circuit_of lines) p v (suc t))
      (local_run j (values_by_local_number j.locals v) (suc t))
  unfolding run local_run
  odd_inside t i j set odd early now at x y h =
      let u : Valuation = values_by_local_number j.locals v in
      let m : State = with_halo j u t (local_run j u t) in
      let k = known_job lines p ms jobs i j set.bundle at in
      near_step j.area t (run_under (circuit_of lines) p v t) m
      (λ x' y' g. now.inside i j at x' y' g ∙ sym (with_halo_inside j u t (local_run j u t) x' y' g))
      (λ x' y' g. halo_agrees t i j x' y' set odd early now at g
      ∙ sym (with_halo_outside j u t (local_run j u t) x' y'
      (local_stays lines p ms i j u t k x' y' (halo_parts j.area x' y' g).0) g))
      x y h
      ∙ sym (local_odd j u t (local_run j u t) x y odd ∙ ap (λ q. q && step t m x y) h)

pub steps_with_good_borders : GoodBordersKeepRunOfJobs
steps_with_good_borders lines p ms jobs inputs v t b s early right now =
    grind (arith, common_steps, even_or_odd, even_outside, even_inside, odd_outside, odd_inside)

-- where some_at is no fault, borders are good at all times
pub good_borders : (lines : List CircuitLine) (p : Pattern) (ms : List ModuleLines) (jobs : List JobView)
    (v : Valuation) (t : ℕ) → HasNoJobOrBorderFault lines p ms jobs → HasGoodBorders lines p ms jobs v t
good_borders lines p ms jobs v t right =
    record { of_jobs = λ n j f at kind time is. right.of_jobs n j f at; of_modules = λ n f time. right.of_borders n f }

pub steps : PlaneStepsAsJobs
steps lines p ms jobs inputs v t b right s early now =
    steps_with_good_borders lines p ms jobs inputs v t b s early (good_borders lines p ms jobs v t right) now

-- ---- the end

met : (lines : List CircuitLine) (p : Pattern) (ms : List ModuleLines) (jobs : List JobView) (inputs v : Valuation)
    (x y : ℤ) → BelongTogether lines p ms jobs → HasNoEndFault jobs → Satisfies (netlist_of lines) inputs v →
    IsRunOfJobs lines p jobs v p.size.steps → in_box (whole p.size) x y ≡ true →
    MeetsDemand v (end_demand (circuit_of lines) p x y) (run_under (circuit_of lines) p v p.size.steps x y)
met lines p ms jobs inputs v x y b right s now h =
    let o : Owner lines p ms jobs x y = owner_of lines p ms jobs x y b h in
    let here : in_box o.known.of.area x y ≡ true = ap (λ a. in_box a x y) (sym o.known.is_job.area) ∙ o.owned in
    let seen = meets_for_circuit_wires o.job.locals v (job_demand o.job x y) _
    (no_end_fault lines p ms jobs inputs v o.number o.job x y b right s o.numbered o.owned) in
    let P : Demand → Type 0 = λ d.
    MeetsDemand v d (local_run o.job (values_by_local_number o.job.locals v) p.size.steps x y) in
    let Q : Bool → Type 0 = λ b. MeetsDemand v (end_demand (circuit_of lines) p x y) b in
    subst Q (sym (now.inside o.number o.job o.numbered x y o.owned)) (subst P (o.known.is_job.demand x y here) seen)

pub ends : PlaneEndsAsAsked
ends lines p ms jobs inputs v b right s now =
    let good = b.laid_out in
    let c = circuit_of lines in
    record {
      mirrors = λ x y h. met_mirror c p v x y _ h
          (met lines p ms jobs inputs v x y b right s now (mirror_inside p x y good h));
      outputs = λ i q e.
          let is : IsOutput p q = is_output p good i q e in
          met_output c p v q.cell.x q.cell.y q.name _ is.no_mirror is.port
          (met lines p ms jobs inputs v q.cell.x q.cell.y b right s now is.inside);
      elsewhere = grind (arith, common_steps, cases_Bool, met_other, met);
    }

-- ---- all times

all_times : (lines : List CircuitLine) (p : Pattern) (ms : List ModuleLines) (jobs : List JobView)
    (inputs v : Valuation) (t : ℕ) → IsAcceptedBundle lines p ms jobs → Satisfies (netlist_of lines) inputs v →
    t ≤ p.size.steps → IsRunOfJobs lines p jobs v t
all_times lines p ms jobs inputs v zero all s h = starts lines p ms jobs v all.bundle
all_times lines p ms jobs inputs v (suc t) all s h =
    grind (arith, common_steps, steps, right_of, (all_times lines p ms jobs inputs v t all s (omega arith)))

-- what looks as asked looks so wherever the same cells are live
looks_same : (p : Pattern) (value : List ℕ → Bool) (now then : State) → ((x y : ℤ) → now x y ≡ then x y) →
    LooksAsAsked p value now → LooksAsAsked p value then
looks_same p value now then same looks = grind (arith, common_steps)

pub correct : AcceptedIsCorrect
correct lines p ms jobs named ports all = record {
  named = ports;
  implements = λ inputs.
      let found = accepted_has_valuation lines p ms jobs inputs all in
      record {
        values = found.0;
        satisfied = found.1;
        looks = λ v s. looks_same p (values_by_name (circuit_of lines) v) _ _
            (λ x y. inputs_decide lines p inputs v p.size.steps x y named s)
            (ends lines p ms jobs inputs v all.bundle (λ n j f at is. all.accepted.no_fault n j f at) s
            (all_times lines p ms jobs inputs v p.size.steps all s (omega arith)));
      };
  stays = λ inputs t h x y live.
      let found = accepted_has_valuation lines p ms jobs inputs all in
      elim (cases_Bool (in_box (whole p.size) x y)) [
        | inl inside ↦ sym (whole_inside p.size x y) ∙ inside
        | inr out ↦ absurd (true≢false
            (sym live ∙ sym (inputs_decide lines p inputs found.0 t x y named found.1)
            ∙ (all_times lines p ms jobs inputs found.0 t all found.1 h).outside x y out))
      ];
}

-- ---- the rim

-- what is accepted keeps off its rim
pub off_rim : AcceptedKeepsOffRim
unfolding in_ring
off_rim lines p ms jobs named b accepted t =
    let all : IsAcceptedBundle lines p ms jobs = record { bundle = b; accepted = accepted } in
    let found = accepted_has_valuation lines p ms jobs t.inputs all in
    let early = t.touch.early in
    let now = all_times lines p ms jobs t.inputs found.0 t.time all found.1 (omega (arith, early)) in
    let set : Setting lines p ms jobs t.inputs found.0 t.time = grind (arith, common_steps, good_borders, right_of) in
    true≢false (sym t.touch.live ∙ sym (inputs_decide lines p t.inputs found.0 t.time t.x t.y named found.1)
    ∙ rim_dead lines p ms jobs t.inputs found.0 t.time t.x t.y set t.touch.odd t.touch.early now
    (and_parts (in_box (whole p.size) t.x t.y) _ t.touch.rim).1)

-- ---- stops

-- a bundle without a fault
record Faultless (lines : List CircuitLine) (p : Pattern) (ms : List ModuleLines) (jobs : List JobView)
    (inputs v : Valuation) : Type 0 where
  bundle : BelongTogether lines p ms jobs
  right : HasNoJobOrBorderFault lines p ms jobs
  satisfied : Satisfies (netlist_of lines) inputs v

-- the cell of a stop carries the value of the stop's wire in the circuit
abbrev IsAsWire : JobView → Valuation → listed.Stop → Type 0
IsAsWire j v r = local_run j (values_by_local_number j.locals v) r.at.time r.at.cell.x r.at.cell.y ≡ v r.wire

module _ (lines : List CircuitLine) (p : Pattern) (ms : List ModuleLines) (jobs : List JobView)
    (inputs v : Valuation) where
  no_stop_fault : (i : ℕ) (j : JobView) (s : listed.Stop) → Faultless lines p ms jobs inputs v →
      slice_get jobs i ≡ Some j → Contains j.stops s →
      local_run j (values_by_local_number j.locals v) s.at.time s.at.cell.x s.at.cell.y
      ≡ values_by_local_number j.locals v s.wire
  no_stop_fault i j s set e has =
      let k = known_job lines p ms jobs i j set.bundle e in
      let a = its_assignment j v in
      stable _ _ (λ differ. set.right.of_jobs i j (fault_at s.at.time AtStop s.at.cell.x s.at.cell.y a.0) e
      (own_fault lines p ms inputs v i s.at.time a.0 j AtStop s.at.cell.x s.at.cell.y k set.satisfied a.1 (record {
        stop = s;
        is_listed = has;
        time = refl;
        column = refl;
        row = refl;
        differs = differ;
      })))

  no_line_fault : (i : ℕ) (m : ModuleLines) (j : JobView) (k w : ℕ) (s : StopLine) →
      Faultless lines p ms jobs inputs v → slice_get jobs i ≡ Some j → IsJobOf (circuit_of lines) p m j →
      slice_get (stops m) k ≡ Some s → wire_of (circuit_of lines) s.wire ≡ Some w →
      local_run j (values_by_local_number j.locals v) s.time s.cell.x s.cell.y ≡ v w
  no_line_fault i m j k w s set e is at named =
      let own = all_map (IsAsWire j v) (renumber_stop (circuit_wire j.locals)) j.stops
      (λ n d lt. no_stop_fault i j _ set e (All-contains_itself j.stops n d lt)) in
      one_said (IsAsWire j v) s w (wire_of (circuit_of lines) s.wire) named
      (flat_part (IsAsWire j v) (λ r. stop_with_wire_number r (wire_of (circuit_of lines) r.wire)) (stops m)
      (subst (All (IsAsWire j v)) is.stops own) k s at)

stop_holds : (lines : List CircuitLine) (p : Pattern) (ms : List ModuleLines) (jobs : List JobView) →
    HasInputNames lines p → IsAcceptedBundle lines p ms jobs → (i k : ℕ) (m : ModuleLines) (s : StopLine) →
    slice_get ms i ≡ Some m → slice_get (stops m) k ≡ Some s →
    IsAllowedStop (setting_of lines p) m.area (known (circuit_of lines) m) s → StopHolds (circuit_of lines) p s
stop_holds lines p ms jobs named all i k m s at has line inputs v satisfied =
    let set : Faultless lines p ms jobs inputs v =
    record { bundle = all.bundle; right = right_of lines p ms jobs all; satisfied = satisfied } in
    let b : BelongTogether lines p ms jobs = all.bundle in
    let j = some_at jobs i (let lt = slice_get_within ms i m at in let n = b.are_jobs.count in omega (arith, lt, n)) in
    let is : IsJobOf (circuit_of lines) p m j.0 = b.are_jobs.each i m j.0 at j.1 in
    let inside : in_box j.0.area s.cell.x s.cell.y ≡ true =
    ap (λ a. in_box a s.cell.x s.cell.y) is.area ∙ line.inside in
    let w = local_wire_is (known (circuit_of lines) m) (wire_of (circuit_of lines) s.wire) line.wire in
    sym (inputs_decide lines p inputs v s.time s.cell.x s.cell.y named satisfied)
    ∙ (all_times lines p ms jobs inputs v s.time all satisfied line.time).inside i j.0 j.1 s.cell.x s.cell.y inside
    ∙ no_line_fault lines p ms jobs inputs v i m j.0 k w.0 s set j.1 is has w.1
    ∙ sym (ap (λ o. option_map_or v o false) w.1)

pub on_time : AcceptedIsOnTime
on_time lines p ms jobs named all = record {
  stops = all_flat (StopHolds (circuit_of lines) p) stops ms (λ i m at k d lt.
      stop_holds lines p ms jobs named all i k m _ at (slice_get-get_or (stops m) k d lt)
      ((all.bundle.are_modules.each i m at).stop_lines k d lt));
  times = kept_is_on_time (circuit_of lines) ms all.accepted.on_time;
}
