-- A plain certificate decides whether its layout is correct
use Rattle.soundness.proofs.Imports.{Accepts, All, All-append, All-cons, All-contains, All-head, All-nil, All-tail}
use Rattle.soundness.proofs.Imports.{AreDistinct, AreGatesOrdered, AreLeastFaultsOfJob, AreReportLines, BelongTogether}
use Rattle.soundness.proofs.Imports.{Bool, BorderFault, Circuit, CircuitLine, Contains, Contains-append_left, Delay}
use Rattle.soundness.proofs.Imports.{Fault, Gate, Greater, HasGoodBorders, HasInputNames, IsAcceptedBundle}
use Rattle.soundness.proofs.Imports.{IsAllowedStop, IsAssignmentOf, IsBorderFault, IsCellAsCertified, IsCorrect}
use Rattle.soundness.proofs.Imports.{IsFault, IsFaultUnderValues, IsFirstFault, IsInputName, IsJobOf, IsKeepFault}
use Rattle.soundness.proofs.Imports.{IsLeastBorderFault, IsLeastFault, IsLeastKeepFault, IsModuleAssignmentOf}
use Rattle.soundness.proofs.Imports.{IsRunOfJobs, IsVerdict, JobView, KeepFault, Kind, LeastFaults, List, ModuleLines}
use Rattle.soundness.proofs.Imports.{None, Option, Pattern, ReportLine, Satisfies, Some, StopGap, StopHolds, StopLine}
use Rattle.soundness.proofs.Imports.{TimeLine, Valuation, Zero, [], all_stops, and_from, ap, append-nil, ap₂}
use Rattle.soundness.proofs.Imports.{are_all_timings_obeyed, arith, assignments, bit, border_line, cases_Bool}
use Rattle.soundness.proofs.Imports.{circuit_gate, circuit_of, common_steps, cut_wires, cuts, defines}
use Rattle.soundness.proofs.Imports.{delay_and_meet_lines, edge_signal, eq-eqb, eqb, eqb-true, false, false≢true}
use Rattle.soundness.proofs.Imports.{fault_cmp, halo_parts, has_valuation, if◌then◌else◌, in_ring, inl, inr, is_among}
use Rattle.soundness.proofs.Imports.{is_inverse, is_live, keep_line, keeps, kept, known, length, list_all, local_line}
use Rattle.soundness.proofs.Imports.{local_run, local_values_agree_with_circuit, map, netlist_of, not, nothing_prop}
use Rattle.soundness.proofs.Imports.{only_inverse, option_map, option_map_or, option_to_list, ordering_then, props}
use Rattle.soundness.proofs.Imports.{refl, renumber_keep, report_lines_from, same_Some, setting_of, signal_at}
use Rattle.soundness.proofs.Imports.{slice_get, slice_get_within, some_at, stops, subst, suc, sym, timing_report_line}
use Rattle.soundness.proofs.Imports.{true, undefined_has_none, undefined_is_seen, unkept, unkept_gates_from}
use Rattle.soundness.proofs.Imports.{unkept_lines, values_by_local_number, whole, wire_of, zero, ℕ, ℤ, ∥∥₁_elim, ◌&&◌}
use Rattle.soundness.proofs.Imports.{◌++◌, ◌+◌, ◌<◌, ◌||◌, ◌∙◌, ◌∷◌, ◌≡◌, ◌≢◌, ◌≤◌}
use Rattle.lemmas.proofs.Common.{nat_cmp}
use Rattle.circuit.specs.Gates.{uses}
use Rattle.certificate.specs.Arrivals.{AreOnTime, IsFirstStopTime, IsLastStopTime, TakesStepsFromLastToFirstStop}
use Rattle.certificate.specs.Arrivals.{IsTimeLineTrue, IsDelayGapTrue}
use Rattle.certificate.specs.Times.{is_timing_obeyed}
use Rattle.certificate.specs.declared.times.StopGap.TheVariants.{Steps, Missing, Before}
use Rattle.certificate.proofs.ArrivalLemmas.{lines_tell}
use Rattle.local_run.specs.Faults.{IsEdgeFault}
use Rattle.soundness.specs.PlainCertificates.{DelayLineMeans, IsLiveOnRim, IsPlainModule, IsWrongDesign}
use Rattle.soundness.specs.PlainCertificates.{KeepFaultLineMeans, LineMeans, LocalLineMeans, MeetLineMeans}
use Rattle.soundness.specs.PlainCertificates.{PlainNoMeansWrongOrRimLive, PlainReportLinesHaveMeaning}
use Rattle.soundness.specs.PlainCertificates.{PlainVerdictDecidesDesign, TouchesRim, UntimedIsOnTime}
use Rattle.soundness.proofs.KeptGates.{PlaceOf, place_of}
use Rattle.soundness.proofs.FirstFaults.{correct_meets, real, runs_up_to, seen_fault, stop_by_lines}
use Rattle.soundness.proofs.FirstFaults.{IsPlacedWire, assigned, first_means, placed_wire}
use Rattle.soundness.proofs.InputRuns.{at_place, inputs_decide}
use Rattle.soundness.proofs.JobSignals.{Known, edge_by_circuit, no_signal}
use Rattle.soundness.proofs.WholeRuns.{correct, off_rim, on_time, starts, steps_with_good_borders}
use Rattle.local_run.specs.declared.fault.Kind.TheVariants.{Edge, End, Stop as AtStop}
use Rattle.bbm_rule.proofs.RingTests.{ring_in_box}
use Rattle.certificate.specs.declared.times.TimeLine.TheVariants as times
use Rattle.module_job.specs.declared.job.Stop as listed
use Rattle.certificate.specs.Keeps as keeping
use Rattle.core_book.specs.declared.verdict.ReportLine.TheVariants as line

pub nat_greater : (a b : ℕ) → b < a → nat_cmp a b ≡ Greater
nat_greater a b lt = grind arith

pub greater : (f g : Fault) → g.time < f.time → fault_cmp f g ≡ Greater
unfolding fault_cmp
greater f g lt = grind (arith, common_steps, ordering_then, nat_greater)

-- ---- inputs that have the values of an assignment

-- the first place of a wire among these
place : List ℕ → ℕ → ℕ
place [] w = 0
place (u ∷ us) w = if eqb u w then 0 else suc (place us w)

place_has : (ws : List ℕ) (k w : ℕ) → slice_get ws k ≡ Some w → slice_get ws (place ws w) ≡ Some w
unfolding place
place_has [] k w e = absurd cc
place_has (u ∷ us) k w e = elim (cases_Bool (eqb u w)) [
  | inl h ↦ ap (λ b. slice_get (u ∷ us) (if b then 0 else suc (place us w))) h ∙ ap Some (eqb-true u w h)
  | inr h ↦ ap (λ b. slice_get (u ∷ us) (if b then 0 else suc (place us w))) h ∙ later (place_has us) k e h
]
  where
    later : ((k w : ℕ) → slice_get us k ≡ Some w → slice_get us (place us w) ≡ Some w) → (k : ℕ) →
        slice_get (u ∷ us) k ≡ Some w → eqb u w ≡ false → slice_get us (place us w) ≡ Some w
    later h1 k h2 h3 = grind (arith, common_steps, eq-eqb, same_Some)

inputs_of : List ℕ → ℕ → Valuation
inputs_of ws a w = bit a (place ws w)

value_there : (ws : List ℕ) (a k w : ℕ) → AreDistinct ws → slice_get ws k ≡ Some w → inputs_of ws a w ≡ bit a k
unfolding inputs_of
value_there ws a k w different e = ap (bit a) (different (place ws w) k w (place_has ws k w e) e)

-- ---- what is on time keeps the rules on times

-- a delay uses one wire and defines one
record HasOneWire (g : Gate) : Type 0 where
  used : ℕ
  made : ℕ
  ins : g.ins ≡ used ∷ []
  outs : g.outs ≡ made ∷ []

one_element : (ws : List ℕ) → length ws ≡ 1 → (w : ℕ) × (ws ≡ w ∷ [])
one_element [] e = absurd (omega (arith, e))
one_element (w ∷ []) e = (w, refl)
one_element (w ∷ v ∷ ws) e = absurd (omega (arith, e))

delay_wires : (m n : ℕ) (gs : List Gate) (k : ℕ) (g : Gate) → AreGatesOrdered m gs → slice_get gs k ≡ Some g →
    g.kind ≡ Delay n → HasOneWire g
unfolding AreGatesOrdered
delay_wires m n [] k g ordered at is = absurd cc
delay_wires m n (f ∷ gs) zero g ordered at is =
    let same : f ≡ g = same_Some f g at in
    let kind : f.kind ≡ Delay n = ap (λ (g : Gate). g.kind) same ∙ is in
    let used = one_element f.ins (ordered.1 ∙ ap uses kind) in
    subst HasOneWire same (grind (arith, common_steps))
delay_wires m n (f ∷ gs) (suc k) g ordered at is = delay_wires (m + defines f.kind) n gs k g ordered.3 at is

same_steps : (c : Circuit) (ss : List StopLine) (m n a b : ℕ) → TakesStepsFromLastToFirstStop c ss m a b →
    TakesStepsFromLastToFirstStop c ss n a b → m ≡ n
same_steps c ss m n a b s t = grind (arith, common_steps)

not_before : (c : Circuit) (ss : List StopLine) (n a b s t : ℕ) → TakesStepsFromLastToFirstStop c ss n a b →
    IsLastStopTime c ss a s → IsFirstStopTime c ss b t → t < s → ⊥
not_before c ss n a b s t takes last first lt = grind (arith, common_steps)

kept_gap : (c : Circuit) (ss : List StopLine) (k n a b : ℕ) (gap : StopGap) → TakesStepsFromLastToFirstStop c ss n a b →
    IsDelayGapTrue c ss gap a b → is_timing_obeyed (times.Delay k n gap) ≡ true
kept_gap c ss k n a b (Steps m) takes tells = eq-eqb m n (same_steps c ss m n a b tells takes)
kept_gap c ss k n a b Missing takes tells = absurd (tells takes.leaves (takes.leaves + n) takes.last takes.first)
kept_gap c ss k n a b Before takes tells = absurd (not_before c ss n a b tells.0 tells.1 takes tells.2 tells.3 tells.4)

kept_line : (lines : List CircuitLine) (ss : List StopLine) (l : TimeLine) → AreGatesOrdered (netlist_of lines).given
    (netlist_of lines).gates → AreOnTime (circuit_of lines) ss →
    IsTimeLineTrue (circuit_of lines) ss l → is_timing_obeyed l ≡ true
kept_line lines ss (times.Delay k n gap) ordered timed (g, at, is, tells) =
    let w = delay_wires (netlist_of lines).given n (netlist_of lines).gates k g ordered at is in
    let a = w.used in let b = w.made in
    let same : g ≡ record { kind = Delay n; ins = a ∷ []; outs = b ∷ [] } = grind (arith, common_steps) in
    kept_gap (circuit_of lines) ss k n a b gap (timed.delays k n a b (at ∙ ap Some same)) (tells a b w.ins w.outs)
kept_line lines ss (times.Meet k (Some t)) ordered timed tells = refl
kept_line lines ss (times.Meet k None) ordered timed (g, at, tells) = grind (arith, common_steps)

all_true : (P : TimeLine → Type 0) (test : TimeLine → Bool) (ls : List TimeLine) →
    ((l : TimeLine) → P l → test l ≡ true) → All P ls → list_all test ls ≡ true
all_true P test [] h all = refl
all_true P test (l ∷ ls) h all = and_from (test l) (list_all test ls) (h l (All-head P l ls all))
    (all_true P test ls h (All-tail P l ls all))

timed_is_kept : (lines : List CircuitLine) (ms : List ModuleLines) → AreGatesOrdered (netlist_of lines).given
    (netlist_of lines).gates → AreOnTime (circuit_of lines) (all_stops ms) →
    are_all_timings_obeyed (delay_and_meet_lines (circuit_of lines) ms) ≡ true
timed_is_kept lines ms ordered timed =
    all_true (IsTimeLineTrue (circuit_of lines) (all_stops ms)) is_timing_obeyed
    (delay_and_meet_lines (circuit_of lines) ms)
    (λ l.
    kept_line lines (all_stops ms) l ordered timed) (lines_tell (circuit_of lines) ms)

-- ---- the lines of a report

-- what is said of the lines that a module has
record EachLine (P : ReportLine → Type 0) (n : ℕ) (r : LeastFaults) (b : Option BorderFault) : Type 0 where
  fault : (f : Fault) → r.fault ≡ Some f → P (line.Local n f)
  keep : (f : KeepFault) → r.keep ≡ Some f → P (line.Keep n f)
  border : (f : BorderFault) → b ≡ Some f → P (line.Border n f)

all_optional : {X : Type 0} (P : ReportLine → Type 0) (f : X → ReportLine) (o : Option X) →
    ((x : X) → o ≡ Some x → P (f x)) → All P (option_to_list (option_map f o))
all_optional P f None h = All-nil P
all_optional P f (Some x) h = All-cons P (f x) [] (h x refl) (All-nil P)

-- it holds of each of the lines
all_from : (P : ReportLine → Type 0) (n : ℕ) (fs : List LeastFaults) (bs : List (Option BorderFault)) →
    ((k : ℕ) (r : LeastFaults) (b : Option BorderFault) → slice_get fs k ≡ Some r → slice_get bs k ≡ Some b →
    EachLine P (n + k) r b) → All P (report_lines_from n fs bs)
unfolding report_lines_from
all_from P n [] bs h = All-nil P
all_from P n (f ∷ fs) [] h = All-nil P
all_from P n (f ∷ fs) (b ∷ bs) h =
    let here : EachLine P n f b = subst (λ k. EachLine P k f b) (omega arith) (h 0 f b refl refl) in
    let A = option_to_list (local_line n f.fault) in
    let B = option_to_list (keep_line n f.keep) in
    let C = option_to_list (border_line n b) in
    All-append P (A ++ B ++ C) (report_lines_from (n + 1) fs bs)
    (All-append P (A ++ B) C
    (All-append P A B (all_optional P (λ f. line.Local n f) f.fault here.fault)
    (all_optional P (λ f. line.Keep n f) f.keep here.keep))
    (all_optional P (λ f. line.Border n f) b here.border))
    (all_from P (n + 1) fs bs (λ k r c at at'.
    subst (λ i. EachLine P i r c) (omega arith) (h (suc k) r c at at')))

all_timed : (P : ReportLine → Type 0) (Q : TimeLine → Type 0) (ls : List TimeLine) →
    ((l : TimeLine) → Q l → P (timing_report_line l)) → All Q ls → All P (map timing_report_line ls)
all_timed P Q [] h all = All-nil P
all_timed P Q (l ∷ ls) h all =
    All-cons P (timing_report_line l) (map timing_report_line ls) (h l (All-head Q l ls all))
    (all_timed P Q ls h (All-tail Q l ls all))

-- where each inverse gate is kept, none is listed as unkept
not_listed : (n : ℕ) (inverse kept : Bool) → (inverse ≡ true → kept ≡ true) →
    (if inverse && not kept then n ∷ [] else []) ≡ []
not_listed n inverse kept h1 = grind (arith, common_steps, false≢true)

none_unkept : (ms : List ModuleLines) (n : ℕ) (gs : List Gate) →
    ((k : ℕ) (g : Gate) → slice_get gs k ≡ Some g → is_inverse g.kind ≡ true → keeping.is_kept ms (n + k) ≡ true) →
    unkept_gates_from ms n gs ≡ []
unfolding unkept_gates_from
none_unkept ms n [] h = refl
none_unkept ms n (g ∷ gs) h =
    ap₂ (λ (a b : List ℕ). a ++ b)
    (not_listed n (is_inverse g.kind) (keeping.is_kept ms n)
    (λ inverse. ap (keeping.is_kept ms) (omega arith) ∙ h 0 g refl inverse))
    (none_unkept ms (n + 1) gs (λ k f at inverse.
    ap (keeping.is_kept ms) (omega arith) ∙ h (suc k) f at inverse))

-- the one module
pub only_module : (m k : ModuleLines) (n : ℕ) → slice_get (m ∷ []) n ≡ Some k → m ≡ k
only_module m k n h1 = grind (arith, common_steps, same_Some)

only_number : (m k : ModuleLines) (n : ℕ) → slice_get (m ∷ []) n ≡ Some k → n ≡ 0
only_number m k n h1 = grind (arith, common_steps)

module _ (lines : List CircuitLine) (p : Pattern) (m : ModuleLines) (jobs : List JobView)
    (named : HasInputNames lines p)
    (b : BelongTogether lines p (m ∷ []) jobs) (plain : IsPlainModule lines p m) where
  abbrev c : Circuit
  c = circuit_of lines

  -- the job of the module
  record IsItsJob (n : ℕ) (j : JobView) : Type 0 where
    at : slice_get jobs n ≡ Some j
    first : n ≡ 0
    is : IsJobOf c p m j

  its_job : (n : ℕ) (j : JobView) → slice_get jobs n ≡ Some j → IsItsJob n j
  its_job n j at =
      let k = some_at (m ∷ []) n (let lt = slice_get_within jobs n j at in let count = b.are_jobs.count in
      omega (arith, lt, count)) in
      record {
        at = at;
        first = only_number m k.0 n k.1;
        is = subst (λ k. IsJobOf c p k j) (sym (only_module m k.0 n k.1)) (b.are_jobs.each n k.0 j k.1 at);
      }

  -- every assignment is that of some values of the inputs
  its_inputs : ℕ → Valuation
  its_inputs a = inputs_of (known c m) a

  its_assignment : (a : ℕ) → IsModuleAssignmentOf c m (its_inputs a) a
  unfolding its_inputs
  its_assignment a k n at =
      let good = b.are_modules.each 0 m refl in
      let w : IsPlacedWire (wire_of c) (cuts m) k n = placed_wire (wire_of c) (cuts m) n k good.named at in
      ap (λ o. option_map_or (inputs_of (known c m) a) o false) w.named
      ∙ value_there (known c m) a k w.wire good.local.different (kept (cut_wires c m) _ k w.wire w.placed)

  -- values that agree with these on the inputs have the assignment too
  common_time : (j : JobView) (a : ℕ) (v : Valuation) → IsJobOf c p m j → a < assignments j →
      ((w : ℕ) → w < (netlist_of lines).given → v w ≡ its_inputs a w) → IsAssignmentOf j v a
  common_time j a v is small same = record {
    in_range = small;
    bits = assigned lines p m j v a (b.are_modules.each 0 m refl) is (λ k n at.
        let is_input : IsInputName lines n = at_place (IsInputName lines) (cuts m) k n plain.inputs at in
        ap (λ o. option_map_or v o false) is_input.named ∙ same is_input.wire is_input.is_given
        ∙ sym (ap (λ o. option_map_or (its_inputs a) o false) is_input.named) ∙ its_assignment a k n at);
  }

  induced : (j : JobView) (a : ℕ) (v : Valuation) → IsJobOf c p m j → a < assignments j →
      Satisfies (netlist_of lines) (its_inputs a) v → IsAssignmentOf j v a
  induced j a v is small s = common_time j a v is small s.given

  -- what is correct has a valuation under each
  right_values : (a : ℕ) → IsCorrect lines p → (v : Valuation) × Satisfies (netlist_of lines) (its_inputs a) v
  right_values a right = let found = right.implements (its_inputs a) in (found.values, found.satisfied)

  -- ---- where the run keeps off the rim, borders are good

  no_edge_signal : (t : ℕ) (x y : ℤ) → edge_signal c m t x y ≡ Zero
  no_edge_signal t x y = grind (arith, common_steps, no_signal)

  edge_touches : (inputs v : Valuation) (t n : ℕ) (j : JobView) (x y : ℤ) → Satisfies (netlist_of lines) inputs v →
      IsRunOfJobs lines p jobs v t → IsItsJob n j → IsEdgeFault j (values_by_local_number j.locals v) t x y →
      IsLiveOnRim lines p inputs t x y
  edge_touches inputs v t n j x y s now it f =
      let box : j.area ≡ whole p.size = it.is.area ∙ plain.box in
      let k : Known lines p (m ∷ []) 0 j =
      record { of = m; numbered = refl; is_job = it.is; good = b.are_modules.each 0 m refl } in
      let said : is_live (values_by_local_number j.locals v) (signal_at j.edges t x y) ≡ false =
      edge_by_circuit lines p (m ∷ []) 0 j v t x y k ∙ ap (is_live v) (no_edge_signal t x y) in
      let same = now.inside n j it.at x y (ring_in_box j.area x y f.ring) in
      record {
        odd = f.odd;
        early = subst (λ n. t < n) it.is.steps f.early;
        rim = ap (λ a. in_ring a x y) (sym box) ∙ f.ring;
        live = elim (cases_Bool (local_run j (values_by_local_number j.locals v) t x y)) [
          | inl live ↦ sym (inputs_decide lines p inputs v t x y named s) ∙ same ∙ live
          | inr dead ↦ absurd (f.differs (dead ∙ sym said))
        ];
      }

  touches : (inputs : Valuation) (t : ℕ) (x y : ℤ) → IsLiveOnRim lines p inputs t x y → TouchesRim lines p
  touches inputs t x y touch = record { inputs = inputs; time = t; x = x; y = y; touch = touch }

  no_border : (n : ℕ) (f : BorderFault) → ¬ IsBorderFault (setting_of lines p) (m ∷ []) n f
  no_border n f fault = grind (arith, common_steps, only_module, halo_parts)

  edge_of : (j : JobView) (u : Valuation) (t : ℕ) (kind : Kind) (x y : ℤ) → kind ≡ Edge →
      IsFaultUnderValues j u t kind x y → IsEdgeFault j u t x y
  edge_of j u t kind x y h1 h2 = grind (arith, common_steps)

  good : (inputs v : Valuation) (t : ℕ) → ¬ TouchesRim lines p → Satisfies (netlist_of lines) inputs v →
      IsRunOfJobs lines p jobs v t → HasGoodBorders lines p (m ∷ []) jobs v t
  good inputs v t off s now = record {
    of_jobs = λ n j f at kind time under fault.
        let it = its_job n j at in
        ∥∥₁_elim fault.shown nothing_prop (λ h.
        off (touches inputs f.time f.cell.x f.cell.y
        (edge_touches inputs v f.time n j f.cell.x f.cell.y s (subst (IsRunOfJobs lines p jobs v) (sym time) now) it
        (edge_of j (values_by_local_number j.locals v) f.time f.kind f.cell.x f.cell.y kind
        (seen_fault lines p m inputs v j f it.is s under h)))));
    of_modules = λ n f time. no_border n f;
  }

  all_runs : (inputs v : Valuation) (t : ℕ) → ¬ TouchesRim lines p → Satisfies (netlist_of lines) inputs v →
      t ≤ p.size.steps → IsRunOfJobs lines p jobs v t
  all_runs inputs v zero off s h = starts lines p (m ∷ []) jobs v b
  all_runs inputs v (suc t) off s h =
      let now = all_runs inputs v t off s (omega arith) in
      steps_with_good_borders lines p (m ∷ []) jobs inputs v t b s (omega arith) (good inputs v t off s now) now

  -- ---- no fault

  in_time : (j : JobView) → IsJobOf c p m j → (s : listed.Stop) → Contains j.stops s → s.at.time ≤ p.size.steps
  in_time j is s has = stop_by_lines c p m j (λ r. r.at.time ≤ p.size.steps) is (λ k s at w e.
      (at_place (IsAllowedStop (setting_of lines p) m.area (known c m)) (stops m) k s
      (b.are_modules.each 0 m refl).stop_lines
      at).time) s has

  -- the stops hold
  abbrev AreHeld : Type 0
  AreHeld = All (StopHolds c p) (all_stops (m ∷ []))

  stops_said : (inputs v : Valuation) (t : ℕ) (x y : ℤ) → AreHeld → Satisfies (netlist_of lines) inputs v →
      IsCellAsCertified c p m v t AtStop x y
  stops_said inputs v t x y held s line has time column row =
      let holds : StopHolds c p line = All-contains (StopHolds c p) (all_stops (m ∷ [])) line held
      (Contains-append_left (stops m) [] line has) in
      grind (arith, common_steps, inputs_decide)

  none_under : (inputs v : Valuation) (t n : ℕ) (kind : Kind) (x y : ℤ) (j : JobView) → IsCorrect lines p → AreHeld →
      ¬ TouchesRim lines p → Satisfies (netlist_of lines) inputs v → IsItsJob n j →
      ¬ IsFaultUnderValues j (values_by_local_number j.locals v) t kind x y
  none_under inputs v t n Edge x y j right held off s it f =
      let early = subst (λ n. t < n) it.is.steps f.early in
      off (touches inputs t x y (edge_touches inputs v t n j x y s (all_runs inputs v t off s (omega (arith, early))) it
      f))
  none_under inputs v t n AtStop x y j right held off s it f =
      let at_time = f.time in let within = in_time j it.is f.stop f.is_listed in
      real lines p (m ∷ []) jobs inputs v n m j t AtStop x y b (ap (slice_get (m ∷ [])) it.first) it.at s
      (λ r lt. good inputs v r off s (all_runs inputs v r off s (omega (arith, at_time, within, lt)))) f
      (stops_said inputs v t x y held s)
  none_under inputs v t n End x y j right held off s it f =
      let last : t ≡ p.size.steps = f.last ∙ it.is.steps in
      real lines p (m ∷ []) jobs inputs v n m j t End x y b (ap (slice_get (m ∷ [])) it.first) it.at s
      (λ r lt. good inputs v r off s (all_runs inputs v r off s (omega (arith, last, lt)))) f
      (subst (λ t. IsCellAsCertified c p m v t End x y) (sym last) (correct_meets lines p inputs v x y named s right))

  no_fault : IsCorrect lines p → AreHeld → ¬ TouchesRim lines p → (n : ℕ) (j : JobView) (f : Fault) →
      slice_get jobs n ≡ Some j → ¬ IsFault j f
  no_fault right held off n j f at fault =
      let it = its_job n j at in
      let v = right_values f.assignment right in
      ∥∥₁_elim fault.shown nothing_prop (λ h.
      none_under (its_inputs f.assignment) v.0 f.time n f.kind f.cell.x f.cell.y j right held off v.1 it
      (seen_fault lines p m (its_inputs f.assignment) v.0 j f it.is v.1
      (induced j f.assignment v.0 it.is fault.in_range v.1) h))

  -- ---- nor any other line

  no_values : (j : JobView) (f : KeepFault) → IsJobOf c p m j → IsKeepFault j f → (v : Valuation) →
      ¬ Satisfies (netlist_of lines) (its_inputs f.assignment) v
  no_values j f is fault v s =
      let under = induced j f.assignment v is fault.in_range s in
      let agree = local_values_agree_with_circuit (netlist_of lines) j.locals
      (its_inputs f.assignment) v f.assignment is.locals
      s under.bits in
      ∥∥₁_elim fault.shown nothing_prop (λ u. undefined_has_none j.locals.netlist (bit f.assignment)
      (values_by_local_number j.locals v) f.gate is.locals.ordered u agree.is_local)

  lacks : (j : JobView) (f : KeepFault) → IsJobOf c p m j → IsKeepFault j f → KeepFaultLineMeans lines p m f.assignment
  lacks j f is fault = record {
    inputs = its_inputs f.assignment;
    under = its_assignment f.assignment;
    lacks = no_values j f is fault;
    incorrect = λ right.
        let v = right_values f.assignment right in
        no_values j f is fault v.0 v.1;
  }

  no_keep : IsCorrect lines p → (n : ℕ) (j : JobView) (f : KeepFault) → slice_get jobs n ≡ Some j → ¬ IsKeepFault j f
  no_keep right n j f at fault = (lacks j f (its_job n j at).is fault).incorrect right

  accepts : ((n : ℕ) (j : JobView) (f : Fault) → slice_get jobs n ≡ Some j → ¬ IsFault j f) →
      ((n : ℕ) (j : JobView) (f : KeepFault) → slice_get jobs n ≡ Some j → ¬ IsKeepFault j f) →
      are_all_timings_obeyed (delay_and_meet_lines c (m ∷ [])) ≡ true → Accepts (setting_of lines p) (m ∷ []) jobs
  accepts none no_keep timed = record {
    no_fault = none;
    no_border_fault = no_border;
    no_keep_fault = no_keep;
    kept = λ n g at inverse. ap (λ b. b || false) (plain.inverses n g at inverse);
    on_time = timed;
  }

  -- ---- what the least fault says

  before : (f : Fault) (j : JobView) → IsItsJob 0 j → ((g : Fault) → IsFault j g → fault_cmp f g ≢ Greater) →
      (v : Valuation) (s : ℕ) → s < f.time → HasGoodBorders lines p (m ∷ []) jobs v s
  before f j it least v s lt = record {
    of_jobs = λ n k g at kind time under fault.
        let same : k ≡ j = same_Some k j (sym at ∙ ap (slice_get jobs) (its_job n k at).first ∙ it.at) in
        least g (subst (λ k. IsFault k g) same fault) (greater f g (omega (arith, lt, time)));
    of_modules = λ n g time. no_border n g;
  }

  edge_prop : (j : JobView) (u : Valuation) (t : ℕ) (x y : ℤ) → IsProp (IsEdgeFault j u t x y)
  edge_prop j u t x y = Prim.hlevel props

  edge_seen : (f : Fault) (j : JobView) (v : Valuation) → f.kind ≡ Edge → IsItsJob 0 j → IsFault j f →
      Satisfies (netlist_of lines) (its_inputs f.assignment) v →
      IsEdgeFault j (values_by_local_number j.locals v) f.time f.cell.x f.cell.y
  edge_seen f j v e it fault s =
      ∥∥₁_elim fault.shown (edge_prop j (values_by_local_number j.locals v) f.time f.cell.x f.cell.y) (λ h.
      edge_of j (values_by_local_number j.locals v) f.time f.kind f.cell.x f.cell.y e
      (seen_fault lines p m (its_inputs f.assignment) v j f it.is s (induced j f.assignment v it.is fault.in_range s)
      h))

  its_first : (f : Fault) (j : JobView) (v : Valuation) → IsItsJob 0 j → IsFault j f →
      ((g : Fault) → IsFault j g → fault_cmp f g ≢ Greater) → Satisfies (netlist_of lines) (its_inputs f.assignment) v →
      IsFirstFault lines p (m ∷ []) jobs (its_inputs f.assignment) v 0 m f
  its_first f j v it fault least s = record {
    bundle = b;
    lines_are = refl;
    job = j;
    numbered = it.at;
    fault = fault;
    satisfied = s;
    under = induced j f.assignment v it.is fault.in_range s;
    before = before f j it least v;
  }

  -- a fault has local values, so no inverse gate lacks a row
  has_values : (f : Fault) (j : JobView) → IsItsJob 0 j → IsFault j f →
      (v : Valuation) × Satisfies (netlist_of lines) (its_inputs f.assignment) v
  has_values f j it fault = has_valuation (netlist_of lines) (its_inputs f.assignment) b.ordered (λ k u.
      let kept = plain.inverses k u.gate u.numbered
      (only_inverse (netlist_of lines) (its_inputs f.assignment) k b.ordered u) in
      let at : PlaceOf (circuit_gate j.locals) j.kept (length j.locals.netlist.gates) k =
      place_of (circuit_gate j.locals) j.kept (length j.locals.netlist.gates) k it.is.kept_are_used
      (ap (λ (l : List ℕ). is_among l k) it.is.kept ∙ kept) in
      let under = common_time j f.assignment u.values it.is fault.in_range u.given in
      ∥∥₁_elim fault.shown nothing_prop (λ h.
      undefined_has_none j.locals.netlist (bit f.assignment) h.values at.place it.is.locals.ordered
      (undefined_is_seen (netlist_of lines) j.locals (its_inputs f.assignment) k at.place f.assignment it.is.locals u
      at.below at.same under.bits) h.local))

  on_rim : (f : Fault) (j : JobView) (v : Valuation) → f.kind ≡ Edge → IsItsJob 0 j → IsFault j f →
      ((g : Fault) → IsFault j g → fault_cmp f g ≢ Greater) → Satisfies (netlist_of lines) (its_inputs f.assignment) v →
      IsLiveOnRim lines p (its_inputs f.assignment) f.time f.cell.x f.cell.y
  on_rim f j v e it fault least s =
      let inputs = its_inputs f.assignment in
      let edge = edge_seen f j v e it fault s in
      let early : f.time < p.size.steps = subst (λ n. f.time < n) it.is.steps edge.early in
      edge_touches inputs v f.time 0 j f.cell.x f.cell.y s
      (runs_up_to lines p (m ∷ []) jobs inputs v f.time b s (omega (arith, early)) (before f j it least v)) it edge

  shows : (f : Fault) (j : JobView) → IsItsJob 0 j → IsFault j f →
      ((g : Fault) → IsFault j g → fault_cmp f g ≢ Greater) → LocalLineMeans lines p m f
  shows f j it fault least =
      let inputs = its_inputs f.assignment in
      let v = has_values f j it fault in
      let first = its_first f j v.0 it fault least v.1 in
      let real = first_means lines p (m ∷ []) jobs inputs v.0 0 m f named first in
      record {
        inputs = inputs;
        under = its_assignment f.assignment;
        values = v.0;
        satisfied = v.1;
        real = real;
        on_rim = λ e. on_rim f j v.0 e it fault least v.1;
        wrong_stop = grind (arith, common_steps, stops_said, append-nil);
      }

  by_kind : (f : Fault) (kind : Kind) → f.kind ≡ kind → LocalLineMeans lines p m f → IsWrongDesign lines p m
  by_kind f Edge e shown = inr (inr (touches shown.inputs f.time f.cell.x f.cell.y (shown.on_rim e)))
  by_kind f AtStop e shown =
      inr (inl (λ timed. shown.wrong_stop e (subst (All (StopHolds c p)) (append-nil (stops m)) timed.stops)))
  by_kind f End e shown = inl (shown.real.incorrect e)

  its_own : (n : ℕ) (j k : JobView) → IsItsJob 0 j → slice_get jobs n ≡ Some k → k ≡ j
  its_own n j k it at = same_Some k j (sym at ∙ ap (slice_get jobs) (its_job n k at).first ∙ it.at)

  decide : (o : Option Fault) (q : Option KeepFault) (timed : Bool) (j : JobView) → IsItsJob 0 j → IsLeastFault j o →
      IsLeastKeepFault j q → are_all_timings_obeyed (delay_and_meet_lines c (m ∷ [])) ≡ timed →
      ¬ Accepts (setting_of lines p) (m ∷ []) jobs → IsWrongDesign lines p m
  decide (Some f) q timed j it least least_keep e not = by_kind f f.kind refl (shows f j it least.0 least.1)
  decide None (Some g) timed j it least least_keep e not = inl (λ right. no_keep right 0 j g it.at least_keep.0)
  decide None None true j it none no_keep e not =
      absurd (not (accepts
      (λ n k f at fault. none f (subst (λ k. IsFault k f) (its_own n j k it at) fault))
      (λ n k f at fault. no_keep f (subst (λ k. IsKeepFault k f) (its_own n j k it at) fault))
      e))
  decide None None false j it none no_keep e not = inr
      (inl (λ timed. false≢true (sym e ∙ timed_is_kept lines (m ∷ []) b.ordered timed.times)))

  -- ---- what the lines mean

  abbrev Means : ReportLine → Type 0
  Means l = LineMeans lines p m l

  gap_is : (k n : ℕ) (gap : StopGap) → is_timing_obeyed (times.Delay k n gap) ≡ true → gap ≡ Steps n
  gap_is k n gap h1 = grind (arith, common_steps, eqb-true, false≢true)

  delay_means : (ss : List StopLine) (k n : ℕ) (gap : StopGap) → IsTimeLineTrue c ss (times.Delay k n gap) →
      DelayLineMeans lines ss k n gap
  delay_means ss k n gap (g, at, is, tells) =
      let w = delay_wires (netlist_of lines).given n (netlist_of lines).gates k g b.ordered at is in
      let same : g ≡ record { kind = Delay n; ins = w.used ∷ []; outs = w.made ∷ [] } = grind (arith, common_steps) in
      let takes : IsDelayGapTrue c ss gap w.used w.made = tells w.used w.made w.ins w.outs in
      let kept : TakesStepsFromLastToFirstStop c ss n w.used w.made → gap ≡ Steps n =
      λ steps. gap_is k n gap (kept_gap c ss k n w.used w.made gap steps takes) in
      record {
        used = w.used;
        made = w.made;
        is_delay = at ∙ ap Some same;
        takes = takes;
        wrong = λ other steps. other (kept steps);
        late = λ other timed. other (kept (timed.delays k n w.used w.made (at ∙ ap Some same)));
      }

  meet_means : (ss : List StopLine) (k : ℕ) (o : Option ℕ) → IsTimeLineTrue c ss (times.Meet k o) →
      MeetLineMeans lines ss k o
  meet_means ss k o (g, at, tells) = grind (arith, common_steps)

  time_means : (l : TimeLine) → IsTimeLineTrue c (all_stops (m ∷ [])) l → Means (timing_report_line l)
  time_means l h1 = grind (arith, common_steps, append-nil, delay_means, meet_means)

  keep_means : (n : ℕ) (j : JobView) (o : Option KeepFault) (f : KeepFault) → IsJobOf c p m j → IsLeastKeepFault j o →
      option_map (renumber_keep j) o ≡ Some f → Means (line.Keep n f)
  keep_means n j None f is least e = absurd cc
  keep_means n j (Some q) f is least e =
      let same : q.assignment ≡ f.assignment = ap (λ (q : KeepFault). q.assignment) (same_Some (renumber_keep j q) f e)
      in
      subst (KeepFaultLineMeans lines p m) same (lacks j q is least.0)

  all_mean : (report : List ReportLine) → AreReportLines (setting_of lines p) (m ∷ []) jobs report → All Means report
  all_mean report are =
      let g = setting_of lines p in
      let each : (k : ℕ) (r : LeastFaults) (o : Option BorderFault) → slice_get are.faults k ≡ Some r →
      slice_get are.borders k ≡ Some o → EachLine Means (0 + k) r o = λ k r o at at'.
      let count = are.are_least.count in
      let within = slice_get_within are.faults k r at in
      let j = some_at jobs k (omega (arith, count, within)) in
      let it : IsItsJob k j.0 = its_job k j.0 j.1 in
      let own : IsItsJob 0 j.0 =
      record { at = sym (ap (slice_get jobs) it.first) ∙ it.at; first = refl; is = it.is } in
      let told : AreLeastFaultsOfJob j.0 r = are.are_least.each k j.0 r j.1 at in
      record {
        fault = λ f e.
            let least : IsLeastFault j.0 (Some f) = subst (IsLeastFault j.0) e told.fault in
            shows f j.0 own least.0 least.1;
        keep = λ f e. keep_means (0 + k) j.0 told.keep f it.is told.least_keep (sym told.same ∙ e);
        border = λ f e.
            let least : IsLeastBorderFault g (m ∷ []) k (Some f) =
            subst (IsLeastBorderFault g (m ∷ []) k) e (are.are_border_faults.each k o at') in
            no_border k f least.0;
      } in
      let kept : unkept g (m ∷ []) ≡ [] =
      none_unkept (m ∷ []) 0 (netlist_of lines).gates (λ k gate at inverse.
      ap (λ b. b || false) (ap (is_among (keeps m)) (omega arith) ∙ plain.inverses k gate at inverse)) in
      let U : All Means (unkept_lines g (m ∷ [])) =
      subst (λ (ns : List ℕ). All Means (map (λ n. line.Unkept n) ns)) (sym kept) (All-nil Means) in
      subst (All Means) (sym are.lines_are)
      (All-append Means (report_lines_from 0 are.faults are.borders ++ unkept_lines g (m ∷ []))
      (map timing_report_line (delay_and_meet_lines c (m ∷ [])))
      (All-append Means (report_lines_from 0 are.faults are.borders) (unkept_lines g (m ∷ []))
      (all_from Means 0 are.faults are.borders each) U)
      (all_timed Means (IsTimeLineTrue c (all_stops (m ∷ []))) (delay_and_meet_lines c (m ∷ [])) time_means
      (lines_tell c (m ∷ []))))

pub plain_decides : PlainVerdictDecidesDesign
plain_decides lines p m jobs named ports b plain = (
  (λ is.
      let all : IsAcceptedBundle lines p (m ∷ []) jobs = record { bundle = b; accepted = is } in (
        correct lines p (m ∷ []) jobs named ports all,
        on_time lines p (m ∷ []) jobs named all,
        off_rim lines p (m ∷ []) jobs named b is,
      )),
  (λ is.
      accepts lines p m jobs named b plain (no_fault lines p m jobs named b plain is.0 is.1.stops is.2)
      (no_keep lines p m jobs named b plain is.0)
      (timed_is_kept lines (m ∷ []) b.ordered is.1.times)),
)

pub plain_no : PlainNoMeansWrongOrRimLive
unfolding IsVerdict
plain_no lines p m jobs report named b plain judged =
    let count = b.are_jobs.count in
    let j = some_at jobs 0 (omega (arith, count)) in
    let r = judged.1 in
    let counted = r.are_least.count in
    let f = some_at r.faults 0 (omega (arith, count, counted)) in
    let is : AreLeastFaultsOfJob j.0 f.0 = r.are_least.each 0 j.0 f.0 j.1 f.1 in
    decide lines p m jobs named b plain f.0.fault is.keep _ j.0 (its_job lines p m jobs named b plain 0 j.0 j.1)
    is.fault is.least_keep refl judged.0

pub plain_report_lines : PlainReportLinesHaveMeaning
unfolding IsVerdict
plain_report_lines lines p m jobs report named b plain judged =
    all_mean lines p m jobs named b plain report.items judged.1

-- ---- where nothing is timed

pub untimed : UntimedIsOnTime
untimed lines p m none no_delay =
    let c = circuit_of lines in
    let all : all_stops (m ∷ []) ≡ [] = ap (λ (ss : List StopLine). ss ++ []) none in
    record {
      stops = subst (All (StopHolds c p)) (sym all) (All-nil (StopHolds c p));
      times = subst (AreOnTime c) (sym all) (record {
        delays = λ k n a b is. absurd (at_place (λ (g : Gate). (n : ℕ) → ¬ (g.kind ≡ Delay n))
            (netlist_of lines).gates k _ no_delay is n refl);
        meetings = λ k g at. (0, λ w s has last. let lt = last.seen.1 in absurd (omega (arith, lt)));
      });
    }
