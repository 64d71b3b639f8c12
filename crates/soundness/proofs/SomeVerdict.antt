-- The modules of a certificate have jobs and a verdict
use Rattle.soundness.proofs.Imports.{AreGatesOrdered, AreJobsOf, AreLeastFaultsOfJob, AreModules, Bool, BorderFault}
use Rattle.soundness.proofs.Imports.{Box2, CircuitLine, Gate, IsEvenBox, IsJob, IsJobOf, IsLeastBorderFault, IsModule}
use Rattle.soundness.proofs.Imports.{IsVerdict, JobView, LeastFaults, List, ModuleLines, None, Option, Pattern}
use Rattle.soundness.proofs.Imports.{ReportLine, Setting, Some, TimeLine, Yes, [], ap, append-nil, append_assoc}
use Rattle.soundness.proofs.Imports.{are_all_timings_obeyed, arith, circuit_of, common_steps, cond, defined}
use Rattle.soundness.proofs.Imports.{delay_and_meet_lines, false, get_or, in_box, inl, inr, is_inverse, is_kept, length}
use Rattle.soundness.proofs.Imports.{length-append, length-map, map, nat_lt, nat_tests, netlist_of, not, option_map}
use Rattle.soundness.proofs.Imports.{option_to_list, refl, renumber_keep, report_lines_from, setting_of, size_fault}
use Rattle.soundness.proofs.Imports.{slice_get, slice_get_within, stops, stops_stand, subst, suc, sym}
use Rattle.soundness.proofs.Imports.{time_lines_of_gates, timing_report_line, true, unkept_gates_from, unkept_lines}
use Rattle.soundness.proofs.Imports.{zero, ℕ, ◌&&◌, ◌*◌, ◌++◌, ◌+◌, ◌<◌, ◌||◌, ◌∙◌, ◌∷◌, ◌≡◌, ◌≤◌}
use Rattle.lemmas.proofs.Common.{◌^◌, Global, Vec, nat_le}
use Rattle.circuit.specs.Bridge.{AreGoodCircuitLines, AreGoodAfter}
use Rattle.circuit.specs.Rules.{limit_or_name_code, gate_count, is_gate, is_wrong_delay, exceeds_largest_limit}
use Rattle.circuit.proofs.Bridging.{count_append, gates_are_ordered}
use Rattle.circuit.proofs.Naming.{gates_counted}
use Rattle.certificate.specs.StopLists.{AreStopsOfLines}
use Rattle.certificate.specs.Times.{lines_of_numbered_gates}
use Rattle.certificate.proofs.JobLemmas.{within_512}
use Rattle.certificate.proofs.StopLemmas.{stops_rise}
use Rattle.border_match.specs.BorderFaults.{AreBorderFaultsOf}
use Rattle.soundness.specs.ModuleLaws.{VerdictExists}
use Rattle.core_book.specs.Verdicts.{AreLeastFaults}
use Rattle.core_book.specs.declared.verdict.Verdict.{Verdict}
use Rattle.core_book.specs.declared.verdict.Verdict.TheVariants.{No}
use Rattle.core_book.proofs.OneVerdict.{none-past}
use Rattle.core_book.proofs.ReportLines.{accepted, accepted-no_lines}
use Rattle.soundness.proofs.SomeFaults.{least_border_fault, least_fault, least_keep_fault}
use Rattle.soundness.proofs.SomeJobs.{are_jobs_of, job_of}
use Rattle.soundness.proofs.SomeLeast.{Decided, both_decided, true_decided}
use denote.RawPtr.{null_ptr}
use Rattle.pattern.proofs.Added.{no_code}
use Rattle.lemmas.specs.Bounds.{max_gates, max_side, max_steps, max_wires}
use Rattle.section_text.proofs.Codes.{no_code_first}

-- ---- how many lines there are

few_of : {A : Type 0} (o : Option A) → length (option_to_list o) ≤ 1
few_of None = omega arith
few_of (Some a) = omega arith

three_each : (n : ℕ) (fs : List LeastFaults) (bs : List (Option BorderFault)) →
    length (report_lines_from n fs bs) ≤ 3 * length fs
unfolding report_lines_from
three_each n [] bs = omega arith
three_each n (f ∷ fs) [] = omega arith
three_each n (f ∷ fs) (b ∷ bs) = grind (arith, common_steps, few_of, length-append, (three_each (n + 1) fs bs))

one_each : (ms : List ModuleLines) (n : ℕ) (gs : List Gate) → length (unkept_gates_from ms n gs) ≤ length gs
unfolding unkept_gates_from
one_each ms n [] = omega arith
one_each ms n (g ∷ gs) =
    let more = one_each ms (n + 1) gs in
    let here = is_inverse g.kind && not (is_kept ms n) in
    let sum = length-append (cond here (n ∷ []) []) (unkept_gates_from ms (n + 1) gs) in
    let few = at_most n here in
    omega (arith, more, sum, few)
  where
    at_most : (n : ℕ) (b : Bool) → length (cond b (n ∷ []) []) ≤ 1
    at_most n b = grind (arith, common_steps)

line_each : (f : ℕ → Gate → List TimeLine) → ((k : ℕ) (g : Gate) → length (f k g) ≤ 1) → (k : ℕ) (gs : List Gate) →
    length (lines_of_numbered_gates f k gs) ≤ length gs
unfolding lines_of_numbered_gates
line_each f few k [] = omega arith
line_each f few k (g ∷ gs) = grind (arith, common_steps, length-append, (line_each f few (k + 1) gs))

two_each : (first last : ℕ → Option ℕ) (gs : List Gate) → length (time_lines_of_gates first last gs) ≤ 2 * length gs
two_each first last gs = grind (arith, common_steps, line_each, length-append)

-- ---- a circuit has at most 16,384 gates

last_false : (a b c : Bool) → (a || (b || c)) ≡ false → c ≡ false
last_false a b c e = grind arith

one_gate_more : (b : Bool) (n : ℕ) → (b && nat_le max_gates n) ≡ false → n ≤ max_gates → cond b 1 0 + n ≤ max_gates
one_gate_more true n e le = grind (arith, nat_tests)
one_gate_more false n e le = omega (arith, le)

gates_below : (before rest : List CircuitLine) → AreGoodAfter before rest → gate_count before ≤ max_gates →
    gate_count (before ++ rest) ≤ max_gates
unfolding AreGoodAfter limit_or_name_code
gates_below before [] good h = subst (λ l. gate_count l ≤ max_gates) (sym (append-nil before)) h
gates_below before (r ∷ rest) good h =
    let passes = no_code (exceeds_largest_limit before r) _ (no_code_first _ _ good.0.adds) in
    let last = last_false (is_wrong_delay r.kind) (nat_lt max_wires (length (defined before) + length r.outs))
    (is_gate r.kind && nat_le max_gates (gate_count before)) passes in
    let count : gate_count (before ++ r ∷ []) ≡ gate_count before + cond (is_gate r.kind) 1 0 =
    count_append (λ (r : CircuitLine). is_gate r.kind) before (r ∷ []) ∙ omega arith in
    let turned : gate_count before + cond (is_gate r.kind) 1 0 ≡ cond
    (is_gate r.kind) 1 0 + gate_count before = omega arith in
    let more : gate_count (before ++ r ∷ []) ≤ max_gates =
    subst (λ n. n ≤ max_gates) (sym (count ∙ turned)) (one_gate_more (is_gate r.kind) (gate_count before) last h) in
    subst (λ l. gate_count l ≤ max_gates) (append_assoc before (r ∷ []) rest)
    (gates_below (before ++ r ∷ []) rest good.1 more)

few_gates : (lines : List CircuitLine) → AreGoodCircuitLines lines → length (netlist_of lines).gates ≤ max_gates
few_gates lines good = grind (arith, common_steps, gates_below, gates_counted)

-- ---- a vector of some elements

pub record IsVecOf {A : Type 0} (xs : List A) : Type 0 where
  pub vec : Vec A Global
  pub items : vec.items ≡ xs

pub vec_of : {A : Type 0} (xs : List A) → length xs < 2 ^ 63 → IsVecOf xs
vec_of xs small = record {
  vec = record {
    ptr = null_ptr;
    len = length xs;
    cap = length xs;
    alloc = record { memory = record { seal = tt } };
    items = xs;
    ok = (refl, omega arith);
    small = small;
  };
  items = refl;
}

-- ---- lists with an element for each

nothing : {A : Type 0} (k : ℕ) (a : A) → slice_get {X = A} [] k ≡ Some a → ⊥
nothing k a at = cc

all_reasons : (js : List JobView) →
    ((k : ℕ) (j : JobView) → slice_get js k ≡ Some j →
    IsJob j × AreGatesOrdered j.locals.netlist.given j.locals.netlist.gates) →
    (fs : List LeastFaults) × AreLeastFaults js fs
all_reasons [] each = ([], record { count = refl; each = λ k j f at. absurd (nothing k j at) })
all_reasons (j ∷ js) each =
    let own = each 0 j refl in
    let fault = least_fault j own.0 own.1 in
    let keep = least_keep_fault j own.0 own.1 in
    let reasons : LeastFaults = record { fault = fault.0; keep = option_map (renumber_keep j) keep.0 } in
    let told : AreLeastFaultsOfJob j reasons =
    record { fault = fault.1; keep = keep.0; least_keep = keep.1; same = refl } in
    let more = all_reasons js (λ k. each (suc k)) in
    (reasons ∷ more.0, record { count = ap suc more.1.count; each = at_each reasons told more.0 more.1 })
  where
    at_each : (r : LeastFaults) → AreLeastFaultsOfJob j r → (fs : List LeastFaults) → AreLeastFaults js fs →
        (k : ℕ) (i : JobView) (f : LeastFaults) → slice_get (j ∷ js) k ≡ Some i → slice_get (r ∷ fs) k ≡ Some f →
        AreLeastFaultsOfJob i f
    at_each r is fs are zero i f at there =
        let same : j ≡ i = cc in
        let alike : r ≡ f = cc in
        subst (λ i. AreLeastFaultsOfJob i f) same (subst (AreLeastFaultsOfJob j) alike is)
    at_each r is fs are (suc k) i f at there = are.each k i f at there

record AreBordersFrom (g : Setting) (ms : List ModuleLines) (n many : ℕ) (fs : List (Option BorderFault)) : Type 0 where
  pub count : length fs ≡ many
  pub each : (i : ℕ) (f : Option BorderFault) → slice_get fs i ≡ Some f → IsLeastBorderFault g ms (n + i) f

all_borders : (g : Setting) (ms : List ModuleLines) (count n : ℕ) →
    (fs : List (Option BorderFault)) × AreBordersFrom g ms n count fs
all_borders g ms zero n = ([], record { count = refl; each = λ i f at. absurd (nothing i f at) })
all_borders g ms (suc count) n =
    let one = least_border_fault g ms n in
    let more = all_borders g ms count (n + 1) in
    (one.0 ∷ more.0, record { count = ap suc more.1.count; each = at_each one.0 one.1 more.0 more.1 })
  where
    at_each : (o : Option BorderFault) → IsLeastBorderFault g ms n o → (fs : List (Option BorderFault)) →
        AreBordersFrom g ms (n + 1) count fs →
        (i : ℕ) (f : Option BorderFault) → slice_get (o ∷ fs) i ≡ Some f → IsLeastBorderFault g ms (n + i) f
    at_each o is fs are zero f at =
        let same : o ≡ f = cc in
        let here : n ≡ n + 0 = omega arith in
        subst (λ k. IsLeastBorderFault g ms k f) here (subst (IsLeastBorderFault g ms n) same is)
    at_each o is fs are (suc i) f at =
        let here : (n + 1) + i ≡ n + suc i = omega arith in
        subst (λ k. IsLeastBorderFault g ms k f) here (are.each i f at)

-- ---- a job of a module is a good one

job_good : (lines : List CircuitLine) (p : Pattern) (m : ModuleLines) (j : JobView) → size_fault p.size ≡ None →
    IsModule (setting_of lines p) m → IsJobOf (circuit_of lines) p m j → IsJob j
job_good lines p m j limits own is =
    let c = circuit_of lines in
    let fits = within_512 (setting_of lines p) m p.size refl limits own in
    let said : AreStopsOfLines c j.locals (stops m) j.stops = record { same = is.stops; own = is.own.stops } in
    let area = sym is.area in
    record {
      even = subst IsEvenBox area own.even;
      width = subst (λ (b : Box2). (2 ≤ b.w) × (b.w ≤ 64) × (b.x + b.w ≤ max_side)) area
          (own.wide.0, own.wide.1, fits.0);
      height = subst (λ (b : Box2). (2 ≤ b.h) × (b.h ≤ 64) × (b.y + b.h ≤ max_side)) area
          (own.high.0, own.high.1, fits.1);
      steps = subst (λ n. n ≤ max_steps) (sym is.steps) fits.2;
      own = is.own;
      stops = λ k d lt. record {
        time = stops_stand (λ q. q.time ≤ j.steps) c j.locals (stops m) j.stops said
            (λ i r below. subst (λ n. (get_or (stops m) i r).time ≤ n) (sym is.steps)
            (own.stop_lines i r below).time) k d lt;
        inside = stops_stand (λ q. in_box j.area q.cell.x q.cell.y ≡ true) c j.locals (stops m) j.stops said
            (λ i r below. subst (λ (b : Box2). in_box b (get_or (stops m) i r).cell.x
            (get_or (stops m) i r).cell.y ≡ true) area (own.stop_lines i r below).inside) k d lt;
      };
      stops_rise = stops_rise c j.locals m.lines j.stops own.order said;
    }

pub jobs_good : (lines : List CircuitLine) (p : Pattern) (ms : List ModuleLines) (js : List JobView) →
    size_fault p.size ≡ None → AreModules (setting_of lines p) ms → AreJobsOf (circuit_of lines) p ms js →
    (k : ℕ) (j : JobView) → slice_get js k ≡ Some j →
    IsJob j × AreGatesOrdered j.locals.netlist.given j.locals.netlist.gates
jobs_good lines p ms js limits are own k j at = by (slice_get ms k) refl
  where
    by : (o : Option ModuleLines) → slice_get ms k ≡ o →
        IsJob j × AreGatesOrdered j.locals.netlist.given j.locals.netlist.gates
    by None e =
        let past = none-past ms k e in
        let below : k < length js = slice_get_within js k j at in
        let count = own.count in
        absurd (omega (arith, past, below, count))
    by (Some m) e =
        let is = own.each k m j e at in
        (job_good lines p m j limits (are.each k m e) is, is.locals.ordered)

-- ---- the verdict

empty_decided : {A : Type 0} (xs : List A) → Decided (xs ≡ [])
empty_decided [] = inl refl
empty_decided (x ∷ xs) = inr (λ e. cc)

module _ (lines : List CircuitLine) (p : Pattern) (ms : List ModuleLines) (good : AreGoodCircuitLines lines)
    (limits : size_fault p.size ≡ None)
    (are : AreModules (setting_of lines p) ms) where
  abbrev g : Setting
  g = setting_of lines p

  ordered : AreGatesOrdered (netlist_of lines).given (netlist_of lines).gates
  ordered = gates_are_ordered lines good

  abbrev js : List JobView
  js = map (job_of (circuit_of lines) p) ms

  own_jobs : AreJobsOf (circuit_of lines) p ms js
  own_jobs = are_jobs_of lines p ms ordered (λ k m at. (are.each k m at, are.ports k m at))

  good_at : (k : ℕ) (j : JobView) → slice_get js k ≡ Some j →
      IsJob j × AreGatesOrdered j.locals.netlist.given j.locals.netlist.gates
  good_at = jobs_good lines p ms js limits are own_jobs

  reasons : (fs : List LeastFaults) × AreLeastFaults js fs
  reasons = all_reasons js good_at

  borders : (bs : List (Option BorderFault)) × AreBordersFrom g ms 0 (length ms) bs
  borders = all_borders g ms (length ms) 0

  abbrev fs : List LeastFaults
  fs = reasons.0

  abbrev bs : List (Option BorderFault)
  bs = borders.0

  are_borders : AreBorderFaultsOf g ms bs
  are_borders = record {
    count = borders.1.count;
    each = λ i f at. subst (λ k. IsLeastBorderFault g ms k f) (from_zero i) (borders.1.each i f at);
  }
    where
      from_zero : (i : ℕ) → 0 + i ≡ i
      from_zero i = omega arith

  same_count : length fs ≡ length bs
  same_count = reasons.1.count ∙ own_jobs.count ∙ sym borders.1.count

  abbrev all_lines : List ReportLine
  all_lines = report_lines_from 0 fs bs ++ unkept_lines g ms
      ++ map timing_report_line (delay_and_meet_lines g.circuit ms)

  few_lines : length all_lines < 2 ^ 63
  few_lines = grind (
    arith,
    common_steps,
    three_each,
    one_each,
    two_each,
    reasons,
    own_jobs,
    few_gates,
    length-append,
    length-map,
  )

  verdict : (v : Verdict) × IsVerdict g ms js v
  unfolding IsVerdict
  verdict = elim (both_decided (empty_decided (report_lines_from 0 fs bs ++ unkept_lines g ms))
      (λ _. true_decided (are_all_timings_obeyed (delay_and_meet_lines g.circuit ms)))) [
        | inl h ↦ (Yes, accepted g ms js fs bs reasons.1 are_borders same_count h.0 h.1)
        | inr not_so ↦
            let v = vec_of all_lines few_lines in (
              No v.vec,
              (
                (λ is. not_so (accepted-no_lines g ms js fs bs reasons.1 are_borders is, is.on_time)),
                record {
                  faults = fs;
                  are_least = reasons.1;
                  borders = bs;
                  are_border_faults = are_borders;
                  lines_are = v.items;
                },
              ),
            )
      ]

pub some_verdict : VerdictExists
some_verdict lines p ms good limits are =
    let v = verdict lines p ms good limits are in
    record {
      jobs = map (job_of (circuit_of lines) p) ms;
      are_jobs = own_jobs lines p ms good limits are;
      verdict = v.0;
      judged = v.1;
    }
