-- Modules are accepted if they pass tests, which a proof by computation can run.
--
-- Each job is run under each assignment, and the borders are compared at each odd time.
use Rattle.soundness.proofs.Imports.{Accepts, AreGatesOrdered, AreJobsOf, AreModules, Bool, BorderFault, Box2, Cell}
use Rattle.soundness.proofs.Imports.{CircuitLine, Demand, Edge, End, Fault, Gate, IsBorderFault, IsFault}
use Rattle.soundness.proofs.Imports.{IsFaultUnderValues, IsJob, IsKeepFault, IsTrue, JobView, KeepFault, Kind, List}
use Rattle.soundness.proofs.Imports.{MeetsDemand, ModuleLines, None, Option, Pattern, Setting, Some, Stop, Valuation}
use Rattle.soundness.proofs.Imports.{[], and_parts, ap, are_all_timings_obeyed, arith, as_values, assignments, bit}
use Rattle.soundness.proofs.Imports.{box_place, circuit_of, common_steps, decided, delay_and_meet_lines, edge_signal}
use Rattle.soundness.proofs.Imports.{evaluate, evaluated, false, false≢true, get_or-map-range_with_len, halo_signal}
use Rattle.soundness.proofs.Imports.{in_box, in_halo, in_ring, is_inverse, is_kept, is_live, job_demand, length}
use Rattle.soundness.proofs.Imports.{length-map, length-range_with_len, list_all, local_run, map, not, place_in}
use Rattle.soundness.proofs.Imports.{range_with_len, rectangle_cells, refl, setting_of, signal_at, size_fault}
use Rattle.soundness.proofs.Imports.{slice_get, slice_get-get_or, slice_get_within, subst, suc, sym, true}
use Rattle.soundness.proofs.Imports.{undefined_has_none, whole, zero, ℕ, ℤ, ∥∥₁_elim, ◌%◌, ◌&&◌, ◌*◌, ◌+◌, ◌/◌, ◌<◌}
use Rattle.soundness.proofs.Imports.{◌||◌, ◌∙◌, ◌∷◌, ◌≡◌}
use Rattle.lemmas.proofs.Common.{beq, booleans_Decides, get_or-range_with_len}
use Rattle.module_box.specs.Equality.{same_signal}
use Rattle.module_box.specs.LocalValues.{IsLocalValuation}
use Rattle.certificate_lines.specs.Rules.{is_inverse_gate}
use Rattle.module_box.proofs.EqualTests.{signal_decides}
use Rattle.soundness.proofs.SomeVerdict.{jobs_good}
use Rattle.bbm_rule.proofs.RingTests.{ring_in_box}
use Rattle.module_job.specs.declared.job.Demand.TheVariants as Demanded

-- ---- what is demanded, as a test

abbrev pub meets : Valuation → Demand → Bool → Bool
meets v Demanded.Dead live = not live
meets v Demanded.Live live = live
meets v (Demanded.Wire w) live = beq live (v w)
meets v Demanded.Any live = true

pub meets_is : (v : Valuation) (d : Demand) (live : Bool) → meets v d live ≡ true → MeetsDemand v d live
meets_is v d live h1 = grind (arith, common_steps, false≢true)

-- the second holds, if the first does and implies it
pub implied : (a b : Bool) → (not a || b) ≡ true → a ≡ true → b ≡ true
implied a b h1 h2 = grind (arith, common_steps, false≢true)

pub all_at : {A : Type 0} (test : A → Bool) (xs : List A) (i : ℕ) (a : A) → list_all test xs ≡ true →
    slice_get xs i ≡ Some a → test a ≡ true
all_at test [] i a all e = absurd cc
all_at test (x ∷ xs) zero a all e = grind (arith, common_steps, and_parts)
all_at test (x ∷ xs) (suc i) a all e = all_at test xs i a (and_parts (test x) (list_all test xs) all).1 e

-- the number at a place of a range
pub range_at : (n a k : ℕ) → k < n → slice_get (range_with_len a n) k ≡ Some (a + k)
range_at n a k lt = slice_get-get_or (range_with_len a n) k 0 (omega (arith, lt, length-range_with_len a n))
    ∙ ap Some (get_or-range_with_len a n k 0 lt)

-- a test that all numbers below n pass
pub all_below : (test : ℕ → Bool) (n k : ℕ) → list_all test (range_with_len 0 n) ≡ true → k < n → test k ≡ true
all_below test n k all lt = all_at test (range_with_len 0 n) k k all (range_at n 0 k lt ∙ ap Some (omega arith))

-- the odd times before the last one
abbrev pub at_odd_times : ℕ → (ℕ → Bool) → Bool
at_odd_times steps test = list_all (λ k. test (2 * k + 1)) (range_with_len 0 (steps / 2))

pub at_odd : (steps : ℕ) (test : ℕ → Bool) → at_odd_times steps test ≡ true → (t : ℕ) → t % 2 ≡ 1 → t < steps →
    test t ≡ true
at_odd steps test all t odd early =
    let is : 2 * (t / 2) + 1 ≡ t = omega (arith, odd) in
    subst (λ t. test t ≡ true) is
    (all_below (λ k. test (2 * k + 1)) (steps / 2) (t / 2) all (omega (arith, odd, early)))

-- ---- the cells of a box

abbrev pub every_cell : Box2 → (ℤ → ℤ → Bool) → Bool
every_cell b test = list_all (λ c. test c.x c.y) (rectangle_cells b)

pub at_every : (b : Box2) (test : ℤ → ℤ → Bool) → every_cell b test ≡ true → (x y : ℤ) → in_box b x y ≡ true →
    test x y ≡ true
at_every b test all x y h = all_at (λ (c : Cell). test c.x c.y) (rectangle_cells b) (place_in b x y)
    (record { x = x; y = y }) all (box_place b x y h)

-- ---- the faults of a job

abbrev pub edge_test : JobView → Valuation → ℕ → Bool
edge_test j u t = every_cell j.area
    (λ x y. not (in_ring j.area x y) || beq (local_run j u t x y) (is_live u (signal_at j.edges t x y)))

abbrev pub end_test : JobView → Valuation → Bool
end_test j u = every_cell j.area (λ x y. meets u (job_demand j x y) (local_run j u j.steps x y))

abbrev pub stop_test : JobView → Valuation → Bool
stop_test j u = list_all (λ s. beq (local_run j u s.at.time s.at.cell.x s.at.cell.y) (u s.wire)) j.stops

-- all tests of a job if its wires have these values
abbrev pub values_test : JobView → Valuation → Bool
values_test j u = at_odd_times j.steps (edge_test j u) && (stop_test j u && end_test j u)

-- whether `evaluate` finds values and they pass all tests; it finds none if a gate has no row
abbrev pub found_test : JobView → Option (List Bool) → Bool
found_test j None = false
found_test j (Some vs) = values_test j (as_values vs)

-- the values of the cuts under an assignment
abbrev pub given_of : JobView → ℕ → List Bool
given_of j a = map (bit a) (range_with_len 0 j.locals.netlist.given)

-- all tests of a job, under each assignment
abbrev pub job_test : JobView → Bool
job_test j = list_all (λ a. found_test j (evaluate (given_of j a) j.locals.netlist.gates))
    (range_with_len 0 (assignments j))

-- it passes the tests at all odd times, at its stops, and at the last time
record Passes (j : JobView) (u : Valuation) : Type 0 where
  pub edges : (t : ℕ) → t % 2 ≡ 1 → t < j.steps → edge_test j u t ≡ true
  pub stops : stop_test j u ≡ true
  pub end : end_test j u ≡ true

record IsTried (j : JobView) (a : ℕ) : Type 0 where
  pub values : Valuation
  pub local : IsLocalValuation j.locals a values
  pub passes : Passes j values

tried : (j : JobView) → AreGatesOrdered j.locals.netlist.given j.locals.netlist.gates → job_test j ≡ true → (a : ℕ) →
    a < assignments j → IsTried j a
tried j ordered all a small =
    by (evaluate (given_of j a) j.locals.netlist.gates) refl
    (all_below (λ a. found_test j (evaluate (given_of j a) j.locals.netlist.gates)) (assignments j) a all small)
  where
    by : (o : Option (List Bool)) → evaluate (given_of j a) j.locals.netlist.gates ≡ o → found_test j o ≡ true →
        IsTried j a
    by None e h = absurd (false≢true h)
    by (Some vs) e h =
        let both = and_parts (at_odd_times j.steps (edge_test j (as_values vs))) _ h in
        let ends = and_parts (stop_test j (as_values vs)) (end_test j (as_values vs)) both.1 in
        let n = j.locals.netlist.given in
        record {
          values = as_values vs;
          local = (evaluated j.locals.netlist (bit a) (given_of j a) vs ordered
              (length-map (range_with_len 0 n) (bit a) ∙ length-range_with_len 0 n)
              (λ i lt. get_or-map-range_with_len (bit a) 0 n i i false lt (omega arith)) e).satisfies;
          passes = grind (arith, common_steps, at_odd);
        }

no_fault_under : (j : JobView) (u : Valuation) (t : ℕ) (kind : Kind) (x y : ℤ) → IsJob j → Passes j u →
    IsFaultUnderValues j u t kind x y → ⊥
no_fault_under j u t Edge x y is p f =
    f.differs ((booleans_Decides _ _).0 (implied (in_ring j.area x y) _
    (at_every j.area _ (p.edges t f.odd f.early) x y (ring_in_box j.area x y f.ring)) f.ring))
no_fault_under j u t Stop x y is p f = grind (arith, common_steps, slice_get-get_or, all_at)
no_fault_under j u t End x y is p f =
    f.differs (subst (λ n. MeetsDemand u (job_demand j x y) (local_run j u n x y)) (sym f.last)
    (meets_is u _ _ (at_every j.area _ p.end x y f.inside)))

no_fault : (j : JobView) → IsJob j → AreGatesOrdered j.locals.netlist.given j.locals.netlist.gates → job_test j ≡ true →
    (f : Fault) → ¬ IsFault j f
no_fault j is ordered all f fault =
    let t = tried j ordered all f.assignment fault.in_range in
    no_fault_under j t.values f.time f.kind f.cell.x f.cell.y is t.passes
    ((decided j f t.values is ordered fault.in_range t.local).0 fault)

no_keep_fault : (j : JobView) → AreGatesOrdered j.locals.netlist.given j.locals.netlist.gates → job_test j ≡ true →
    (f : KeepFault) → ¬ IsKeepFault j f
no_keep_fault j ordered all f fault =
    let t = tried j ordered all f.assignment fault.in_range in
    ∥∥₁_elim fault.shown (λ x y. absurd x)
    (λ u. undefined_has_none j.locals.netlist (bit f.assignment) t.values f.gate ordered u t.local)

-- ---- border faults

abbrev pub border_test : Setting → List ModuleLines → ℕ → Bool
border_test g ms t = list_all (λ (m : ModuleLines). every_cell (whole g.size) (λ x y. not (in_halo m.area x y)
    || list_all (λ (o : ModuleLines).
    not (in_box o.area x y) || same_signal (halo_signal g.circuit m t x y) (edge_signal g.circuit o t x y)) ms)) ms

no_border_fault : (g : Setting) (ms : List ModuleLines) → at_odd_times g.size.steps (border_test g ms) ≡ true →
    (i : ℕ) (f : BorderFault) → ¬ IsBorderFault g ms i f
no_border_fault g ms passes i f is = grind (arith, common_steps, all_at, at_odd, implied, at_every, signal_decides)

-- ---- all of it

-- some module keeps each inverse gate
abbrev pub kept_test : Setting → List ModuleLines → Bool
kept_test g ms = list_all (λ k. not (is_inverse_gate (slice_get g.circuit.netlist.gates k)) || is_kept ms k)
    (range_with_len 0 (length g.circuit.netlist.gates))

all_kept : (g : Setting) (ms : List ModuleLines) → kept_test g ms ≡ true → (k : ℕ) (gate : Gate) →
    slice_get g.circuit.netlist.gates k ≡ Some gate → IsTrue (is_inverse gate.kind) → IsTrue (is_kept ms k)
all_kept g ms all k gate at inverse =
    let gates = g.circuit.netlist.gates in
    implied (is_inverse_gate (slice_get gates k)) (is_kept ms k)
    (all_below (λ k. not (is_inverse_gate (slice_get gates k)) || is_kept ms k) (length gates) k all
    (slice_get_within gates k gate at))
    (ap is_inverse_gate at ∙ inverse)

-- all tests of modules and their jobs
pub record PassTests (g : Setting) (ms : List ModuleLines) (js : List JobView) : Type 0 where
  pub jobs : list_all job_test js ≡ true
  pub kept : kept_test g ms ≡ true
  pub borders : at_odd_times g.size.steps (border_test g ms) ≡ true
  pub on_time : are_all_timings_obeyed (delay_and_meet_lines g.circuit ms) ≡ true

pub accepts : (lines : List CircuitLine) (p : Pattern) (ms : List ModuleLines) (js : List JobView) →
    size_fault p.size ≡ None → AreModules (setting_of lines p) ms → AreJobsOf (circuit_of lines) p ms js →
    PassTests (setting_of lines p) ms js → Accepts (setting_of lines p) ms js
accepts lines p ms js limits are own pass = record {
  no_fault = λ k j f at. let good = jobs_good lines p ms js limits are own k j at in
      no_fault j good.0 good.1 (all_at job_test js k j pass.jobs at) f;
  no_border_fault = no_border_fault (setting_of lines p) ms pass.borders;
  no_keep_fault = λ k j f at. let good = jobs_good lines p ms js limits are own k j at in
      no_keep_fault j good.1 (all_at job_test js k j pass.jobs at) f;
  kept = all_kept (setting_of lines p) ms pass.kept;
  on_time = pass.on_time;
}
