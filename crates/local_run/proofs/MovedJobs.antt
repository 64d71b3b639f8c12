-- Jobs of the same shape have the same faults but for where they lie
use Rattle.local_run.proofs.Imports.{Box2, Contains, Edge, End, Fault, HasFaultWitness, IsFault, IsFaultUnderValues}
use Rattle.local_run.proofs.Imports.{IsJob, IsKeepFault, JobView, KeepFault, Kind, List, Netlist, None, ShapeView}
use Rattle.local_run.proofs.Imports.{Signals, Some, State, Stop, Valuation, [], and_parts, ap, ap₂, arith, cases_Bool}
use Rattle.local_run.proofs.Imports.{common_steps, fault_cmp, if◌then◌else◌, in_box, in_ring, ints, is_live, job_demand}
use Rattle.local_run.proofs.Imports.{job_start, local_run, moved_signals, place_in, pos, props, refl, shape_of}
use Rattle.local_run.proofs.Imports.{shift_to_origin, signal_at, signals_moved, slice_get, subst, suc, sym, true}
use Rattle.local_run.proofs.Imports.{unwrap_or, with_halo, zero, ℕ, ℤ, ∥∥₁_elim, ∥∥₁_map, ◌%◌, ◌&&◌, ◌+ℤ◌, ◌-ℤ◌}
use Rattle.local_run.proofs.Imports.{◌-◌, ◌<◌, ◌^◌, ◌||◌, ◌∙◌, ◌∷◌, ◌≡◌, ◌≤◌}
use Rattle.lemmas.proofs.Common.{map}
use Rattle.bbm_rule.specs.Moves.{IsStateMovedBy}
use Rattle.bbm_rule.specs.Plane.{parity}
use Rattle.bbm_rule.proofs.Moving.{parity_moved, step_moved}
use Rattle.bbm_rule.specs.Boxes.{IsEvenBox}
use Rattle.module_box.specs.Moves.{RingAndHaloMoveAlong, IsMovedBox, IsCellInShiftRange, moved_cell}
use Rattle.module_box.proofs.BoxCells.{in_box_nats, small_number}
use Rattle.module_box.proofs.MovedBoxes.{boxes_moved, cell_back, cell_cmp_moved}
use Rattle.module_job.specs.Shapes.{moved_stop}
use Rattle.module_job.proofs.ShapeParts.{back_forth, stops_back}
use Rattle.local_run.specs.Moves.{FaultsMoveWithJob, LeastFaultMovesWithJob, SameShapeSameLeastKeepFault}
use Rattle.local_run.specs.Moves.{columns_between, fault_moved_to_job, rows_between}
use Rattle.local_run.proofs.LocalRuns.{even_or_odd, local_even, local_odd}
use Rattle.module_job.specs.declared.job.Stop as listed

-- ---- what is alike in two jobs where the faults of one are those of the other, moved
record AreAlike (dx dy : ℤ) (j k : JobView) : Type 0 where
  even_x : parity dx ≡ 0
  even_y : parity dy ≡ 0
  area : RingAndHaloMoveAlong dx dy j.area k.area
  steps : j.steps ≡ k.steps
  netlist : j.locals.netlist ≡ k.locals.netlist
  start : (x y : ℤ) → job_start k (x +ℤ dx) (y +ℤ dy) ≡ job_start j x y
  demand : (x y : ℤ) → job_demand k (x +ℤ dx) (y +ℤ dy) ≡ job_demand j x y
  edges : (t : ℕ) (x y : ℤ) → signal_at k.edges t (x +ℤ dx) (y +ℤ dy) ≡ signal_at j.edges t x y
  halos : (t : ℕ) (x y : ℤ) → signal_at k.halos t (x +ℤ dx) (y +ℤ dy) ≡ signal_at j.halos t x y
  stops : k.stops ≡ map (moved_stop dx dy) j.stops

halo_alike : (dx dy : ℤ) (j k : JobView) → AreAlike dx dy j k → (u : Valuation) (t : ℕ) (s s' : State) →
    IsStateMovedBy dx dy s s' → IsStateMovedBy dx dy (with_halo j u t s) (with_halo k u t s')
unfolding with_halo
halo_alike dx dy j k a u t s s' m x y = λ i. m x y i || (a.area.halo x y i && is_live u (a.halos t x y i))

run_alike : (dx dy : ℤ) (j k : JobView) → AreAlike dx dy j k → (u : Valuation) (t : ℕ) →
    IsStateMovedBy dx dy (local_run j u t) (local_run k u t)
unfolding local_run
run_alike dx dy j k a u zero x y = ap (is_live u) (a.start x y)
run_alike dx dy j k a u (suc t) x y =
    let before : IsStateMovedBy dx dy (local_run j u t) (local_run k u t) = run_alike dx dy j k a u t in
    grind (arith, common_steps, even_or_odd, local_even, step_moved, local_odd, halo_alike)

contains_mapped : {X Y : Type 0} (f : X → Y) (xs : List X) (x : X) → Contains xs x → Contains (map f xs) (f x)
contains_mapped f xs x h = grind (arith, common_steps)

under_alike : (dx dy : ℤ) (j k : JobView) → AreAlike dx dy j k → (u : Valuation) (t : ℕ) (kind : Kind) (x y : ℤ) →
    IsFaultUnderValues j u t kind x y → IsFaultUnderValues k u t kind (x +ℤ dx) (y +ℤ dy)
under_alike dx dy j k a u t Edge x y f = grind (arith, common_steps, run_alike)
under_alike dx dy j k a u t Stop x y f = record {
  stop = moved_stop dx dy f.stop;
  is_listed = subst (λ (l : List listed.Stop). Contains l (moved_stop dx dy f.stop)) (sym a.stops)
      (contains_mapped (moved_stop dx dy) j.stops f.stop f.is_listed);
  time = f.time;
  column = ap (λ z. z +ℤ dx) f.column;
  row = ap (λ z. z +ℤ dy) f.row;
  differs = λ e. f.differs (sym (run_alike dx dy j k a u t x y) ∙ e);
}
under_alike dx dy j k a u t End x y f = grind (arith, common_steps, run_alike)

moved_fault : ℤ → ℤ → Fault → Fault
moved_fault dx dy f = record { time = f.time; kind = f.kind; cell = moved_cell dx dy f.cell; assignment = f.assignment }

fault_alike : (dx dy : ℤ) (j k : JobView) → AreAlike dx dy j k → (f : Fault) → IsFault j f →
    IsFault k (moved_fault dx dy f)
unfolding moved_fault
fault_alike dx dy j k a f is = record {
  in_range = subst (λ (n : Netlist). f.assignment < 2 ^ n.given) a.netlist is.in_range;
  shown = ∥∥₁_map is.shown moved;
}
  where
    moved : HasFaultWitness j f → HasFaultWitness k (moved_fault dx dy f)
    moved h = grind (arith, common_steps, under_alike)

-- ---- jobs of the same shape are alike
apart_back : (a b : ℕ) → (pos b -ℤ pos a) +ℤ pos a ≡ pos b
apart_back a b = omega (arith, ints)

apart_forth : (a b : ℕ) → pos b ≡ pos a +ℤ (pos b -ℤ pos a)
apart_forth a b = omega (arith, ints)

apart_even : (a b : ℕ) → a % 2 ≡ 0 → b % 2 ≡ 0 → parity (pos b -ℤ pos a) ≡ 0
apart_even a b e f = sym (parity_moved (pos b -ℤ pos a) (pos a) e) ∙ ap parity (apart_back a b) ∙ f

same_way : (z : ℤ) (a b : ℕ) → z +ℤ shift_to_origin a ≡ (z +ℤ (pos b -ℤ pos a)) +ℤ shift_to_origin b
same_way z a b = omega (arith, ints)

twice : (z : ℤ) (a b : ℕ) → (z +ℤ shift_to_origin a) +ℤ pos b ≡ z +ℤ (pos b -ℤ pos a)
twice z a b = omega (arith, ints)

place_number : (f f' n m : ℕ) (z d : ℤ) → pos f' ≡ pos f +ℤ d → z ≡ pos n → z +ℤ d ≡ pos m → f ≤ n → f' ≤ m →
    m - f' ≡ n - f
place_number f f' n m z d e p q l l' = omega (arith, ints, e, p, q, l, l')

place_moved : (dx dy : ℤ) (b b' : Box2) (x y : ℤ) → IsMovedBox dx dy b b' → in_box b x y ≡ true →
    in_box b' (x +ℤ dx) (y +ℤ dy) ≡ true → place_in b' (x +ℤ dx) (y +ℤ dy) ≡ place_in b x y
place_moved dx dy b b' x y m h h' = grind (arith, common_steps, in_box_nats, place_number)

-- what a list has for the cells of a box
looked_up : {A : Type 0} (dx dy : ℤ) (b b' : Box2) (other : A) (xs xs' : List A) → IsMovedBox dx dy b b' →
    RingAndHaloMoveAlong dx dy b b' → xs' ≡ xs → (x y : ℤ) →
    (if in_box b' (x +ℤ dx) (y +ℤ dy) then unwrap_or (slice_get xs' (place_in b' (x +ℤ dx) (y +ℤ dy))) other else other)
    ≡ (if in_box b x y then unwrap_or (slice_get xs (place_in b x y)) other else other)
looked_up dx dy b b' other xs xs' m along same x y = grind (arith, common_steps, cases_Bool, place_moved)

carried_on : (a b c d : ℕ) (s s' : Signals) →
    moved_signals (shift_to_origin a) (shift_to_origin c) s ≡ moved_signals (shift_to_origin b) (shift_to_origin d) s' →
    (t : ℕ) (x y : ℤ) → signal_at s' t (x +ℤ (pos b -ℤ pos a)) (y +ℤ (pos d -ℤ pos c)) ≡ signal_at s t x y
carried_on a b c d s s' e t x y =
    sym (signals_moved (shift_to_origin b) (shift_to_origin d) s' t (x +ℤ (pos b -ℤ pos a)) (y +ℤ (pos d -ℤ pos c)))
    ∙ ap₂ (λ p q. signal_at (moved_signals (shift_to_origin b) (shift_to_origin d) s') t p q) (sym (same_way x a b))
    (sym (same_way y c d))
    ∙ ap (λ r. signal_at r t (x +ℤ shift_to_origin a) (y +ℤ shift_to_origin c)) (sym e)
    ∙ signals_moved (shift_to_origin a) (shift_to_origin c) s t x y

stops_twice : (a b c d : ℕ) (ss : List listed.Stop) →
    map (moved_stop (pos b) (pos d)) (map (moved_stop (shift_to_origin a) (shift_to_origin c)) ss)
    ≡ map (moved_stop (pos b -ℤ pos a) (pos d -ℤ pos c)) ss
stops_twice a b c d [] = refl
stops_twice a b c d (s ∷ ss) = grind (arith, common_steps, stops_twice a b c d ss, twice)

alike : (j k : JobView) → IsEvenBox j.area → IsEvenBox k.area → shape_of j ≡ shape_of k →
    AreAlike (columns_between j k) (rows_between j k) j k
unfolding job_start job_demand
alike j k ej ek same =
    let dx : ℤ = columns_between j k in
    let dy : ℤ = rows_between j k in
    let box : IsMovedBox dx dy j.area k.area = record {
      x = apart_forth j.area.x k.area.x;
      y = apart_forth j.area.y k.area.y;
      w = ap (λ (s : ShapeView). s.width) (sym same);
      h = ap (λ (s : ShapeView). s.height) (sym same);
    } in
    let along : RingAndHaloMoveAlong dx dy j.area k.area = boxes_moved dx dy j.area k.area box in
    grind (arith, common_steps, apart_even, looked_up, carried_on, stops_back, back_forth, stops_twice)

pub faults_moved : FaultsMoveWithJob
unfolding moved_fault
faults_moved j k f is_j is_k same is = grind (arith, common_steps, fault_alike, alike)

-- ---- the least fault
there_and_back : (a b : ℕ) → (pos b -ℤ pos a) +ℤ (pos a -ℤ pos b) ≡ pos 0
there_and_back a b = omega (arith, ints)

fault_back : (j k : JobView) (f : Fault) → fault_moved_to_job j k (fault_moved_to_job k j f) ≡ f
fault_back j k f = grind (arith, common_steps, cell_back, there_and_back)

cmp_on : (j k : JobView) (f g : Fault) → fault_cmp (fault_moved_to_job j k f) (fault_moved_to_job j k g) ≡ fault_cmp f g
unfolding fault_cmp
cmp_on j k f g = grind (arith, common_steps, cell_cmp_moved)

pub least_moved : LeastFaultMovesWithJob
least_moved j k None is_j is_k same least =
    λ f is. least (fault_moved_to_job k j f) (faults_moved k j f is_k is_j (sym same) is)
least_moved j k (Some f) is_j is_k same least = (
  faults_moved j k f is_j is_k same least.0,
  λ g is greater. least.1 (fault_moved_to_job k j g) (faults_moved k j g is_k is_j (sym same) is)
      (sym (cmp_on j k f (fault_moved_to_job k j g)) ∙ ap (fault_cmp (fault_moved_to_job j k f)) (fault_back j k g)
      ∙ greater),
)

-- ---- keep faults say nothing of places
keep_stays : (j k : JobView) (f : KeepFault) → shape_of j ≡ shape_of k → IsKeepFault j f → IsKeepFault k f
keep_stays j k f same is = grind (arith, common_steps)

pub least_keep_stays : SameShapeSameLeastKeepFault
least_keep_stays j k None same least = λ f is. least f (keep_stays k j f (sym same) is)
least_keep_stays j k (Some f) same least = grind (arith, common_steps, keep_stays)

-- ---- the cell of a fault is in the box, and so near
under_inside : (j : JobView) (u : Valuation) (t : ℕ) (kind : Kind) (x y : ℤ) → IsJob j →
    IsFaultUnderValues j u t kind x y → in_box j.area x y ≡ true
unfolding in_ring
under_inside j u t Edge x y is f = (and_parts _ _ f.ring).0
under_inside j u t Stop x y is f = grind (arith, common_steps)
under_inside j u t End x y is f = f.inside

fault_inside : (j : JobView) (f : Fault) → IsJob j → IsFault j f → in_box j.area f.cell.x f.cell.y ≡ true
fault_inside j f is fault = ∥∥₁_elim fault.shown (Prim.hlevel props)
    (λ h. under_inside j h.values f.time f.kind f.cell.x f.cell.y is h.differs)

pub fault_near : (j : JobView) (f : Fault) → IsJob j → IsFault j f → IsCellInShiftRange f.cell
fault_near j f is fault =
    let p = in_box_nats j.area f.cell.x f.cell.y (fault_inside j f is fault) in
    let px = p.0 in let py = p.1 in grind (arith, common_steps, small_number)
