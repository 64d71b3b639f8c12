-- A job has a least fault or none, and so for keep faults and border faults
use Rattle.lemmas.proofs.Common.{common_steps}
use Rattle.soundness.proofs.Imports.{AreGatesOrdered, Bool, BorderFault, Box2, Cell, Demand, Edge, End, Fault}
use Rattle.soundness.proofs.Imports.{IsBorderFault, IsFault, IsFaultUnderValues, IsJob, IsKeepFault, IsLeastBorderFault}
use Rattle.soundness.proofs.Imports.{IsLeastFault, IsLeastKeepFault, IsTrue, JobView, KeepFault, Kind, List}
use Rattle.soundness.proofs.Imports.{MeetsDemand, ModuleLines, None, Option, Setting, Some, Stop, Valuation, [], ap}
use Rattle.soundness.proofs.Imports.{arith, as_values, assignments, bit, border_fault_cmp, box_place, decided}
use Rattle.soundness.proofs.Imports.{edge_signal, fault_cmp, flat_map, get_or_from_slice_get, halo_signal, in_box}
use Rattle.soundness.proofs.Imports.{in_halo, in_ring, inl, inr, is_among, is_live, job_demand, local_run, map}
use Rattle.soundness.proofs.Imports.{range_with_len, rectangle_cells, refl, signal_at, slice_get, slice_get-get_or}
use Rattle.soundness.proofs.Imports.{slice_get_within, subst, true, undefined_has_none, whole, ℕ, ℤ, ∥∥₁_elim, ◌%◌, ◌+◌}
use Rattle.soundness.proofs.Imports.{◌<◌, ◌∙◌, ◌∷◌, ◌≡◌, ◌≢◌, ◌⊎◌}
use Rattle.circuit.proofs.Undefined.{stopped, undefined_is_one}
use Rattle.module_box.specs.LocalValues.{IsFirstLocalGateWithoutRow}
use Rattle.certificate_lines.proofs.LineOrder.{In, flat_in}
use Rattle.certificate.proofs.FullModules.{stands}
use Rattle.local_run.specs.Order.{keep_fault_cmp}
use Rattle.local_run.proofs.Leasts.{undefined_no_fault}
use Rattle.border_match.proofs.FaultOrder.{border_total}
use Rattle.soundness.proofs.SomeLeast.{Decided, HasOne, among_in, below_decided, bools_decided, both_decided}
use Rattle.soundness.proofs.SomeLeast.{decided_by, in_map, in_range, least_of_all, not_decided, numbers_decided}
use Rattle.soundness.proofs.SomeLeast.{some_decided, true_decided}
use Rattle.soundness.proofs.SomeValues.{HasStop, HasValues, values_or_stop}
use Rattle.bbm_rule.proofs.RingTests.{ring_in_box}
use Rattle.local_run.proofs.Least.{fault_total, keep_total}
use Rattle.module_job.specs.declared.job.Stop as listed

in_cells_of_box : (b : Box2) (d : Cell) → in_box b d.x d.y ≡ true → In d (rectangle_cells b)
in_cells_of_box b d h = stands (rectangle_cells b) _ d (box_place b d.x d.y h)

-- ---- whether a job has a fault, where its wires have these values

module _ (j : JobView) (u : Valuation) (t : ℕ) (x y : ℤ) where
  meets_decided : (d : Demand) (live : Bool) → Decided (MeetsDemand u d live)
  meets_decided d live = grind (arith, common_steps, bools_decided)

  abbrev IsMissed : listed.Stop → Type 0
  IsMissed s = (s.at.time ≡ t) × ((s.at.cell.x ≡ x) × ((s.at.cell.y ≡ y) × (local_run j u t x y ≢ u s.wire)))

  missed_decided : (s : listed.Stop) → Decided (IsMissed s)
  missed_decided s = grind (arith, common_steps, both_decided, numbers_decided, bools_decided)

  under_decided : (kind : Kind) → Decided (IsFaultUnderValues j u t kind x y)
  under_decided Edge = decided_by
      (λ h. record { odd = h.0; early = h.1.0; ring = h.1.1.0; differs = h.1.1.1 })
      (λ f. (f.odd, (f.early, (f.ring, f.differs))))
      (both_decided (numbers_decided (t % 2) 1) (λ _.
      both_decided (below_decided t j.steps) (λ _.
      both_decided (true_decided (in_ring j.area x y)) (λ _.
      not_decided (bools_decided (local_run j u t x y) (is_live u (signal_at j.edges t x y)))))))
  under_decided Stop = decided_by
      (grind (arith, common_steps, slice_get_within, get_or_from_slice_get))
      (λ f. record {
        number = f.is_listed.0;
        one = f.stop;
        at = slice_get-get_or j.stops f.is_listed.0 f.stop f.is_listed.1 ∙ ap Some f.is_listed.2;
        holds = (f.time, (f.column, (f.row, f.differs)));
      })
      (some_decided IsMissed missed_decided j.stops)
  under_decided End = decided_by
      (λ h. record { last = h.0; inside = h.1.0; differs = h.1.1 })
      (λ f. (f.last, (f.inside, f.differs)))
      (both_decided (numbers_decided t j.steps) (λ _.
      both_decided (true_decided (in_box j.area x y)) (λ _.
      not_decided (meets_decided (job_demand j x y) (local_run j u t x y)))))

-- ---- where and when faults are

module _ (j : JobView) (is : IsJob j) (ordered : AreGatesOrdered j.locals.netlist.given j.locals.netlist.gates) where
  abbrev Bounded : Fault → Type 0
  Bounded f = (f.time < j.steps + 1) × (in_box j.area f.cell.x f.cell.y ≡ true)

  bounded : (u : Valuation) (f : Fault) (kind : Kind) → IsFaultUnderValues j u f.time kind f.cell.x f.cell.y → Bounded f
  bounded u f kind h1 = grind (arith, common_steps, ring_in_box)

  abbrev kinds : List Kind
  kinds = Edge ∷ Stop ∷ End ∷ []

  abbrev fault_at : ℕ → Kind → Cell → ℕ → Fault
  fault_at t k d a = record { time = t; kind = k; cell = d; assignment = a }

  abbrev places_at : ℕ → Kind → List Fault
  places_at t k = flat_map (λ d. map (fault_at t k d) (range_with_len 0 (assignments j))) (rectangle_cells j.area)

  -- all that may be a fault
  abbrev places_of : List Fault
  places_of = flat_map (λ t. flat_map (places_at t) kinds) (range_with_len 0 (j.steps + 1))

  in_kinds : (k : Kind) → In k kinds
  unfolding In
  in_kinds k = grind (arith, common_steps)

  in_places : (f : Fault) → Bounded f → f.assignment < assignments j → In f places_of
  in_places f b small =
      flat_in (λ t. flat_map (places_at t) kinds) f (range_with_len 0 (j.steps + 1)) f.time
      (in_range (j.steps + 1) f.time b.0)
      (flat_in (places_at f.time) f kinds f.kind (in_kinds f.kind)
      (flat_in (λ d. map (fault_at f.time f.kind d) (range_with_len 0 (assignments j))) f
      (rectangle_cells j.area) f.cell
      (in_cells_of_box j.area f.cell b.1)
      (in_map (fault_at f.time f.kind f.cell) f.assignment (range_with_len 0 (assignments j))
      (in_range (assignments j) f.assignment small))))

  values_of : (a : ℕ) → HasValues j.locals.netlist (bit a) ordered ⊎ HasStop j.locals.netlist (bit a) ordered
  values_of a = values_or_stop j.locals.netlist (bit a) ordered

  undefined_at : (a : ℕ) (s : HasStop j.locals.netlist (bit a) ordered) → IsFirstLocalGateWithoutRow j.locals a s.0
  undefined_at a s = stopped j.locals.netlist (bit a) s.0 s.1 s.2

  fault_decided : (f : Fault) → Decided (IsFault j f)
  fault_decided f = elim (below_decided f.assignment (assignments j)) [
    | inr not_so ↦ inr (λ h. not_so h.in_range)
    | inl small ↦ elim (values_of f.assignment) [
      | inl v ↦
          let both = decided j f (as_values v.0) is ordered small v.1.satisfies in
          decided_by both.1 both.0 (under_decided j (as_values v.0) f.time f.cell.x f.cell.y f.kind)
      | inr s ↦ inr (undefined_no_fault j f s.0 ordered (undefined_at f.assignment s))
    ]
  ]

  fault_placed : (f : Fault) → IsFault j f → In f places_of
  fault_placed f h = elim (values_of f.assignment) [
    | inl v ↦ in_places f
        (bounded (as_values v.0) f f.kind ((decided j f (as_values v.0) is ordered h.in_range v.1.satisfies).0 h))
        h.in_range
    | inr s ↦ absurd (undefined_no_fault j f s.0 ordered (undefined_at f.assignment s) h)
  ]

  pub least_fault : (o : Option Fault) × IsLeastFault j o
  least_fault = least_of_all fault_cmp fault_total (IsFault j) fault_decided places_of fault_placed (IsLeastFault j)
      (λ none. none) (λ f is. is)

  -- ---- keep faults

  keep_at : (f : KeepFault) → f.assignment < assignments j → is_among j.kept f.gate ≡ true → Decided (IsKeepFault j f)
  keep_at f small kept = elim (values_of f.assignment) [
    | inl v ↦ inr (λ h. ∥∥₁_elim h.shown (λ x y. absurd x)
        (λ s. undefined_has_none j.locals.netlist (bit f.assignment) (as_values v.0) f.gate ordered s v.1.satisfies))
    | inr s ↦ elim (numbers_decided s.0 f.gate) [
      | inl same ↦ grind (arith, common_steps, in_range, undefined_at)
      | inr other ↦ inr (λ h. ∥∥₁_elim h.shown (λ x y. absurd x)
          (λ r. other (undefined_is_one j.locals.netlist (bit f.assignment) s.0 f.gate ordered
          (undefined_at f.assignment s) r)))
    ]
  ]

  keep_decided : (f : KeepFault) → Decided (IsKeepFault j f)
  keep_decided f = elim (below_decided f.assignment (assignments j)) [
    | inr not_so ↦ inr (λ h. not_so h.in_range)
    | inl small ↦ elim (true_decided (is_among j.kept f.gate)) [
      | inr not_so ↦ inr (λ h. not_so h.is_kept)
      | inl kept ↦ keep_at f small kept
    ]
  ]

  abbrev keep_of : ℕ → ℕ → KeepFault
  keep_of k a = record { gate = k; assignment = a }

  abbrev keeps_of : List KeepFault
  keeps_of = flat_map (λ k. map (keep_of k) (range_with_len 0 (assignments j))) j.kept

  keep_placed : (f : KeepFault) → IsKeepFault j f → In f keeps_of
  keep_placed f h =
      flat_in (λ k. map (keep_of k) (range_with_len 0 (assignments j))) f j.kept f.gate
      (among_in j.kept f.gate h.is_kept)
      (in_map (keep_of f.gate) f.assignment (range_with_len 0 (assignments j))
      (in_range (assignments j) f.assignment h.in_range))

  pub least_keep_fault : (o : Option KeepFault) × IsLeastKeepFault j o
  least_keep_fault = least_of_all keep_fault_cmp keep_total (IsKeepFault j) keep_decided keeps_of keep_placed
      (IsLeastKeepFault j) (λ none. none) (λ f is. is)

-- ---- border faults

module _ (g : Setting) (ms : List ModuleLines) (i : ℕ) where
  abbrev IsOtherwise : ModuleLines → BorderFault → ModuleLines → Type 0
  IsOtherwise m f o = IsTrue (in_box o.area f.cell.x f.cell.y)
      × (halo_signal g.circuit m f.time f.cell.x f.cell.y ≢ edge_signal g.circuit o f.time f.cell.x f.cell.y)

  abbrev IsBorderFaultOf : ModuleLines → BorderFault → Type 0
  IsBorderFaultOf m f = (f.time % 2 ≡ 1) × ((f.time < g.size.steps) × (IsTrue (in_box (whole g.size) f.cell.x f.cell.y)
      × (IsTrue (in_halo m.area f.cell.x f.cell.y) × HasOne (IsOtherwise m f) ms)))

  of_module_decided : (m : ModuleLines) (f : BorderFault) → Decided (IsBorderFaultOf m f)
  of_module_decided m f =
      both_decided (numbers_decided (f.time % 2) 1) (λ _.
      both_decided (below_decided f.time g.size.steps) (
      grind (arith, common_steps, both_decided, true_decided, some_decided)))

  to_fault : (m : ModuleLines) (f : BorderFault) → slice_get ms i ≡ Some m → IsBorderFaultOf m f →
      IsBorderFault g ms i f
  to_fault m f at h = grind (arith, common_steps)

  of_fault : (f : BorderFault) (h : IsBorderFault g ms i f) → IsBorderFaultOf h.lines f
  of_fault f h = grind (arith, common_steps)

  same_module : (m n : ModuleLines) → slice_get ms i ≡ Some m → slice_get ms i ≡ Some n → n ≡ m
  same_module m n at there = cc

  border_decided : (o : Option ModuleLines) → slice_get ms i ≡ o → (f : BorderFault) → Decided (IsBorderFault g ms i f)
  border_decided None e f = inr (λ h. none h.lines h.numbered)
    where
      none : (m : ModuleLines) → slice_get ms i ≡ Some m → ⊥
      none m at = cc
  border_decided (Some m) e f = decided_by (to_fault m f e)
      (λ h. subst (λ n. IsBorderFaultOf n f) (same_module m h.lines e h.numbered) (of_fault f h))
      (of_module_decided m f)

  abbrev border_at : ℕ → Cell → BorderFault
  border_at t d = record { time = t; cell = d }

  abbrev borders_of : List BorderFault
  borders_of = flat_map (λ t. map (border_at t) (rectangle_cells (whole g.size))) (range_with_len 0 g.size.steps)

  border_placed : (f : BorderFault) → IsBorderFault g ms i f → In f borders_of
  border_placed f h =
      flat_in (λ t. map (border_at t) (rectangle_cells (whole g.size))) f (range_with_len 0 g.size.steps) f.time
      (in_range g.size.steps f.time h.early)
      (in_map (border_at f.time) f.cell (rectangle_cells (whole g.size))
      (in_cells_of_box (whole g.size) f.cell h.inside))

  pub least_border_fault : (o : Option BorderFault) × IsLeastBorderFault g ms i o
  least_border_fault = least_of_all border_fault_cmp border_total (IsBorderFault g ms i)
      (border_decided (slice_get ms i) refl) borders_of border_placed (IsLeastBorderFault g ms i) (λ none. none)
      (λ f is. is)
