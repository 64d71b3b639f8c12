-- The first fault is one of the whole plane
use Rattle.soundness.proofs.Imports.{All, All-cons, All-contains, All-nil, BelongTogether, Bool, Cell, Circuit}
use Rattle.soundness.proofs.Imports.{CircuitLine, Contains, Demand, Fault, IsModuleAssignmentOf, HasGoodBorders}
use Rattle.soundness.proofs.Imports.{HasInputNames, IsAssignmentOf, IsCellAsCertified, IsCorrect, IsFaultUnderValues}
use Rattle.soundness.proofs.Imports.{IsAllowedStop, IsFirstFault, IsJobOf, IsModule, IsRunOfJobs, JobView, Kind, List}
use Rattle.soundness.proofs.Imports.{LocalNet, LooksAsAsked, MeetsDemand, ModuleLines, None, Option, Pattern, Port}
use Rattle.soundness.proofs.Imports.{Satisfies, Some, State, StopLine, Valuation, [], ap, ap₂, arith, bit}
use Rattle.soundness.proofs.Imports.{cases_Bool, cell_same, circuit_of, circuit_wire, common_steps, cut_wires, cuts}
use Rattle.soundness.proofs.Imports.{demand_outside_mirrors, end_demand, false, flat_map, get_or_from_slice_get, in_box}
use Rattle.soundness.proofs.Imports.{in_cells, in_ports, in_rectangles, inl, inr, is_cell_at, job_demand, kept}
use Rattle.soundness.proofs.Imports.{known, length, local_run, local_values_agree_with_circuit, netlist_of, none_stands}
use Rattle.soundness.proofs.Imports.{nothing_prop, option_map_or, option_to_list, passed, port_at, port_stands, refl}
use Rattle.soundness.proofs.Imports.{renumber_demand, renumber_stop, run_under, same_Some, setting_of, slice_get}
use Rattle.soundness.proofs.Imports.{slice_get_within, slice_index, some_at, stop_with_wire_number, stops}
use Rattle.soundness.proofs.Imports.{stops_of_lines, subst, suc, sym, true, values_by_local_number, values_by_name}
use Rattle.soundness.proofs.Imports.{wire_of, wire_or_dead, zero, ℕ, ℤ, ∥∥₁_elim, ◌++◌, ◌<◌, ◌∙◌, ◌∷◌, ◌≡◌, ◌≤◌}
use Rattle.lemmas.proofs.Common.{all_unmapped}
use Rattle.local_run.specs.Faults.{HasFaultWitness}
use Rattle.local_run.proofs.Decided.{fault_same}
use Rattle.soundness.specs.FirstFaults.{EndFaultMeansIncorrect, FirstFaultIsReal, IsRealFault}
use Rattle.soundness.proofs.InputRuns.{at_place, inputs_decide}
use Rattle.soundness.proofs.JobSignals.{Known, edge_by_circuit}
use Rattle.soundness.proofs.StopParts.{all_flat}
use Rattle.soundness.proofs.WholeRuns.{starts, steps_with_good_borders}
use Rattle.module_job.specs.declared.job.Stop as listed
use Rattle.local_run.specs.declared.fault.Kind.TheVariants.{Edge, End, Stop as AtStop}
use Rattle.bbm_rule.proofs.RingTests.{ring_in_box}

-- up to a time before which the borders are good, the plane is the jobs' runs
pub runs_up_to : (lines : List CircuitLine) (p : Pattern) (ms : List ModuleLines) (jobs : List JobView)
    (inputs v : Valuation) (t : ℕ) → BelongTogether lines p ms jobs → Satisfies (netlist_of lines) inputs v →
    t ≤ p.size.steps → ((s : ℕ) → s < t → HasGoodBorders lines p ms jobs v s) → IsRunOfJobs lines p jobs v t
runs_up_to lines p ms jobs inputs v zero b s h good = starts lines p ms jobs v b
runs_up_to lines p ms jobs inputs v (suc t) b s h good =
    steps_with_good_borders lines p ms jobs inputs v t b s (omega arith) (good t (omega arith))
    (runs_up_to lines p ms jobs inputs v t b s (omega arith) (λ r lt. good r (omega arith)))

-- ---- the stops of a job are the stop lines of its module

abbrev stop_at : StopLine → ℕ → listed.Stop
stop_at s w = record { at = record { time = s.time; cell = s.cell }; wire = w }

all_numbered : (P : listed.Stop → Type 0) (s : StopLine) (o : Option ℕ) → ((w : ℕ) → o ≡ Some w → P (stop_at s w)) →
    All P (stop_with_wire_number s o)
all_numbered P s None h = All-nil P
all_numbered P s (Some w) h = All-cons P (stop_at s w) [] (h w refl) (All-nil P)

pub stop_by_lines : (c : Circuit) (p : Pattern) (m : ModuleLines) (j : JobView) (P : listed.Stop → Type 0) →
    IsJobOf c p m j →
    ((k : ℕ) (s : StopLine) → slice_get (stops m) k ≡ Some s → (w : ℕ) → wire_of c s.wire ≡ Some w → P (stop_at s w)) →
    (s : listed.Stop) → Contains j.stops s → P (renumber_stop (circuit_wire j.locals) s)
stop_by_lines c p m j P is h s has =
    let all : All P (stops_of_lines c (stops m)) =
    all_flat P (λ s. stop_with_wire_number s (wire_of c s.wire)) (stops m) (λ k s at.
    all_numbered P s (wire_of c s.wire) (h k s at)) in
    All-contains (λ r. P (renumber_stop (circuit_wire j.locals) r)) j.stops s
    (all_unmapped P (renumber_stop (circuit_wire j.locals)) j.stops (subst (All P) (sym is.stops) all)) has

-- ---- a fault under values of the circuit is one of the plane

meets_own : (l : LocalNet) (v : Valuation) (d : Demand) (live : Bool) →
    MeetsDemand v (renumber_demand (circuit_wire l) d) live → MeetsDemand (values_by_local_number l v) d live
meets_own l v d live h1 = grind (arith, common_steps)

-- what the stop says of the cell and the time
record IsStopThere (p : Pattern) (m : ModuleLines) (v : Valuation) (state : State) (t : ℕ) (x y : ℤ)
    (r : listed.Stop) : Type 0 where
  time : r.at.time ≤ p.size.steps
  inside : in_box m.area r.at.cell.x r.at.cell.y ≡ true
  same : r.at.time ≡ t → r.at.cell.x ≡ x → r.at.cell.y ≡ y → state x y ≡ v r.wire

pub real : (lines : List CircuitLine) (p : Pattern) (ms : List ModuleLines) (jobs : List JobView) (inputs v : Valuation)
    (i : ℕ) (m : ModuleLines) (j : JobView) (t : ℕ) (kind : Kind) (x y : ℤ) → BelongTogether lines p ms jobs →
    slice_get ms i ≡ Some m → slice_get jobs i ≡ Some j → Satisfies (netlist_of lines) inputs v →
    ((s : ℕ) → s < t → HasGoodBorders lines p ms jobs v s) →
    IsFaultUnderValues j (values_by_local_number j.locals v) t kind x y →
    ¬ IsCellAsCertified (circuit_of lines) p m v t kind x y
real lines p ms jobs inputs v i m j t Edge x y b atm atj s good f said =
    let is : IsJobOf (circuit_of lines) p m j = b.are_jobs.each i m j atm atj in
    let k : Known lines p ms i j = record { of = m; numbered = atm; is_job = is; good = b.are_modules.each i m atm } in
    let early : t < p.size.steps = subst (λ n. t < n) is.steps f.early in
    let now = runs_up_to lines p ms jobs inputs v t b s (omega (arith, early)) good in
    f.differs (sym (now.inside i j atj x y (ring_in_box j.area x y f.ring)) ∙ said ∙
    sym (edge_by_circuit lines p ms i j v t x y k))
real lines p ms jobs inputs v i m j t AtStop x y b atm atj s good f said =
    let is : IsJobOf (circuit_of lines) p m j = b.are_jobs.each i m j atm atj in
    let P : listed.Stop → Type 0 = IsStopThere p m v (run_under (circuit_of lines) p v t) t x y in
    let its : P (renumber_stop (circuit_wire j.locals) f.stop) = stop_by_lines (circuit_of lines) p m j P is
    (λ k s at w named.
    let line : IsAllowedStop (setting_of lines p) m.area (known (circuit_of lines) m) s = at_place
    (IsAllowedStop (setting_of lines p) m.area (known (circuit_of lines) m)) (stops m) k s
    (b.are_modules.each i m atm).stop_lines at in
    record {
      time = line.time;
      inside = line.inside;
      same = λ time column row. said s (k, slice_get_within (stops m) k s at, get_or_from_slice_get (stops m) k s s at)
          time column row ∙ ap (λ o. option_map_or v o false) named;
    }) f.stop f.is_listed in
    let inside : in_box j.area x y ≡ true =
    ap (λ a. in_box a x y) is.area ∙ ap₂ (in_box m.area) (sym f.column) (sym f.row) ∙ its.inside in
    let within = its.time in let at_time = f.time in
    let now = runs_up_to lines p ms jobs inputs v t b s (omega (arith, within, at_time)) good in
    f.differs (sym (now.inside i j atj x y inside) ∙ its.same f.time f.column f.row)
real lines p ms jobs inputs v i m j t End x y b atm atj s good f said =
    let is : IsJobOf (circuit_of lines) p m j = b.are_jobs.each i m j atm atj in
    let last = f.last ∙ is.steps in
    let now = runs_up_to lines p ms jobs inputs v t b s (omega (arith, last)) good in
    let here : in_box m.area x y ≡ true = ap (λ a. in_box a x y) (sym is.area) ∙ f.inside in
    let Q : Bool → Type 0 = λ b. MeetsDemand v (end_demand (circuit_of lines) p x y) b in
    let R : Demand → Type 0 = λ d. MeetsDemand v d (local_run j (values_by_local_number j.locals v) t x y) in
    f.differs (meets_own j.locals v (job_demand j x y) _ (subst R (sym (is.demand x y here))
    (subst Q (now.inside i j atj x y f.inside) said)))

-- ---- under any values of the module's wires it is one

pub seen_fault : (lines : List CircuitLine) (p : Pattern) (m : ModuleLines) (inputs v : Valuation) (j : JobView)
    (f : Fault) → IsJobOf (circuit_of lines) p m j →
    Satisfies (netlist_of lines) inputs v → IsAssignmentOf j v f.assignment → HasFaultWitness j f →
    IsFaultUnderValues j (values_by_local_number j.locals v) f.time f.kind f.cell.x f.cell.y
seen_fault lines p m inputs v j f is s under h =
    let agree = local_values_agree_with_circuit
    (netlist_of lines) j.locals inputs v f.assignment is.locals s under.bits in
    fault_same j h.values (values_by_local_number j.locals v) f.time f.kind f.cell.x f.cell.y is.own
    (agree.only h.values h.local)
    h.differs

pub first_is_real : FirstFaultIsReal
first_is_real lines p ms jobs inputs v i m f first said =
    ∥∥₁_elim first.fault.shown nothing_prop (λ h.
    real lines p ms jobs inputs v i m first.job f.time f.kind f.cell.x f.cell.y first.bundle first.lines_are
    first.numbered first.satisfied first.before
    (seen_fault lines p m inputs v first.job f (first.bundle.are_jobs.each i m first.job first.lines_are first.numbered)
    first.satisfied first.under h) said)

-- ---- a plane that looks as asked meets each demand

meets_wire : (v : Valuation) (o : Option ℕ) (live : Bool) → live ≡ option_map_or v o false →
    MeetsDemand v (wire_or_dead o) live
meets_wire v o live h1 = grind (arith, common_steps)

no_port_there : (ports : List Port) (x y : ℤ) → port_at ports x y ≡ None → in_ports ports x y ≡ false
no_port_there ports x y none = elim (cases_Bool (in_ports ports x y)) [
  | inl h ↦ let s = passed (λ (q : Port). is_cell_at q.cell x y) ports h in
      absurd (none_stands ports x y none s.place s.element s.stands s.passes)
  | inr h ↦ h
]

off_mirrors : (c : Circuit) (p : Pattern) (v : Valuation) (state : State) (x y : ℤ) (o : Option (List ℕ))
    (waste : Bool) → LooksAsAsked p (values_by_name c v) state →
    in_rectangles p.mirrors x y ≡ false → port_at p.outs x y ≡ o → in_cells p.wastes x y ≡ waste →
    MeetsDemand v (demand_outside_mirrors c o waste) (state x y)
off_mirrors c p v state x y (Some n) waste looks mirror port some_at =
    let s = port_stands p.outs x y n port in
    let cell : s.port.cell ≡ record { x = x; y = y } = cell_same s.port.cell (record { x = x; y = y }) s.stands in
    meets_wire v (wire_of c n) (state x y) (sym (ap (λ (d : Cell). state d.x d.y) cell) ∙
    looks.outputs s.number s.port s.numbered ∙ ap (values_by_name c v) s.named)
off_mirrors c p v state x y None true looks mirror port some_at = tt
off_mirrors c p v state x y None false looks mirror port some_at = grind (arith, common_steps, no_port_there, some_at)

pub asked_meets : (c : Circuit) (p : Pattern) (v : Valuation) (state : State) (x y : ℤ) →
    LooksAsAsked p (values_by_name c v) state → MeetsDemand v (end_demand c p x y) (state x y)
unfolding end_demand
asked_meets c p v state x y looks = grind (arith, common_steps, cases_Bool, off_mirrors)

end_last : (j : JobView) (u : Valuation) (t : ℕ) (kind : Kind) (x y : ℤ) → kind ≡ End →
    IsFaultUnderValues j u t kind x y → t ≡ j.steps
end_last j u t kind x y h1 h2 = grind (arith, common_steps)

end_said : (c : Circuit) (p : Pattern) (m : ModuleLines) (v : Valuation) (t : ℕ) (kind : Kind) (x y : ℤ) → kind ≡ End →
    MeetsDemand v (end_demand c p x y) (run_under c p v t x y) → IsCellAsCertified c p m v t kind x y
end_said c p m v t kind x y h1 h2 = grind (arith, common_steps)

-- what looks as asked has no fault at its end
asked_at : (lines : List CircuitLine) (p : Pattern) (inputs v : Valuation) (x y : ℤ) → HasInputNames lines p →
    Satisfies (netlist_of lines) inputs v →
    LooksAsAsked p (values_by_name (circuit_of lines) v) (run_under (circuit_of lines) p inputs p.size.steps) →
    MeetsDemand v (end_demand (circuit_of lines) p x y) (run_under (circuit_of lines) p v p.size.steps x y)
asked_at lines p inputs v x y named s looks =
    let c = circuit_of lines in
    let Q : Bool → Type 0 = λ b. MeetsDemand v (end_demand c p x y) b in
    subst Q (sym (inputs_decide lines p inputs v p.size.steps x y named s))
    (asked_meets c p v (run_under c p inputs p.size.steps) x y looks)

pub correct_meets : (lines : List CircuitLine) (p : Pattern) (inputs v : Valuation) (x y : ℤ) → HasInputNames lines p →
    Satisfies (netlist_of lines) inputs v → IsCorrect lines p →
    MeetsDemand v (end_demand (circuit_of lines) p x y) (run_under (circuit_of lines) p v p.size.steps x y)
correct_meets lines p inputs v x y named s correct =
    asked_at lines p inputs v x y named s ((correct.implements inputs).looks v s)

-- a first fault is real
pub first_means : (lines : List CircuitLine) (p : Pattern) (ms : List ModuleLines) (jobs : List JobView)
    (inputs v : Valuation) (i : ℕ) (m : ModuleLines) (f : Fault) → HasInputNames lines p →
    IsFirstFault lines p ms jobs inputs v i m f → IsRealFault lines p m inputs v f
first_means lines p ms jobs inputs v i m f named first =
    let c = circuit_of lines in
    let j : JobView = first.job in
    let is : IsJobOf c p m j = first.bundle.are_jobs.each i m j first.lines_are first.numbered in
    let differs = first_is_real lines p ms jobs inputs v i m f first in
    let unasked : f.kind ≡ End → ¬ LooksAsAsked p (values_by_name c v) (run_under c p inputs p.size.steps) =
    λ kind looks. ∥∥₁_elim first.fault.shown nothing_prop (λ h.
    let last : p.size.steps ≡ f.time =
    sym (end_last j h.values f.time f.kind f.cell.x f.cell.y kind h.differs ∙ is.steps) in
    differs (end_said c p m v f.time f.kind f.cell.x f.cell.y kind
    (subst (λ t. MeetsDemand v (end_demand c p f.cell.x f.cell.y) (run_under c p v t f.cell.x f.cell.y)) last
    (asked_at lines p inputs v f.cell.x f.cell.y named first.satisfied looks)))) in
    record {
      differs = differs;
      not_asked = unasked;
      incorrect = λ kind correct. unasked kind ((correct.implements inputs).looks v first.satisfied);
    }

pub first_end_is_wrong : EndFaultMeansIncorrect
first_end_is_wrong lines p ms jobs inputs v i m f named first kind =
    (first_means lines p ms jobs inputs v i m f named first).incorrect kind

-- ---- the wires of cuts, by their names

-- the wire of a name, and its place
pub record IsPlacedWire (f : List ℕ → Option ℕ) (ns : List (List ℕ)) (k : ℕ) (n : List ℕ) : Type 0 where
  pub wire : ℕ
  pub named : f n ≡ Some wire
  pub placed : slice_get (flat_map (λ n. option_to_list (f n)) ns) k ≡ Some wire

abbrev wires_of : (List ℕ → Option ℕ) → List (List ℕ) → List ℕ
wires_of f ns = flat_map (λ n. option_to_list (f n)) ns

no_more : (o : Option ℕ) (ws : List ℕ) (n : ℕ) → length ws ≤ n → length (option_to_list o ++ ws) ≤ suc n
no_more None ws n h = omega (arith, h)
no_more (Some w) ws n h = omega (arith, h)

few_wires : (f : List ℕ → Option ℕ) (ns : List (List ℕ)) → length (wires_of f ns) ≤ length ns
few_wires f [] = omega arith
few_wires f (n ∷ ns) = no_more (f n) (wires_of f ns) (length ns) (few_wires f ns)

by_wire : (f : List ℕ → Option ℕ) (x n : List ℕ) (ns : List (List ℕ)) (o : Option ℕ) (k : ℕ) → f x ≡ o →
    length (option_to_list o ++ wires_of f ns) ≡ suc (length ns) → slice_get (x ∷ ns) k ≡ Some n →
    ((k : ℕ) → length (wires_of f ns) ≡ length ns → slice_get ns k ≡ Some n → IsPlacedWire f ns k n) →
    IsPlacedWire f (x ∷ ns) k n
by_wire f x n ns None k e all at rest = absurd (let few = few_wires f ns in omega (arith, few, all))
by_wire f x n ns (Some w) zero e all at rest = record {
  wire = w;
  named = ap f (sym (same_Some x n at)) ∙ e;
  placed = ap (λ o. slice_get (option_to_list o ++ wires_of f ns) 0) e;
}
by_wire f x n ns (Some w) (suc k) e all at rest = grind (arith, common_steps)

pub placed_wire : (f : List ℕ → Option ℕ) (ns : List (List ℕ)) (n : List ℕ) (k : ℕ) →
    length (wires_of f ns) ≡ length ns → slice_get ns k ≡ Some n → IsPlacedWire f ns k n
placed_wire f [] n k all at = absurd cc
placed_wire f (x ∷ ns) n k all at = by_wire f x n ns (f x) k refl all at (λ k all at. placed_wire f ns n k all at)

-- what gives the cuts the bits by their names does so by the job's wires
pub assigned : (lines : List CircuitLine) (p : Pattern) (m : ModuleLines) (j : JobView) (v : Valuation) (a : ℕ) →
    IsModule (setting_of lines p) m → IsJobOf (circuit_of lines) p m j → IsModuleAssignmentOf (circuit_of lines) m v a →
    (k : ℕ) → k < j.locals.netlist.given → bit a k ≡ values_by_local_number j.locals v k
assigned lines p m j v a good is has k lt =
    let c = circuit_of lines in
    let n = some_at (cuts m) k (let cut = is.cut in omega (arith, lt, cut)) in
    let w : IsPlacedWire (wire_of c) (cuts m) k n.0 = placed_wire (wire_of c) (cuts m) n.0 k good.named n.1 in
    let at : slice_get (known c m) k ≡ Some w.wire = kept (cut_wires c m) _ k w.wire w.placed in
    let number : circuit_wire j.locals k ≡ w.wire =
    ap (λ ws. slice_index ws k) is.wires ∙ get_or_from_slice_get (known c m) k w.wire 0 at in
    sym (has k n.0 n.1) ∙ ap (λ o. option_map_or v o false) w.named ∙ sym (ap v number)
