-- Tests of whether two jobs are the same in all that contracts see of them
use Rattle.std.specs.Prelude.{ℕ, Bool, Option, Some, None, nat_eq}
use Rattle.std.specs.Ordering.{on, eq_of_both}
use Rattle.std.specs.Cmp.{IsEquivalence, and_equiv, on_equiv, nat_eq_equiv}
use Rattle.std.specs.Cmp.Lexicographic.{pointwise, lists_equiv, options_equiv}
use Rattle.std.specs.Option.{option_eq}
use Rattle.module_box.specs.Equality.{cell_equivalence, locals_equivalence, netlist_equivalence, same_cell, same_locals}
use Rattle.module_box.specs.Equality.{same_netlist, same_signal, same_signals, schedule_equivalence, signal_equivalence}
use Rattle.bbm_rule.specs.declared.block.Box2.{Box2}
use Rattle.module_job.specs.Jobs.{JobView}
use Rattle.module_job.specs.Shapes.{ShapeView}
use Rattle.module_job.specs.declared.job.Demand.{Demand}
use Rattle.module_job.specs.declared.job.Demand.TheVariants.{Dead, Live, Wire, Any}
use Rattle.module_job.specs.declared.job.Stop.{Stop}

-- whether two boxes are the same
abbrev pub same_box : Box2 → Box2 → Bool
same_box = eq_of_both (eq_of_both (eq_of_both (on (λ b. b.x) nat_eq) (on (λ b. b.y) nat_eq)) (on (λ b. b.w) nat_eq))
    (on (λ b. b.h) nat_eq)

-- the number of a demand, whatever its wire
abbrev pub demand_kind_number : Demand → ℕ
demand_kind_number Dead = 0
demand_kind_number Live = 1
demand_kind_number (Wire w) = 2
demand_kind_number Any = 3

-- the wire of a demand, if it has one
abbrev pub demand_wire : Demand → Option ℕ
demand_wire (Wire w) = Some w
demand_wire _ = None

-- whether two demands are the same
abbrev pub same_demand : Demand → Demand → Bool
same_demand = eq_of_both (on demand_kind_number nat_eq) (on demand_wire (option_eq nat_eq))

-- whether two stops are the same
abbrev pub same_stop : Stop → Stop → Bool
same_stop = eq_of_both (on (λ s. s.at.time) nat_eq)
    (eq_of_both (on (λ s. s.at.cell) same_cell) (on (λ s. s.wire) nat_eq))

-- box and steps; wires and gates; starts and demands; edges and halos; stops and kept gates
abbrev pub same_job : JobView → JobView → Bool
same_job =
    eq_of_both (eq_of_both (eq_of_both (eq_of_both
    (eq_of_both (on (λ j. j.area) same_box) (on (λ j. j.steps) nat_eq))
    (on (λ j. j.locals) same_locals))
    (eq_of_both (on (λ j. j.starts) (pointwise same_signal)) (on (λ j. j.demands) (pointwise same_demand))))
    (eq_of_both (on (λ j. j.edges) same_signals) (on (λ j. j.halos) same_signals)))
    (eq_of_both (on (λ j. j.stops) (pointwise same_stop)) (on (λ j. j.kept) (pointwise nat_eq)))

-- sides and steps; gates; starts and demands; edges and halos; stops and kept gates
abbrev pub same_shape : ShapeView → ShapeView → Bool
same_shape =
    eq_of_both (eq_of_both (eq_of_both (eq_of_both
    (eq_of_both (eq_of_both (on (λ s. s.width) nat_eq) (on (λ s. s.height) nat_eq)) (on (λ s. s.steps) nat_eq))
    (on (λ s. s.netlist) same_netlist))
    (eq_of_both (on (λ s. s.starts) (pointwise same_signal)) (on (λ s. s.demands) (pointwise same_demand))))
    (eq_of_both (on (λ s. s.edges) same_signals) (on (λ s. s.halos) same_signals)))
    (eq_of_both (on (λ s. s.stops) (pointwise same_stop)) (on (λ s. s.kept) (pointwise nat_eq)))

-- these tests are equivalences
box_equivalence : IsEquivalence same_box
box_equivalence =
    and_equiv (and_equiv (and_equiv (on_equiv (λ b. b.x) nat_eq_equiv) (on_equiv (λ b. b.y) nat_eq_equiv))
    (on_equiv (λ b. b.w) nat_eq_equiv)) (on_equiv (λ b. b.h) nat_eq_equiv)

-- the test on demands is an equivalence
pub demand_equivalence : IsEquivalence same_demand
demand_equivalence = and_equiv (on_equiv demand_kind_number nat_eq_equiv)
    (on_equiv demand_wire (options_equiv nat_eq_equiv))

-- the test on stops is an equivalence
stop_equivalence : IsEquivalence same_stop
stop_equivalence = and_equiv (on_equiv (λ s. s.at.time) nat_eq_equiv)
    (and_equiv (on_equiv (λ s. s.at.cell) cell_equivalence) (on_equiv (λ s. s.wire) nat_eq_equiv))

-- the test on jobs is an equivalence
pub job_equivalence : IsEquivalence same_job
job_equivalence =
    and_equiv (and_equiv (and_equiv (and_equiv
    (and_equiv (on_equiv (λ j. j.area) box_equivalence) (on_equiv (λ j. j.steps) nat_eq_equiv))
    (on_equiv (λ j. j.locals) locals_equivalence))
    (and_equiv (on_equiv (λ j. j.starts) (lists_equiv signal_equivalence))
    (on_equiv (λ j. j.demands) (lists_equiv demand_equivalence))))
    (and_equiv (on_equiv (λ j. j.edges) schedule_equivalence) (on_equiv (λ j. j.halos) schedule_equivalence)))
    (and_equiv (on_equiv (λ j. j.stops) (lists_equiv stop_equivalence))
    (on_equiv (λ j. j.kept) (lists_equiv nat_eq_equiv)))

-- the test on shapes is an equivalence
pub shape_equivalence : IsEquivalence same_shape
shape_equivalence =
    and_equiv (and_equiv (and_equiv (and_equiv
    (and_equiv (and_equiv (on_equiv (λ s. s.width) nat_eq_equiv) (on_equiv (λ s. s.height) nat_eq_equiv))
    (on_equiv (λ s. s.steps) nat_eq_equiv))
    (on_equiv (λ s. s.netlist) netlist_equivalence))
    (and_equiv (on_equiv (λ s. s.starts) (lists_equiv signal_equivalence))
    (on_equiv (λ s. s.demands) (lists_equiv demand_equivalence))))
    (and_equiv (on_equiv (λ s. s.edges) schedule_equivalence) (on_equiv (λ s. s.halos) schedule_equivalence)))
    (and_equiv (on_equiv (λ s. s.stops) (lists_equiv stop_equivalence))
    (on_equiv (λ s. s.kept) (lists_equiv nat_eq_equiv)))
