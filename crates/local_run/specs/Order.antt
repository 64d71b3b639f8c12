-- The order of faults
use Rattle.std.specs.Prelude.{ℕ}
use Rattle.std.specs.declared.cmp.Ordering.{Ordering}
use Rattle.std.specs.Ordering.{nat_cmp, ordering_then}
use Rattle.bbm_rule.specs.CellOrder.{cell_cmp}
use Rattle.local_run.specs.declared.fault.Fault.{Fault}
use Rattle.local_run.specs.declared.fault.KeepFault.{KeepFault}
use Rattle.local_run.specs.declared.fault.Kind.{Kind}
use Rattle.local_run.specs.declared.fault.Kind.TheVariants.{Edge, Stop, End}

-- the place of a kind of fault in the order
abbrev pub kind_number : Kind → ℕ
kind_number Edge = 0
kind_number Stop = 1
kind_number End = 2

-- by time, kind, y, x and assignment
unfoldable pub fault_cmp : Fault → Fault → Ordering
fault_cmp a b =
    ordering_then (nat_cmp a.time b.time) (ordering_then (nat_cmp (kind_number a.kind) (kind_number b.kind))
    (ordering_then (cell_cmp a.cell b.cell) (nat_cmp a.assignment b.assignment)))

-- the order of keep faults: by gate and assignment
unfoldable pub keep_fault_cmp : KeepFault → KeepFault → Ordering
keep_fault_cmp a b = ordering_then (nat_cmp a.gate b.gate) (nat_cmp a.assignment b.assignment)
