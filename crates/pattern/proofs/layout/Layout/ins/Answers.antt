use Rattle.pattern.proofs.Imports.{HaveDistinctCells, List, Port, pattern_of, subst, sym}
use Rattle.pattern.proofs.OwnCells.{ins_apart}
use Rattle.pattern.proofs.layout.Layout.ins.Goals as goal

pub returns-clause-cells_distinct : goal.returns-clause-cells_distinct
returns-clause-cells_distinct c = subst (λ (ports : List Port). HaveDistinctCells ports) (sym c.as_slice.ensures.value)
    (ins_apart (pattern_of c.self.inside) c.self.invariant.parts)
