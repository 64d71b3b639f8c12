use Rattle.bbm_rule.proofs.CellLemmas.{cell_set, cell_cleared}
use Rattle.lanes.proofs.marks.set_mark.Goals as goal

pub returns-then-is_marked : goal.returns-then-is_marked
returns-then-is_marked c = rw c.if-is_marked.true (cell_set c.args.marks.now c.args.at c.requires)

pub returns-else-is_marked : goal.returns-else-is_marked
returns-else-is_marked c = rw c.if-is_marked.false (cell_cleared c.args.marks.now c.args.at c.requires)
