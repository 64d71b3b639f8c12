use Rattle.bbm_rule.proofs.CellLemmas.{cell_set}
use Rattle.bbm_rule.proofs.MarkLemmas.{one_marked}
use Rattle.bbm_rule.proofs.marks.mark.Goals as goal

pub returns : goal.returns
returns c = one_marked c.args.at c.args.marks.now _ (cell_set c.args.marks.now c.args.at c.requires)
