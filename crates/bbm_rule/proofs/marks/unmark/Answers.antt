use Rattle.bbm_rule.proofs.CellLemmas.{cell_cleared}
use Rattle.bbm_rule.proofs.marks.unmark.Goals as goal

pub returns : goal.returns
returns c = cell_cleared c.args.marks.now c.args.at c.requires
