use Rattle.certificate_lines.proofs.Imports.{arith}
use Rattle.bbm_rule.proofs.CellLemmas.{cell_set}
use Rattle.certificate_lines.proofs.wire_list.set_mark.Goals as goal

pub returns : goal.returns
returns c = cell_set c.args.marks.now c.args.number (omega (arith, c.requires))
