use Rattle.bbm_rule.proofs.CellLemmas.{cell_set}
use Rattle.module_job.proofs.sparse_numbers.mark_if_room.Goals as goal

pub returns-then-at-marks-clause-marked : goal.returns-then-at-marks-clause-marked
returns-then-at-marks-clause-marked c = λ room. cell_set c.args.marks.now c.args.at room
