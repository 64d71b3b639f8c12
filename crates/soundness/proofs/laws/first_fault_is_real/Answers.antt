use Rattle.soundness.proofs.EarliestLines.{earliest_is_first, earliest_is_real}
use Rattle.soundness.proofs.FirstFaults.{first_is_real, first_end_is_wrong}
use Rattle.soundness.proofs.laws.first_fault_is_real.Goals as goal

pub returns-clause-real : goal.returns-clause-real
returns-clause-real c = first_is_real

pub returns-clause-incorrect : goal.returns-clause-incorrect
returns-clause-incorrect c = first_end_is_wrong

pub returns-clause-first : goal.returns-clause-first
returns-clause-first c = earliest_is_first

pub returns-clause-earliest : goal.returns-clause-earliest
returns-clause-earliest c = earliest_is_real
