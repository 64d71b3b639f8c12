use Rattle.certificate.proofs.LimitLaws.{first_limits_are_unchanged, second_limits_are_wider}
use Rattle.certificate.proofs.laws.first_limits_are_unchanged.Goals as goal

pub returns-clause-kept : goal.returns-clause-kept
returns-clause-kept c = first_limits_are_unchanged

pub returns-clause-wider : goal.returns-clause-wider
returns-clause-wider c = second_limits_are_wider
