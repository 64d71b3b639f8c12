use Rattle.pattern.proofs.LimitLaws.{first_lines_are_kept, first_sizes_are_kept, second_limits_are_wider}
use Rattle.pattern.proofs.laws.first_limits_are_unchanged.Goals as goal

pub returns-clause-sizes_kept : goal.returns-clause-sizes_kept
returns-clause-sizes_kept c = first_sizes_are_kept

pub returns-clause-lines_kept : goal.returns-clause-lines_kept
returns-clause-lines_kept c = first_lines_are_kept

pub returns-clause-wider : goal.returns-clause-wider
returns-clause-wider c = second_limits_are_wider
