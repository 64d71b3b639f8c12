use Rattle.soundness.proofs.PlainCertificates.{plain_decides, plain_report_lines, plain_no, untimed}
use Rattle.soundness.proofs.WholeRuns.{off_rim}
use Rattle.soundness.proofs.laws.plain_verdict_decides_design.Goals as goal

pub returns-clause-off_rim : goal.returns-clause-off_rim
returns-clause-off_rim c = off_rim

pub returns-clause-decides : goal.returns-clause-decides
returns-clause-decides c = plain_decides

pub returns-clause-plain_no_is_wrong : goal.returns-clause-plain_no_is_wrong
returns-clause-plain_no_is_wrong c = plain_no

pub returns-clause-untimed : goal.returns-clause-untimed
returns-clause-untimed c = untimed

pub returns-clause-lines : goal.returns-clause-lines
returns-clause-lines c = plain_report_lines
