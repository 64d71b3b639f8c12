use Rattle.headline.proofs.AcceptedTexts.{wide_accepted, wide_refused}
use Rattle.headline.proofs.Fronts.{front_line_keeps_reports}
use Rattle.headline.proofs.laws.front_line_keeps_reports.Goals as goal

pub returns-clause-kept : goal.returns-clause-kept
returns-clause-kept c = front_line_keeps_reports

pub returns-clause-refused : goal.returns-clause-refused
returns-clause-refused c = wide_refused

pub returns-clause-accepted : goal.returns-clause-accepted
returns-clause-accepted c = wide_accepted
