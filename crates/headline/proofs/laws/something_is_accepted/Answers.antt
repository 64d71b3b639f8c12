use Rattle.headline.proofs.AcceptedTexts as texts
use Rattle.headline.proofs.laws.something_is_accepted.Goals as goal

pub returns-clause-timed : goal.returns-clause-timed
returns-clause-timed c = texts.timed_accepted

pub returns-clause-inverse : goal.returns-clause-inverse
returns-clause-inverse c = texts.inverse_accepted

pub returns-clause-plain : goal.returns-clause-plain
returns-clause-plain c = texts.plain

pub returns-clause-small : goal.returns-clause-small
returns-clause-small c = texts.small

pub returns-clause-meeting : goal.returns-clause-meeting
returns-clause-meeting c = texts.plain_yes_text_accepted

pub returns-clause-design : goal.returns-clause-design
returns-clause-design c = texts.design_accepted
