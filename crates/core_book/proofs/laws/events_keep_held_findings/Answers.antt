use Rattle.core_book.proofs.EventLaws.{events-keep, only-accepted_changes}
use Rattle.core_book.proofs.laws.events_keep_held_findings.Goals as goal

pub returns : goal.returns
returns c = record { keeps_findings = events-keep; only = only-accepted_changes }
