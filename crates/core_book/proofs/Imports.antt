-- The names from outside this folder that two or more proofs of this crate use, in one file to import them from.
pub use Rattle.bbm_rule.proofs.Imports.{get_or-set_other}
pub use Rattle.border_match.proofs.Imports.{All, Bool, JobView, List, ModuleLines, None, Option, Setting, Some, [], ap}
pub use Rattle.border_match.proofs.Imports.{arc_value, arith, common_steps, false, get_or, inl, inr, length, length-map}
pub use Rattle.border_match.proofs.Imports.{map, nat_tests, option_map, refl, replicate, rules, shape_of, slice_get}
pub use Rattle.border_match.proofs.Imports.{slice_get-get_or, slice_get-map, slice_get_within, subst, suc, sym, true}
pub use Rattle.border_match.proofs.Imports.{zero, ℕ, ◌++◌, ◌+◌, ◌<◌, ◌==◌, ◌∙◌, ◌∷◌, ◌≡◌, ◌≢◌, ◌≤◌}
pub use Rattle.border_match.specs.BorderFaults.{AreBorderFaultsOf}
pub use Rattle.border_match.specs.declared.fault.BorderFault.{BorderFault}
pub use Rattle.certificate.proofs.Imports.{append-nil, append_assoc, delay_and_meet_lines, nat_lt}
pub use Rattle.certificate_lines.proofs.Imports.{get_or-set_same, is_some, length-replicate, length-set, nat_eq, set}
pub use Rattle.circuit.proofs.Imports.{slice_get_read}
pub use Rattle.core_book.specs.Book.{BelongsToBook, BookView, IsBook, IsHistoryReplayed, after_closing, after_filing}
pub use Rattle.core_book.specs.Book.{filing_of, held_finding, held_finding_count}
unfoldable pub use Rattle.core_book.specs.Book.{findings_after, is_job_of, new_book, reply_to}
pub use Rattle.core_book.specs.BookView.{book_view}
pub use Rattle.core_book.specs.Claims.{draws_after_claim, is_seat_finished, next_unless_seat_finished}
pub use Rattle.core_book.specs.Core.{CoreView, HasSeatBelow, IsCore, after_claim, after_event, after_events, draws_of}
pub use Rattle.core_book.specs.Core.{job_count_of}
unfoldable pub use Rattle.core_book.specs.Core.{new_core}
pub use Rattle.core_book.specs.CoreView.{core_view, lists_of}
pub use Rattle.core_book.specs.Draws.{IsEachNumberDrawnOnce, occurrences, total}
pub use Rattle.core_book.specs.Filling.{HoldsFindingOfSameShape, IsBookFilledSoFar, IsFindingHeldOrFiled, IsOpenFor}
pub use Rattle.core_book.specs.Filling.{group_count_below, shapes_of}
pub use Rattle.core_book.specs.Verdicts.{AreLeastFaults, AreLeastFaultsOfJob, IsFindingHeld, unkept_lines}
unfoldable pub use Rattle.core_book.specs.Verdicts.{report_lines_from}
pub use Rattle.core_book.specs.declared.log_entry.Filing.{Filing}
pub use Rattle.core_book.specs.declared.log_entry.LogEntry.{LogEntry}
pub use Rattle.core_book.specs.declared.log_entry.LogEntry.TheVariants.{Filed}
pub use Rattle.core_book.specs.declared.machine.Event.{Event}
pub use Rattle.core_book.specs.declared.reply.Mismatch.TheVariants.{Content, Digest, Number}
pub use Rattle.core_book.specs.declared.reply.Reply.{Reply}
pub use Rattle.core_book.specs.declared.reply.Reply.TheVariants.{Accepted, Closed, Double, Stranger}
pub use Rattle.core_book.specs.declared.verdict.LeastFaults.{LeastFaults}
pub use Rattle.core_book.specs.declared.verdict.ReportLine.{ReportLine}
pub use Rattle.lemmas.proofs.Common.{IsSome, count_by, eqb_tells, option_eq, sum_by}
pub use Rattle.local_run.proofs.Imports.{IsLeastFault, if◌then◌else◌, not, same_Some}
pub use Rattle.local_run.proofs.Least.{least_keep_unique, least_unique}
pub use Rattle.local_run.specs.Faults.{IsLeastKeepFault}
pub use Rattle.local_run.specs.Shown.{digest_of, job_of, number_of}
pub use Rattle.local_run.specs.declared.finding.Finding.{Finding}
pub use Rattle.module_job.proofs.EqualJobs.{jobs_decide}
pub use Rattle.module_job.proofs.Imports.{length-append, pointwise, same_job}
pub use Rattle.module_job.specs.Groups.{AreGroups}
pub use Rattle.pattern.proofs.Imports.{cond}
