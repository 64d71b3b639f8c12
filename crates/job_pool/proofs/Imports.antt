-- The names from outside this folder that two or more proofs of this crate use, in one file to import them from.
pub use Rattle.atomic_table.proofs.Lists.{at_map}
pub use Rattle.border_match.proofs.Imports.{take, vec_len, ◌-◌}
pub use Rattle.certificate.proofs.Imports.{drop, map-append}
pub use Rattle.core_book.proofs.Imports.{All, IsEachNumberDrawnOnce, List, [], ap, append-nil, append_assoc, arc_value}
pub use Rattle.core_book.proofs.Imports.{arith, false, get_or, if◌then◌else◌, job_of, length, length-map, map}
pub use Rattle.core_book.proofs.Imports.{nat_tests, occurrences, refl, rules, set, shape_of, shapes_of, subst, suc, sym}
pub use Rattle.core_book.proofs.Imports.{total, zero, ℕ, ◌++◌, ◌+◌, ◌<◌, ◌==◌, ◌∙◌, ◌∷◌, ◌≡◌, ◌≢◌, ◌≤◌}
pub use Rattle.core_book.specs.Draws.{past_last}
pub use Rattle.job_pool.specs.Lists.{all_but_last, count_at_least, joined, past_greatest}
pub use Rattle.job_pool.specs.Rule.{AreNumbersDealt, HasAllPlaces, seat_view}
pub use Rattle.job_pool.specs.Seats.{IsNewSeatOf, IsSeatOf, drawn_by}
pub use Rattle.job_pool.specs.Work.{AreCountsNotLess, HasWorked, IsReadyWorker, due_finding_count, seats_of, shares_of}
pub use Rattle.job_pool.specs.Work.{sum_of_filed}
pub use Rattle.job_pool.specs.declared.desk.Desk.{Desk}
pub use Rattle.job_pool.specs.declared.desk.DeskSeat.{DeskSeat}
pub use Rattle.job_pool.specs.declared.rule.View.{View}
pub use Rattle.job_pool.specs.declared.worker.Worker.{Worker}
pub use Rattle.lemmas.proofs.Common.{All-map, into_iter_items, into_iter_len, vec_capacity}
pub use Rattle.module_job.proofs.FirstShapes.{value_at}
pub use Rattle.verdict_book.specs.Counts.{Counts}
