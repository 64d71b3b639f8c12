-- The names from outside this folder that two or more proofs of this crate use, in one file to import them from.
pub use Rattle.bbm_rule.specs.declared.block.Box2.{Box2}
pub use Rattle.bbm_rule.specs.declared.block.Cell.{Cell}
pub use Rattle.border_match.specs.Boards.{AreHaloEventMarks, AreHaloOwnersListed, AreModuleNumbers, IsOwnerTableOfJobs}
pub use Rattle.border_match.specs.Boards.{AreOwnersListedInRows, AreOwnersListedToColumn, AreReadyBorders}
pub use Rattle.border_match.specs.Boards.{DiffersAtStarBelow, DiffersAtStarOfAny, DiffersAtTimesWithoutEvent}
pub use Rattle.border_match.specs.Boards.{IsAtEdgeEventOfAny, IsAtOwnersEdgeEvent, IsAtSomeEventBelow}
pub use Rattle.border_match.specs.Boards.{IsAtUnmarkedEventBelow, IsBorderFaultOfJob, IsFaultOfSearchedJob}
pub use Rattle.border_match.specs.Boards.{IsEventListed, IsInOrAroundBox, KeepsAllModuleNumbers, job_signals, jobs_of}
pub use Rattle.border_match.specs.BorderFaults.{IsBorderFault, IsLeastBorderFault, edge_signal, halo_signal}
unfoldable pub use Rattle.border_match.specs.BorderFaults.{border_fault_cmp}
pub use Rattle.border_match.specs.Candidates.{HasCandidateAtMost, IsLeastCandidate, IsUpdatedCandidate}
pub use Rattle.border_match.specs.Surroundings.{HasNoWindowEventBetween, IsEdgeEventExtent, IsEventOutsideWindow}
pub use Rattle.border_match.specs.Surroundings.{IsExtentOfEvents, IsInWindow, IsWindowAround}
pub use Rattle.border_match.specs.declared.borders.Borders.{Borders}
pub use Rattle.border_match.specs.declared.fault.BorderFault.{BorderFault}
pub use Rattle.border_match.specs.declared.signals.RingOrHalo.TheVariants.{Halo, Ring}
pub use Rattle.border_match.specs.declared.window.Window.{Window}
pub use Rattle.certificate.proofs.Imports.{All, All-head, All-tail, AreModules, Bool, Greater, IfSome, IsRising}
pub use Rattle.certificate.proofs.Imports.{JobView, Less, List, ModuleLines, None, Option, Ordering, Setting, Signals}
pub use Rattle.certificate.proofs.Imports.{Some, [], and_parts, ap, ap₂, arc_value, areas, arith, cases_Bool}
pub use Rattle.certificate.proofs.Imports.{circuit_wire, common_steps, cond-false, cond-true, event_if_timed, false}
pub use Rattle.certificate.proofs.Imports.{get_or, get_or_from_slice_get, inl, inr, ints, is_among, is_cell_at, length}
pub use Rattle.certificate.proofs.Imports.{length-map, line_signals, map, mapped_from, nat_tests, option_map, pos, refl}
pub use Rattle.certificate.proofs.Imports.{renumber_event, renumber_signal, renumber_signals, replicate, rules}
pub use Rattle.certificate.proofs.Imports.{setting_of, shift_to_origin, slice_get, slice_get-get_or, slice_get_within}
pub use Rattle.certificate.proofs.Imports.{subst, suc, sym, take, take_all, take_more, true, unwrap_or, whole, zero, ℕ}
pub use Rattle.certificate.proofs.Imports.{ℤ, ◌&&◌, ◌++◌, ◌+ℤ◌, ◌+◌, ◌-◌, ◌<◌, ◌==◌, ◌∙◌, ◌∷◌, ◌≡◌, ◌≢◌, ◌≤◌, ◌⊎◌}
unfoldable pub use Rattle.certificate.proofs.Imports.{all_times_at, cell_cmp, event_at, in_box, in_halo, moment_cmp}
unfoldable pub use Rattle.certificate.proofs.Imports.{signal_at}
pub use Rattle.certificate.specs.Grammars.{modules_in}
pub use Rattle.certificate_lines.proofs.Imports.{false≢true, rectangle_of, slice_get-map, ◌%◌}
pub use Rattle.certificate_lines.specs.declared.certificate_line.BorderLine.{BorderLine}
pub use Rattle.lemmas.proofs.Common.{some_at, tied_itself, vec_len}
pub use Rattle.module_box.proofs.BoxCells.{same_some}
pub use Rattle.module_box.proofs.Imports.{below_or_from, below_or_same, moment_of, moved_all_times, moved_event}
unfoldable pub use Rattle.module_box.proofs.Imports.{owner_of}
pub use Rattle.module_box.proofs.MovedBoxes.{cell_back, signals_back}
pub use Rattle.module_box.proofs.Rising.{moment_total}
pub use Rattle.module_box.specs.Moves.{moved_cell, moved_signals}
pub use Rattle.module_box.specs.Schedules.{is_moment_at}
pub use Rattle.module_box.specs.declared.schedules.AllTimesSignal.{AllTimesSignal}
pub use Rattle.module_box.specs.declared.schedules.Moment.{Moment}
pub use Rattle.module_box.specs.declared.schedules.Signal.{Signal}
pub use Rattle.module_box.specs.declared.schedules.Signal.TheVariants.{Zero}
pub use Rattle.module_box.specs.declared.schedules.TimedSignal.{TimedSignal}
pub use Rattle.module_job.proofs.Imports.{ShapeView, shape_of}
pub use Rattle.module_job.specs.Jobs.{IsJob}
pub use Rattle.pattern.specs.declared.layout_line.LayoutHeader.{LayoutHeader}
