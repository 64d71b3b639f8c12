-- The names from outside this folder that two or more proofs of this crate use, in one file to import them from.
pub use Rattle.bbm_rule.proofs.Imports.{negsuc}
pub use Rattle.bbm_rule.proofs.Spans.{in_span-negsuc}
pub use Rattle.bbm_rule.specs.declared.block.Box2.{Box2}
pub use Rattle.bbm_rule.specs.declared.block.Cell.{Cell}
pub use Rattle.lanes.proofs.Imports.{HasWordsStrideRows, bit-and, bit_and, bit_xor, by_eq_or_not, by_lt_or_le}
pub use Rattle.lanes.proofs.Imports.{trailing_zeros, w64, ◌^◌}
unfoldable pub use Rattle.lanes.proofs.Imports.{lane}
pub use Rattle.lanes.proofs.PlaneWords.{dead_lane}
pub use Rattle.lanes.specs.Borders.{AreNumbersSkippableBetween}
pub use Rattle.lanes.specs.declared.planes.Planes.{Planes}
pub use Rattle.lemmas.proofs.Common.{Contains, and-true, div_ceil, int_equal, nat_cmp, nat_equal, ordering_then, props}
pub use Rattle.lemmas.proofs.Common.{three_ways, ∥∥₁_elim, ∥∥₁_map, ◌<ℤ◌}
pub use Rattle.local_run.specs.Faults.{HasFaultWitness, IsFault, IsFaultUnderValues, IsKeepFault, IsLeastFault}
pub use Rattle.local_run.specs.Faults.{IsStopFault, assignments}
pub use Rattle.local_run.specs.Leaps.{HasSameSignalsAtOddTimes, IsOddOfTimePair, IsRunUnchangedUntil}
pub use Rattle.local_run.specs.Leaps.{AreEventPlacesAroundTime}
pub use Rattle.local_run.specs.Order.{kind_number}
unfoldable pub use Rattle.local_run.specs.Order.{fault_cmp, keep_fault_cmp}
unfoldable pub use Rattle.local_run.specs.Places.{box_coord, halo_coord}
pub use Rattle.local_run.specs.Quiet.{AreStarredCellMarks, HasBothCellMarks, HasRoomForBoxAndHaloMarks, TakesNoMarkOff}
pub use Rattle.local_run.specs.Quiet.{cell_number_at}
unfoldable pub use Rattle.local_run.specs.Runs.{local_run, with_halo}
pub use Rattle.local_run.specs.Scans.{HasNoFaultOfKind, HasValueRow, IsCellAsSignalUnderWords, IsDefinedAndHasFault}
pub use Rattle.local_run.specs.Scans.{IsEdgeCorrectAt, IsFirstFaultOfKind, IsHaloCellAsSignal, IsKindScannedAt}
pub use Rattle.local_run.specs.Scans.{IsLeastBelow, IsNextStop, IsOutsideBoxFromHalo, IsRunReady, IsScanStride}
pub use Rattle.local_run.specs.Scans.{ShowsRunAt, is_defined_under, valuation}
pub use Rattle.local_run.specs.declared.fault.Fault.{Fault}
pub use Rattle.local_run.specs.declared.fault.KeepFault.{KeepFault}
pub use Rattle.local_run.specs.declared.fault.Kind.{Kind}
pub use Rattle.local_run.specs.declared.fault.Kind.TheVariants.{Edge, End, Stop}
pub use Rattle.local_run.specs.declared.values.Values.{Values}
pub use Rattle.module_box.proofs.Imports.{Equal, Greater, IsRising, IsTrue, Less, Netlist, Ordering, Satisfies, State}
pub use Rattle.module_box.proofs.Imports.{Valuation, and_from, and_parts, bit-zero, eq-eqb, false, is_among, is_cell_at}
pub use Rattle.module_box.proofs.Imports.{mul-le-mul_left, ne_eqb, not, same_Some, slice_get_within, span_from}
pub use Rattle.module_box.proofs.Imports.{span_parts, true, true≢false, w32, wires, ◌%◌, ◌+ℤ◌, ◌-ℤ◌, ◌/◌, ◌||◌}
unfoldable pub use Rattle.module_box.proofs.Imports.{AreGatesOrdered, all_times_at, bit, cell_cmp, event_at, in_box}
unfoldable pub use Rattle.module_box.proofs.Imports.{in_halo, in_ring, in_span, moment_cmp, partner, step}
pub use Rattle.module_box.proofs.MovedBoxes.{signals_moved}
pub use Rattle.module_box.proofs.Rising.{all_times_none, event_none, is_first, moment_total}
pub use Rattle.module_box.specs.LocalValues.{AreValueRows, AreValueRowsAt}
unfoldable pub use Rattle.module_box.specs.LocalValues.{bit_of_row, value_of}
pub use Rattle.module_box.specs.Moves.{moved_signals}
pub use Rattle.module_box.specs.Places.{place_in}
pub use Rattle.module_box.specs.Schedules.{Signals, is_moment_at}
unfoldable pub use Rattle.module_box.specs.Schedules.{signal_at}
pub use Rattle.module_box.specs.declared.schedules.AllTimesSignal.{AllTimesSignal}
pub use Rattle.module_box.specs.declared.schedules.Moment.{Moment}
pub use Rattle.module_box.specs.declared.schedules.Signal.{Signal}
pub use Rattle.module_box.specs.declared.schedules.Signal.TheVariants.{One, Wire, Zero}
pub use Rattle.module_box.specs.declared.schedules.TimedSignal.{TimedSignal}
pub use Rattle.module_job.proofs.Imports.{All, Bool, List, None, Option, ShapeView, Some, [], ap, ap₂, arith}
pub use Rattle.module_job.proofs.Imports.{cases_Bool, cases_lt, common_steps, cond-false, cond-true, false≢true, get_or}
pub use Rattle.module_job.proofs.Imports.{if◌then◌else◌, inl, inr, ints, length, pos, refl, rules, shape_of, slice_get}
pub use Rattle.module_job.proofs.Imports.{slice_get-get_or, subst, suc, sym, unwrap_or, zero, ℕ, ℤ, ◌&&◌, ◌*◌, ◌+◌, ◌-◌}
pub use Rattle.module_job.proofs.Imports.{◌<◌, ◌∙◌, ◌∷◌, ◌≡◌, ◌≢◌, ◌≤◌, ◌⊎◌}
pub use Rattle.module_job.specs.Jobs.{IsJob, JobView, NamesOnlyOwnWires}
unfoldable pub use Rattle.module_job.specs.Jobs.{job_demand, job_start}
pub use Rattle.module_job.specs.Shapes.{shift_to_origin}
pub use Rattle.module_job.specs.Signals.{IsDemandWireBelow, IsSignalWireBelow, MeetsDemand, is_live}
pub use Rattle.module_job.specs.declared.job.Demand.{Demand}
