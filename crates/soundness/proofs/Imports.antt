-- The names from outside this folder that two or more proofs of this crate use, in one file to import them from.
pub use Rattle.bbm_rule.specs.declared.block.Box2.{Box2}
pub use Rattle.bbm_rule.specs.declared.block.Cell.{Cell}
pub use Rattle.border_match.proofs.Bridge.{halo_same}
pub use Rattle.border_match.proofs.Imports.{All-head, All-tail, AreModules, IfSome, IsBorderFault, IsJob}
pub use Rattle.border_match.proofs.Imports.{IsLeastBorderFault, Signals, and_parts, ap₂, cases_Bool, circuit_wire}
pub use Rattle.border_match.proofs.Imports.{edge_signal, event_if_timed, false≢true, get_or_from_slice_get, halo_signal}
pub use Rattle.border_match.proofs.Imports.{is_among, is_cell_at, line_signals, mapped_from, pos, renumber_event}
pub use Rattle.border_match.proofs.Imports.{renumber_signal, renumber_signals, setting_of, some_at, take, unwrap_or}
pub use Rattle.border_match.proofs.Imports.{whole, ℤ, ◌%◌, ◌&&◌, ◌⊎◌}
unfoldable pub use Rattle.border_match.proofs.Imports.{all_times_at, border_fault_cmp, event_at, in_box, in_halo}
unfoldable pub use Rattle.border_match.proofs.Imports.{signal_at}
pub use Rattle.border_match.specs.declared.fault.BorderFault.{BorderFault}
pub use Rattle.certificate.proofs.Imports.{All-append, All-cons, All-nil, Circuit, Gate, IsEvenBox, IsJobOf, IsModule}
pub use Rattle.certificate.proofs.Imports.{LocalNet, Pattern, all_stops, any_at, cell_same, signal_if_starred}
pub use Rattle.certificate.proofs.Imports.{circuit_of, cut_wires, cuts, demand_outside_mirrors, edges, eqb, eqb-true}
pub use Rattle.certificate.proofs.Imports.{flat_map, halos, in_cells, in_rectangles, is_inverse, is_kept, is_local}
pub use Rattle.certificate.proofs.Imports.{keeps, known, list_all, list_any, netlist_of, one_or_named_wire}
pub use Rattle.certificate.proofs.Imports.{option_to_list, range_with_len, renumber_all_times, renumber_demand, stops}
pub use Rattle.certificate.proofs.Imports.{stops_of_lines, time_lines_of_gates, unkept, wire_of, wire_or_zero}
unfoldable pub use Rattle.certificate.proofs.Imports.{Each, end_demand, port_at, rectangle_cells, size_fault}
unfoldable pub use Rattle.certificate.proofs.Imports.{start_signal, unkept_gates_from}
pub use Rattle.certificate.proofs.StopLemmas.{stops_stand}
pub use Rattle.certificate.specs.Jobs.{AreJobsOf, stop_with_wire_number, wire_of_optional_name, wire_or_dead}
pub use Rattle.certificate.specs.Times.{are_all_timings_obeyed, first_seen_time, last_seen_time}
pub use Rattle.certificate.specs.declared.times.StopGap.{StopGap}
pub use Rattle.certificate.specs.declared.times.TimeLine.{TimeLine}
pub use Rattle.certificate_lines.proofs.BoxPlaces.{box_place, skipped}
pub use Rattle.certificate_lines.proofs.Imports.{IsTotalOrder, bytes_eq, code_if, is_local_wire, or-false}
pub use Rattle.certificate_lines.proofs.LayoutPorts.{none_stands, port_stands}
pub use Rattle.certificate_lines.proofs.Lists.{kept, passed}
pub use Rattle.certificate_lines.specs.Modules.{IsAllowedStop}
pub use Rattle.certificate_lines.specs.declared.certificate_line.BorderLine.{BorderLine}
pub use Rattle.certificate_lines.specs.declared.certificate_line.StopLine.{StopLine}
pub use Rattle.circuit.proofs.Imports.{as_values, defined, defines, get_or-map-range_with_len, input_names}
unfoldable pub use Rattle.circuit.proofs.Imports.{evaluate, number}
pub use Rattle.circuit.proofs.Undefined.{has_valuation, only_inverse, undefined_has_none}
pub use Rattle.circuit.proofs.Valuations.{evaluated}
pub use Rattle.circuit.specs.Bridge.{output_names}
pub use Rattle.circuit.specs.Meaning.{values_by_name}
unfoldable pub use Rattle.circuit.specs.Meaning.{place_of}
pub use Rattle.circuit.specs.declared.circuit_line.CircuitLine.{CircuitLine}
pub use Rattle.circuit.specs.declared.circuit_line.GateKind.{GateKind}
pub use Rattle.circuit.specs.declared.circuit_line.GateKind.TheVariants.{Delay, Source}
pub use Rattle.circuit.specs.declared.circuit_line.CircuitLineKind.TheVariants.{Input, Output}
pub use Rattle.core_book.proofs.Imports.{All, AreLeastFaultsOfJob, Bool, IsLeastFault, IsLeastKeepFault, JobView, List}
pub use Rattle.core_book.proofs.Imports.{ModuleLines, None, Option, Setting, Some, [], ap, append-nil, append_assoc}
pub use Rattle.core_book.proofs.Imports.{arith, common_steps, cond, delay_and_meet_lines, false, get_or, if◌then◌else◌}
pub use Rattle.core_book.proofs.Imports.{inl, inr, length, length-append, length-map, map, nat_lt, nat_tests, not}
pub use Rattle.core_book.proofs.Imports.{option_map, refl, same_Some, slice_get, slice_get-get_or, slice_get-map}
pub use Rattle.core_book.proofs.Imports.{slice_get_within, subst, suc, sym, true, unkept_lines, zero, ℕ, ◌++◌, ◌+◌, ◌<◌}
pub use Rattle.core_book.proofs.Imports.{◌==◌, ◌∙◌, ◌∷◌, ◌≡◌, ◌≢◌, ◌≤◌}
unfoldable pub use Rattle.core_book.proofs.Imports.{report_lines_from}
pub use Rattle.core_book.specs.Concluding.{modules, setting}
pub use Rattle.core_book.specs.Verdicts.{Accepts, AreReportLines, border_line, keep_line, local_line, renumber_keep}
pub use Rattle.core_book.specs.Verdicts.{timing_report_line}
unfoldable pub use Rattle.core_book.specs.Verdicts.{IsVerdict}
pub use Rattle.core_book.specs.declared.verdict.LeastFaults.{LeastFaults}
pub use Rattle.core_book.specs.declared.verdict.ReportLine.{ReportLine}
pub use Rattle.core_book.specs.declared.verdict.ReportLine.TheVariants.{Unkept}
pub use Rattle.core_book.specs.declared.verdict.Verdict.TheVariants.{Yes}
pub use Rattle.lemmas.proofs.Common.{All-contains, Contains-append_left, nothing_prop, option_map_or, same_truth}
pub use Rattle.local_run.proofs.Decided.{decided}
pub use Rattle.local_run.proofs.Imports.{Contains, IsDemandWireBelow, IsFault, IsFaultUnderValues, IsKeepFault}
pub use Rattle.local_run.proofs.Imports.{IsSignalWireBelow, IsTrue, MeetsDemand, Netlist, Satisfies, State, Valuation}
pub use Rattle.local_run.proofs.Imports.{and_from, assignments, cases_lt, eq-eqb, is_live, ordering_then, place_in}
pub use Rattle.local_run.proofs.Imports.{props, true≢false, wires, ∥∥₁_elim, ◌*◌, ◌/◌, ◌||◌}
unfoldable pub use Rattle.local_run.proofs.Imports.{AreGatesOrdered, bit, fault_cmp, in_ring, in_span, job_demand}
unfoldable pub use Rattle.local_run.proofs.Imports.{job_start, local_run, step, with_halo}
pub use Rattle.local_run.specs.declared.fault.Fault.{Fault}
pub use Rattle.local_run.specs.declared.fault.KeepFault.{KeepFault}
pub use Rattle.local_run.specs.declared.fault.Kind.{Kind}
pub use Rattle.local_run.specs.declared.fault.Kind.TheVariants.{Edge, End, Stop}
pub use Rattle.meaning.specs.Implements.{IsCorrect, LooksAsAsked, in_ports, run_under}
pub use Rattle.module_box.proofs.Imports.{AreDistinct, AreLocalsOf, length-range_with_len}
unfoldable pub use Rattle.module_box.proofs.Imports.{has_neighbour_in_set}
pub use Rattle.module_box.proofs.Neighbours.{halo_parts}
pub use Rattle.module_box.proofs.SeenValues.{choices_are_assignments, local_values_agree_with_circuit}
pub use Rattle.module_box.proofs.SeenValues.{undefined_is_seen}
pub use Rattle.module_box.specs.LocalValues.{values_by_local_number}
pub use Rattle.module_box.specs.Locals.{circuit_gate}
pub use Rattle.module_box.specs.declared.schedules.AllTimesSignal.{AllTimesSignal}
pub use Rattle.module_box.specs.declared.schedules.Signal.{Signal}
pub use Rattle.module_box.specs.declared.schedules.Signal.TheVariants.{One, Wire, Zero}
pub use Rattle.module_box.specs.declared.schedules.TimedSignal.{TimedSignal}
pub use Rattle.module_job.proofs.Imports.{slice_index}
pub use Rattle.module_job.specs.Signals.{renumber_stop}
pub use Rattle.module_job.specs.declared.job.Demand.{Demand}
pub use Rattle.pattern.proofs.Imports.{AreGoodAfter, PortNameLists, has, in_ports_on, parts_of}
unfoldable pub use Rattle.pattern.proofs.Imports.{cell_fault, cells_of, cells_taken_at_end, has_taken_cell, is_inside}
unfoldable pub use Rattle.pattern.proofs.Imports.{name_fault, run, start, takes_cells_at_end, takes_cells_at_start}
pub use Rattle.pattern.specs.declared.layout_line.LayoutHeader.{LayoutHeader}
pub use Rattle.pattern.specs.declared.layout_line.LayoutLine.{LayoutLine}
pub use Rattle.pattern.specs.declared.layout_line.LayoutLine.TheVariants.{Ball, In, Mirror, Out, Waste}
pub use Rattle.pattern.specs.declared.layout_line.Port.{Port}
pub use Rattle.section_text.specs.declared.code.RefusalCode.TheVariants.{UnknownName}
pub use Rattle.soundness.specs.FirstFaults.{IsModuleAssignmentOf, HasGoodBorders, IsCellAsCertified, IsAssignmentOf}
pub use Rattle.soundness.specs.FirstFaults.{IsFirstFault}
pub use Rattle.soundness.specs.HeadlineLaws.{BelongTogether, HasInputNames, IsAcceptedBundle, IsInputName, IsRunOfJobs}
pub use Rattle.soundness.specs.OnTime.{StopHolds}
pub use Rattle.std.specs.declared.cmp.Ordering.TheVariants.{Greater}
