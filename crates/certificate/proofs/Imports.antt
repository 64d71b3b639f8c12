-- The names from outside this folder that two or more proofs of this crate use, in one file to import them from.
pub use Rattle.bbm_rule.specs.Boxes.{Tile}
pub use Rattle.section_text.proofs.Codes.{both_none}
pub use Rattle.bbm_rule.specs.declared.block.Box2.{Box2}
pub use Rattle.bbm_rule.specs.declared.block.Cell.{Cell}
pub use Rattle.certificate.specs.Grammars.{CertView, certificate_grammar}
pub use Rattle.certificate.specs.GoodModules.{AreGoodModules, IsGoodModule, all_module_lines}
pub use Rattle.certificate.specs.HaloPlaces.{AddsEdgePlacesInHalo, AreOwnersAndListsReady, HaveEdgePlacesFromModule}
pub use Rattle.certificate.specs.HaloPlaces.{IsInnerCell, edge_lines_at, edge_lines_at_place, line_cell}
pub use Rattle.certificate.specs.HaloPlaces.{list_at_or_empty}
pub use Rattle.certificate.specs.Jobs.{IsJobOf, demand_outside_mirrors, event_if_timed, line_signals, signal_if_starred}
pub use Rattle.certificate.specs.Jobs.{one_or_named_wire, stops_of_lines, wire_or_zero}
unfoldable pub use Rattle.certificate.specs.Jobs.{end_demand, start_signal}
pub use Rattle.certificate.specs.Keeps.{is_kept, unkept}
unfoldable pub use Rattle.certificate.specs.Keeps.{unkept_gates_from}
pub use Rattle.certificate.specs.LayoutTablesView.{AddsStartsAndDemands, IsPortWireLocalAt, LayoutTablesView}
pub use Rattle.certificate.specs.SeenTimes.{IsStopTimeTable, time_in_table}
pub use Rattle.certificate.specs.StopLists.{AreStopsOfLines, stored_stop}
pub use Rattle.certificate.specs.Text.{entry_text, form_text}
unfoldable pub use Rattle.certificate.specs.Text.{certificate_text}
pub use Rattle.certificate.specs.Times.{all_stops, delay_and_meet_lines, delay_line, earlier, last_times, later}
pub use Rattle.certificate.specs.Times.{meet_line, stop_times_of_wire, time_lines_of_gates}
unfoldable pub use Rattle.certificate.specs.Times.{lines_of_numbered_gates}
pub use Rattle.certificate.specs.Timetables.{AreBorderLinesRising, AreSignalLists, HasLocalWire, one_or_wire}
pub use Rattle.certificate.specs.Timetables.{stored_signals, unnamed_line}
pub use Rattle.certificate_lines.specs.BuilderView.{IsWithinMaxSize}
pub use Rattle.certificate.specs.declared.neighbour_edges.EdgePlace.{EdgePlace}
pub use Rattle.certificate.specs.declared.times.TimeLine.{TimeLine}
pub use Rattle.certificate_lines.proofs.FlatParts.{flat_all}
pub use Rattle.certificate_lines.proofs.Imports.{All, All-append, All-nil, All-tail, AreLocalLines, Bool, Circuit}
pub use Rattle.certificate_lines.proofs.Imports.{CircuitAndPorts, Equal, Gate, Greater, IfSome, IsEvenBox, IsModule}
pub use Rattle.certificate_lines.proofs.Imports.{IsTrue, Less, List, ModuleLines, Netlist, None, Option, Ordering}
pub use Rattle.certificate_lines.proofs.Imports.{Setting, Some, [], and_from, and_parts, ap, append-nil, append_assoc}
pub use Rattle.certificate_lines.proofs.Imports.{ap₂, areas, arith, cases_Bool, cell_same, circuit_of, codes}
pub use Rattle.certificate_lines.proofs.Imports.{common_steps, cond-false, cond-true, cut_name_in, cuts, drop, edge_in}
pub use Rattle.certificate_lines.proofs.Imports.{edges, eqb-true, false, filter, flat_map, flat_map-append, gates}
pub use Rattle.certificate_lines.proofs.Imports.{get_or, get_or_from_slice_get, halo_in, if◌then◌else◌, inl, inr, ints}
pub use Rattle.certificate_lines.proofs.Imports.{is_among, is_cell_at, is_last_module_incomplete, is_local, is_lt}
pub use Rattle.certificate_lines.proofs.Imports.{is_module_line}
pub use Rattle.certificate_lines.proofs.Imports.{is_nonlocal_signal, known, last_module, length, length-map, list_all}
pub use Rattle.certificate_lines.proofs.Imports.{list_any, local_wires, map, map-append, mapped_from, module_with_line}
pub use Rattle.certificate_lines.proofs.Imports.{nat_lt, nat_tests, not, option_map, option_to_list, pos}
pub use Rattle.certificate_lines.proofs.Imports.{range_with_len, rectangle, refl, replicate, row_cells, rules}
pub use Rattle.certificate_lines.proofs.Imports.{size_sides, slice_get, slice_get-get_or, slice_get_within, stop_in}
pub use Rattle.certificate_lines.proofs.Imports.{subst, suc, sym, take, take_all, take_more, to_z, true, true_from_not}
pub use Rattle.certificate_lines.proofs.Imports.{true≢false, used_gate_in, w32, whole, wire_of, zero, ℕ, ℤ, ◌&&◌, ◌++◌}
pub use Rattle.certificate_lines.proofs.Imports.{◌+◌, ◌-◌, ◌<◌, ◌==◌, ◌||◌, ◌∙◌, ◌∷◌, ◌≡◌, ◌≤◌, ◌⊎◌}
unfoldable pub use Rattle.certificate_lines.proofs.Imports.{AreLinesInOrder, StarsExcludeLaterTimes, add_line}
unfoldable pub use Rattle.certificate_lines.proofs.Imports.{body_lines, cell_cmp, cell_of, change_last, end_fault}
unfoldable pub use Rattle.certificate_lines.proofs.Imports.{has_nonlocal_port, in_box, in_halo, is_cut_line, last_of}
unfoldable pub use Rattle.certificate_lines.proofs.Imports.{line_cmp, may_precede, modules_of, port_at, rank_of}
unfoldable pub use Rattle.certificate_lines.proofs.Imports.{rectangle_cells, size_fault, sort_number_of}
pub use Rattle.certificate_lines.proofs.InList.{all_in, placed}
pub use Rattle.certificate_lines.proofs.LayoutPorts.{balls_on_layout, wastes_on_layout}
pub use Rattle.certificate_lines.proofs.LineOrder.{AreDistinct, Rises, each_in, filter_in, in_each, in_filter, in_flat}
pub use Rattle.certificate_lines.proofs.LineOrder.{in_ordered, line_total, ordered_in, ordered_rises, pairs_filter}
pub use Rattle.certificate_lines.proofs.LineOrder.{rising_same}
unfoldable pub use Rattle.certificate_lines.proofs.LineOrder.{In}
pub use Rattle.certificate_lines.proofs.Lists.{any_at, some_is}
pub use Rattle.certificate_lines.proofs.ModulePushes.{no_code}
pub use Rattle.certificate_lines.proofs.ModuleSplit.{split_module, split_other}
pub use Rattle.certificate_lines.proofs.Pairs.{pairs_flat, rising_of}
unfoldable pub use Rattle.certificate_lines.proofs.Pairs.{Each, Pairs}
pub use Rattle.certificate_lines.specs.Entries.{cut_wires, halos, keeps, stops}
pub use Rattle.certificate_lines.specs.Modules.{AreModules, HasLocalPortWires}
pub use Rattle.certificate_lines.specs.Orders.{time_rank}
pub use Rattle.certificate_lines.specs.Rules.{leaves_gap}
unfoldable pub use Rattle.certificate_lines.specs.Rules.{entry_fault}
pub use Rattle.certificate_lines.specs.Settings.{setting_of}
pub use Rattle.certificate_lines.specs.StoredModules.{HasCircuitWire, HasCircuitWires, IsCircuitWire, body_lines_with}
pub use Rattle.certificate_lines.specs.StoredModules.{border_line, cell_at, lines_of_modules, module_lines}
pub use Rattle.certificate_lines.specs.StoredModules.{module_lines_with, stop_line, wire_name}
pub use Rattle.certificate_lines.specs.Versions.{is_haloless_version}
unfoldable pub use Rattle.certificate_lines.specs.Versions.{border_line_cmp, edge_lines_beside, is_halo_line}
unfoldable pub use Rattle.certificate_lines.specs.Versions.{has_nonlocal_edge_wire_beside, modules_by_version}
unfoldable pub use Rattle.certificate_lines.specs.Versions.{precedes_halo_lines}
unfoldable pub use Rattle.certificate_lines.specs.Versions.{sorted_border_lines, with_halo_lines, without_halo_lines}
pub use Rattle.certificate_lines.specs.declared.certificate_line.BorderLine.{BorderLine}
pub use Rattle.certificate_lines.specs.declared.certificate_line.CertificateLine.{CertificateLine}
pub use Rattle.certificate_lines.specs.declared.certificate_line.CertificateLine.TheVariants.{Cut, Edge, Halo, Keep}
pub use Rattle.certificate_lines.specs.declared.certificate_line.CertificateLine.TheVariants.{Module, Stop, Use}
pub use Rattle.certificate_lines.specs.declared.certificate_line.StopLine.{StopLine}
pub use Rattle.certificate_lines.specs.declared.stored_module.StoredBorder.{StoredBorder}
pub use Rattle.certificate_lines.specs.declared.stored_module.StoredModule.{StoredModule}
pub use Rattle.certificate_lines.specs.declared.stored_module.StoredStop.{StoredStop}
pub use Rattle.circuit.proofs.Imports.{gate_of, is_inverse}
pub use Rattle.circuit.specs.declared.circuit_line.CircuitLine.{CircuitLine}
pub use Rattle.lemmas.proofs.Common.{All-cons, Contains, IfOk-weaker, IsPermutation, fold, max, min, nat_cmp, nat_le}
pub use Rattle.lemmas.proofs.Common.{of_z, or_parts, ordering_then, ranks_by}
pub use Rattle.module_box.proofs.Imports.{IsRising, LocalNet, circuit_wire, eqb, netlist_of, same_Some, wires, ◌+ℤ◌}
unfoldable pub use Rattle.module_box.proofs.Imports.{all_times_at, event_at, in_span, moment_cmp}
pub use Rattle.module_box.specs.Moves.{IsCellInShiftRange, IsSmallShift}
pub use Rattle.module_box.specs.Schedules.{Signals}
unfoldable pub use Rattle.module_box.specs.Schedules.{signal_at}
pub use Rattle.module_box.specs.declared.schedules.AllTimesSignal.{AllTimesSignal}
pub use Rattle.module_box.specs.declared.schedules.Signal.{Signal}
pub use Rattle.module_box.specs.declared.schedules.Signal.TheVariants.{One, Zero}
pub use Rattle.module_box.specs.declared.schedules.TimedSignal.{TimedSignal}
pub use Rattle.module_job.proofs.Imports.{All-head, arc_value, mapped_at, moved_stop, unwrap_or, ◌≢◌}
pub use Rattle.module_job.specs.Jobs.{JobView}
pub use Rattle.module_job.specs.Shapes.{shift_to_origin, stops_in_plane}
pub use Rattle.module_job.specs.Signals.{IsDemandWireBelow, IsSignalWireBelow, renumber_all_times, renumber_demand}
pub use Rattle.module_job.specs.Signals.{renumber_event, renumber_signal, renumber_signals}
pub use Rattle.module_job.specs.declared.job.Demand.{Demand}
pub use Rattle.module_job.specs.declared.job.Demand.TheVariants.{Dead, Live}
pub use Rattle.pattern.proofs.Imports.{Pattern, in_cells, in_rectangles}
pub use Rattle.pattern.proofs.TakenLemmas.{is_sized}
pub use Rattle.pattern.specs.declared.layout_line.LayoutHeader.{LayoutHeader}
pub use Rattle.section_text.proofs.Good.{AreFaultless, IsFaultless}
pub use Rattle.section_text.proofs.Imports.{drop_all}
pub use Rattle.section_text.specs.declared.code.RefusalCode.TheVariants.{PastLimit, SomethingMissing}
pub use Rattle.section_text.specs.declared.section.Form.TheVariants.{End, Header, Item}
