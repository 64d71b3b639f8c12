-- The names from outside this folder that two or more proofs of this crate use, in one file to import them from.
pub use Rattle.bbm_rule.proofs.Imports.{and-false, cond-false, cond-true, get_or-set_same, length-set, or-false}
pub use Rattle.bbm_rule.proofs.Imports.{set, to_z-of_z}
pub use Rattle.bbm_rule.proofs.SameCells.{cell_itself, cell_same}
pub use Rattle.bbm_rule.specs.declared.block.Box2.{Box2}
pub use Rattle.bbm_rule.specs.declared.block.Cell.{Cell}
pub use Rattle.certificate_lines.specs.BuilderView.{AreBoxesDisjoint, AreGoodModulesSoFar, AreLocalWiresOfModules}
pub use Rattle.certificate_lines.specs.BuilderView.{AreModulesWithOwners}
pub use Rattle.certificate_lines.specs.BuilderView.{BuilderView, IsBodyLine, IsModuleInLimits, does_neighbour_lack_wire}
pub use Rattle.certificate_lines.specs.BuilderView.{is_outside_and_nonlocal, lacks_wire_of_some_edge, last_body_line}
pub use Rattle.certificate_lines.specs.Entries.{ModuleLines, Setting, areas, cut_name_in, cuts, edge_in, line_counts_of}
pub use Rattle.certificate_lines.specs.Entries.{edges, gates, halo_in, kept_gate_in, known, last_module}
pub use Rattle.certificate_lines.specs.Entries.{module_with_line, stop_in, used_gate_in}
unfoldable pub use Rattle.certificate_lines.specs.Entries.{add_line, change_last, last_of, modules_of}
unfoldable pub use Rattle.certificate_lines.specs.Forms.{border_of, form_of, stop_of}
pub use Rattle.certificate_lines.specs.LineKeys.{key_of, key_or_first}
pub use Rattle.certificate_lines.specs.ModuleParts.{AreLinesInBox, is_module_line}
unfoldable pub use Rattle.certificate_lines.specs.ModuleParts.{body_lines}
pub use Rattle.certificate_lines.specs.Modules.{IsModule}
unfoldable pub use Rattle.certificate_lines.specs.Modules.{StarsExcludeLaterTimes}
unfoldable pub use Rattle.certificate_lines.specs.Orders.{AreLinesInOrder, cell_of, is_cut_line, line_cmp, may_follow}
unfoldable pub use Rattle.certificate_lines.specs.Orders.{may_precede, rank_of, sort_number_of}
pub use Rattle.certificate_lines.specs.PortTables.{ArePortTableFields, ArePortsInLayout, AreRowsWithPortsNumbered}
pub use Rattle.certificate_lines.specs.PortTables.{CircuitAndPorts, entry_place}
unfoldable pub use Rattle.certificate_lines.specs.PortTables.{entry_place_by_row_number, port_at, port_number_at}
pub use Rattle.certificate_lines.specs.Rules.{body_line_code, code_but_for_order, is_last_module_incomplete, is_local}
pub use Rattle.certificate_lines.specs.Rules.{is_local_wire, is_odd, is_star, is_starred_line_at, same_cell, whole}
unfoldable pub use Rattle.certificate_lines.specs.Rules.{are_new_and_distinct, module_box_code, end_fault}
unfoldable pub use Rattle.certificate_lines.specs.Rules.{has_nonlocal_port, module_line_code}
pub use Rattle.certificate_lines.specs.Versions.{is_nonlocal_signal}
pub use Rattle.certificate_lines.specs.declared.certificate_line.BorderLine.{BorderLine}
pub use Rattle.certificate_lines.specs.declared.certificate_line.CertificateLine.{CertificateLine}
pub use Rattle.certificate_lines.specs.declared.certificate_line.CertificateLine.TheVariants.{Cut, Edge, Halo, Keep}
pub use Rattle.certificate_lines.specs.declared.certificate_line.CertificateLine.TheVariants.{Module, Stop, Use}
pub use Rattle.certificate_lines.specs.declared.certificate_line.Counts.{Counts}
pub use Rattle.certificate_lines.specs.declared.certificate_line.StopLine.{StopLine}
pub use Rattle.certificate_lines.specs.declared.order.LineKey.{LineKey}
pub use Rattle.certificate_lines.specs.declared.ports.PortTable.TheInside.{Inside}
pub use Rattle.circuit.proofs.Imports.{bytes_eq, bytes_eq-Decides, option_map, or_else, slice_get-map, words_of, ◌>>=◌}
unfoldable pub use Rattle.circuit.proofs.Imports.{is_word_at}
pub use Rattle.circuit.specs.Bridge.{circuit_of}
pub use Rattle.circuit.specs.Meaning.{Circuit, wire_of}
pub use Rattle.lemmas.proofs.Common.{All-append, All-nil, IsTotalOrder, false_from_not, filter, is_lt, length-replicate}
pub use Rattle.lemmas.proofs.Common.{list_any_at, map-append, mapped_from, nat_cmp_total, none_at, on_total}
pub use Rattle.lemmas.proofs.Common.{option_to_list}
pub use Rattle.lemmas.proofs.Common.{or_right, positive, replicate, take-suc, then_total, to_z, true_from_not}
pub use Rattle.module_box.proofs.BoxCells.{in_box_nats}
pub use Rattle.module_box.proofs.FromCorner.{abs_from}
pub use Rattle.module_box.proofs.Imports.{All, All-tail, Bool, Equal, Gate, Greater, IfSome, IsEvenBox, IsTrue, Less}
pub use Rattle.module_box.proofs.Imports.{List, Netlist, None, Option, Ordering, SFits, Some, [], and_from, and_parts}
pub use Rattle.module_box.proofs.Imports.{ap, append_assoc, ap₂, arith, cases_Bool, common_steps, drop, eqb-true, false}
pub use Rattle.module_box.proofs.Imports.{false≢true, flat_map, get_or, get_or_default, get_or_from_slice_get, inl, inr}
pub use Rattle.module_box.proofs.Imports.{ints, is_among, is_cell_at, is_some, length, length-map, length_push, map}
pub use Rattle.module_box.proofs.Imports.{nat_eq, ne_eqb, not, or_cases, pos, range_with_len, rectangle, refl, rules}
pub use Rattle.module_box.proofs.Imports.{slice_get, slice_get-get_or, slice_get_within, span_from, subst, suc, sym}
pub use Rattle.module_box.proofs.Imports.{take, take_more, true, true≢false, unsigned_abs, w32, zero, ℕ, ℤ, ◌%◌, ◌&&◌}
pub use Rattle.module_box.proofs.Imports.{◌*◌, ◌++◌, ◌+◌, ◌-◌, ◌<◌, ◌==◌, ◌||◌, ◌∙◌, ◌∷◌, ◌≡◌, ◌≤◌, ◌⊎◌}
unfoldable pub use Rattle.module_box.proofs.Imports.{cell_cmp, in_box, in_halo, partner}
pub use Rattle.bbm_rule.proofs.CellOrder.{cell_total}
pub use Rattle.module_box.proofs.Rising.{pushed}
pub use Rattle.module_box.specs.Locals.{AreLocalLines, local_wires}
pub use Rattle.module_box.specs.Places.{place_in}
pub use Rattle.module_box.specs.Tiling.{IsInside, rectangle_of}
pub use Rattle.pattern.proofs.Imports.{HaveDistinctCells, append-nil, code_if, codes, flat_map-append}
pub use Rattle.pattern.proofs.Imports.{list_all, list_any, list_any-append, nat_lt, nat_tests, row_cells}
unfoldable pub use Rattle.pattern.proofs.Imports.{rectangle_cells, size_fault}
pub use Rattle.pattern.proofs.InsideLemmas.{size_sides}
pub use Rattle.bbm_rule.specs.CellLists.{cell}
pub use Rattle.pattern.specs.declared.layout_line.LayoutHeader.{LayoutHeader}
pub use Rattle.pattern.specs.declared.layout_line.Port.{Port}
pub use Rattle.section_text.proofs.Imports.{if◌then◌else◌, line_bytes, list_all-append, take_all, take_rest}
pub use Rattle.section_text.specs.declared.code.RefusalCode.{RefusalCode}
pub use Rattle.section_text.specs.declared.code.RefusalCode.TheVariants.{OutOfOrder, SomethingMissing}
pub use Rattle.section_text.specs.declared.section.Form.TheVariants.{Item}
