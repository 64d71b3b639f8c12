-- The names from outside this folder that two or more proofs of this crate use, in one file to import them from.
pub use Rattle.bbm_rule.proofs.Boards.{inside_is_span}
pub use Rattle.bbm_rule.proofs.Imports.{State, live, nat_lt, negsuc, not, pos, ℤ, ◌%◌, ◌||◌}
unfoldable pub use Rattle.bbm_rule.proofs.Imports.{in_span}
pub use Rattle.bbm_rule.specs.Board.{HasSameSize}
pub use Rattle.bbm_rule.specs.Plane.{is_cell_at}
unfoldable pub use Rattle.bbm_rule.specs.Plane.{run}
pub use Rattle.bbm_rule.specs.CellLists.{in_cells, row_cells}
unfoldable pub use Rattle.bbm_rule.specs.CellLists.{rectangle_cells}
pub use Rattle.bbm_rule.specs.declared.block.Box2.{Box2}
pub use Rattle.bbm_rule.specs.declared.block.Cell.{Cell}
pub use Rattle.lemmas.proofs.Common.{All, AllByRecursion, flat_map-append, list_any, list_any-append, or_last}
pub use Rattle.lemmas.proofs.Common.{range_with_len}
unfoldable pub use Rattle.pattern.specs.Forms.{box_of, cell_after_keyword, cell_of_words_from, port_after_keyword}
unfoldable pub use Rattle.pattern.specs.Forms.{port_of, size_of}
pub use Rattle.pattern.specs.Grammars.{layout_grammar}
pub use Rattle.pattern.specs.Layout.{HaveDistinctCells, IsDeadOutside, Pattern, in_layout, in_ports_on}
pub use Rattle.pattern.specs.Layout.{in_rectangles, parts_of}
unfoldable pub use Rattle.pattern.specs.Layout.{start}
pub use Rattle.pattern.specs.LayoutView.{pattern_of}
pub use Rattle.pattern.specs.Lines.{AreGoodAfter, ArePortsNamed, is_layout_side}
unfoldable pub use Rattle.pattern.specs.Lines.{cell_fault, cells_of, cells_taken_at_end, cells_taken_at_start}
unfoldable pub use Rattle.pattern.specs.Lines.{has_later_kind_before, has_taken_cell, is_inside, largest_limit_code}
unfoldable pub use Rattle.pattern.specs.Lines.{line_fault, missing_port_fault, name_fault, order_fault, size_fault}
unfoldable pub use Rattle.pattern.specs.Lines.{takes_cells_at_end, takes_cells_at_start}
pub use Rattle.pattern.specs.Run.{EndsWithCells, LeavesLayoutAt}
unfoldable pub use Rattle.pattern.specs.Run.{live_cells, start_cells_by_kind}
pub use Rattle.pattern.specs.Text.{cell_words, form_text, port_words, box_words, size_words}
unfoldable pub use Rattle.pattern.specs.Text.{layout_text}
pub use Rattle.pattern.specs.declared.layout_line.LayoutHeader.{LayoutHeader}
pub use Rattle.pattern.specs.declared.layout_line.LayoutLine.{LayoutLine}
pub use Rattle.pattern.specs.declared.layout_line.LayoutLine.TheVariants.{Ball, In, Mirror, Out, Waste}
pub use Rattle.pattern.specs.declared.layout_line.Port.{Port}
pub use Rattle.section_text.proofs.Imports.{Bool, List, None, Option, Some, [], ap, append-nil, append_assoc, ap₂}
pub use Rattle.section_text.proofs.Imports.{arith, cases_Bool, codes, common_steps, cond, false, flat_map, get_or, inl}
pub use Rattle.section_text.proofs.Imports.{inr, length, list_all, map, nat_tests, refl, same_Some, slice_get}
pub use Rattle.section_text.proofs.Imports.{subst, suc, sym, take, true, zero, ℕ, ◌&&◌, ◌++◌, ◌+◌, ◌<◌, ◌==◌, ◌∙◌}
pub use Rattle.section_text.proofs.Imports.{◌∷◌, ◌≡◌, ◌≤◌}
unfoldable pub use Rattle.section_text.proofs.Imports.{name_at, number_at}
pub use Rattle.section_text.specs.Codes.{code_if}
pub use Rattle.section_text.specs.Ports.{PortNameLists, port_name_lists}
pub use Rattle.section_text.specs.Spelling.{line_text}
pub use Rattle.section_text.specs.Words.{has}
pub use Rattle.section_text.specs.declared.code.RefusalCode.{RefusalCode}
pub use Rattle.section_text.specs.declared.code.RefusalCode.TheVariants.{SomethingMissing, TakenCell}
pub use Rattle.section_text.specs.declared.section.Form.TheVariants.{End, Header, Item}
pub use Rattle.std.specs.List.{filter}
