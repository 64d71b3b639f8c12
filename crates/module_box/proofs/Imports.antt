-- The names from outside this folder that two or more proofs of this crate use, in one file to import them from.
pub use Rattle.bbm_rule.proofs.BitLemmas.{bit-zero}
pub use Rattle.bbm_rule.proofs.Imports.{SFits, State, div-mul-add, ints, mod-mul-add, mul-le-mul_right, nat_eq, not}
pub use Rattle.bbm_rule.proofs.Imports.{pos, w32, ℤ, ◌%◌, ◌+ℤ◌, ◌-ℤ◌, ◌/◌, ◌||◌, ◌≢◌}
unfoldable pub use Rattle.bbm_rule.proofs.Imports.{bit, in_span, partner, step}
pub use Rattle.bbm_rule.proofs.Spans.{span_from, span_parts}
pub use Rattle.bbm_rule.proofs.Steps.{step_same}
pub use Rattle.bbm_rule.specs.Boxes.{IsEvenBox}
unfoldable pub use Rattle.bbm_rule.specs.Boxes.{has_neighbour_in_set, in_box, in_halo, in_ring}
pub use Rattle.bbm_rule.specs.Plane.{is_cell_at}
pub use Rattle.bbm_rule.specs.declared.block.Box2.{Box2}
pub use Rattle.bbm_rule.specs.declared.block.Cell.{Cell}
pub use Rattle.circuit.proofs.Imports.{All, All-head, All-tail, Bool, FollowsRow, Gate, List, Netlist, None, Option}
pub use Rattle.circuit.proofs.Imports.{Satisfies, Some, Valuation, [], ap, append_assoc, ap₂, arith, as_values}
pub use Rattle.circuit.proofs.Imports.{cases_Bool, cases_lt, common_steps, defines, drop, eqb, eqb-true, false}
pub use Rattle.circuit.proofs.Imports.{flat_map, get_or, get_or-append-add, get_or_append_left, get_or_from_slice_get}
pub use Rattle.circuit.proofs.Imports.{inl, inr, length, length-append, length-map, map, netlist_of, position}
pub use Rattle.circuit.proofs.Imports.{range_with_len, refl, rules, same_Some, slice_get, slice_get_read, subst, suc}
pub use Rattle.circuit.proofs.Imports.{sym, take, take_more, true, true≢false, uses, wires, zero, ℕ, ◌++◌, ◌+◌, ◌-◌}
pub use Rattle.circuit.proofs.Imports.{◌<◌, ◌∙◌, ◌∷◌, ◌≡◌, ◌≤◌}
unfoldable pub use Rattle.circuit.proofs.Imports.{AreGatesOrdered, row, wires_after}
pub use Rattle.circuit.specs.declared.circuit_line.GateKind.{GateKind}
pub use Rattle.circuit.specs.declared.circuit_line.GateKind.TheVariants.{Cswap, Delay, Fredkin, Interact, Source}
pub use Rattle.circuit.specs.declared.circuit_line.GateKind.TheVariants.{Switch, Uninteract, Unswitch}
pub use Rattle.lemmas.proofs.Common.{Equal, Greater, IfSome, IsTrue, Less, Ordering, and_from, below_or_from}
pub use Rattle.lemmas.proofs.Common.{below_or_same, eq-eqb, get_or_default, is_some, length-range_with_len, map_push}
pub use Rattle.lemmas.proofs.Common.{mul-le-mul_left, ne_eqb, or_cases, slice_get-get_or, slice_index, slice_index_or}
pub use Rattle.lemmas.proofs.Common.{unsigned_abs}
pub use Rattle.module_box.specs.Equality.{gate_kind_number}
pub use Rattle.module_box.specs.Laws.{SameInBox}
pub use Rattle.module_box.specs.LocalGates.{gate_of_local_gate}
pub use Rattle.module_box.specs.LocalValues.{AreGateValuesAtBit, AreModuleValuesAtBit, gate_out_words, is_none}
pub use Rattle.module_box.specs.LocalValues.{is_this_gate, lane, word_of_input}
pub use Rattle.module_box.specs.Locals.{AreDistinct, AreLocalsOf, LocalNet, circuit_wire, is_among, renumber_gate}
unfoldable pub use Rattle.bbm_rule.specs.CellOrder.{cell_cmp}
unfoldable pub use Rattle.module_box.specs.Moments.{moment_cmp}
pub use Rattle.module_box.specs.Moves.{moved_all_times, moved_event}
pub use Rattle.module_box.specs.Numbers.{gate_code_numbers}
pub use Rattle.module_box.specs.Schedules.{IsRising, cell_of, moment_of}
unfoldable pub use Rattle.module_box.specs.Schedules.{all_times_at, event_at}
pub use Rattle.module_box.specs.Taking.{TakesBox, TakesRow}
pub use Rattle.module_box.specs.Tiling.{AreFirstBoxesInside, HasBlockAtPlace, HasOwnerTableSizes, OwnersView, rectangle}
unfoldable pub use Rattle.module_box.specs.Tiling.{owner_of}
pub use Rattle.module_box.specs.declared.locals.LocalGate.{LocalGate}
pub use Rattle.module_box.specs.declared.schedules.AllTimesSignal.{AllTimesSignal}
pub use Rattle.module_box.specs.declared.schedules.Signal.TheVariants.{Zero}
pub use Rattle.module_box.specs.declared.schedules.TimedSignal.{TimedSignal}
pub use Rattle.section_text.proofs.Imports.{and_parts, false≢true, length_push, slice_get_within, take-append-drop}
pub use Rattle.section_text.proofs.Imports.{◌&&◌, ◌*◌, ◌==◌, ◌⊎◌}
pub use Rattle.std.proofs.lemmas.List.Edits.{map_over_more}
