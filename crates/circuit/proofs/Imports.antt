-- The names from outside this folder that two or more proofs of this crate use, in one file to import them from.
pub use Rattle.circuit.specs.Bridge.{AreGoodCircuitLines, AreWireValues, HasNameCountOfKind, IsNoInputAfterGate}
pub use Rattle.circuit.specs.Bridge.{IsValuesFault, as_values, gate_of_line_kind, gates_of, input_count, input_names}
pub use Rattle.circuit.specs.Bridge.{is_input, netlist_of}
unfoldable pub use Rattle.circuit.specs.Bridge.{AreGoodAfter}
pub use Rattle.circuit.specs.Entries.{defined, entry, rank_of}
pub use Rattle.circuit.specs.Evaluate.{EvaluatesUpTo, IsGateEvaluationError}
unfoldable pub use Rattle.circuit.specs.Evaluate.{evaluate}
pub use Rattle.circuit.specs.Forms.{words_before_names}
unfoldable pub use Rattle.circuit.specs.Forms.{form_of, gate_entry, gate_kind, gate_line_of_kind}
pub use Rattle.circuit.specs.Gates.{defines, is_inverse, uses}
unfoldable pub use Rattle.circuit.specs.Gates.{row}
pub use Rattle.circuit.specs.Meaning.{FollowsRow, Gate, Netlist, Satisfies, Valuation, wires}
unfoldable pub use Rattle.circuit.specs.Meaning.{AreGatesOrdered, number, wires_after}
pub use Rattle.circuit.specs.Rules.{consume_fault, consumed, define_fault, exceeds_largest_limit, gate_count, is_gate}
unfoldable pub use Rattle.circuit.specs.Rules.{limit_or_name_code}
pub use Rattle.circuit.specs.Text.{Line, form_text}
unfoldable pub use Rattle.circuit.specs.Text.{entry_text, value_lines}
pub use Rattle.circuit.specs.Wiring.{gate_of, gate_with_outs_from, with_marks_set}
pub use Rattle.circuit.specs.declared.circuit_line.CircuitLine.{CircuitLine}
pub use Rattle.circuit.specs.declared.circuit_line.GateKind.{GateKind}
pub use Rattle.circuit.specs.declared.circuit_line.GateKind.TheVariants.{Cswap, Delay, Fredkin, Interact, Source}
pub use Rattle.circuit.specs.declared.circuit_line.GateKind.TheVariants.{Switch, Uninteract, Unswitch}
pub use Rattle.circuit.specs.declared.circuit_line.CircuitLineKind.{CircuitLineKind}
pub use Rattle.circuit.specs.declared.circuit_line.CircuitLineKind.TheVariants.{Input, Output, Spill}
pub use Rattle.circuit.specs.declared.wiring.GateWires.{GateWires}
pub use Rattle.lemmas.proofs.Common.{All, All-head, All-tail, cases_lt, eqb, eqb-true, flat_map-append}
pub use Rattle.lemmas.proofs.Common.{get_or-append-add, get_or-map-range_with_len, get_or_append_left}
pub use Rattle.lemmas.proofs.Common.{get_or_from_slice_get, le-ltb, length-map, list_any-append, option_map}
pub use Rattle.lemmas.proofs.Common.{range_with_len, slice_get-map, slice_get_read, sum_by-cons, take_more, true≢false}
pub use Rattle.section_text.proofs.Imports.{Bool, List, None, Option, Some, [], ap, append-nil, append_assoc, ap₂}
pub use Rattle.section_text.proofs.Imports.{arith, bytes_eq, bytes_eq-Decides, cases_Bool, codes, common_steps, cond}
pub use Rattle.section_text.proofs.Imports.{cond_some, drop, false, flat_map, get_or, inl, inr, length, length-append}
pub use Rattle.section_text.proofs.Imports.{map, option_and_then, option_and_then_some, position, refl, rules}
pub use Rattle.section_text.proofs.Imports.{same_Some, slice_get, subst, suc, sym, take, true, words_of, zero, ℕ, ◌++◌}
pub use Rattle.section_text.proofs.Imports.{◌+◌, ◌-◌, ◌<◌, ◌>>=◌, ◌∙◌, ◌∷◌, ◌≡◌, ◌≤◌}
unfoldable pub use Rattle.section_text.proofs.Imports.{is_word_at, names_at}
pub use Rattle.section_text.proofs.Spellings.{chosen, passed}
pub use Rattle.section_text.specs.Codes.{or_else}
pub use Rattle.section_text.specs.Words.{has}
unfoldable pub use Rattle.section_text.specs.Words.{if_one_word, name_after_keyword}
pub use Rattle.section_text.specs.declared.code.RefusalCode.{RefusalCode}
pub use Rattle.section_text.specs.declared.code.RefusalCode.TheVariants.{ConsumedTwice}
pub use Rattle.section_text.specs.declared.section.Form.TheVariants.{End, Header, Item}
