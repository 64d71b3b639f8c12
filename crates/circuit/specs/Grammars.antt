-- The circuit section.
use Rattle.std.specs.Prelude.{ℕ, List, Option, Some, None}
use Rattle.circuit.specs.Entries.{defined}
use Rattle.section_text.specs.Section.{Grammar}
use Rattle.circuit.specs.declared.circuit_line.CircuitLine.{CircuitLine}
use Rattle.section_text.specs.Codes.{or_else}
use Rattle.circuit.specs.Forms.{form_of}
use Rattle.section_text.specs.declared.limits.Limits.{Limits}
use Rattle.circuit.specs.Rules.{order_fault, limit_or_name_code_within, first_unconsumed, consumed}
use Rattle.section_text.specs.declared.code.RefusalCode.{RefusalCode}
use Rattle.section_text.specs.declared.code.RefusalCode.TheVariants.{SomethingMissing}

-- the code of a wire that no line consumes, if there is one
abbrev pub unconsumed_wire_code : Option (List ℕ) → Option RefusalCode
unconsumed_wire_code None = None
unconsumed_wire_code (Some n) = Some SomethingMissing

-- the grammar of the circuit section in a text with these limits
abbrev pub circuit_grammar : Limits → Grammar (Unit {0}) CircuitLine
circuit_grammar l = record {
  form = form_of;
  header_fault = λ h. None;
  item_fault = λ h entries r. or_else (order_fault entries r) (limit_or_name_code_within l entries r);
  end_fault = λ h entries. unconsumed_wire_code (first_unconsumed (consumed entries) (defined entries));
}

-- what the section of a circuit gives
abbrev pub circuit_section : List CircuitLine → Unit {0} × List CircuitLine
circuit_section entries = (tt, entries)
