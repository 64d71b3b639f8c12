-- The design with which a text begins: a circuit, and then a layout. The text may go on in any way. Before the circuit
-- it may have the line `limits 2`, which chooses the larger limits.
use Rattle.std.specs.Prelude.{◌≡◌, ℕ, List, [], ◌++◌, codes, drop}
use Rattle.section_text.specs.Words.{lines_of}
use Rattle.section_text.specs.Limits.{limits_line_count, limits_of}
use Rattle.section_text.specs.declared.limits.Limits.{Limits}
use Rattle.section_text.specs.declared.limits.Limits.TheVariants.{First, Second}
use Rattle.section_text.specs.SaidSection.{IsSection}
use Rattle.circuit.specs.Forms.{form_of as circuit_form}
use Rattle.circuit.specs.declared.circuit_line.CircuitLine.{CircuitLine}
use Rattle.pattern.specs.Forms.{form_of as layout_form}
use Rattle.pattern.specs.Layout.{Pattern, parts_of}

-- the limits of a text
abbrev pub text_limits : List ℕ → Limits
text_limits text = limits_of (lines_of text)

-- the lines of a text behind the one that chooses its limits
abbrev pub section_lines : List ℕ → List (List ℕ)
section_lines text = drop (limits_line_count (text_limits text)) (lines_of text)

-- the line before the sections of a text with these limits
abbrev pub front_text : Limits → List ℕ
front_text First = []
front_text Second = codes "limits 2\n"

-- The sections of the text begin with the lines of this circuit, and go on with those of this layout.
pub record SaysDesign (text : List ℕ) (circuit : List CircuitLine) (layout : Pattern) : Type 0 where
  pub first : List (List ℕ)
  pub second : List (List ℕ)
  pub others : List (List ℕ)
  pub lines : section_lines text ≡ first ++ (second ++ others)
  pub circuit_is : IsSection circuit_form first tt circuit
  pub layout_is : IsSection layout_form second layout.size (parts_of layout)
