-- The answer of `value` to a text: each wire's value under an assignment of the inputs, or the refusal of the text.
use Rattle.std.specs.Prelude.{◌≡◌, ◌⊎◌, ℕ, ◌++◌, ◌∷◌, [], Bool, List, codes, drop, map, Result}
use Rattle.std.specs.Fmt.{decimal}
use Rattle.section_text.specs.Limits.{limits_line_count, limits_of}
use Rattle.section_text.specs.declared.limits.Limits.{Limits}
use Rattle.section_text.specs.Spelling.{line_text}
use Rattle.circuit.specs.Entries.{defined}
use Rattle.section_text.specs.Words.{lines_of, has}
use Rattle.section_text.specs.Sections.{section_then}
use Rattle.section_text.specs.declared.fault.Refusal.{Refusal}
use Rattle.circuit.specs.declared.circuit_line.CircuitLine.{CircuitLine}
use Rattle.circuit.specs.Grammars.{circuit_grammar}
use Rattle.circuit.specs.Bridge.{AreWireValues, ValuesStopAt, input_names, netlist_of, as_values}
use Rattle.circuit.specs.Meaning.{AreGatesOrdered, Valuation}
use Rattle.circuit.specs.Text.{value_lines}
use Rattle.answers.specs.declared.outcome.Outcome.TheVariants.{No, Yes}
use Rattle.answers.specs.declared.outcome.Outcome.{Outcome}
use Rattle.answers.specs.Answers.{AnswersOrRefuses, value_and_names_on}

-- the lines of a circuit, and the names that are on
abbrev pub ValueQuestion : Type 0
ValueQuestion = List CircuitLine × List (List ℕ)

-- with these limits, after their line: a circuit section, an assign section in which its inputs may be on, and nothing
-- more
unfoldable pub value_sections_with_limits : Limits → List ℕ → Result ValueQuestion Refusal
value_sections_with_limits l text =
    section_then (circuit_grammar l) (limits_line_count l) (drop (limits_line_count l) (lines_of text))
    (λ _ entries n ahead. value_and_names_on text entries (input_names entries) n ahead)

-- with the limits that the text has
unfoldable pub value_sections_of : List ℕ → Result ValueQuestion Refusal
value_sections_of text = value_sections_with_limits (limits_of (lines_of text)) text

-- an input is true exactly if its name is on
abbrev pub assigned_inputs : ValueQuestion → Valuation
assigned_inputs asked = as_values (map (λ n. has asked.1 n) (input_names asked.0))

-- if the circuit has a valuation: a line for each wire, in order of definition
pub record SaysAllValues (asked : ValueQuestion) (output : List ℕ) (outcome : Outcome) : Type 0 where
  pub values : List Bool
  pub are : AreWireValues (netlist_of asked.0) (assigned_inputs asked) values
  pub says : output ≡ value_lines (defined asked.0) values
  pub ends : outcome ≡ Yes

-- if a gate has no row: a line for each wire that is defined before the first such gate, and then the gate's number
pub record SaysValuesBeforeGate (asked : ValueQuestion) (output : List ℕ) (outcome : Outcome) : Type 0 where
  pub gate : ℕ
  pub values : List Bool
  pub stops : ValuesStopAt (netlist_of asked.0) (assigned_inputs asked) gate values
  pub says : output ≡ value_lines (defined asked.0) values ++ line_text (codes "undefined") (decimal gate ∷ [])
  pub ends : outcome ≡ No

-- each gate uses wires that are defined before it, so no more than one of these two can be said
pub record SaysValues (asked : ValueQuestion) (output : List ℕ) (outcome : Outcome) : Type 0 where
  pub ordered : AreGatesOrdered (netlist_of asked.0).given (netlist_of asked.0).gates
  pub says : SaysAllValues asked output outcome ⊎ SaysValuesBeforeGate asked output outcome

-- what `value` writes for a text, and how it ends
abbrev pub IsValueAnswerOf : List ℕ → List ℕ → Outcome → Type 0
IsValueAnswerOf text output outcome = AnswersOrRefuses SaysValues (value_sections_of text) output outcome
