-- The text of a circuit: each line spelled in the one way.
use Rattle.std.specs.Prelude.{ℕ, Bool, true, false, List, [], ◌∷◌, ◌++◌, codes}
use Rattle.std.specs.List.{flat_map}
use Rattle.std.specs.Fmt.{decimal}
use Rattle.circuit.specs.declared.circuit_line.GateKind.{GateKind}
use Rattle.circuit.specs.declared.circuit_line.GateKind.TheVariants.{Cswap, Delay, Fredkin, Interact, Source, Switch}
use Rattle.circuit.specs.declared.circuit_line.GateKind.TheVariants.{Uninteract, Unswitch}
use Rattle.circuit.specs.declared.circuit_line.CircuitLineKind.{CircuitLineKind}
use Rattle.circuit.specs.declared.circuit_line.CircuitLineKind.TheVariants.{Input, Gate, Output, Spill}
use Rattle.circuit.specs.declared.circuit_line.CircuitLine.{CircuitLine}
use Rattle.section_text.specs.declared.section.Form.{Form}
use Rattle.section_text.specs.declared.section.Form.TheVariants.{Header, Item, End}
use Rattle.section_text.specs.Spelling.{line_text}

-- the word for a bit
abbrev pub bit_word : Bool → List ℕ
bit_word true = codes "1"
bit_word false = codes "0"

-- the keyword of a gate
abbrev pub gate_word : GateKind → List ℕ
gate_word (Source b) = codes "source"
gate_word Fredkin = codes "fredkin"
gate_word Cswap = codes "cswap"
gate_word Interact = codes "interact"
gate_word Switch = codes "switch"
gate_word (Delay n) = codes "delay"
gate_word Unswitch = codes "unswitch"
gate_word Uninteract = codes "uninteract"

-- the words between the keyword of a gate and its names
abbrev pub gate_parameter_words : GateKind → List (List ℕ)
gate_parameter_words (Source b) = bit_word b ∷ []
gate_parameter_words (Delay n) = decimal n ∷ []
gate_parameter_words _ = []

-- the first word of a entry, and the others
unfoldable pub first_word : CircuitLineKind → List ℕ
first_word Input = codes "input"
first_word (Gate k) = gate_word k
first_word Output = codes "output"
first_word Spill = codes "spill"

-- the words of a line behind the first, by its kind
abbrev pub words_after_first : List (List ℕ) → List (List ℕ) → CircuitLineKind → List (List ℕ)
words_after_first ins outs Input = outs
words_after_first ins outs (Gate k) = gate_parameter_words k ++ (ins ++ codes "->" ∷ outs)
words_after_first ins outs Output = ins
words_after_first ins outs Spill = ins

-- the words of a line behind the first
unfoldable pub words_after_keyword : CircuitLine → List (List ℕ)
words_after_keyword r = words_after_first r.ins r.outs r.kind

-- the line of an entry
unfoldable pub entry_text : CircuitLine → List ℕ
entry_text r = line_text (first_word r.kind) (words_after_keyword r)

-- the text of a circuit, from its header line to its `end` line
unfoldable pub circuit_text : List CircuitLine → List ℕ
circuit_text entries = line_text (codes "circuit") [] ++ flat_map entry_text entries ++ line_text (codes "end") []

-- the form of a line of the circuit section: its header has no content
abbrev pub Line : Type 0
Line = Form (Unit {0}) CircuitLine

-- the text of a line, by its form
abbrev pub form_text : Line → List ℕ
form_text (Header h) = line_text (codes "circuit") []
form_text (Item r) = entry_text r
form_text End = line_text (codes "end") []

-- a wire's name and its value
unfoldable pub value_line : List ℕ → Bool → List ℕ
value_line n v = line_text n (bit_word v ∷ [])

-- the values of wires by their names, a line for each
unfoldable pub value_lines : List (List ℕ) → List Bool → List ℕ
value_lines [] vs = []
value_lines (n ∷ ns) [] = []
value_lines (n ∷ ns) (v ∷ vs) = value_line n v ++ value_lines ns vs
