-- The line forms of the circuit section.
use Rattle.std.specs.Prelude.{ℕ, ◌+◌, Bool, true, false, List, [], ◌∷◌, length, Option, Some, None, codes, ◌==◌}
use Rattle.std.specs.Prelude.{if◌then◌else◌}
use Rattle.section_text.specs.Words.{◌>>=◌, is_word_at, names_at, number_at, if_one_word, name_after_keyword}
use Rattle.section_text.specs.declared.section.Form.{Form}
use Rattle.section_text.specs.declared.section.Form.TheVariants.{Header, Item, End}
use Rattle.circuit.specs.declared.circuit_line.GateKind.{GateKind}
use Rattle.circuit.specs.declared.circuit_line.GateKind.TheVariants.{Cswap, Delay, Fredkin, Interact, Source, Switch}
use Rattle.circuit.specs.declared.circuit_line.GateKind.TheVariants.{Uninteract, Unswitch}
use Rattle.circuit.specs.declared.circuit_line.CircuitLineKind.TheVariants.{Input, Gate, Output, Spill}
use Rattle.circuit.specs.declared.circuit_line.CircuitLine.{CircuitLine}
use Rattle.circuit.specs.Entries.{entry}
use Rattle.circuit.specs.Gates.{uses, defines}

-- a word that is a bit
unfoldable pub bit_at : List (List ℕ) → ℕ → Option Bool
bit_at ws i = if is_word_at ws i (codes "0") then Some false else
    (if is_word_at ws i (codes "1") then Some true else None)

-- the kind that a gate's line begins with
unfoldable pub gate_kind : List (List ℕ) → Option GateKind
gate_kind ws =
    if is_word_at ws 0 (codes "source") then (bit_at ws 1 >>= λ b. Some (Source b))
    else if is_word_at ws 0 (codes "fredkin") then Some Fredkin
    else if is_word_at ws 0 (codes "cswap") then Some Cswap
    else if is_word_at ws 0 (codes "interact") then Some Interact
    else if is_word_at ws 0 (codes "switch") then Some Switch
    else if is_word_at ws 0 (codes "delay") then (number_at ws 1 >>= λ n. Some (Delay n))
    else if is_word_at ws 0 (codes "unswitch") then Some Unswitch
    else if is_word_at ws 0 (codes "uninteract") then Some Uninteract
    else None

-- how many words are before the names
abbrev pub words_before_names : GateKind → ℕ
words_before_names (Source b) = 2
words_before_names (Delay n) = 2
words_before_names _ = 1

-- the gate line of this kind by its words
unfoldable pub gate_line_of_kind : List (List ℕ) → GateKind → Option CircuitLine
gate_line_of_kind ws kind = do
  ins ← names_at ws (words_before_names kind) (uses kind)
  outs ← names_at ws (words_before_names kind + uses kind + 1) (defines kind)
  Some (entry (Gate kind) ins outs)

-- a gate: its kind, the names that it consumes, an arrow, the names that it defines
unfoldable pub gate_entry : List (List ℕ) → Option CircuitLine
gate_entry ws = do
  kind ← gate_kind ws
  if length ws == words_before_names kind + uses kind + 1 + defines kind then
      (if is_word_at ws (words_before_names kind + uses kind) (codes "->") then gate_line_of_kind ws kind else None)
      else None

-- the form of a line by its words, if it has one; the header has no content
unfoldable pub form_of : List (List ℕ) → Option (Form (Unit {0}) CircuitLine)
form_of ws =
    if is_word_at ws 0 (codes "circuit") then if_one_word ws (Header tt)
    else if is_word_at ws 0 (codes "end") then if_one_word ws End
    else if is_word_at ws 0 (codes "input") then (name_after_keyword ws >>= λ n. Some (Item (entry Input [] (n ∷ []))))
    else if is_word_at ws 0 (codes "output") then
    (name_after_keyword ws >>= λ n. Some (Item (entry Output (n ∷ []) [])))
    else if is_word_at ws 0 (codes "spill") then (name_after_keyword ws >>= λ n. Some (Item (entry Spill (n ∷ []) [])))
    else (gate_entry ws >>= λ r. Some (Item r))
