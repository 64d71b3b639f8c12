-- A gate line by the names on both sides of its arrow.
use Rattle.circuit.proofs.Imports.{Bool, CircuitLine, GateKind, List, None, Option, Some, arith, codes, common_steps}
use Rattle.circuit.proofs.Imports.{defines, entry, gate_entry, gate_kind, gate_line_of_kind, is_word_at, length, uses}
use Rattle.circuit.proofs.Imports.{words_before_names, ℕ, ◌+◌, ◌>>=◌, ◌≡◌}
use Rattle.lemmas.proofs.Common.{◌==◌, if◌then◌else◌}
use Rattle.section_text.specs.Words.{names_beside_arrow}
use Rattle.circuit.specs.declared.circuit_line.CircuitLineKind.TheVariants.{Gate}

abbrev pub Sides : Type 0
Sides = List (List ℕ) × List (List ℕ)

abbrev pub gate_of : GateKind → Option Sides → Option CircuitLine
gate_of kind None = None
gate_of kind (Some names) = Some (entry (Gate kind) names.0 names.1)

abbrev sides : Bool → Bool → Option (List (List ℕ)) → Option (List (List ℕ)) → Option Sides
sides a b x y = if a then (if b then (x >>= λ ins. y >>= λ outs. Some (ins, outs)) else None) else None

module _ (ws : List (List ℕ)) (kind : GateKind) where
  gate_by_names : gate_of kind (names_beside_arrow ws (words_before_names kind) (uses kind) (defines kind))
      ≡ (if length ws == words_before_names kind + uses kind + 1 + defines kind then
      (if is_word_at ws (words_before_names kind + uses kind) (codes "->") then gate_line_of_kind ws kind else None)
      else None)
  unfolding names_beside_arrow gate_line_of_kind
  gate_by_names = grind (arith, common_steps)

  -- the line of a gate, whose words before its names and whose numbers of names are those of its kind
  pub gate_entry_is : (before ins outs : ℕ) → before ≡ words_before_names kind → ins ≡ uses kind → outs ≡ defines kind →
      gate_kind ws ≡ Some kind → gate_of kind (names_beside_arrow ws before ins outs) ≡ gate_entry ws
  unfolding gate_entry
  gate_entry_is before ins outs b i o k = grind (arith, common_steps, gate_of, gate_by_names)
