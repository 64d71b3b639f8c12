-- A line that is read has as many names as its kind.
use Rattle.circuit.proofs.Imports.{CircuitLine, CircuitLineKind, HasNameCountOfKind, Header, Input, Item, Line, List}
use Rattle.circuit.proofs.Imports.{None, Some, [], ap, arith, chosen, codes, common_steps, cond, cond_some, defines}
use Rattle.circuit.proofs.Imports.{entry, eqb, form_of, gate_entry, gate_kind, gate_line_of_kind, if_one_word, inl, inr}
use Rattle.circuit.proofs.Imports.{is_gate, is_input, is_word_at, length, names_at, option_and_then_some, passed}
use Rattle.circuit.proofs.Imports.{rank_of, refl, same_Some, subst, suc, sym, true, uses, words_before_names, zero, ℕ}
use Rattle.circuit.proofs.Imports.{◌+◌, ◌>>=◌, ◌∙◌, ◌∷◌, ◌≡◌, ◌≤◌}
use Rattle.section_text.specs.Words.{name_at}
use Rattle.circuit.specs.declared.circuit_line.CircuitLineKind.TheVariants.{Gate}

names_length : (ws : List (List ℕ)) (i n : ℕ) (ns : List (List ℕ)) → names_at ws i n ≡ Some ns → length ns ≡ n
unfolding names_at
names_length ws i zero ns e = ap length (sym (same_Some [] ns e))
names_length ws i (suc n) ns e =
    option_and_then_some (λ first. names_at ws (i + 1) n >>= λ others. Some (first ∷ others)) (name_at ws i) ns e
    (λ first named rest.
    option_and_then_some (λ others. Some (first ∷ others)) (names_at ws (i + 1) n) ns rest (λ others more made.
    let l = names_length ws (i + 1) n others more in
    ap length (sym (same_Some (first ∷ others) ns made)) ∙ omega (arith, l)))

gate_fits : (ws : List (List ℕ)) (r : CircuitLine) → gate_entry ws ≡ Some r → HasNameCountOfKind r
unfolding gate_entry gate_line_of_kind
gate_fits ws r e =
    option_and_then_some (λ kind.
    cond (eqb (length ws) (words_before_names kind + uses kind + 1 + defines kind))
    (cond (is_word_at ws (words_before_names kind + uses kind) (codes "->")) (gate_line_of_kind ws kind) None) None)
    (gate_kind ws) r e (λ kind known rest.
    let count = passed (eqb (length ws) (words_before_names kind + uses kind + 1 + defines kind))
    (cond (is_word_at ws (words_before_names kind + uses kind) (codes "->")) (gate_line_of_kind ws kind) None) r rest in
    let arrow = passed (is_word_at ws (words_before_names kind + uses kind) (codes "->"))
    (gate_line_of_kind ws kind) r count.1 in
    option_and_then_some (λ ins. names_at ws (words_before_names kind + uses kind + 1)
    (defines kind) >>= λ outs. Some (entry (Gate kind) ins outs))
    (names_at ws (words_before_names kind) (uses kind)) r arrow.1 (λ ins some_ins rest_ins.
    option_and_then_some (λ outs. Some (entry (Gate kind) ins outs))
    (names_at ws (words_before_names kind + uses kind + 1) (defines kind)) r rest_ins
    (λ outs some_outs made.
    subst HasNameCountOfKind (same_Some (entry (Gate kind) ins outs) r made)
    (names_length ws _ _ ins some_ins, names_length ws _ _ outs some_outs))))

-- what a form says of its entry
OfForm : Line → Type 0
OfForm (Item r) = HasNameCountOfKind r
OfForm _ = Unit {0}

lone_fits : (ws : List (List ℕ)) (f g : Line) → OfForm f → if_one_word ws f ≡ Some g → OfForm g
unfolding if_one_word
lone_fits ws f g h e = let found = cond_some (eqb (length ws) 1) f g e in subst OfForm found.1 h

form_fits : (ws : List (List ℕ)) (f : Line) → form_of ws ≡ Some f → OfForm f
unfolding form_of OfForm
form_fits ws f e =
    elim (chosen (is_word_at ws 0 (codes "circuit")) _ _ (Some f) e) [
      | inl p ↦ lone_fits ws (Header tt) f tt p.1
      | inr p ↦ grind (arith, common_steps, chosen, lone_fits, option_and_then_some, same_Some, gate_fits)
    ]

pub entry_fits : (ws : List (List ℕ)) (r : CircuitLine) → form_of ws ≡ Some (Item r) → HasNameCountOfKind r
unfolding OfForm
entry_fits ws r e = form_fits ws (Item r) e

-- ---- inputs come before gates, by the rank of the last line
pub no_gate_yet : (k : CircuitLineKind) (rank g : ℕ) → rank ≤ rank_of k → cond (eqb rank 0) g 0 ≡ 0 →
    is_input k ≡ true → g ≡ 0
no_gate_yet k rank g h1 h2 h3 = grind (arith, common_steps)

pub no_gate_still : (k : CircuitLineKind) (rank g : ℕ) → rank ≤ rank_of k → cond (eqb rank 0) g 0 ≡ 0 →
    cond (eqb (rank_of k) 0) (g + cond (is_gate k) 1 0) 0 ≡ 0
no_gate_still Input zero g h e = omega (arith, e)
no_gate_still Input (suc n) g h e = absurd (omega arith)
no_gate_still _ rank g h e = refl
