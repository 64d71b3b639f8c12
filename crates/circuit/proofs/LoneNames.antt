-- The form of a line of a keyword and a name, by what stands behind the keyword.
use Rattle.circuit.proofs.Imports.{CircuitLine, Input, Item, List, Output, Some, Spill, [], ap, arith, bytes_eq, codes}
use Rattle.circuit.proofs.Imports.{common_steps, drop, entry, form_of, is_word_at, length, name_after_keyword}
use Rattle.circuit.proofs.Imports.{option_map, sym, take, true, words_of, ℕ, ◌-◌, ◌>>=◌, ◌∙◌, ◌∷◌, ◌≡◌}
use Rattle.lemmas.proofs.Common.{begins_with, take_rest}
use Rattle.section_text.specs.Words.{name_of}
use Rattle.section_text.specs.declared.section.Form.{Form}
use Rattle.section_text.proofs.Splitting.{lone_name_is}

behind : (keyword l : List ℕ) (n : ℕ) (f : List ℕ → Form (Unit {0}) CircuitLine) →
    option_map f (name_of (take (length l - n) (drop n l)))
    ≡ (name_after_keyword (keyword ∷ words_of (drop n l)) >>= λ name. Some (f name))
behind keyword l n f = grind (arith, common_steps, take_rest, lone_name_is, option_map)

pub input_line : (l : List ℕ) → bytes_eq (take 6 l) (codes "input ") ≡ true →
    option_map (λ n. Item (entry Input [] (n ∷ []))) (name_of (take (length l - 6) (drop 6 l))) ≡ form_of (words_of l)
unfolding form_of is_word_at
input_line l e = behind (codes "input") l 6 (λ n. Item (entry Input [] (n ∷ [])))
    ∙ ap (λ t. form_of (words_of t)) (sym (begins_with (codes "input ") l 6 e))

pub output_line : (l : List ℕ) → bytes_eq (take 7 l) (codes "output ") ≡ true →
    option_map (λ n. Item (entry Output (n ∷ []) [])) (name_of (take (length l - 7) (drop 7 l))) ≡ form_of (words_of l)
unfolding form_of is_word_at
output_line l e = behind (codes "output") l 7 (λ n. Item (entry Output (n ∷ []) []))
    ∙ ap (λ t. form_of (words_of t)) (sym (begins_with (codes "output ") l 7 e))

pub spill_line : (l : List ℕ) → bytes_eq (take 6 l) (codes "spill ") ≡ true →
    option_map (λ n. Item (entry Spill (n ∷ []) [])) (name_of (take (length l - 6) (drop 6 l))) ≡ form_of (words_of l)
unfolding form_of is_word_at
spill_line l e = behind (codes "spill") l 6 (λ n. Item (entry Spill (n ∷ []) []))
    ∙ ap (λ t. form_of (words_of t)) (sym (begins_with (codes "spill ") l 6 e))
