-- The lines of modules.
use Rattle.lemmas.proofs.Common.{[], ◌++◌, ◌+◌, ◌<◌, ◌∙◌, ◌∷◌, ◌≡◌, List, Some, ap, append-nil, append_assoc, ap₂}
use Rattle.lemmas.proofs.Common.{arith, codes, flat_map, length, refl, rules, slice_get, suc, sym, take, ℕ, decimal}
use Rattle.lemmas.proofs.Common.{flat_map-append, get_or_from_slice_get, slice_get_within, take-suc}
use Rattle.section_text.specs.Spelling.{space_and_word}
use Rattle.certificate_lines.specs.declared.certificate_line.Counts.{Counts}
use Rattle.pattern.specs.Text.{box_words}
use Rattle.answers.specs.ModulesText.{words_of_counts, module_line, module_lines}

-- ---- lines

lines_push : (n : ℕ) (ks : List Counts) (k : Counts) →
    module_lines n (ks ++ k ∷ []) ≡ module_lines n ks ++ module_line (n + length ks) k
unfolding module_lines
lines_push n [] k = append-nil (module_line n k) ∙ ap (λ i. module_line i k) (let e : n ≡ n + 0 = omega arith in e)
lines_push n (j ∷ ks) k =
    ap (λ l. module_line n j ++ l)
    (lines_push (n + 1) ks k ∙ ap (λ i. module_lines (n + 1) ks ++ module_line i k)
    (let e : (n + 1) + length ks ≡ n + length (j ∷ ks) = omega arith in e))
    ∙ sym (append_assoc (module_line n j) (module_lines (n + 1) ks) (module_line (n + length (j ∷ ks)) k))

taken_length : (ks : List Counts) (i : ℕ) → i < length ks → length (take i ks) ≡ i
taken_length ks i h = search rules

pub no_lines : module_lines 0 [] ≡ []
unfolding module_lines
no_lines = refl

pub one_more_line : (ks : List Counts) (i : ℕ) (k : Counts) (old new : List ℕ) → slice_get ks i ≡ Some k →
    old ≡ module_lines 0 (take i ks) → new ≡ old ++ module_line i k → new ≡ module_lines 0 (take (i + 1) ks)
one_more_line ks i k old new at before now =
    let within = slice_get_within ks i k at in
    let more : take (i + 1) ks ≡ take i ks ++ k ∷ [] =
    ap (λ j. take j ks) (let e : i + 1 ≡ suc i = omega arith in e) ∙ take-suc ks i k within
    ∙ ap (λ x. take i ks ++ x ∷ []) (get_or_from_slice_get ks i k k at) in
    now ∙ ap₂ (λ a j. a ++ module_line j k) before
    (let n = taken_length ks i within in let e : i ≡ 0 + length (take i ks) = omega (arith, n) in e)
    ∙ sym (lines_push 0 (take i ks) k) ∙ ap (module_lines 0) (sym more)

four : (o w a b c : List ℕ) (z : ℕ) → ((((o ++ w) ++ a) ++ b) ++ c) ++ z ∷ [] ≡ o ++ ((w ++ (a ++ (b ++ c))) ++ z ∷ [])
four o w a b c z = rw (
  append_assoc o w a,
  append_assoc o (w ++ a) b,
  append_assoc o ((w ++ a) ++ b) c,
  append_assoc o (((w ++ a) ++ b) ++ c) (z ∷ []),
  append_assoc w a b,
  append_assoc w (a ++ b) c,
  append_assoc a b c,
) refl

-- a line from its parts
pub line_made : (n : ℕ) (k : Counts) (o p q r s t : List ℕ) → p ≡ o ++ codes "module" →
    q ≡ p ++ space_and_word (decimal n) →
    r ≡ q ++ flat_map space_and_word (box_words k.area) → s ≡ r ++ flat_map space_and_word (words_of_counts k) →
    t ≡ s ++ 10 ∷ [] → t ≡ o ++ module_line n k
unfolding module_line
line_made n k o p q r s t e f g h i =
    i ∙ ap (λ l. l ++ 10 ∷ []) (h
    ∙ ap (λ l. l ++ flat_map space_and_word (words_of_counts k))
    (g ∙ ap (λ l. l ++ flat_map space_and_word (box_words k.area)) (f ∙ ap (λ l. l ++ space_and_word (decimal n)) e)))
    ∙ four o (codes "module") (space_and_word (decimal n)) (flat_map space_and_word (box_words k.area))
    (flat_map space_and_word (words_of_counts k)) 10
    ∙ ap (λ l. o ++ ((codes "module" ++ (space_and_word (decimal n) ++ l)) ++ 10 ∷ []))
    (sym (flat_map-append space_and_word (box_words k.area) (words_of_counts k)))
