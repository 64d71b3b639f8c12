-- The content of an edge or halo line, by the bytes behind its keyword.
use Rattle.certificate_lines.proofs.Imports.{BorderLine, Cut, Edge, Halo, Item, List, None, Option, Some, Stop}
use Rattle.certificate_lines.proofs.Imports.{StopLine, Use, [], and_parts, ap, arith, border_of, bytes_eq}
use Rattle.certificate_lines.proofs.Imports.{bytes_eq-Decides, cases_Bool, cell, codes, common_steps, cond-false, drop}
use Rattle.certificate_lines.proofs.Imports.{false, false≢true, form_of, inl, inr, is_word_at, length, list_all, refl}
use Rattle.certificate_lines.proofs.Imports.{stop_of, subst, suc, sym, take, take_rest, true, words_of, ℕ, ◌++◌, ◌-◌}
use Rattle.certificate_lines.proofs.Imports.{◌<◌, ◌==◌, ◌>>=◌, ◌∙◌, ◌∷◌, ◌≡◌}
use Rattle.lemmas.proofs.Common.{begins_with, join_with_byte, join_with_byte-slice_split, slice_split-cons_no}
use Rattle.section_text.specs.Leading.{leading_number}
use Rattle.section_text.specs.Words.{is_name, is_name_byte, name_at, name_of, number_at, number_of}
use Rattle.section_text.proofs.Splitting.{letter_is_no_space, lone_name_is, lone_number_is, some_words}
use Rattle.pattern.specs.Forms.{cell_of_words_from}
use Rattle.certificate_lines.specs.BorderWords.{leading_star_or_time, one_or_name_of_one_word, one_or_name_from_word}
use Rattle.certificate_lines.specs.BorderWords.{star_or_time_from_word}
use Rattle.certificate_lines.specs.Forms.{one_or_name_at_word, star_or_time_at_word, border_of_five_words}
use Rattle.certificate_lines.proofs.BorderLines.{edge_form, halo_form, stop_form}

-- ---- the first word of a line

joined : (l w v : List ℕ) (vs : List (List ℕ)) → words_of l ≡ w ∷ v ∷ vs → l ≡ w ++ 32 ∷ join_with_byte 32 (v ∷ vs)
joined l w v vs e = sym (join_with_byte-slice_split 32 l) ∙ ap (join_with_byte 32) e

-- the first of several words is not k if the line does not begin with k and a space
pub other_first : (k m l : List ℕ) (n : ℕ) → ((rest : List ℕ) → bytes_eq (take n (k ++ 32 ∷ rest)) m ≡ true) →
    bytes_eq (take n l) m ≡ false → (w v : List ℕ) (vs : List (List ℕ)) → words_of l ≡ w ∷ v ∷ vs → bytes_eq w k ≡ false
other_first k m l n is other w v vs e = elim (cases_Bool (bytes_eq w k)) [
  | inl same ↦
      let rest = join_with_byte 32 (v ∷ vs) in
      let line = joined l w v vs e ∙ ap (λ x. x ++ 32 ∷ rest) ((bytes_eq-Decides w k).0 same) in
      absurd (false≢true (sym other ∙ ap (λ t. bytes_eq (take n t) m) line ∙ is rest))
  | inr word ↦ word
]

-- ---- steps that may fail

same_steps : {A B : Type 0} (o : Option A) (f g : A → Option B) → ((a : A) → f a ≡ g a) → (o >>= f) ≡ (o >>= g)
same_steps o f g h1 = grind (arith, common_steps)

-- ---- the time

star_leads : (ws : List (List ℕ)) → 0 < length ws → Some (None, ws) ≡ leading_star_or_time (codes "*" ∷ ws)
unfolding leading_star_or_time star_or_time_from_word
star_leads ws h1 = grind (arith, common_steps)

pub star_time : (l : List ℕ) → bytes_eq (take 2 l) (codes "* ") ≡ true →
    Some (None, words_of (drop 2 l)) ≡ leading_star_or_time (words_of l)
star_time l e = grind (arith, common_steps, star_leads, some_words, begins_with)

abbrev timed : ℕ × List (List ℕ) → Option (Option ℕ × List (List ℕ))
timed r = Some (Some r.0, r.1)

time_leads : (ws : List (List ℕ)) →
    ((w v : List ℕ) (vs : List (List ℕ)) → ws ≡ w ∷ v ∷ vs → bytes_eq w (codes "*") ≡ false) →
    (leading_number ws >>= timed) ≡ leading_star_or_time ws
unfolding leading_number leading_star_or_time star_or_time_from_word
time_leads ws h1 = grind (arith, common_steps, cond-false)

pub number_time : (l : List ℕ) (o : Option (ℕ × List (List ℕ))) → bytes_eq (take 2 l) (codes "* ") ≡ false →
    o ≡ leading_number (words_of l) → (o >>= timed) ≡ leading_star_or_time (words_of l)
number_time l o other is = ap (λ r. r >>= timed) is
    ∙ time_leads (words_of l) (other_first (codes "*") (codes "* ") l 2 (λ rest. refl) other)

-- ---- the signal

letters : (bs : List ℕ) → list_all is_name_byte bs ≡ true → words_of bs ≡ bs ∷ []
letters [] e = refl
letters (b ∷ bs) e = grind (arith, common_steps, and_parts, slice_split-cons_no, letter_is_no_space, letters bs)

name_word : (w : List ℕ) → is_name w ≡ true → words_of w ≡ w ∷ []
name_word [] e = absurd cc
name_word (b ∷ bs) e = grind (arith, common_steps, and_parts, slice_split-cons_no, letters)

no_signal : (l : List ℕ) → one_or_name_from_word l ≡ None → (ws : List (List ℕ)) → words_of l ≡ ws →
    one_or_name_of_one_word ws ≡ one_or_name_from_word l
unfolding one_or_name_of_one_word
no_signal l none [] e = sym none
no_signal l none (w ∷ []) e =
    ap one_or_name_from_word (sym (ap (join_with_byte 32) e) ∙ join_with_byte-slice_split 32 l)
no_signal l none (w ∷ v ∷ vs) e = sym none

neither : (l : List ℕ) → bytes_eq l (codes "1") ≡ false → is_name l ≡ false → one_or_name_from_word l ≡ None
unfolding one_or_name_from_word name_of
neither l one name = cond-false _ _ _ one ∙ ap (λ o. o >>= λ n. Some (Some n)) (cond-false _ _ _ name)

alone : (l : List ℕ) → words_of l ≡ l ∷ [] → one_or_name_of_one_word (words_of l) ≡ one_or_name_from_word l
unfolding one_or_name_of_one_word
alone l e = ap one_or_name_of_one_word e

-- a signal has no space, so what is left of a line is its last word
pub signal_is : (l : List ℕ) → one_or_name_of_one_word (words_of l) ≡ one_or_name_from_word l
signal_is l = elim (cases_Bool (bytes_eq l (codes "1"))) [
  | inl one ↦ alone l (subst (λ w. words_of w ≡ w ∷ []) (sym ((bytes_eq-Decides l (codes "1")).0 one)) refl)
  | inr other ↦ elim (cases_Bool (is_name l)) [
    | inl name ↦ alone l (name_word l name)
    | inr none ↦ no_signal l (neither l other none) (words_of l) refl
  ]
]

-- ---- the content, step by step

after_signal : Option ℕ → ℕ → ℕ → Option (List ℕ) → Option BorderLine
after_signal t x y s = Some (record { time = t; cell = cell x y; signal = s })

after_row : Option ℕ → ℕ → ℕ × List (List ℕ) → Option BorderLine
after_row t x y = one_or_name_of_one_word y.1 >>= after_signal t x y.0

after_column : Option ℕ → ℕ × List (List ℕ) → Option BorderLine
after_column t x = leading_number x.1 >>= after_row t x.0

after_time : Option ℕ × List (List ℕ) → Option BorderLine
after_time t = leading_number t.1 >>= after_column t.0

not_five : (n : ℕ) → (suc (suc (suc (suc (suc (suc n))))) == 5) ≡ false
not_five n = grind arith

steps : (k : List ℕ) (ws : List (List ℕ)) → border_of (k ∷ ws) ≡ (leading_star_or_time ws >>= after_time)
unfolding border_of border_of_five_words star_or_time_at_word one_or_name_at_word cell_of_words_from number_at name_at
    is_word_at
    leading_star_or_time leading_number
    one_or_name_of_one_word star_or_time_from_word one_or_name_from_word after_time after_column after_row after_signal
steps k [] = refl
steps k (a ∷ []) = refl
steps k (a ∷ b ∷ []) = sym (grind (arith, common_steps, after_time))
steps k (a ∷ b ∷ c ∷ []) = grind (arith, common_steps, after_time, after_column)
steps k (a ∷ b ∷ c ∷ d ∷ []) = grind (arith, common_steps, same_steps, after_time, after_column, after_row)
steps k (a ∷ b ∷ c ∷ d ∷ e ∷ ws) =
    grind (arith, common_steps, cond-false, not_five, after_time, after_column, after_row)

pub no_time : (k : List ℕ) (ws : List (List ℕ)) → leading_star_or_time ws ≡ None → None ≡ border_of (k ∷ ws)
no_time k ws t = sym (steps k ws ∙ ap (λ o. o >>= after_time) t)

pub no_column : (k : List ℕ) (ws : List (List ℕ)) (t : Option ℕ) (after : List (List ℕ)) →
    leading_star_or_time ws ≡ Some (t, after) → leading_number after ≡ None → None ≡ border_of (k ∷ ws)
unfolding after_time
no_column k ws t after time column = grind (arith, common_steps, steps, after_time, after_column)

pub no_row : (k : List ℕ) (ws : List (List ℕ)) (t : Option ℕ) (after : List (List ℕ)) (x : ℕ) (rest : List (List ℕ)) →
    leading_star_or_time ws ≡ Some (t, after) → leading_number after ≡ Some (x, rest) → leading_number rest ≡ None →
    None ≡ border_of (k ∷ ws)
unfolding after_time after_column
no_row k ws t after x rest time column row = grind (arith, common_steps, steps, after_time, after_column, after_row)

pub border_is : (k : List ℕ) (ws : List (List ℕ)) (t : Option ℕ) (after : List (List ℕ)) (x : ℕ) (rest : List (List ℕ))
    (y : ℕ) (last : List (List ℕ)) → leading_star_or_time ws ≡ Some (t, after) → leading_number after ≡ Some (x, rest) →
    leading_number rest ≡ Some (y, last) →
    (one_or_name_of_one_word last >>= λ s. Some (record { time = t; cell = cell x y; signal = s })) ≡ border_of (k ∷ ws)
unfolding after_time after_column after_row after_signal
border_is k ws t after x rest y last time column row =
    grind (arith, common_steps, steps, after_time, after_column, after_row)

-- ---- the form of the line

pub edge_line : (l : List ℕ) (o : Option BorderLine) → bytes_eq (take 5 l) (codes "edge ") ≡ true →
    ((k : List ℕ) → o ≡ border_of (k ∷ words_of (take (length l - 5) (drop 5 l)))) →
    (o >>= λ e. Some (Item (Edge e))) ≡ form_of (words_of l)
unfolding is_word_at
edge_line l o edge is =
    edge_form (codes "edge" ∷ words_of (drop 5 l)) o refl
    (is (codes "edge") ∙ ap (λ t. border_of (codes "edge" ∷ words_of t)) (take_rest l 5))
    ∙ ap (λ t. form_of (words_of t)) (sym (begins_with (codes "edge ") l 5 edge))

pub halo_line : (l : List ℕ) (o : Option BorderLine) → bytes_eq (take 5 l) (codes "halo ") ≡ true →
    ((k : List ℕ) → o ≡ border_of (k ∷ words_of (take (length l - 5) (drop 5 l)))) →
    (o >>= λ e. Some (Item (Halo e))) ≡ form_of (words_of l)
unfolding is_word_at
halo_line l o halo is =
    halo_form (codes "halo" ∷ words_of (drop 5 l)) o refl refl
    (is (codes "halo") ∙ ap (λ t. border_of (codes "halo" ∷ words_of t)) (take_rest l 5))
    ∙ ap (λ t. form_of (words_of t)) (sym (begins_with (codes "halo ") l 5 halo))

pub stop_line : (l : List ℕ) (o : Option StopLine) → bytes_eq (take 5 l) (codes "stop ") ≡ true →
    o ≡ stop_of (words_of l) → (o >>= λ s. Some (Item (Stop s))) ≡ form_of (words_of l)
unfolding is_word_at
stop_line l o stop is = grind (arith, common_steps, begins_with, stop_form)

pub cut_line : (l : List ℕ) (o : Option (List ℕ)) → bytes_eq (take 4 l) (codes "cut ") ≡ true →
    o ≡ name_of (take (length l - 4) (drop 4 l)) → (o >>= λ n. Some (Item (Cut n))) ≡ form_of (words_of l)
unfolding form_of is_word_at
cut_line l o cut is =
    ap (λ r. r >>= λ n. Some (Item (Cut n)))
    (is ∙ ap name_of (take_rest l 4) ∙ sym (lone_name_is (codes "cut") (drop 4 l)))
    ∙ ap (λ t. form_of (words_of t)) (sym (begins_with (codes "cut ") l 4 cut))

pub use_line : (l : List ℕ) (o : Option ℕ) → bytes_eq (take 4 l) (codes "use ") ≡ true →
    o ≡ number_of (take (length l - 4) (drop 4 l)) → (o >>= λ n. Some (Item (Use n))) ≡ form_of (words_of l)
unfolding form_of is_word_at
use_line l o use_ is =
    ap (λ r. r >>= λ n. Some (Item (Use n)))
    (is ∙ ap number_of (take_rest l 4) ∙ sym (lone_number_is (codes "use") (drop 4 l)))
    ∙ ap (λ t. form_of (words_of t)) (sym (begins_with (codes "use ") l 4 use_))
