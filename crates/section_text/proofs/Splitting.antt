-- The words of a line, one after the other.
use Rattle.section_text.proofs.Imports.{Bool, List, None, Option, Some, [], ap, arith, cases_Bool, common_steps, cond}
use Rattle.section_text.proofs.Imports.{cond-false, drop, fails_before_first, false, if◌then◌else◌, inl, inr, is_digit}
use Rattle.section_text.proofs.Imports.{is_name, is_name_byte, is_number, is_space, join_with_byte}
use Rattle.section_text.proofs.Imports.{join_with_byte-slice_split, length, length-drop, length-slice_split, list_all}
use Rattle.section_text.proofs.Imports.{name_at, name_of, nat_tests, number_at, number_of, onto_first, option_and_then}
use Rattle.section_text.proofs.Imports.{position, refl, slice_get, slice_split-cons_no, slice_split_first}
use Rattle.section_text.proofs.Imports.{slice_split_none, suc, sym, take, take_all, true, words_of, ℕ, ◌&&◌, ◌+◌, ◌-◌}
use Rattle.section_text.proofs.Imports.{◌<◌, ◌==◌, ◌∙◌, ◌∷◌, ◌≡◌, ◌⊎◌}
use Rattle.lemmas.proofs.Common.{below_by_test, not_below_by_test, test_failed}
use Rattle.section_text.specs.Words.{words_of_three, words_of_four, words_of_five, number_after_keyword}
use Rattle.section_text.specs.Words.{name_after_keyword}
use Rattle.section_text.proofs.NameLemmas.{letters_of_name}

-- where the first space is
found_by : (b : Bool) (p i : ℕ) → cond b (Some p) None ≡ Some i → (b ≡ true) × (p ≡ i)
found_by b p i h1 = grind (arith, common_steps)

pub split_some : (line : List ℕ) (i : ℕ) → position is_space line ≡ Some i →
    words_of line ≡ take i line ∷ words_of (take (length line - (i + 1)) (drop (i + 1) line))
split_some line i e = grind (arith, common_steps, found_by, below_by_test, slice_split_first, take_all, length-drop)

pub split_none : (line : List ℕ) → position is_space line ≡ None → words_of line ≡ line ∷ []
split_none line e = grind (arith, common_steps, not_below_by_test, slice_split_none, fails_before_first)

-- a line has a word
pub some_words : (l : List ℕ) → 0 < length (words_of l)
some_words l = let n = length-slice_split is_space l in omega (arith, n)

-- ---- lines of fewer or more words than four

pub one_word : (l : List ℕ) → words_of l ≡ l ∷ [] → None ≡ words_of_four (words_of l)
unfolding words_of_four
one_word l a = rw a refl

pub two_words : (l w r : List ℕ) → words_of l ≡ w ∷ words_of r → words_of r ≡ r ∷ [] → None ≡ words_of_four (words_of l)
unfolding words_of_four
two_words l w r a b = rw (a, b) refl

pub three_words : (l w r v s : List ℕ) → words_of l ≡ w ∷ words_of r → words_of r ≡ v ∷ words_of s →
    words_of s ≡ s ∷ [] → None ≡ words_of_four (words_of l)
unfolding words_of_four
three_words l w r v s a b c = rw (a, b, c) refl

not_four : (n : ℕ) → (suc (suc (suc (suc (suc n)))) == 4) ≡ false
not_four n = grind arith

pub many_words : (l w r v s u t x y : List ℕ) → words_of l ≡ w ∷ words_of r → words_of r ≡ v ∷ words_of s →
    words_of s ≡ u ∷ words_of t → words_of t ≡ x ∷ words_of y → None ≡ words_of_four (words_of l)
unfolding words_of_four
many_words l w r v s u t x y a b c d = grind (arith, common_steps, some_words)

pub four_are : (l w r v s u t : List ℕ) → words_of l ≡ w ∷ words_of r → words_of r ≡ v ∷ words_of s →
    words_of s ≡ u ∷ words_of t → words_of t ≡ t ∷ [] → Some (w ∷ v ∷ u ∷ t ∷ []) ≡ words_of_four (words_of l)
unfolding words_of_four
four_are l w r v s u t a b c d = rw (a, b, c, d) refl

-- ---- lines of five words, by those of four

one_more : (n : ℕ) → (n == 4) ≡ true → (suc n == 5) ≡ true
one_more n e = grind (arith, nat_tests)

pub lone_word : (l : List ℕ) → words_of l ≡ l ∷ [] → None ≡ words_of_five (words_of l)
unfolding words_of_five
lone_word l a = rw a refl

pub no_five : (l w r : List ℕ) → words_of l ≡ w ∷ words_of r → None ≡ words_of_four (words_of r) →
    None ≡ words_of_five (words_of l)
unfolding words_of_four words_of_five
no_five l w r a none = grind (arith, common_steps, test_failed)

pub five_are : (l w r : List ℕ) (ws : List (List ℕ)) → words_of l ≡ w ∷ words_of r →
    Some ws ≡ words_of_four (words_of r) → Some (w ∷ ws) ≡ words_of_five (words_of l)
unfolding words_of_four words_of_five
five_are l w r ws a some = grind (arith, common_steps, one_more)

-- ---- lines of one, two and three words

not_one : (n : ℕ) → 0 < n → (suc n == 1) ≡ false
not_one n h = grind arith

not_two : (n : ℕ) → 0 < n → (suc (suc n) == 2) ≡ false
not_two n h = grind arith

not_three : (n : ℕ) → 0 < n → (suc (suc (suc n)) == 3) ≡ false
not_three n h = grind arith

pub is_not_alone : (l w r : List ℕ) → words_of l ≡ w ∷ words_of r → false ≡ (length (words_of l) == 1)
is_not_alone l w r a = rw (a, not_one (length (words_of r)) (some_words r)) refl

pub one_of_three : (l : List ℕ) → words_of l ≡ l ∷ [] → None ≡ words_of_three (words_of l)
unfolding words_of_three
one_of_three l a = rw a refl

pub two_words_are_not_three : (l w r : List ℕ) → words_of l ≡ w ∷ words_of r → words_of r ≡ r ∷ [] →
    None ≡ words_of_three (words_of l)
unfolding words_of_three
two_words_are_not_three l w r a b = rw (a, b) refl

pub three_are : (l w r v s : List ℕ) → words_of l ≡ w ∷ words_of r → words_of r ≡ v ∷ words_of s →
    words_of s ≡ s ∷ [] → Some (w ∷ v ∷ s ∷ []) ≡ words_of_three (words_of l)
unfolding words_of_three
three_are l w r v s a b c = rw (a, b, c) refl

pub past_third : (l w r v s u t : List ℕ) → words_of l ≡ w ∷ words_of r → words_of r ≡ v ∷ words_of s →
    words_of s ≡ u ∷ words_of t → None ≡ words_of_three (words_of l)
unfolding words_of_three
past_third l w r v s u t a b c = rw (a, b, c, not_three (length (words_of t)) (some_words t)) refl

-- ---- the second word of a line of two, which has no space

letters_alone : (is_letter : ℕ → Bool) → ((b : ℕ) → is_letter b ≡ true → is_space b ≡ false) → (bs : List ℕ) →
    list_all is_letter bs ≡ true → words_of bs ≡ bs ∷ []
letters_alone is_letter no_space [] e = refl
letters_alone is_letter no_space (b ∷ bs) e =
    let all = both (is_letter b) (list_all is_letter bs) e in
    slice_split-cons_no is_space b bs (no_space b all.0)
    ∙ ap (onto_first b) (letters_alone is_letter no_space bs all.1)
  where
    both : (a b : Bool) → (a && b) ≡ true → (a ≡ true) × (b ≡ true)
    both a b h1 = grind (arith, common_steps)

pub letter_is_no_space : (b : ℕ) → is_name_byte b ≡ true → is_space b ≡ false
letter_is_no_space b e = grind (arith, nat_tests)

pub digit_is_no_space : (b : ℕ) → is_digit b ≡ true → is_space b ≡ false
digit_is_no_space b e = grind (arith, nat_tests)

number_digits : (w : List ℕ) → is_number w ≡ true → list_all is_digit w ≡ true
number_digits [] e = refl
number_digits (b ∷ bs) e = grind (arith, nat_tests)

-- the second of two words, read by f, where a text of several words gives none
read_alone : {A : Type 0} (f : List ℕ → Option A) (k l : List ℕ) (ws : List (List ℕ)) → words_of l ≡ ws →
    (words_of l ≡ l ∷ []) ⊎ (f l ≡ None) →
    (if length (k ∷ ws) == 2 then option_and_then f (slice_get (k ∷ ws) 1) else None) ≡ f l
read_alone f k l ws e (inl alone) = rw (sym e, alone) refl
read_alone f k l [] e (inr none) = sym none
read_alone f k l (w ∷ []) e (inr none) = ap f (sym (ap (join_with_byte 32) e) ∙ join_with_byte-slice_split 32 l)
read_alone f k l (w ∷ v ∷ vs) e (inr none) = rw (more (length vs)) (sym none)
  where
    more : (n : ℕ) → (suc (suc (suc n)) == 2) ≡ false
    more n = grind arith

pub lone_name_is : (k l : List ℕ) → name_after_keyword (k ∷ words_of l) ≡ name_of l
unfolding name_after_keyword name_at name_of
lone_name_is k l = read_alone name_of k l (words_of l) refl (elim (cases_Bool (is_name l)) [
  | inl name ↦ inl (letters_alone is_name_byte letter_is_no_space l (letters_of_name l name))
  | inr none ↦ inr (cond-false _ _ _ none)
])

pub lone_number_is : (k l : List ℕ) → number_after_keyword (k ∷ words_of l) ≡ number_of l
unfolding number_after_keyword number_at number_of
lone_number_is k l = read_alone number_of k l (words_of l) refl (elim (cases_Bool (is_number l)) [
  | inl number ↦ inl (letters_alone is_digit digit_is_no_space l (number_digits l number))
  | inr none ↦ inr (cond-false _ _ _ none)
])

pub one_word_is_no_name : (l : List ℕ) → words_of l ≡ l ∷ [] → None ≡ name_after_keyword (words_of l)
unfolding name_after_keyword
one_word_is_no_name l a = rw a refl

pub one_word_is_no_number : (l : List ℕ) → words_of l ≡ l ∷ [] → None ≡ number_after_keyword (words_of l)
unfolding number_after_keyword
one_word_is_no_number l a = rw a refl
