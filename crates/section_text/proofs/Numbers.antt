-- A number has one spelling.
use Rattle.section_text.proofs.Imports.{Bool, List, None, Option, Some, [], ap, append_digits, arith, cases_Bool}
use Rattle.section_text.proofs.Imports.{common_steps, cond-false, cond-true, cond_some, decimal, false, false≢true}
use Rattle.section_text.proofs.Imports.{get_or, inl, inr, is_digit, is_number, length, list_all, nat_tests, number_of}
use Rattle.section_text.proofs.Imports.{rules, sym, true, ℕ, ◌<◌, ◌^◌, ◌∙◌, ◌∷◌, ◌≡◌, ◌≤◌, ◌⊎◌}
use Rattle.lemmas.proofs.Common.{IfNone, IfSome}
use Rattle.std.proofs.lemmas.Str.Parse.{IsNumeralModel, numerals_by_fold, digits_value_short}
use Rattle.std.proofs.lemmas.Fmt.{decimal-digits_value, digits_decimal, digits_value-decimal, decimal_digit}
use Rattle.std.proofs.lemmas.Fmt.{decimal_nonempty, first_decimal, length-decimal-le}

own : IsNumeralModel (λ ds. list_all is_digit ds ≡ true) (append_digits 0)
own = numerals_by_fold _ (search rules) append_digits (search rules)

-- what a word that is a number looks like
record NumberWord (w : List ℕ) : Type 0 where
  digits : list_all is_digit w ≡ true
  some : 0 < length w
  few : length w ≤ 9
  plain : get_or w 0 0 ≡ 48 → length w ≡ 1

number_word : (w : List ℕ) → is_number w ≡ true → NumberWord w
number_word [] e = absurd cc
number_word (b ∷ bs) e = grind (arith, common_steps, nat_tests)

pub number_spelled : (w : List ℕ) (n : ℕ) → number_of w ≡ Some n → (w ≡ decimal n) × (n < 10 ^ 9)
unfolding number_of
number_spelled w n e =
    let found = cond_some (is_number w) (append_digits 0 w) n e in
    let word = number_word w found.0 in
    let small : append_digits 0 w < 10 ^ 9 = digits_value_short own w 9 word.digits word.few in
    let back : decimal (append_digits 0 w) ≡ w =
    decimal-digits_value own w word.digits word.some word.plain (omega arith) in
    (sym back ∙ ap decimal found.1, omega (arith, found.1))

-- a word that is a number means one below 10 ^ 9
pub number_small : (w : List ℕ) → is_number w ≡ true → append_digits 0 w < 10 ^ 9
number_small w e = let word = number_word w e in digits_value_short own w 9 word.digits word.few

-- a number of at most nine digits can be written
pub is_one : (w : List ℕ) → list_all is_digit w ≡ true → 0 < length w → length w ≤ 9 →
    (length w ≡ 1) ⊎ (48 < get_or w 0 0) → is_number w ≡ true
is_one [] digits some few plain = absurd (omega arith)
is_one (b ∷ bs) digits some few (inl one) = grind (arith, nat_tests)
is_one (b ∷ bs) digits some few (inr high) = grind (arith, nat_tests)

first_digit : (n : ℕ) → n < 10 ^ 9 → (length (decimal n) ≡ 1) ⊎ (48 < get_or (decimal n) 0 0)
first_digit n h1 = grind (arith, common_steps, decimal_digit, first_decimal)

pub number_written : (n : ℕ) → n < 10 ^ 9 → number_of (decimal n) ≡ Some n
unfolding number_of
number_written n small =
    let wide : n < 2 ^ 64 = omega arith in
    let is : is_number (decimal n) ≡ true =
    is_one (decimal n) (digits_decimal own n wide) (decimal_nonempty n wide)
    (length-decimal-le 9 n (omega arith) small wide) (first_digit n small) in
    let value : append_digits 0 (decimal n) ≡ n = digits_value-decimal own n wide in
    rw is (ap Some value)

-- ---- reading one

-- digits that were read are the number, if a word of digits is one
pub number_read : (w : List ℕ) (o : Option ℕ) → list_all is_digit w ≡ is_number w →
    IfSome o (λ n. (list_all is_digit w ≡ true) × (n ≡ append_digits 0 w)) → IfNone o (list_all is_digit w ≡ false) →
    o ≡ number_of w
unfolding number_of
number_read w o h1 h2 h3 = grind (arith, common_steps, cond-false, cond-true)

pub not_read : (w : List ℕ) (r : Bool) → (is_number w ≡ true → r ≡ true) → r ≡ false → None ≡ number_of w
unfolding number_of
not_read w r may fails = grind (arith, common_steps, cases_Bool, false≢true, cond-false)

-- a number has at most nine digits
pub read_small : (w : List ℕ) (o : Option ℕ) → list_all is_digit w ≡ is_number w →
    IfSome o (λ n. (list_all is_digit w ≡ true) × (n ≡ append_digits 0 w)) → IfSome o (λ n. n < 10 ^ 9)
read_small w None same some = some
read_small w (Some n) same some = grind (arith, common_steps, number_small)
