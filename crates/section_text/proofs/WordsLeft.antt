-- The words of the rest of a line, which are those from a place on.
use Rattle.section_text.proofs.Imports.{Bool, List, None, Option, Some, [], ap, arith, bytes_eq, codes, common_steps}
use Rattle.section_text.proofs.Imports.{drop, drop-drop, drop_all, false, if◌then◌else◌, is_word_at, length}
use Rattle.section_text.proofs.Imports.{length-drop, name_at, name_of, names_at, nat_tests, option_and_then}
use Rattle.section_text.proofs.Imports.{option_and_then_some, refl, slice_get, slice_get_within, suc, sym, true}
use Rattle.section_text.proofs.Imports.{words_of, zero, ℕ, ◌+◌, ◌-◌, ◌<◌, ◌==◌, ◌>>=◌, ◌∙◌, ◌∷◌, ◌≡◌, ◌≤◌}
use Rattle.section_text.specs.Words.{names_beside_arrow}
use Rattle.section_text.proofs.Splitting.{some_words}
use Rattle.section_text.proofs.WordPlaces.{name_at_is}

module _ (ws : List (List ℕ)) where
  pub one_further : (i : ℕ) (w : List ℕ) (rest : List (List ℕ)) → w ∷ rest ≡ drop i ws → rest ≡ drop (i + 1) ws
  one_further i w rest e = ap (drop 1) e ∙ drop-drop 1 i ws

  -- nothing is left behind the last word
  pub none_further : (i n : ℕ) (w : List ℕ) → w ∷ [] ≡ drop i ws → i < n → [] ≡ drop n ws
  none_further i n w e lt =
      let left : 1 ≡ length ws - i = ap length e ∙ length-drop i ws in
      sym (drop_all n ws (omega (arith, left)))

pub word_at : (ws : List (List ℕ)) (i : ℕ) (w : List ℕ) (rest : List (List ℕ)) → w ∷ rest ≡ drop i ws →
    Some w ≡ slice_get ws i
word_at [] zero w rest e = absurd cc
word_at [] (suc i) w rest e = absurd cc
word_at (x ∷ xs) zero w rest e = cc
word_at (x ∷ xs) (suc i) w rest e = word_at xs i w rest e

pub no_word_at : (ws : List (List ℕ)) (i : ℕ) → [] ≡ drop i ws → None ≡ slice_get ws i
no_word_at (x ∷ xs) zero e = absurd cc
no_word_at (x ∷ xs) (suc i) e = no_word_at xs i e
no_word_at [] _ e = cc

pub name_by_word : (ws : List (List ℕ)) (i : ℕ) (w : List ℕ) (rest : List (List ℕ)) → w ∷ rest ≡ drop i ws →
    name_at ws i ≡ name_of w
unfolding name_at
name_by_word ws i w rest e = ap (option_and_then name_of) (sym (word_at ws i w rest e))

pub no_name_at : (ws : List (List ℕ)) (i : ℕ) → [] ≡ drop i ws → name_at ws i ≡ None
unfolding name_at
no_name_at ws i e = ap (option_and_then name_of) (sym (no_word_at ws i e))

-- ---- names from a place on

slice_get_behind : {X : Type 0} (k : ℕ) (xs : List X) (i : ℕ) → slice_get (drop k xs) i ≡ slice_get xs (k + i)
slice_get_behind zero xs i = grind (arith, common_steps)
slice_get_behind (suc k) [] i = refl
slice_get_behind (suc k) (x ∷ xs) i = grind (arith, common_steps, slice_get_behind k xs i)

name_behind : (ws : List (List ℕ)) (k i : ℕ) → name_at (drop k ws) i ≡ name_at ws (k + i)
unfolding name_at
name_behind ws k i = ap (option_and_then name_of) (slice_get_behind k ws i)

names_behind : (ws : List (List ℕ)) (k i n : ℕ) → names_at (drop k ws) i n ≡ names_at ws (k + i) n
unfolding names_at
names_behind ws k i zero = refl
names_behind ws k i (suc n) = grind (arith, common_steps, names_behind ws k (i + 1) n, name_behind)

-- the names that are taken first off the words from a place on
pub names_from : (ws left : List (List ℕ)) (k n : ℕ) → left ≡ drop k ws → names_at left 0 n ≡ names_at ws k n
names_from ws left k n e = grind (arith, common_steps, names_behind)

names_fit : (ws : List (List ℕ)) (k n : ℕ) (ns : List (List ℕ)) → names_at ws k n ≡ Some ns → k ≤ length ws →
    k + n ≤ length ws
unfolding names_at
names_fit ws k zero ns e le = omega (arith, le)
names_fit ws k (suc n) ns e le =
    option_and_then_some (λ first. names_at ws (k + 1) n >>= λ others. Some (first ∷ others)) (name_at ws k) ns e
    (λ first named rest.
    option_and_then_some (λ others. Some (first ∷ others)) (names_at ws (k + 1) n) ns rest (λ others more made.
    grind (arith, common_steps, slice_get_within, name_at_is, names_fit ws (k + 1) n others more)))

-- ---- names on both sides of an arrow

unless_both : {A : Type 0} (a b : Bool) → ◌≡◌ {A = Option A} None (if a then (if b then None else None) else None)
unless_both a b = grind (arith, common_steps)

unless_one : {A : Type 0} (a : Bool) → ◌≡◌ {A = Option A} None (if a then None else None)
unless_one a = grind (arith, common_steps)

is_no : (n m : ℕ) → m < n → (n == m) ≡ false
is_no n m lt = grind (arith, nat_tests)

is_so : (n m : ℕ) → n ≤ m → m ≤ n → (n == m) ≡ true
is_so n m le ge = grind (arith, nat_tests)

module _ (ws : List (List ℕ)) (i before after : ℕ) where
  pub no_names_before : None ≡ names_at ws i before → None ≡ names_beside_arrow ws i before after
  unfolding names_beside_arrow
  no_names_before none = grind (arith, common_steps, unless_both)

  pub no_word_between : None ≡ slice_get ws (i + before) → None ≡ names_beside_arrow ws i before after
  unfolding names_beside_arrow is_word_at
  no_word_between none = rw (sym none) (unless_one (length ws == i + before + 1 + after))

  pub no_arrow : (w : List ℕ) → Some w ≡ slice_get ws (i + before) → bytes_eq w (codes "->") ≡ false →
      None ≡ names_beside_arrow ws i before after
  unfolding names_beside_arrow is_word_at
  no_arrow w between other = rw (sym between, other) (unless_one (length ws == i + before + 1 + after))

  pub no_names_after : None ≡ names_at ws (i + before + 1) after → None ≡ names_beside_arrow ws i before after
  unfolding names_beside_arrow
  no_names_after none = grind (arith, common_steps)

  pub words_after : (l : List ℕ) → words_of l ≡ drop (i + before + 1 + after) ws →
      None ≡ names_beside_arrow ws i before after
  unfolding names_beside_arrow
  words_after l e =
      let left : length (words_of l) ≡ length ws - (i + before + 1 + after) =
      ap length e ∙ length-drop (i + before + 1 + after) ws in
      rw (is_no (length ws) (i + before + 1 + after) (omega (arith, left, some_words l))) refl

  pub names_are : (w : List ℕ) (ins outs : List (List ℕ)) → Some w ≡ slice_get ws (i + before) →
      bytes_eq w (codes "->") ≡ true → Some ins ≡ names_at ws i before → Some outs ≡ names_at ws (i + before + 1) after
      → [] ≡ drop (i + before + 1 + after) ws → Some (ins, outs) ≡ names_beside_arrow ws i before after
  unfolding names_beside_arrow is_word_at
  names_are w ins outs between arrow first last end =
      let within = slice_get_within ws (i + before) w (sym between) in
      let fit = names_fit ws (i + before + 1) after outs (sym last) (omega (arith, within)) in
      let left : 0 ≡ length ws - (i + before + 1 + after) = ap length end ∙ length-drop (i + before + 1 + after) ws in
      rw (is_so (length ws) (i + before + 1 + after) (omega (arith, left)) fit, sym between, arrow, sym first, sym last)
      refl
