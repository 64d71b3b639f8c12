-- The number that is the first of several words, byte by byte.
use Rattle.section_text.proofs.Imports.{Bool, List, None, Option, Some, [], and_parts, ap, append-nil, append_assoc}
use Rattle.section_text.proofs.Imports.{append_digits, arith, cases_Bool, common_steps, cond-false, cond-true, drop}
use Rattle.section_text.proofs.Imports.{false, get_or, if◌then◌else◌, inl, inr, is_digit, is_number, is_space, length}
use Rattle.section_text.proofs.Imports.{length-append, list_all, list_all-append, nat_tests, number_of, onto_first}
use Rattle.section_text.proofs.Imports.{refl, slice_split-cons_no, subst, sym, take, take_rest, true, words_of, ℕ, ◌&&◌}
use Rattle.section_text.proofs.Imports.{◌*◌, ◌++◌, ◌+◌, ◌-◌, ◌<◌, ◌==◌, ◌>>=◌, ◌∙◌, ◌∷◌, ◌≡◌, ◌≤◌}
use Rattle.lemmas.proofs.Common.{◌||◌, nat_lt, at_drop_more, slice_split-cons_yes}
use Rattle.std.proofs.Math.ListN.{drop_of_length-le}
use Rattle.section_text.specs.Leading.{leading_number}
use Rattle.section_text.proofs.Numbers.{is_one}
use Rattle.section_text.proofs.Splitting.{digit_is_no_space, some_words}

-- the number of the digits that a line begins with, after k digits that spell n, and the words behind its space
unfoldable pub reads : ℕ → ℕ → List ℕ → Option (ℕ × List (List ℕ))
reads n k [] = None
reads n k (b ∷ line) = if is_digit b then (if nat_lt k 9 then reads (10 * n + (b - 48)) (k + 1) line else None)
    else if is_space b then Some (n, words_of line) else None

-- ---- one step

below : (k : ℕ) → k < 9 → nat_lt k 9 ≡ true
below k few = grind (arith, nat_tests)

pub reads_more : (n k : ℕ) (line : List ℕ) (i : ℕ) → i < length line → is_digit (get_or line i 0) ≡ true → k < 9 →
    reads n k (drop i line) ≡ reads (10 * n + (get_or line i 0 - 48)) (k + 1) (drop (i + 1) line)
unfolding reads
reads_more n k line i lt digit few = grind (arith, common_steps, at_drop_more, reads, cond-true, below)

pub reads_some : (n k : ℕ) (line : List ℕ) (i : ℕ) → i < length line → get_or line i 0 ≡ 32 →
    reads n k (drop i line) ≡ Some (n, words_of (drop (i + 1) line))
unfolding reads
reads_some n k line i lt space = at_drop_more (reads n k) line i 0 lt ∙ rw space refl

pub reads_none : (n k : ℕ) (line : List ℕ) (i : ℕ) → i < length line → is_digit (get_or line i 0) ≡ false →
    (get_or line i 0 ≡ 32 → ⊥) → reads n k (drop i line) ≡ None
unfolding reads
reads_none n k line i lt digit space = grind (arith, common_steps, at_drop_more, reads, cond-false)

-- nine digits without a space behind them
pub reads_full : (n k : ℕ) (line : List ℕ) (i : ℕ) → i < length line → 9 ≤ k → (get_or line i 0 ≡ 32 → ⊥) →
    reads n k (drop i line) ≡ None
unfolding reads
reads_full n k line i lt full space =
    grind (arith, common_steps, at_drop_more, reads, cases_Bool, cond-true, cond-false)

pub reads_end : (n k : ℕ) (line : List ℕ) (i : ℕ) → length line ≤ i → reads n k (drop i line) ≡ None
unfolding reads
reads_end n k line i le = rw (drop_of_length-le line le) refl

-- ---- words that begin with digits

-- digits before a line become the begin of its first word
put_before : (ds line w : List ℕ) (ws : List (List ℕ)) → list_all is_digit ds ≡ true → words_of line ≡ w ∷ ws →
    words_of (ds ++ line) ≡ (ds ++ w) ∷ ws
put_before [] line w ws digits e = e
put_before (d ∷ ds) line w ws digits e =
    grind (arith, common_steps, and_parts, slice_split-cons_no, digit_is_no_space, put_before ds line w ws)

pub first_of : (ws : List (List ℕ)) → 0 < length ws → (w : List ℕ) × (vs : List (List ℕ)) × (ws ≡ w ∷ vs)
first_of [] some = absurd (omega arith)
first_of (w ∷ vs) some = (w, vs, refl)

-- the first word of a line that does not begin with a space
begun : (b : ℕ) (line : List ℕ) → is_space b ≡ false →
    (w : List ℕ) × (ws : List (List ℕ)) × (words_of (b ∷ line) ≡ (b ∷ w) ∷ ws)
begun b line other =
    let first = first_of (words_of line) (some_words line) in
    (first.0, first.1, slice_split-cons_no is_space b line other ∙ ap (onto_first b) first.2)

no_number : (w : List ℕ) → is_number w ≡ false → number_of w ≡ None
unfolding number_of
no_number w e = cond-false _ _ _ e

not_leading : (w : List ℕ) (ws : List (List ℕ)) → is_number w ≡ false → None ≡ leading_number (w ∷ ws)
unfolding leading_number
not_leading w ws h1 = grind (arith, common_steps, no_number)

a_number : (w : List ℕ) → is_number w ≡ true → number_of w ≡ Some (append_digits 0 w)
unfolding number_of
a_number w e = cond-true _ _ _ e

leading_is : (w v : List ℕ) (ws : List (List ℕ)) → is_number w ≡ true →
    Some (append_digits 0 w, v ∷ ws) ≡ leading_number (w ∷ v ∷ ws)
unfolding leading_number
leading_is w v ws e = sym (ap (λ o. o >>= λ n. Some (n, v ∷ ws)) (a_number w e))

is_leading : (w line : List ℕ) → is_number w ≡ true →
    Some (append_digits 0 w, words_of line) ≡ leading_number (w ∷ words_of line)
is_leading w line e =
    let first = first_of (words_of line) (some_words line) in
    subst (λ ws. Some (append_digits 0 w, ws) ≡ leading_number (w ∷ ws)) (sym first.2) (leading_is w first.0 first.1 e)

read_one_more : (n : ℕ) (ds : List ℕ) (b : ℕ) → append_digits n (ds ++ b ∷ []) ≡ 10 * append_digits n ds + (b - 48)
read_one_more n [] b = refl
read_one_more n (d ∷ ds) b = read_one_more (10 * n + (d - 48)) ds b

and_false : (a b : Bool) → b ≡ false → (a && b) ≡ false
and_false a b h1 = grind (arith, common_steps)

not_all : (ds : List ℕ) (b : ℕ) (w : List ℕ) → is_digit b ≡ false → list_all is_digit (ds ++ b ∷ w) ≡ false
not_all [] b w other = rw other refl
not_all (d ∷ ds) b w other = and_false (is_digit d) (list_all is_digit (ds ++ b ∷ w)) (not_all ds b w other)

not_digits : (c : ℕ) (cs : List ℕ) → list_all is_digit (c ∷ cs) ≡ false → is_number (c ∷ cs) ≡ false
not_digits c cs e = ap (λ a. a && nat_lt (length cs) 9 && (length cs == 0 || nat_lt 48 c)) e

-- a word with another byte is no number, and a word of more than nine bytes is none
other_byte : (ds : List ℕ) (b : ℕ) (w : List ℕ) → is_digit b ≡ false → is_number (ds ++ b ∷ w) ≡ false
other_byte [] b w other = not_digits b w (not_all [] b w other)
other_byte (d ∷ ds) b w other = not_digits d (ds ++ b ∷ w) (not_all (d ∷ ds) b w other)

too_long : (ds : List ℕ) (b : ℕ) (w : List ℕ) → 9 ≤ length ds → is_number (ds ++ b ∷ w) ≡ false
too_long [] b w long = absurd (omega arith)
too_long (d ∷ ds) b w long = grind (arith, common_steps, length-append)

-- ---- the whole

-- one to nine digits, of which the first is no `0`
pub record IsBegin (ds : List ℕ) : Type 0 where
  digits : list_all is_digit ds ≡ true
  some : 0 < length ds
  few : length ds ≤ 9
  plain : 48 < get_or ds 0 0

one_more : (ds : List ℕ) (b : ℕ) → IsBegin ds → length ds < 9 → is_digit b ≡ true → IsBegin (ds ++ b ∷ [])
one_more [] b begin few digit = absurd (omega (arith, begin.some))
one_more (d ∷ ds) b begin few digit = grind (arith, common_steps, length-append, list_all-append)

last : (w : List ℕ) → leading_number (w ∷ []) ≡ None
unfolding leading_number
last w = refl

reads_is : (ds line : List ℕ) → IsBegin ds →
    reads (append_digits 0 ds) (length ds) line ≡ leading_number (words_of (ds ++ line))
unfolding reads
reads_is ds [] begin = sym (ap leading_number (put_before ds [] [] [] begin.digits refl) ∙ last (ds ++ []))
reads_is ds (b ∷ line) begin = elim (cases_Bool (is_digit b)) [
  | inl digit ↦ cond-true _ _ _ digit ∙ elim (cases_Bool (nat_lt (length ds) 9)) [
    | inl few ↦
        let more = ds ++ b ∷ [] in
        cond-true _ _ _ few
        ∙ ap (λ n. reads n (length ds + 1) line) (sym (read_one_more 0 ds b))
        ∙ ap (λ k. reads (append_digits 0 more) k line) (sym (length-append ds (b ∷ [])))
        ∙ reads_is more line (one_more ds b begin (grind (arith, nat_tests, few)) digit)
        ∙ ap (λ l. leading_number (words_of l)) (append_assoc ds (b ∷ []) line)
    | inr full ↦
        let first = begun b line (digit_is_no_space b digit) in
        cond-false _ _ _ full ∙ not_leading (ds ++ b ∷ first.0) first.1
        (too_long ds b first.0 (grind (arith, nat_tests, full)))
        ∙ sym (ap leading_number (put_before ds (b ∷ line) (b ∷ first.0) first.1 begin.digits first.2))
  ]
  | inr other ↦ cond-false _ _ _ other ∙ elim (cases_Bool (is_space b)) [
    | inl space ↦ cond-true _ _ _ space
        ∙ is_leading ds line (is_one ds begin.digits begin.some begin.few (inr begin.plain))
        ∙ ap (λ w. leading_number (w ∷ words_of line)) (sym (append-nil ds))
        ∙ sym (ap leading_number (put_before ds (b ∷ line) [] (words_of line) begin.digits
        (slice_split-cons_yes is_space b line space)))
    | inr byte ↦
        let first = begun b line byte in
        cond-false _ _ _ byte ∙ not_leading (ds ++ b ∷ first.0) first.1 (other_byte ds b first.0 other)
        ∙ sym (ap leading_number (put_before ds (b ∷ line) (b ∷ first.0) first.1 begin.digits first.2))
  ]
]

-- the number of a word that begins with a digit other than `0`
pub reads_whole : (first : ℕ) (line : List ℕ) → 49 ≤ first → first ≤ 57 →
    reads (first - 48) 1 line ≡ leading_number (words_of (first ∷ line))
reads_whole first line low high = ap (λ n. reads n 1 line) (omega arith) ∙ reads_is (first ∷ []) line
    (grind (arith, common_steps, nat_tests))

-- ---- words that begin otherwise

zero_is : (line : List ℕ) → Some (0, words_of line) ≡ leading_number (words_of (48 ∷ 32 ∷ line))
zero_is line = is_leading (48 ∷ []) line refl

zero_goes_on : (b : ℕ) (line : List ℕ) → is_space b ≡ false → None ≡ leading_number (words_of (48 ∷ b ∷ line))
zero_goes_on b line other = grind (arith, common_steps, begun, not_leading, put_before)

zero_ends : None ≡ leading_number (words_of (48 ∷ []))
unfolding leading_number
zero_ends = refl

pub no_digit : (b : ℕ) (line : List ℕ) → is_digit b ≡ false → None ≡ leading_number (words_of (b ∷ line))
no_digit b line other = grind (arith, common_steps, cases_Bool, not_leading, slice_split-cons_yes, begun, other_byte)

pub zero_then : (line : List ℕ) → 0 < length line → get_or line 0 0 ≡ 32 →
    Some (0, words_of (take (length line - 1) (drop 1 line))) ≡ leading_number (words_of (48 ∷ line))
zero_then [] some space = absurd (omega arith)
zero_then (b ∷ line) some space = grind (arith, common_steps, take_rest, zero_is)

pub zero_else : (line : List ℕ) → (0 < length line → get_or line 0 0 ≡ 32 → ⊥) →
    None ≡ leading_number (words_of (48 ∷ line))
zero_else line h1 = grind (arith, common_steps, zero_ends, zero_goes_on)

pub empty_line : (line : List ℕ) → length line ≡ 0 → None ≡ leading_number (words_of line)
unfolding leading_number
empty_line line h1 = grind (arith, common_steps)
