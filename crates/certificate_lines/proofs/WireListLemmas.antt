-- The marks of a list of wires
use Rattle.certificate_lines.proofs.Imports.{List, [], ap, arith, common_steps, false, get_or, is_among, length}
use Rattle.certificate_lines.proofs.Imports.{replicate, suc, sym, take, take_more, true, zero, ℕ, ◌%◌, ◌++◌, ◌+◌, ◌<◌}
use Rattle.certificate_lines.proofs.Imports.{◌==◌, ◌||◌, ◌∙◌, ◌∷◌, ◌≡◌, ◌≤◌, false≢true}
use Rattle.lemmas.proofs.Common.{◌/◌, eq_itself, or-true, false_from_ne_true, get_or_past}
use Rattle.std.proofs.lemmas.List.{get_or-take, length-take-le}
use Rattle.bbm_rule.specs.Rows.{SetsCellAtPlace, cell_at}
use Rattle.bbm_rule.specs.Bits.{bit}
use Rattle.bbm_rule.proofs.BitLemmas.{by_lt_or_le, bit-zero}

-- a number whose word is zero has no mark
unmarked : (marks : List ℕ) (w : ℕ) → get_or marks (w / 64) 0 ≡ 0 → cell_at marks w ≡ false
unfolding cell_at
unmarked marks w e = ap (λ (n : ℕ). bit n (w % 64)) e ∙ bit-zero (w % 64)

-- nor has one past the words
pub past_marks : (marks : List ℕ) (w : ℕ) → length marks ≤ w / 64 → cell_at marks w ≡ false
past_marks marks w past = unmarked marks w (get_or_past marks (w / 64) 0 past)

-- no wire is marked at first
pub none_marked : (w : ℕ) → cell_at [] w ≡ is_among [] w
none_marked w = past_marks [] w (omega arith)

take_all : (marks : List ℕ) (n : ℕ) → length marks ≤ n → take n marks ≡ marks
take_all [] n few = grind (arith, common_steps)
take_all (m ∷ marks) zero few = absurd (omega (arith, few))
take_all (m ∷ marks) (suc n) few = ap (λ l. m ∷ l) (take_all marks n (omega (arith, few)))

pub grown_marks : (marks : List ℕ) (n k w : ℕ) → length marks ≤ n →
    cell_at (take n marks ++ replicate k 0) w ≡ cell_at marks w
unfolding cell_at
grown_marks marks n k w few = grind (arith, common_steps, take_all)

-- marks that are truncated to their old length are the old ones
pub same_marks_truncated : (old new : List ℕ) (n w : ℕ) → n ≡ length old → n ≤ length new →
    ((v : ℕ) → cell_at new v ≡ cell_at old v) → cell_at (take n new) w ≡ cell_at old w
unfolding cell_at
same_marks_truncated old new n w is fits same = by_lt_or_le (w / 64) n
    (λ within. ap (λ (m : ℕ). bit m (w % 64)) (get_or-take n new (w / 64) 0 within) ∙ same w)
    (λ past. grind (arith, common_steps, past_marks, length-take-le))

-- ---- the marks are taken off

-- a wire of the list is among its wires
own_wire : (wires : List ℕ) (i d : ℕ) → i < length wires → is_among wires (get_or wires i d) ≡ true
own_wire [] i d lt = absurd (omega (arith, lt))
own_wire (v ∷ wires) zero d lt = ap (λ b. b || is_among wires v) (eq_itself v)
own_wire (v ∷ wires) (suc i) d lt =
    ap (λ b. (v == get_or wires i d) || b) (own_wire wires i d (omega (arith, lt))) ∙ or-true (v == get_or wires i d)

-- so its mark lies in a word
pub own_word : (marks wires : List ℕ) (i : ℕ) → ((w : ℕ) → cell_at marks w ≡ is_among wires w) → i < length wires →
    get_or wires i 0 / 64 < length marks
own_word marks wires i same lt =
    let w = get_or wires i 0 in
    by_lt_or_le (w / 64) (length marks) (λ within. within) (λ past.
    absurd (false≢true (sym (past_marks marks w past) ∙ same w ∙ own_wire wires i 0 lt)))

-- when the marks of the first wires are off, no wire has one if all are the first ones
pub record AreUnmarked (marks wires : List ℕ) (count : ℕ) : Type 0 where
  pub own : (w : ℕ) → cell_at marks w ≡ true → is_among wires w ≡ true
  pub off : (w : ℕ) → is_among (take count wires) w ≡ true → cell_at marks w ≡ false

pub one_more_off : (old new wires : List ℕ) (i w : ℕ) → i < length wires → w ≡ get_or wires i 0 →
    SetsCellAtPlace w false old new → AreUnmarked old wires i → AreUnmarked new wires (i + 1)
one_more_off old new wires i w lt is sets before = grind (arith, common_steps, take_more)

pub all_off : (marks wires : List ℕ) → AreUnmarked marks wires (length wires) → (w : ℕ) → cell_at marks w ≡ false
all_off marks wires off w = grind (arith, common_steps, false_from_ne_true, false≢true, take_all)
