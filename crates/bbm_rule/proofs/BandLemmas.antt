-- Pairs of rows that stay, while others are turned
use Rattle.bbm_rule.proofs.Imports.{AreSameBits, AreSameCells, AreUnmarkedRowPairsStable, HasNoSetBit, HasWordAt}
use Rattle.bbm_rule.proofs.Imports.{IsNumberUnmarked, List, MarksOneNumber, SetsCellAtPlace, SetsWordAt, TurnsRowPart}
use Rattle.bbm_rule.proofs.Imports.{TurnsRows, arith, bit, bit_or, cell_at, common_steps, false, get_or, inl, inr}
use Rattle.bbm_rule.proofs.Imports.{length, length-set, mul-le-mul_right, nat_eq, nat_tests, not, paired_place, set}
use Rattle.bbm_rule.proofs.Imports.{suc, sym, zero, ℕ, ◌%◌, ◌*◌, ◌+◌, ◌-◌, ◌/◌, ◌<◌, ◌∙◌, ◌≡◌, ◌≢◌, ◌≤◌, ◌⊎◌}
use Rattle.lemmas.proofs.Common.{or_parts}
use Rattle.bbm_rule.proofs.BitLemmas.{by_lt_or_le, by_eq_or_not, bit-or, bit-zero}
use Rattle.bbm_rule.proofs.BlockRuns.{mate_lt, rows_join, word_is_window, word_set}
use Rattle.bbm_rule.proofs.PlaneLemmas.{turned_twice, mate_twice, dead_block}

-- ---- what a turn of two rows changes
pub blank_from_test : (n : ℕ) → not (nat_eq n 0) ≡ false → HasNoSetBit n
blank_from_test n h j = grind (arith, common_steps, nat_tests, bit-zero)

pub noted_bits : (changed told j : ℕ) → bit (bit_or changed told) j ≡ false →
    (bit changed j ≡ false) × (bit told j ≡ false)
noted_bits changed told j h = or_parts (bit changed j) _ (sym (bit-or changed told j) ∙ h)

-- a window that gets the cells that it has
pub window_same : (p a v : ℕ) (old new : List ℕ) → AreSameBits v a → HasWordAt old p v → SetsWordAt p a old new →
    AreSameCells old new
window_same p a v old new same has sets q = by_lt_or_le q p (sets.before q)
    (λ le. by_lt_or_le q (p + 64)
    (λ l. let e : p + (q - p) ≡ q = omega arith in
    rw e at (sets.cells (q - p) (omega arith) ∙ same (q - p) (omega arith) ∙ has.cells (q - p) (omega arith)))
    (λ past. sets.after q past))

has_same : (p v : ℕ) (old new : List ℕ) → AreSameCells old new → HasWordAt old p v → HasWordAt new p v
has_same p v old new same has = record { cells = λ j l. has.cells j l ∙ sym (same (p + j)) }

-- where nothing is noted, no cell changed, also in two more windows
pub windows_same : (p r changed told a above b below : ℕ) (first second mid third : List ℕ) →
    (HasNoSetBit changed → AreSameCells first second) → (HasNoSetBit told → AreSameBits above a × AreSameBits below b) →
    HasWordAt second p above → HasWordAt second r below → SetsWordAt p a second mid → SetsWordAt r b mid third →
    HasNoSetBit (bit_or changed told) → AreSameCells first third
windows_same p r changed told a above b below first second mid third so_far stays has_a has_b set_a set_b none =
    let same = stays (λ j. (noted_bits changed told j (none j)).1) in
    let one = window_same p a above second mid same.0 has_a set_a in
    let two = window_same r b below mid third same.1 (has_same r below second mid one has_b) set_b in
    λ q. two q ∙ one q ∙ so_far (λ j. (noted_bits changed told j (none j)).0) q

-- nor in two more words
pub words_same : (i k changed told a b : ℕ) (first second : List ℕ) → i < length second → k < length second →
    (HasNoSetBit changed → AreSameCells first second) →
    (HasNoSetBit told → AreSameBits (get_or second i 0) a × AreSameBits (get_or second k 0) b) →
    HasNoSetBit (bit_or changed told) → AreSameCells first (set (set second i a) k b)
words_same i k changed told a b first second room room' so_far stays none =
    windows_same (64 * i) (64 * k) changed told a (get_or second i 0) b (get_or second k 0) first second
    (set second i a) _ so_far stays
    (word_is_window second i) (word_is_window second k) (word_set second i a room)
    (word_set (set second i a) k b (omega (arith, length-set {A = ℕ}))) none

-- ---- pairs that stay
-- a pair stays where its cells are as they were
pub pair_kept : (p s : ℕ) (old new : List ℕ) → s % 2 ≡ 0 →
    ((q : ℕ) → p ≤ q → q < p + 2 * s → cell_at new q ≡ cell_at old q) → TurnsRowPart p s s old old →
    TurnsRowPart p s s new new
pair_kept p s old new whole same run = grind (arith, common_steps, mate_lt)

after_pair : (k i s : ℕ) → k < i → 2 * (k * s) + 2 * s ≤ 2 * (i * s)
after_pair k i s l = let h : (k + 1) * s ≤ i * s = mul-le-mul_right s (omega arith) in omega arith

-- the other pairs of a partition stay while pair k is turned
pub others_kept : (p s r k : ℕ) (marks old new : List ℕ) → s % 2 ≡ 0 → TurnsRowPart (p + 2 * (k * s)) s s old new →
    AreUnmarkedRowPairsStable p s r marks old → (i : ℕ) → i < r → i ≢ k → IsNumberUnmarked marks i →
    TurnsRowPart (p + 2 * (i * s)) s s new new
others_kept p s r k marks old new whole run calm i l other free =
    pair_kept (p + 2 * (i * s)) s old new whole same (calm i l free)
  where
    same : (q : ℕ) → p + 2 * (i * s) ≤ q → q < p + 2 * (i * s) + 2 * s → cell_at new q ≡ cell_at old q
    same q low high = grind (arith, common_steps, after_pair)

-- all of them but pair k, which gets a mark
pub calm_marked : (p s r k : ℕ) (marks marks' old new : List ℕ) → s % 2 ≡ 0 →
    TurnsRowPart (p + 2 * (k * s)) s s old new → MarksOneNumber k marks marks' →
    AreUnmarkedRowPairsStable p s r marks old → AreUnmarkedRowPairsStable p s r marks' new
calm_marked p s r k marks marks' old new whole run marked calm i l free = grind (arith, common_steps, others_kept)

-- and pair k too, where no cell of it changed
pub calm_settled : (p s r k : ℕ) (marks marks' old new : List ℕ) → s % 2 ≡ 0 →
    TurnsRowPart (p + 2 * (k * s)) s s old new → AreSameCells old new → SetsCellAtPlace k false marks marks' →
    AreUnmarkedRowPairsStable p s r marks old → AreUnmarkedRowPairsStable p s r marks' new
calm_settled p s r k marks marks' old new whole run same sets calm i l free =
    grind (arith, common_steps, common_steps, by_eq_or_not, others_kept)

-- pairs stay where no cell changed
pub calm_same : (p s r : ℕ) (marks old new : List ℕ) → s % 2 ≡ 0 → AreSameCells old new →
    AreUnmarkedRowPairsStable p s r marks old → AreUnmarkedRowPairsStable p s r marks new
calm_same p s r marks old new whole same calm i l free = grind (arith, common_steps, pair_kept)

-- Pairs stay, but for those that reach the cells that change. `second` has the marks then.
but_marked : (p s r from to : ℕ) (first second old new : List ℕ) → s % 2 ≡ 0 →
    ((q : ℕ) → q < from → cell_at new q ≡ cell_at old q) → ((q : ℕ) → to ≤ q → cell_at new q ≡ cell_at old q) →
    ((i : ℕ) → IsNumberUnmarked second i →
    IsNumberUnmarked first i × ((p + 2 * (i * s) + 2 * s ≤ from) ⊎ (to ≤ p + 2 * (i * s)))) →
    AreUnmarkedRowPairsStable p s r first old → AreUnmarkedRowPairsStable p s r second new
but_marked p s r from to first second old new whole before after apart calm i l free =
    grind (arith, common_steps, pair_kept)

-- the pairs of the odd partition stay, while pair k of the even partition is turned, but for the two that share its
-- rows
pub odd_kept : (s r k : ℕ) (first second third old new : List ℕ) → s % 2 ≡ 0 → 0 < s →
    TurnsRowPart (s + 1 + 2 * (k * s)) s s old new → MarksOneNumber k first second →
    MarksOneNumber (k + 1) second third →
    AreUnmarkedRowPairsStable 0 s r first old → AreUnmarkedRowPairsStable 0 s r third new
odd_kept s r k first second third old new whole positive run one two =
    but_marked 0 s r (s + 1 + 2 * (k * s)) (s + 1 + 2 * (k * s) + s + s) first third old new whole run.before run.after
    (λ i free.
    let later = two i free in
    let was = one i later.0 in (
      was.0,
      by_lt_or_le i k (λ before. let h = after_pair i k s before in inl (omega arith))
          (λ le. let h = after_pair (k + 1) i s (omega (arith, later.1, was.1)) in inr (omega arith)),
    ))

-- and those of the even partition, while pair k of the odd partition is turned
pub even_kept : (s r k : ℕ) (first second third old new : List ℕ) → s % 2 ≡ 0 → 0 < s →
    TurnsRowPart (0 + 2 * (k * s)) s s old new → MarksOneNumber k first second →
    ((i : ℕ) → IsNumberUnmarked third i → IsNumberUnmarked second i × (i + 1 ≢ k)) →
    AreUnmarkedRowPairsStable (s + 1) s r first old → AreUnmarkedRowPairsStable (s + 1) s r third new
even_kept s r k first second third old new whole positive run one two =
    but_marked (s + 1) s r (0 + 2 * (k * s)) (0 + 2 * (k * s) + s + s) first third old new whole run.before run.after
    (λ i free.
    let later = two i free in
    let was = one i later.0 in (
      was.0,
      by_lt_or_le i k (λ before. let h = after_pair (i + 1) k s (omega (arith, later.1)) in inl (omega arith))
          (λ le. let h = after_pair k i s (omega (arith, was.1)) in inr (omega arith)),
    ))

-- pairs that stay may be passed over
pub rows_passed : (p s a d : ℕ) (old new : List ℕ) → s % 2 ≡ 0 → TurnsRows p s a old new →
    ((i : ℕ) → a ≤ i → i < a + d → TurnsRowPart (p + 2 * (i * s)) s s new new) → TurnsRows p s (a + d) old new
rows_passed p s a zero old new whole rows calm = let e : a + 0 ≡ a = omega arith in rw e rows
rows_passed p s a (suc d) old new whole rows calm =
    let e : a + suc d ≡ a + d + 1 = omega arith in
    rw e (rows_join p s (a + d) old new new whole
    (rows_passed p s a d old new whole rows (λ i low high. calm i low (omega arith)))
    (calm (a + d) (omega arith) (omega arith)))

-- up to the next pair that may have a mark
pub rows_until : (p s r a b : ℕ) (marks old new : List ℕ) → s % 2 ≡ 0 → a ≤ b → b ≤ r → TurnsRows p s a old new →
    AreUnmarkedRowPairsStable p s r marks new → ((u : ℕ) → a ≤ u → u < b → IsNumberUnmarked marks u) →
    TurnsRows p s b old new
rows_until p s r a b marks old new whole le within rows calm free =
    let e : a + (b - a) ≡ b = omega arith in
    rw e at (rows_passed p s a (b - a) old new whole rows
    (λ i low high. calm i (omega arith) (free i low (omega arith))))

-- a pair that stays now did not change when all were turned
pub pair_same : (p s r i : ℕ) (old new : List ℕ) → s % 2 ≡ 0 → i < r → TurnsRows p s r old new →
    TurnsRowPart (p + 2 * (i * s)) s s new new → (q : ℕ) → p + 2 * (i * s) ≤ q → q < p + 2 * (i * s) + 2 * s →
    cell_at new q ≡ cell_at old q
pair_same p s r i old new whole within rows calm q low high = by_lt_or_le q (at + s)
    (λ l. let e : at + (q - at) ≡ q = omega arith in rw e at (upper (q - at) (omega arith)))
    (λ le. let e : at + s + (q - (at + s)) ≡ q = omega arith in rw e at (lower (q - (at + s)) (omega arith)))
  where
    at : ℕ
    at = p + 2 * (i * s)

    upper : (j : ℕ) → j < s → cell_at new (p + 2 * (i * s) + j) ≡ cell_at old (p + 2 * (i * s) + j)
    upper j l =
        let m = mate_lt j s whole l in
        let own = rows.upper i j within l in
        let across = rows.upper i (paired_place j) within m in
        let down = rows.lower i j within l in
        let opposite = rows.lower i (paired_place j) within m in
        let across = rw (mate_twice j) at across in
        let opposite = rw (mate_twice j) at opposite in
        calm.upper j l ∙ rw (own, across, down, opposite) (turned_twice _ _ _ _)

    lower : (j : ℕ) → j < s → cell_at new (p + 2 * (i * s) + s + j) ≡ cell_at old (p + 2 * (i * s) + s + j)
    lower j l =
        let m = mate_lt j s whole l in
        let own = rows.lower i j within l in
        let across = rows.lower i (paired_place j) within m in
        let down = rows.upper i j within l in
        let opposite = rows.upper i (paired_place j) within m in
        let across = rw (mate_twice j) at across in
        let opposite = rw (mate_twice j) at opposite in
        calm.lower j l ∙ rw (own, across, down, opposite) (turned_twice _ _ _ _)

-- ---- cells of a row that change
place_after : (s i v : ℕ) → 2 * i + 2 ≤ v → 2 * (i * s) + 2 * s ≤ v * s
place_after s i v l = let h : (2 * i + 2) * s ≤ v * s = mul-le-mul_right s l in omega arith

place_before : (s i v : ℕ) → v ≤ 2 * i → v * s ≤ 2 * (i * s)
place_before s i v l = let h : v * s ≤ 2 * i * s = mul-le-mul_right s l in omega arith

-- The pairs stay, but for that of the row in which n cells from a place on change. It is row y of those that begin at
-- place p, and the cells begin in its column x.
pub row_changed : (p s r x y n place : ℕ) (first second old new : List ℕ) → s % 2 ≡ 0 → x + n ≤ s →
    place ≡ p + s * y + x → ((q : ℕ) → q < place → cell_at new q ≡ cell_at old q) →
    ((q : ℕ) → place + n ≤ q → cell_at new q ≡ cell_at old q) → MarksOneNumber (y / 2) first second →
    AreUnmarkedRowPairsStable p s r first old → AreUnmarkedRowPairsStable p s r second new
row_changed p s r x y n place first second old new whole wide at before after marked =
    but_marked p s r place (place + n) first second old new whole before after (λ i free.
    let was = marked i free in (
      was.0,
      by_lt_or_le i (y / 2) (λ less. let h = place_after s i y (omega arith) in inl (omega arith))
          (λ le. let h = place_before s i (y + 1) (omega (arith, was.1)) in inr (omega arith)),
    ))

-- ---- where nothing is live, every pair stays
pub none_calm : (p s r : ℕ) (marks words : List ℕ) → ((q : ℕ) → cell_at words q ≡ false) →
    AreUnmarkedRowPairsStable p s r marks words
none_calm p s r marks words none i l free = grind (arith, common_steps, dead_block)
