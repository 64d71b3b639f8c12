-- Blocks that some of their cells hold
use Rattle.lanes.proofs.Imports.{ArePlaneWordsInRange, BlockPlaces, Bool, HasValueUnderEachAssignment, IsBlockStable}
use Rattle.lanes.proofs.Imports.{List, Planes, ap, arith, bit, bit-zero, bit_ones, by_lt_or_le, cell_word_bit}
use Rattle.lanes.proofs.Imports.{common_steps, false, false≢true, get_or, inl, inr, mul-le-mul_left, true, turned, ℕ}
use Rattle.lanes.proofs.Imports.{◌*◌, ◌+◌, ◌<◌, ◌||◌, ◌∙◌, ◌≡◌, ◌≤◌, ◌⊎◌}
use Rattle.bbm_rule.proofs.BitLemmas.{bit_above}
use Rattle.bbm_rule.proofs.PlaneLemmas.{dead_block}
use Rattle.lanes.specs.Held.{HasLiveCellOnEachDiagonal, IsBlockHeldByCorners}

-- ---- cells whose words are the same
pub room_of : (w u n long : ℕ) → u < n → long ≡ w * n → w * u + w ≤ long
room_of w u n long l e = let m : w * (u + 1) ≤ w * n = mul-le-mul_left w (omega arith) in omega (arith, m, e)

pub run_room : (w at n cells long : ℕ) → at + n ≤ cells → long ≡ w * cells → w * at + w * n ≤ long
run_room w at n cells long l e = let m : w * (at + n) ≤ w * cells = mul-le-mul_left w l in omega (arith, m, e)

pub all_live : (w at : ℕ) (cells : List ℕ) → ((k : ℕ) → k < w → get_or cells (w * at + k) 0 ≡ 18446744073709551615) →
    HasValueUnderEachAssignment true w (cell_word_bit w cells at)
all_live w at cells same k j lk lj = ap (λ (n : ℕ). bit n j) (same k lk) ∙ bit_ones j lj

pub all_dead : (w at : ℕ) (cells : List ℕ) → ((k : ℕ) → k < w → get_or cells (w * at + k) 0 ≡ 0) →
    HasValueUnderEachAssignment false w (cell_word_bit w cells at)
all_dead w at cells same k j lk lj = ap (λ (n : ℕ). bit n j) (same k lk) ∙ bit-zero j

-- ---- the rule on blocks whose diagonals both have a live cell, or none
both_live : (a d b c : Bool) → (a || d) ≡ true → (b || c) ≡ true → turned a d b c ≡ a
unfolding turned
both_live a d b c h1 h2 = grind (arith, common_steps, false≢true)

-- what a turn makes of four cells
pub record TurnsBits (w : ℕ) (a b c d a' b' c' d' : ℕ → ℕ → Bool) : Type 0 where
  pub upper_left : (k j : ℕ) → k < w → j < 64 → a' k j ≡ turned (a k j) (d k j) (b k j) (c k j)
  pub upper_right : (k j : ℕ) → k < w → j < 64 → b' k j ≡ turned (b k j) (c k j) (a k j) (d k j)
  pub lower_left : (k j : ℕ) → k < w → j < 64 → c' k j ≡ turned (c k j) (b k j) (d k j) (a k j)
  pub lower_right : (k j : ℕ) → k < w → j < 64 → d' k j ≡ turned (d k j) (a k j) (c k j) (b k j)

-- a cell stays
abbrev pub StaysBits : ℕ → (ℕ → ℕ → Bool) → (ℕ → ℕ → Bool) → Type 0
StaysBits w a a' = (k j : ℕ) → k < w → j < 64 → a' k j ≡ a k j

-- a block stays
pub record BlockStays (w : ℕ) (a b c d a' b' c' d' : ℕ → ℕ → Bool) : Type 0 where
  pub upper_left : StaysBits w a a'
  pub upper_right : StaysBits w b b'
  pub lower_left : StaysBits w c c'
  pub lower_right : StaysBits w d d'

-- a block is turned or stays
abbrev pub MayTurn : ℕ → (a b c d a' b' c' d' : ℕ → ℕ → Bool) → Type 0
MayTurn w a b c d a' b' c' d' = TurnsBits w a b c d a' b' c' d' ⊎ BlockStays w a b c d a' b' c' d'

-- at each place a turn leaves the four bits as they are
record IsCalmAt (a b c d : Bool) : Type 0 where
  upper_left : turned a d b c ≡ a
  upper_right : turned b c a d ≡ b
  lower_left : turned c b d a ≡ c
  lower_right : turned d a c b ≡ d

calm_live : (a b c d : Bool) → (a || d) ≡ true → (b || c) ≡ true → IsCalmAt a b c d
calm_live a b c d main anti = grind (arith, common_steps, both_live)

calm_dead : (a b c d : Bool) → a ≡ false → b ≡ false → c ≡ false → d ≡ false → IsCalmAt a b c d
calm_dead a b c d ea eb ec ed = grind (arith, common_steps, dead_block)

held_calm : (w : ℕ) (A B C D : Type 0) (a b c d : ℕ → ℕ → Bool) → IsBlockHeldByCorners w A B C D a b c d → (k j : ℕ) →
    k < w → j < 64 → IsCalmAt (a k j) (b k j) (c k j) (d k j)
held_calm w A B C D a b c d (inl h) k j lk lj = grind (arith, common_steps, calm_live)
held_calm w A B C D a b c d (inr h) k j lk lj = grind (arith, common_steps, calm_dead)

-- a block of words that is held
pub held_stable : (b : BlockPlaces) (p : Planes) (A B C D : Type 0) → ArePlaneWordsInRange p →
    IsBlockHeldByCorners p.words A B C D (cell_word_bit p.words p.odd.items b.odd)
    (cell_word_bit p.words p.right.items b.right) (cell_word_bit p.words p.down.items b.down)
    (cell_word_bit p.words p.even.items b.even) → IsBlockStable b p
held_stable b p A B C D words held = (grind (arith, common_steps, calm))
  where
    calm : (k j : ℕ) → k < p.words →
        IsCalmAt (cell_word_bit p.words p.odd.items b.odd k j) (cell_word_bit p.words p.right.items b.right k j)
        (cell_word_bit p.words p.down.items b.down k j) (cell_word_bit p.words p.even.items b.even k j)
    calm k j l = by_lt_or_le j 64
        (λ h. held_calm p.words A B C D _ _ _ _ held k j l h)
        (λ g. calm_dead _ _ _ _ (bit_above _ 64 j (words.odd _) g) (bit_above _ 64 j (words.right _) g)
        (bit_above _ 64 j (words.down _) g) (bit_above _ 64 j (words.even _) g))

-- a block that is held stays
pub held_stays : (w : ℕ) (A B C D : Type 0) (a b c d a' b' c' d' : ℕ → ℕ → Bool) →
    IsBlockHeldByCorners w A B C D a b c d → MayTurn w a b c d a' b' c' d' → BlockStays w a b c d a' b' c' d'
held_stays w A B C D a b c d a' b' c' d' h (inl t) = record {
  upper_left = λ k j lk lj. t.upper_left k j lk lj ∙ (held_calm w A B C D a b c d h k j lk lj).upper_left;
  upper_right = λ k j lk lj. t.upper_right k j lk lj ∙ (held_calm w A B C D a b c d h k j lk lj).upper_right;
  lower_left = λ k j lk lj. t.lower_left k j lk lj ∙ (held_calm w A B C D a b c d h k j lk lj).lower_left;
  lower_right = λ k j lk lj. t.lower_right k j lk lj ∙ (held_calm w A B C D a b c d h k j lk lj).lower_right;
}
held_stays w A B C D a b c d a' b' c' d' h (inr s) = s

-- each diagonal has a live cell that meets another condition, where that follows
pub live_if : (w : ℕ) (A B C D A' B' C' D' : Type 0) (a b c d : ℕ → ℕ → Bool) → (A → A') → (B → B') → (C → C') →
    (D → D') → HasLiveCellOnEachDiagonal w A B C D a b c d → HasLiveCellOnEachDiagonal w A' B' C' D' a b c d
live_if w A B C D A' B' C' D' a b c d fa fb fc fd h = grind (arith, common_steps)
