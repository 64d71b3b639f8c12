-- Words of marks: numbers that have a mark in one list, and one in another
use Rattle.lanes.proofs.Imports.{AreNumberCellsUnmarked, Bool, IsNumberUnmarked, List, LiveMarks, ap, arith, bit}
use Rattle.lanes.proofs.Imports.{bit-and, bit-zero, bit_and, bit_or, cell_at, common_steps, false, get_or, refl, ℕ, ◌%◌}
use Rattle.lanes.proofs.Imports.{◌&&◌, ◌/◌, ◌||◌, ◌∙◌, ◌≡◌, ◌⊎◌}
use Rattle.lemmas.proofs.Common.{or_parts}
use Rattle.bbm_rule.proofs.BitLemmas.{bit-or}

-- the word of 64 numbers, at a place of two lists and of the marks on live cells
abbrev pub joined : List ℕ → ℕ → List ℕ → ℕ → ℕ
joined a w c q = bit_and (get_or a q 0) (bit_or w (get_or c q 0))

abbrev pub LacksMark : List ℕ → LiveMarks → List ℕ → ℕ → Type 0
LacksMark a l c u = IsNumberUnmarked a u ⊎ (AreNumberCellsUnmarked l u × IsNumberUnmarked c u)

-- what a word of marks on live cells says
abbrev pub IsWordOf : LiveMarks → ℕ → ℕ → Type 0
IsWordOf l q w = (u : ℕ) → u / 64 ≡ q → bit w (u % 64) ≡ false → AreNumberCellsUnmarked l u

cell_is : (marks : List ℕ) (q u : ℕ) → u / 64 ≡ q → cell_at marks u ≡ bit (get_or marks q 0) (u % 64)
unfolding cell_at
cell_is marks q u e = rw e refl

parts : (a b c : Bool) → (a && (b || c)) ≡ false → (a ≡ false) ⊎ ((b ≡ false) × (c ≡ false))
parts a b c h1 = grind (arith, common_steps, or_parts)

-- none of the four cells has a mark, if the word has none
pub word_of : (l : LiveMarks) (q a b c d : ℕ) → get_or l.odd.items q 0 ≡ a → get_or l.right.items q 0 ≡ b →
    get_or l.down.items q 0 ≡ c → get_or l.even.items q 0 ≡ d → IsWordOf l q (bit_or (bit_or a b) (bit_or c d))
word_of l q a b c d ea eb ec ed u e none = grind (arith, common_steps, bit-or, or_parts, cell_is)

-- a word that is zero
pub whole_zero : (w u : ℕ) → w ≡ 0 → bit w u ≡ false
whole_zero w u e = ap (λ n. bit n u) e ∙ bit-zero u

-- ---- numbers without a mark
pub lacks_mark : (a : List ℕ) (l : LiveMarks) (w : ℕ) (c : List ℕ) (q u : ℕ) → IsWordOf l q w → u / 64 ≡ q →
    bit (joined a w c q) (u % 64) ≡ false → LacksMark a l c u
lacks_mark a l w c q u says e word = grind (arith, common_steps, bit-and, bit-or, parts, cell_is)

pub lacks_in_three : (word : ℕ) (a c d : List ℕ) (q u : ℕ) → u / 64 ≡ q →
    bit (bit_and word (bit_or (bit_or (get_or a q 0) (get_or c q 0)) (get_or d q 0))) (u % 64) ≡ false →
    (bit word (u % 64) ≡ false) ⊎ (IsNumberUnmarked a u × IsNumberUnmarked c u × IsNumberUnmarked d u)
lacks_in_three word a c d q u e none = grind (arith, common_steps, bit-and, bit-or, parts, or_parts, cell_is)

pub lacks_live : (a : List ℕ) (l : LiveMarks) (w q u : ℕ) → IsWordOf l q w → u / 64 ≡ q →
    bit (bit_and (get_or a q 0) w) (u % 64) ≡ false → IsNumberUnmarked a u ⊎ AreNumberCellsUnmarked l u
lacks_live a l w q u says e word = grind (arith, common_steps, bit-and, cell_is)

pub lacks_own : (a : List ℕ) (q u : ℕ) → u / 64 ≡ q → bit (get_or a q 0) (u % 64) ≡ false → IsNumberUnmarked a u
lacks_own a q u e word = cell_is a q u e ∙ word
