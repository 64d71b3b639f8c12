-- Words of assignments, and the first that differs
use Rattle.local_run.proofs.Imports.{Bool, HasValueRow, IsCellAsSignalUnderWords, IsSignalWireBelow, List, Planes}
use Rattle.local_run.proofs.Imports.{Signal, Values, Wire, and-true, and_parts, ap, arith, bit, bit-and, bit-zero}
use Rattle.local_run.proofs.Imports.{bit_and, bit_of_row, bit_xor, by_lt_or_le, common_steps, false, get_or}
use Rattle.local_run.proofs.Imports.{is_defined_under, is_live, lane, length, mul-le-mul_left, refl, subst, sym}
use Rattle.local_run.proofs.Imports.{trailing_zeros, true, valuation, value_of, w64, ℕ, ◌%◌, ◌&&◌, ◌*◌, ◌+◌, ◌/◌, ◌<◌}
use Rattle.local_run.proofs.Imports.{◌^◌, ◌∙◌, ◌≡◌, ◌≢◌, ◌≤◌}
use Rattle.bbm_rule.proofs.MarkLemmas.{bit_none, bit_one}
use Rattle.lemmas.proofs.Common.{and_lt, bit_at-trailing_zeros, xor_lt}
use Rattle.bbm_rule.proofs.BitLemmas.{xor, bit-xor}
use Rattle.lanes.proofs.PlaneWords.{get_or_any, quotient, remainder}

xor_same : (a b : Bool) → xor a b ≡ false → a ≡ b
xor_same a b h1 = grind (arith, common_steps)

xor_differ : (a b : Bool) → xor a b ≡ true → a ≢ b
xor_differ a b h1 = grind (arith, common_steps)

pub value_in_word : (words k b w : ℕ) (values : List ℕ) → b < 64 →
    bit (get_or values (words * w + k) 0) b ≡ value_of words values (64 * k + b) w
unfolding value_of
value_in_word words k b w values l = rw (quotient k b l, remainder k b l) refl

pub row_in_word : (words k b w v d : ℕ) (rows : List ℕ) → b < 64 → words * w + k < length rows →
    v ≡ get_or rows (words * w + k) d → bit v b ≡ value_of words rows (64 * k + b) w
row_in_word words k b w v d rows l room e =
    ap (λ n. bit n b) (e ∙ get_or_any rows _ d 0 room) ∙ value_in_word words k b w rows l

-- ---- the first difference
split_place : (a k : ℕ) → 64 * k ≤ a → a < 64 * (k + 1) → a ≡ 64 * k + (a % 64)
split_place a k l h = omega arith

-- a word without bits: none of 64 more assignments
pub block_clear : (f : ℕ → Bool) (k w : ℕ) → ((b : ℕ) → b < 64 → bit w b ≡ f (64 * k + b)) →
    ((a : ℕ) → a < 64 * k → f a ≡ false) → w ≡ 0 → (a : ℕ) → a < 64 * (k + 1) → f a ≡ false
block_clear f k w fw before e a l = by_lt_or_le a (64 * k) (before a) (λ h.
    let at : a ≡ 64 * k + (a % 64) = split_place a k h l in
    let small : a % 64 < 64 = omega arith in
    ap f at ∙ sym (fw (a % 64) small) ∙ ap (λ n. bit n (a % 64)) e ∙ bit-zero (a % 64))

-- else the lowest bit is the first
pub block_first : (f : ℕ → Bool) (k w : ℕ) → w < 2 ^ 64 → ((b : ℕ) → b < 64 → bit w b ≡ f (64 * k + b)) →
    ((a : ℕ) → a < 64 * k → f a ≡ false) → w ≢ 0 →
    let z = 64 * k + trailing_zeros w64 w in (f z ≡ true) × ((a : ℕ) → a < z → f a ≡ false)
block_first f k w small fw before e =
    let found = bit_at-trailing_zeros w64 w (omega arith) small in
    let z : ℕ = trailing_zeros w64 w in
    let lz : z < 64 = found.0 in (
      sym (fw z lz) ∙ bit_one w z found.1,
      (λ a l. by_lt_or_le a (64 * k) (before a) (λ h.
          let at : a ≡ 64 * k + (a % 64) = split_place a k h (omega arith) in
          let under : a % 64 < z = omega arith in
          let in_word : a % 64 < 64 = omega arith in
          ap f at ∙ sym (fw (a % 64) in_word) ∙ bit_none w (a % 64) (found.2 (a % 64) under))),
    )

-- a cell is not as its signal says, where each used gate has a row
abbrev pub differs : Values → Planes → ℕ → ℕ → Signal → ℕ → Bool
differs vs p x y s a = xor (lane p a x y) (is_live (valuation vs a) s) && is_defined_under vs a

pub differs_bits : (vs : Values) (p : Planes) (x y k : ℕ) (s : Signal) (cells wanted defined d : ℕ) →
    ((b : ℕ) → b < 64 → bit cells b ≡ lane p (64 * k + b) x y) →
    ((b : ℕ) → b < 64 → bit wanted b ≡ is_live (valuation vs (64 * k + b)) s) →
    k < length vs.rows.defined.items → defined ≡ get_or vs.rows.defined.items k d → (b : ℕ) → b < 64 →
    bit (bit_and (bit_xor cells wanted) defined) b ≡ differs vs p x y s (64 * k + b)
unfolding bit_of_row
differs_bits vs p x y k s cells wanted defined d are should room is b l =
    grind (arith, common_steps, get_or_any, quotient, remainder, bit-and, bit-xor, xor)

-- a cell is as the signal says, where each of its words is
pub shown_all : (vs : Values) (p : Planes) (x y : ℕ) (s : Signal) (n : ℕ) →
    ((k b : ℕ) → k < n → b < 64 → lane p (64 * k + b) x y ≡ is_live (valuation vs (64 * k + b)) s) →
    IsCellAsSignalUnderWords vs p x y s n
shown_all vs p x y s n same a l =
    let e : 64 * (a / 64) + a % 64 ≡ a = omega arith in
    subst (λ (m : ℕ). lane p m x y ≡ is_live (valuation vs m) s) e (same (a / 64) (a % 64) (omega arith) (omega arith))

-- bit b of word k of the defined row
pub defined_in_word : (vs : Values) (k b v d : ℕ) → b < 64 → k < length vs.rows.defined.items →
    v ≡ get_or vs.rows.defined.items k d → bit v b ≡ is_defined_under vs (64 * k + b)
unfolding bit_of_row
defined_in_word vs k b v d l room is = grind (arith, common_steps, get_or_any, quotient, remainder)

pub difference_small : (v w d : ℕ) → v < 2 ^ 64 → w < 2 ^ 64 → d < 2 ^ 64 → bit_and (bit_xor v w) d < 2 ^ 64
difference_small v w d sv sw sd = and_lt 64 (bit_xor v w) d (xor_lt 64 v w sv sw) sd

pub differs_is : (vs : Values) (p : Planes) (x y : ℕ) (s : Signal) (a : ℕ) → differs vs p x y s a ≡ true →
    (is_defined_under vs a ≡ true) × (lane p a x y ≢ is_live (valuation vs a) s)
differs_is vs p x y s a e = let parts = and_parts _ _ e in (parts.1, xor_differ _ _ parts.0)

pub differs_not : (vs : Values) (p : Planes) (x y : ℕ) (s : Signal) (a : ℕ) → differs vs p x y s a ≡ false →
    ¬ ((is_defined_under vs a ≡ true) × (lane p a x y ≢ is_live (valuation vs a) s))
differs_not vs p x y s a e h = grind (arith, common_steps, xor_same, and-true, xor)

-- ---- the row of a signal
pub row_from : (vs : Values) (n : ℕ) (s : Signal) → IsSignalWireBelow n s → vs.words * n ≤ length vs.rows.values.items →
    HasValueRow vs s
row_from vs n (Wire w) b l = let m : vs.words * (w + 1) ≤ vs.words * n = mul-le-mul_left vs.words (omega arith) in
    omega arith
row_from vs n _ b l = tt
