-- Numbers in rows
use Rattle.lanes.proofs.Imports.{AreBorderNumbersMarked, IsNumberUnmarked, List, ap, arith, by_lt_or_le, div-add-mod}
use Rattle.lanes.proofs.Imports.{mod-lt, mul-le-mul_left, subst, sym, ℕ, ◌%◌, ◌*◌, ◌+◌, ◌/◌, ◌<◌, ◌∙◌, ◌≡◌, ◌≢◌, ◌≤◌}
use Rattle.lemmas.proofs.Common.{mod-eq_of_lt, mul-add-mod_self_left}

-- the place in its row of the number at column i and row j
pub in_row : (s j i : ℕ) → i < s → (s * j + i) % s ≡ i
in_row s j i l = mul-add-mod_self_left s j i ∙ mod-eq_of_lt l

pub next_in_row : (s j i : ℕ) → i + 1 < s → (s * j + i + 1) % s ≡ i + 1
next_in_row s j i l = let e : s * j + i + 1 ≡ s * j + (i + 1) = omega arith in ap (λ n. n % s) e ∙ in_row s j (i + 1) l

-- a number without a mark of ring and halo is not the last of its row
pub not_last : (s r u : ℕ) (marks : List ℕ) → 0 < s → AreBorderNumbersMarked s r marks → u < s * r →
    IsNumberUnmarked marks u → (u + 1) % s ≢ 0
not_last s r u marks ls box_coord lu free last =
    let at : s * (u / s) + u % s ≡ u = div-add-mod u s in
    let row : u / s < r = by_lt_or_le (u / s) r (λ h. h)
    (λ h. let m : s * r ≤ s * (u / s) = mul-le-mul_left s h in absurd (omega arith)) in
    let is = box_coord (u % s) (u / s) (mod-lt u ls) row (subst (IsNumberUnmarked marks) (sym at) free) in
    let next : (u + 1) % s ≡ u % s + 1 = ap (λ n. (n + 1) % s) (sym at) ∙ next_in_row s (u / s) (u % s) is.1 in
    absurd (omega (arith, next, last))
