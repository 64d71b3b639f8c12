-- Lists with one element for each cell of a box are the same where they say the same of each cell
use Rattle.soundness.proofs.Imports.{Box2, List, ap₂, arith, in_box, in_span, length, place_in, pos, refl, slice_get}
use Rattle.soundness.proofs.Imports.{subst, suc, sym, true, unwrap_or, zero, ℕ, ℤ, ◌*◌, ◌+◌, ◌/◌, ◌<◌, ◌∙◌, ◌≡◌, ◌≤◌}
use Rattle.lemmas.proofs.Common.{◌-◌, div-mul-le_self, get_or_default, lt-div-mul-add, lt_of_mul-lt-mul_right}
use Rattle.lemmas.proofs.Common.{same_lists, unwrap_or-slice_get}
use Rattle.bbm_rule.proofs.Spans.{span_from}

-- the cell of a box at a place
record HasCell (b : Box2) (k : ℕ) : Type 0 where
  x : ℤ
  y : ℤ
  inside : in_box b x y ≡ true
  place : place_in b x y ≡ k

some_wide : (k w h : ℕ) → k < w * h → 0 < w
some_wide k zero h lt = absurd (omega (arith, lt))
some_wide k (suc w) h lt = omega arith

both : (b : Box2) (x y : ℤ) → in_span b.x b.w x ≡ true → in_span b.y b.h y ≡ true → in_box b x y ≡ true
unfolding in_box
both b x y p q = rw (p, q) refl

cell_at : (b : Box2) (k : ℕ) → k < b.w * b.h → HasCell b k
cell_at b k lt =
    let wide : 0 < b.w = some_wide k b.w b.h lt in
    let row : ℕ = k / b.w in
    let before : row * b.w ≤ k = div-mul-le_self k b.w in
    let behind : k < row * b.w + b.w = lt-div-mul-add wide in
    let turned : b.w * b.h ≡ b.h * b.w = omega arith in
    let below : row * b.w < b.h * b.w = omega (arith, before, lt, turned) in
    let low : row < b.h = lt_of_mul-lt-mul_right b.w below in
    let near : k - row * b.w < b.w = omega (arith, before, behind) in
    record {
      x = pos (b.x + (k - row * b.w));
      y = pos (b.y + row);
      inside = both b _ _ (span_from b.x b.w _ (omega arith) (omega (arith, near)))
          (span_from b.y b.h _ (omega arith) (omega (arith, low)));
      place = ap₂ (λ r c. r * b.w + c) (sum_less b.y row) (sum_less b.x (k - row * b.w)) ∙ omega (arith, before);
    }
  where
    sum_less : (a c : ℕ) → (a + c) - a ≡ c
    sum_less a c = omega arith

pub same_over_box : {A : Type 0} (b : Box2) (xs ys : List A) (d : A) → length xs ≡ b.w * b.h → length ys ≡ b.w * b.h
    → ((x y : ℤ) → in_box b x y ≡ true →
    unwrap_or (slice_get xs (place_in b x y)) d ≡ unwrap_or (slice_get ys (place_in b x y)) d) → xs ≡ ys
same_over_box b xs ys d many as_many each = same_lists xs ys (many ∙ sym as_many) (λ k e h.
    let c = cell_at b k (subst (λ n. k < n) many h) in
    let there = subst (λ n. k < n) (many ∙ sym as_many) h in
    let one = subst (λ n. unwrap_or (slice_get xs n) d ≡ unwrap_or (slice_get ys n) d) c.place
    (each c.x c.y c.inside) in
    sym (get_or_default xs k d e h) ∙ sym (unwrap_or-slice_get xs k d) ∙ one
    ∙ unwrap_or-slice_get ys k d ∙ get_or_default ys k d e there)
