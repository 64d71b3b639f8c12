-- The places of the cells of a rectangle.
use Rattle.bbm_rule.proofs.Imports.{State, arith, common_steps, false, in_span, nat_tests, negsuc, pos, refl, suc, zero}
use Rattle.bbm_rule.proofs.Imports.{ℕ, ℤ, ◌&&◌, ◌+◌, ◌-◌, ◌||◌, ◌∙◌, ◌≡◌, ◌≤◌}
use Rattle.bbm_rule.specs.Boxes.{in_box}
use Rattle.bbm_rule.specs.CellLists.{in_cells, rectangle_cells, row_cells}
use Rattle.bbm_rule.specs.declared.block.Box2.{Box2}
use Rattle.lemmas.proofs.Common.{flat_map, list_any-append, range_with_len}
use Rattle.std.specs.Ordering.{int_eq}

span_none : (a : ℕ) (x : ℤ) → in_span a 0 x ≡ false
unfolding in_span
span_none a (pos x) = grind (arith, nat_tests)
span_none a (negsuc x) = refl

span_more : (a n : ℕ) (x : ℤ) → in_span a (suc n) x ≡ (int_eq (pos a) x || in_span (a + 1) n x)
unfolding in_span
span_more a n (pos x) = grind (arith, nat_tests)
span_more a n (negsuc x) = refl

in_row : (a n r : ℕ) (x y : ℤ) → in_cells (row_cells a n r) x y ≡ (in_span a n x && int_eq (pos r) y)
in_row a zero r x y = rw (span_none a x) refl
in_row a (suc n) r x y = rw (in_row (a + 1) n r x y, span_more a n x) (grind arith)

in_rows : (a w b n : ℕ) (x y : ℤ) →
    in_cells (flat_map (row_cells a w) (range_with_len b n)) x y ≡ (in_span a w x && in_span b n y)
in_rows a w b zero x y = rw (span_none b y) (grind arith)
in_rows a w b (suc n) x y = grind (arith, common_steps, in_rows a w (b + 1) n x y, list_any-append, in_row, span_more)

pub in_box_cells : (r : Box2) (x y : ℤ) → in_cells (rectangle_cells r) x y ≡ in_box r x y
unfolding rectangle_cells in_box
in_box_cells r x y = in_rows r.x r.w r.y r.h x y

-- ---- rows of a rectangle that are filled

-- no row is filled yet
pub none_filled : (first : State) (a w b : ℕ) (x y : ℤ) →
    first x y ≡ (first x y || (in_span a w x && in_span b (b - b) y))
none_filled first a w b x y =
    let e : b - b ≡ 0 = omega arith in
    rw (e, span_none b y) (grind arith)

spans_join : (b n : ℕ) (y : ℤ) → (in_span b n y || in_span (b + n) 1 y) ≡ in_span b (n + 1) y
unfolding in_span
spans_join b n (pos y) = grind (arith, nat_tests)
spans_join b n (negsuc y) = refl

-- one row more is filled
pub rows_join : (a w b n : ℕ) (x y : ℤ) →
    ((in_span a w x && in_span b n y) || (in_span a w x && in_span (b + n) 1 y))
    ≡ (in_span a w x && in_span b (n + 1) y)
rows_join a w b n x y = rw (← spans_join b n y) (grind arith)

pub filled_more : (first old new : State) (a w b k : ℕ) → b ≤ k →
    ((x y : ℤ) → old x y ≡ (first x y || (in_span a w x && in_span b (k - b) y))) →
    ((x y : ℤ) → new x y ≡ (old x y || (in_span a w x && in_span k 1 y))) →
    (x y : ℤ) → new x y ≡ (first x y || (in_span a w x && in_span b (k + 1 - b) y))
filled_more first old new a w b k from was now x y =
    let e : b + (k - b) ≡ k = omega arith in
    let n : k + 1 - b ≡ (k - b) + 1 = omega arith in
    let join = rw e at (rows_join a w b (k - b) x y) in
    now x y ∙ rw (was x y, n, ← join) (grind arith)
