-- The numbers of the rows with a port, for the contracts of `entry_place` and `number_rows`.
use Rattle.certificate_lines.proofs.Imports.{AreRowsWithPortsNumbered, Box2, Cell, List, None, Option, Port, Some, []}
use Rattle.certificate_lines.proofs.Imports.{abs_from, and_from, and_parts, ap, ap₂, arith, common_steps, entry_place}
use Rattle.certificate_lines.proofs.Imports.{entry_place_by_row_number, get_or, get_or-set_same, get_or_default, in_box}
use Rattle.certificate_lines.proofs.Imports.{inl, inr, length, length-replicate, length-set, option_map, place_in, pos}
use Rattle.certificate_lines.proofs.Imports.{rectangle_cells, refl, replicate, set, slice_get, slice_get_within}
use Rattle.certificate_lines.proofs.Imports.{span_from, subst, suc, sym, true, unsigned_abs, zero, ℕ, ℤ, ◌*◌, ◌+◌, ◌-◌}
use Rattle.certificate_lines.proofs.Imports.{◌<◌, ◌∙◌, ◌∷◌, ◌≡◌, ◌≤◌, ◌⊎◌}
use Rattle.lemmas.proofs.Common.{cases_lt}
use Rattle.bbm_rule.proofs.Spans.{span_parts}
use Rattle.module_box.proofs.BoxCells.{abs_within, in_table}
use Rattle.certificate_lines.proofs.BoxPlaces.{box_place}
use Rattle.certificate_lines.proofs.Lists.{some_is}

-- ---- how many entries have a number

unfoldable pub filled : List ℕ → ℕ
filled [] = 0
filled (zero ∷ xs) = filled xs
filled (suc n ∷ xs) = suc (filled xs)

pub filled_none : (n : ℕ) → filled (replicate n zero) ≡ 0
unfolding filled
filled_none zero = refl
filled_none (suc n) = filled_none n

pub filled_more : (xs : List ℕ) (i d v : ℕ) → i < length xs → get_or xs i d ≡ 0 →
    filled (set xs i (suc v)) ≡ suc (filled xs)
unfolding filled
filled_more [] i d v lt e = absurd (omega arith)
filled_more (zero ∷ xs) zero d v lt e = refl
filled_more (suc n ∷ xs) zero d v lt e = absurd (omega arith)
filled_more (zero ∷ xs) (suc i) d v lt e = filled_more xs i d v (omega arith) e
filled_more (suc n ∷ xs) (suc i) d v lt e = ap suc (filled_more xs i d v (omega arith) e)

pub filled_most : (xs : List ℕ) → filled xs ≤ length xs
unfolding filled
filled_most [] = omega arith
filled_most (zero ∷ xs) = let m = filled_most xs in omega (arith, m)
filled_most (suc n ∷ xs) = let m = filled_most xs in omega (arith, m)

pub filled_less : (xs : List ℕ) (i d : ℕ) → i < length xs → get_or xs i d ≡ 0 → filled xs < length xs
unfolding filled
filled_less [] i d lt e = absurd (omega arith)
filled_less (zero ∷ xs) zero d lt e = let m = filled_most xs in omega (arith, m)
filled_less (suc n ∷ xs) zero d lt e = absurd (omega arith)
filled_less (zero ∷ xs) (suc i) d lt e = let m = filled_less xs i d (omega arith) e in omega (arith, m)
filled_less (suc n ∷ xs) (suc i) d lt e = let m = filled_less xs i d (omega arith) e in omega (arith, m)

-- ---- the rows of a box

-- a cell of a box is in one of its rows and columns
pub sides : (b : Box2) (x y : ℤ) → in_box b x y ≡ true → (unsigned_abs x - b.x < b.w) × (unsigned_abs y - b.y < b.h)
sides b x y h = grind (arith, common_steps, abs_from, abs_within)

-- an entry after one entry is set
set_at : (xs : List ℕ) (i j v : ℕ) → i < length xs →
    ((j ≡ i) × (get_or (set xs i v) j 0 ≡ v)) ⊎ (get_or (set xs i v) j 0 ≡ get_or xs j 0)
set_at [] i j v lt = absurd (omega arith)
set_at (x ∷ xs) zero zero v lt = inl (refl, refl)
set_at (x ∷ xs) zero (suc j) v lt = inr refl
set_at (x ∷ xs) (suc i) zero v lt = inr refl
set_at (x ∷ xs) (suc i) (suc j) v lt = grind (arith, common_steps, set_at xs i j v (omega arith))

-- the rows of the first k ports have numbers
pub record AreRowsSoFar (b : Box2) (ports : List Port) (k : ℕ) (rows : List ℕ) (count : ℕ) : Type 0 where
  pub sized : length rows ≡ b.h
  pub counted : filled rows ≡ count
  pub most : (row : ℕ) → get_or rows row 0 ≤ count
  pub own : (row other n : ℕ) → get_or rows row 0 ≡ suc n → get_or rows other 0 ≡ suc n → row ≡ other
  pub each : (i : ℕ) (p : Port) → i < k → slice_get ports i ≡ Some p → 0 < get_or rows (unsigned_abs p.cell.y - b.y) 0

pub no_rows : (b : Box2) (ports : List Port) (n : ℕ) → n ≡ b.h → AreRowsSoFar b ports 0 (replicate n zero) 0
no_rows b ports n is = grind (arith, common_steps, length-replicate, filled_none)

module _ (b : Box2) (ports : List Port) (k : ℕ) (p : Port) (at : slice_get ports k ≡ Some p)
    (inside : in_box b p.cell.x p.cell.y ≡ true) (rows : List ℕ) (count : ℕ)
    (so_far : AreRowsSoFar b ports k rows count) where
  abbrev here : ℕ
  here = unsigned_abs p.cell.y - b.y

  pub row_there : here < length rows
  row_there = let lt = (sides b p.cell.x p.cell.y inside).1 in omega (arith, lt, so_far.sized)

  -- the number of the port's row, as it was read
  pub read_row : (y n : ℕ) → y ≡ unsigned_abs p.cell.y → n ≡ get_or rows (y - b.y) n → n ≡ get_or rows here 0
  read_row y n is read = grind (arith, common_steps, here, get_or_default, row_there)

  -- what holds of the rows of the earlier ports and of this one's row
  each_more : (after : List ℕ) → ((row : ℕ) → 0 < get_or rows row 0 → 0 < get_or after row 0) →
      0 < get_or after here 0 → (i : ℕ) (q : Port) → i < k + 1 → slice_get ports i ≡ Some q →
      0 < get_or after (unsigned_abs q.cell.y - b.y) 0
  each_more after kept now i q lt e = elim (cases_lt i k) [
    | inl before ↦ kept (unsigned_abs q.cell.y - b.y) (so_far.each i q before e)
    | inr late ↦
        let same : k ≡ i = omega (arith, lt, late) in
        let port : p ≡ q = some_is p q (sym at ∙ ap (λ (j : ℕ). slice_get ports j) same ∙ e) in
        subst (λ (r : Port). 0 < get_or after (unsigned_abs r.cell.y - b.y) 0) port now
  ]

  pub row_kept : 0 < get_or rows here 0 → AreRowsSoFar b ports (k + 1) rows count
  row_kept now = grind (arith, common_steps, each_more)

  pub count_below : get_or rows here 0 ≡ 0 → count < b.h
  count_below none = grind (arith, common_steps, filled_less, here, row_there)

  most_after : (row : ℕ) → get_or (set rows here (suc count)) row 0 ≤ suc count
  most_after row = grind (arith, common_steps, set_at, here, row_there)

  own_after : (row other n : ℕ) → get_or (set rows here (suc count)) row 0 ≡ suc n →
      get_or (set rows here (suc count)) other 0 ≡ suc n → row ≡ other
  own_after row other n e f = elim (set_at rows here row (suc count) row_there) [
    | inl now ↦ grind (arith, common_steps, set_at, here, row_there)
    | inr old ↦ elim (set_at rows here other (suc count) row_there) [
      | inl also ↦ let m = so_far.most row in absurd (omega (arith, also.1, old, m, e, f))
      | inr too ↦ so_far.own row other n (sym old ∙ e) (sym too ∙ f)
    ]
  ]

  stays : (row : ℕ) → 0 < get_or rows row 0 → 0 < get_or (set rows here (suc count)) row 0
  stays row h = grind (arith, common_steps, set_at, here, row_there)

  pub row_set : (row n : ℕ) → row ≡ here → n ≡ suc count → get_or rows here 0 ≡ 0 →
      AreRowsSoFar b ports (k + 1) (set rows row n) n
  row_set row n is also none = rw (is, also) (record {
    sized = length-set rows here (suc count) ∙ so_far.sized;
    counted = filled_more rows here 0 count row_there none ∙ ap suc so_far.counted;
    most = most_after;
    own = own_after;
    each = grind (arith, common_steps, each_more, here, stays, get_or-set_same, row_there);
  })

pub rows_done : (b : Box2) (ports : List Port) (k : ℕ) (rows : List ℕ) (count : ℕ) → length ports ≤ k →
    AreRowsSoFar b ports k rows count → AreRowsWithPortsNumbered b ports rows count
rows_done b ports k rows count all full = grind (arith, common_steps, filled_most, slice_get_within)

-- ---- the places of the entries

place_few : (width row column count place : ℕ) → column < width → row ≤ count →
    entry_place_by_row_number width row column ≡ Some place → place < count * width
unfolding entry_place_by_row_number
place_few width zero column count place near few e = absurd cc
place_few width (suc row) column count place near few e =
    let lt = in_table row count column width (omega (arith, few)) near in
    let is : row * width + column ≡ place = some_is _ _ e in
    omega (arith, lt, is)

pub same_table : (r s c d w : ℕ) → c < w → d < w → r * w + c ≡ s * w + d → r ≡ s
same_table r s c d w p q e = grind (arith, common_steps, cases_lt, in_table)

-- two entries at one place are of one column, and their rows have one number
place_own : (width row other c d place : ℕ) → c < width → d < width →
    entry_place_by_row_number width row c ≡ Some place →
    entry_place_by_row_number width other d ≡ Some place → (n : ℕ) × (row ≡ suc n) × (other ≡ suc n) × (c ≡ d)
unfolding entry_place_by_row_number
place_own width zero other c d place p q e f = absurd cc
place_own width (suc row) zero c d place p q e f = absurd cc
place_own width (suc row) (suc other) c d place p q e f =
    let first : row * width + c ≡ place = some_is _ _ e in
    let second : other * width + d ≡ place = some_is _ _ f in
    let rows : row ≡ other = same_table row other c d width p q (first ∙ sym second) in
    let starts : row * width ≡ other * width = ap (λ (r : ℕ). r * width) rows in
    (row, refl, ap suc (sym rows), omega (arith, first, second, starts))

pub none_after : (width row column : ℕ) → row ≡ 0 → None ≡ entry_place_by_row_number width row column
unfolding entry_place_by_row_number
none_after width row column h1 = grind (arith, common_steps)

pub some_after : (width row column : ℕ) → (row ≡ 0 → ⊥) →
    Some ((row - 1) * width + column) ≡ entry_place_by_row_number width row column
unfolding entry_place_by_row_number
some_after width zero column e = absurd (e refl)
some_after width (suc row) column e = grind (arith, common_steps)

some_place : (width row column : ℕ) → 0 < row → entry_place_by_row_number width row column ≡ None → ⊥
unfolding entry_place_by_row_number
some_place width zero column lt e = omega (arith, lt)
some_place width (suc row) column lt e = cc e

-- the place some cells further on
further : (width row column k : ℕ) (o : Option ℕ) → entry_place_by_row_number width row column ≡ o →
    entry_place_by_row_number width row (column + k) ≡ option_map (λ (p : ℕ). p + k) o
unfolding entry_place_by_row_number
further width zero column k o e = sym (ap (option_map (λ (p : ℕ). p + k)) (sym e))
further width (suc row) column k o e = grind (arith, common_steps)

-- two cells of a box at one place are one cell
same_place : (b : Box2) (c d : Cell) → in_box b c.x c.y ≡ true → in_box b d.x d.y ≡ true →
    place_in b c.x c.y ≡ place_in b d.x d.y → c ≡ d
same_place b c d h k same =
    some_is c d (sym (box_place b c.x c.y h) ∙ ap (λ (i : ℕ). slice_get (rectangle_cells b) i) same
    ∙ box_place b d.x d.y k)

module _ (b : Box2) (ports : List Port) (rows : List ℕ) (count : ℕ)
    (are : AreRowsWithPortsNumbered b ports rows count) where
  pub entry_few : (x y : ℤ) (place : ℕ) → in_box b x y ≡ true → entry_place b rows x y ≡ Some place →
      place < count * b.w
  entry_few x y place inside e = grind (arith, common_steps, place_few, sides)

  pub entry_own : (c d : Cell) (place : ℕ) → in_box b c.x c.y ≡ true → in_box b d.x d.y ≡ true →
      entry_place b rows c.x c.y ≡ Some place → entry_place b rows d.x d.y ≡ Some place → c ≡ d
  entry_own c d place inside also e f =
      let r = place_own b.w (get_or rows (unsigned_abs c.y - b.y) 0) (get_or rows (unsigned_abs d.y - b.y) 0)
      (unsigned_abs c.x - b.x) (unsigned_abs d.x - b.x) place (sides b c.x c.y inside).0 (sides b d.x d.y also).0
      e f in
      let row = are.own (unsigned_abs c.y - b.y) (unsigned_abs d.y - b.y) r.0 r.1 r.2 in
      same_place b c d inside also (ap₂ (λ (i j : ℕ). i * b.w + j) row r.3)

  pub entry_some : (i : ℕ) (p : Port) → slice_get ports i ≡ Some p → entry_place b rows p.cell.x p.cell.y ≡ None → ⊥
  entry_some i p at = grind (arith, common_steps, some_place)

-- a row of a box
pub row_inside : (b : Box2) (x y k : ℕ) → in_box b (pos x) (pos y) ≡ true → x + k < b.x + b.w →
    in_box b (pos (x + k)) (pos y) ≡ true
unfolding in_box
row_inside b x y k h l = grind (arith, common_steps, and_parts, span_parts, and_from, span_from)

-- the entries of a row of a box
pub row_entry : (b : Box2) (rows : List ℕ) (x y k : ℕ) (o : Option ℕ) → in_box b (pos x) (pos y) ≡ true →
    entry_place b rows (pos x) (pos y) ≡ o → entry_place b rows (pos (x + k)) (pos y) ≡ option_map (λ (p : ℕ). p + k) o
row_entry b rows x y k o inside e =
    let low = (abs_from b (pos x) (pos y) inside).0 in
    let column : x + k - b.x ≡ x - b.x + k = omega (arith, low) in
    grind (arith, common_steps, further)
