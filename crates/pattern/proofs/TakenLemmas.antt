-- The cells of a line, and the cells that are taken.
use Rattle.pattern.proofs.Imports.{All, AllByRecursion, Bool, Box2, Cell, LayoutHeader, LayoutLine, List, Mirror, None}
use Rattle.pattern.proofs.Imports.{Some, TakenCell, [], arith, cell_fault, cells_of, cells_taken_at_end}
use Rattle.pattern.proofs.Imports.{cells_taken_at_start, common_steps, false, flat_map, has_taken_cell, in_cells}
use Rattle.pattern.proofs.Imports.{in_layout, in_span, inside_is_span, is_inside, is_layout_side, list_any, nat_tests}
use Rattle.pattern.proofs.Imports.{pos, range_with_len, rectangle_cells, refl, row_cells, size_fault, subst, suc}
use Rattle.pattern.proofs.Imports.{sym, takes_cells_at_end, takes_cells_at_start, true, zero, ℕ, ℤ, ◌%◌, ◌&&◌, ◌++◌}
use Rattle.pattern.proofs.Imports.{◌+◌, ◌<◌, ◌||◌, ◌∙◌, ◌∷◌, ◌≡◌, ◌≤◌}
use Rattle.lemmas.proofs.Common.{if◌then◌else◌, All-from_recursion, and_parts, at_most_by_test}
use Rattle.pattern.specs.DraftBoards.{LiesOnBoard}
use Rattle.pattern.proofs.Added.{no_code, begun_push, ended_push}
use Rattle.bbm_rule.specs.Board.{Board, live, is_inside as is_on_board}
use Rattle.lemmas.specs.Bounds.{max_side, max_steps}

-- ---- a size within its limits

pub record IsSized (s : LayoutHeader) : Type 0 where
  pub width : (2 ≤ s.w) × (s.w ≤ max_side) × (s.w % 2 ≡ 0)
  pub height : (2 ≤ s.h) × (s.h ≤ max_side) × (s.h % 2 ≡ 0)
  pub steps : s.steps ≤ max_steps

side : (n : ℕ) → is_layout_side n ≡ true → (2 ≤ n) × (n ≤ max_side) × (n % 2 ≡ 0)
side n e = grind (arith, nat_tests)

pub is_sized : (s : LayoutHeader) → size_fault s ≡ None → IsSized s
unfolding size_fault
is_sized s e = grind (arith, common_steps, no_code, side, nat_tests)

-- ---- cells that lie inside

abbrev IsInside : LayoutHeader → Cell → Type 0
IsInside s c = in_layout s c.x c.y ≡ true

in_span_of : (n x : ℕ) → x < n → in_span 0 n (pos x) ≡ true
unfolding in_span
in_span_of n x h = grind (arith, nat_tests)

row_inside : (s : LayoutHeader) (x n y : ℕ) → x + n ≤ s.w → y < s.h → AllByRecursion (IsInside s) (row_cells x n y)
row_inside s x zero y wide high = tt
row_inside s x (suc n) y wide high =
    grind (arith, common_steps, row_inside s (x + 1) n y (omega arith) high, in_span_of)

append_inside : (s : LayoutHeader) (xs ys : List Cell) → AllByRecursion (IsInside s) xs →
    AllByRecursion (IsInside s) ys → AllByRecursion (IsInside s) (xs ++ ys)
append_inside s [] ys front back = back
append_inside s (x ∷ xs) ys front back = (front.0, append_inside s xs ys front.1 back)

rows_inside : (s : LayoutHeader) (x w y n : ℕ) → x + w ≤ s.w → y + n ≤ s.h →
    AllByRecursion (IsInside s) (flat_map (row_cells x w) (range_with_len y n))
rows_inside s x w y zero wide high = tt
rows_inside s x w y (suc n) wide high =
    append_inside s (row_cells x w y) (flat_map (row_cells x w) (range_with_len (y + 1) n))
    (row_inside s x w y wide (omega arith)) (rows_inside s x w (y + 1) n wide (omega arith))

-- where the corner of a mirror that lies inside is
pub mirror_fits : (s : LayoutHeader) (r : Box2) → is_inside s (Mirror r) ≡ true → (r.x + r.w ≤ s.w) × (r.y + r.h ≤ s.h)
unfolding is_inside
mirror_fits s r e = grind (arith, common_steps, and_parts, at_most_by_test)

cells_inside_by : (s : LayoutHeader) (part : LayoutLine) → is_inside s part ≡ true →
    AllByRecursion (IsInside s) (cells_of part)
unfolding is_inside cells_of rectangle_cells
cells_inside_by s (Mirror r) e = let fits = mirror_fits s r e in rows_inside s r.x r.w r.y r.h fits.0 fits.1
cells_inside_by s _ e = (e, tt)

on_board : (b : Board) (s : LayoutHeader) → b.width ≡ s.w → b.height ≡ s.h → (c : Cell) → IsInside s c →
    is_on_board b c.x c.y ≡ true
on_board b s w h c e = inside_is_span b c.x c.y ∙ rw (w, h) e

all_on_board : (b : Board) (s : LayoutHeader) → b.width ≡ s.w → b.height ≡ s.h → (cells : List Cell) →
    AllByRecursion (IsInside s) cells → AllByRecursion (λ c. is_on_board b c.x c.y ≡ true) cells
all_on_board b s w h [] inside = tt
all_on_board b s w h (c ∷ cells) inside = (on_board b s w h c inside.0, all_on_board b s w h cells inside.1)

-- the cells of a line that lies inside are on a board of the layout's size
pub cells_on_board : (b : Board) (s : LayoutHeader) → b.width ≡ s.w → b.height ≡ s.h →
    (part : LayoutLine) (cells : List Cell) →
    cells ≡ cells_of part → is_inside s part ≡ true → All (λ c. is_on_board b c.x c.y ≡ true) cells
cells_on_board b s w h part cells same inside =
    let P : List Cell → Type 0 = λ cs. All (λ c. is_on_board b c.x c.y ≡ true) cs in
    subst P (sym same) (All-from_recursion (λ c. is_on_board b c.x c.y ≡ true) (cells_of part)
    (all_on_board b s w h (cells_of part) (cells_inside_by s part inside)))

same_sides : (w h : ℕ) (s : LayoutHeader) → w ≡ s.w → h ≡ s.h → (part : LayoutLine) →
    is_inside (record { w = w; h = h; steps = 0 }) part ≡ is_inside s part
unfolding is_inside
same_sides w h s h1 h2 part = grind (arith, common_steps)

-- the cells of a line that lies inside are on a board of the layout's size
pub lies_on : (b : Board) (s : LayoutHeader) → size_fault s ≡ None → b.width ≡ s.w → b.height ≡ s.h →
    (part : LayoutLine) → is_inside s part ≡ true → LiesOnBoard b part
lies_on b s good w h part inside =
    let sized = is_sized s good in
    grind (arith, common_steps, same_sides)

pub cells_lie_on : (b : Board) (part : LayoutLine) → LiesOnBoard b part →
    All (λ c. is_on_board b c.x c.y ≡ true) (cells_of part)
cells_lie_on b part on = grind (arith, common_steps, cells_on_board)

pub one_lies_on : (b : Board) (part : LayoutLine) (c : Cell) → cells_of part ≡ c ∷ [] → LiesOnBoard b part →
    All (λ k. is_on_board b k.x k.y ≡ true) (c ∷ [])
one_lies_on b part c are on =
    subst (λ (cells : List Cell). All (λ k. is_on_board b k.x k.y ≡ true) cells) are (cells_lie_on b part on)

-- where the corner of a mirror on a board is
pub mirror_lies_on : (b : Board) (part : LayoutLine) (r : Box2) → part ≡ Mirror r → LiesOnBoard b part →
    ((r.x + r.w ≤ b.width) × (r.x + r.w ≤ max_side)) × ((r.y + r.h ≤ b.height) × (r.y + r.h ≤ max_side))
mirror_lies_on b part r is on = grind (arith, common_steps, mirror_fits)

pub among_cells_of : (p q : Cell → Bool) (part : LayoutLine) (cells : List Cell) (b : Bool) →
    takes_cells_at_start part ≡ b →
    cells_of part ≡ cells → (if b then list_any p cells else list_any q cells)
    ≡ (if takes_cells_at_start part then list_any p (cells_of part) else list_any q (cells_of part))
among_cells_of p q part cells b begin are = rw (begin, are) refl

-- ---- cells that are taken

any_same : (p q : Cell → Bool) → ((c : Cell) → p c ≡ q c) → (cells : List Cell) → list_any p cells ≡ list_any q cells
any_same p q same [] = refl
any_same p q same (c ∷ cells) = rw (same c, any_same p q same cells) refl

pub taken_by : (one other : Board) (parts : List LayoutLine) (part : LayoutLine) (cells : List Cell) →
    ((x y : ℤ) → live one x y ≡ cells_taken_at_start parts x y) →
    ((x y : ℤ) → live other x y ≡ cells_taken_at_end parts x y) → cells ≡ cells_of part →
    (if takes_cells_at_start part then list_any (λ c. live one c.x c.y) cells else list_any
    (λ c. live other c.x c.y) cells) ≡ has_taken_cell parts part
unfolding has_taken_cell
taken_by one other parts part cells same_begun same_ended are =
    rw (
      are,
      any_same (λ c. live one c.x c.y) (λ c. cells_taken_at_start parts c.x c.y) (λ c. same_begun c.x c.y)
          (cells_of part),
      any_same (λ c. live other c.x c.y) (λ c. cells_taken_at_end parts c.x c.y) (λ c. same_ended c.x c.y)
          (cells_of part),
    ) refl

-- ---- the boards after one more line

module _ (old new : Board) (parts more : List LayoutLine) (part : LayoutLine) (cells : List Cell)
    (are : cells ≡ cells_of part)
    (longer : more ≡ parts ++ part ∷ []) where
  pub begun_more : ((x y : ℤ) → live old x y ≡ cells_taken_at_start parts x y) →
      ((x y : ℤ) → live new x y ≡ (live old x y || (takes_cells_at_start part && in_cells cells x y))) → (x y : ℤ) →
      live new x y ≡ cells_taken_at_start more x y
  begun_more before after x y = after x y ∙ rw (before x y, are, longer, begun_push parts part x y) refl

  pub ended_more : ((x y : ℤ) → live old x y ≡ cells_taken_at_end parts x y) →
      ((x y : ℤ) → live new x y ≡ (live old x y || (takes_cells_at_end part && in_cells cells x y))) → (x y : ℤ) →
      live new x y ≡ cells_taken_at_end more x y
  ended_more before after x y = after x y ∙ rw (before x y, are, longer, ended_push parts part x y) refl

-- ---- the code for the cells of a line

pub cells_free : (s : LayoutHeader) (parts : List LayoutLine) (part : LayoutLine) → is_inside s part ≡ true →
    has_taken_cell parts part ≡ false → cell_fault s parts part ≡ None
unfolding cell_fault
cells_free s parts part inside free = rw (inside, free) refl

pub cells_taken : (s : LayoutHeader) (parts : List LayoutLine) (part : LayoutLine) → is_inside s part ≡ true →
    has_taken_cell parts part ≡ true → cell_fault s parts part ≡ Some TakenCell
unfolding cell_fault
cells_taken s parts part inside taken = rw (inside, taken) refl

pub outside_is_fault : (s : LayoutHeader) (parts : List LayoutLine) (part : LayoutLine) → is_inside s part ≡ false →
    cell_fault s parts part ≡ Some TakenCell
unfolding cell_fault
outside_is_fault s parts part outside = rw outside refl

pub faultless_is_inside : (s : LayoutHeader) (parts : List LayoutLine) (part : LayoutLine) →
    cell_fault s parts part ≡ None → is_inside s part ≡ true
unfolding cell_fault
faultless_is_inside s parts part none = grind (arith, common_steps)
