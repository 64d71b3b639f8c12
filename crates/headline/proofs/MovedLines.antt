-- The lines of a moved layout keep the rules of lines
use Rattle.headline.proofs.Imports.{Ball, In, LayoutHeader, LayoutLine, List, Mirror, None, Out, Pattern, Waste, []}
use Rattle.headline.proofs.Imports.{and_parts, ap₂, arith, cell_fault, cells_of, cells_taken_at_start, common_steps}
use Rattle.headline.proofs.Imports.{enlarged, flat_map, has_taken_cell, in_layout, in_span, in_span-negsuc, ints}
use Rattle.headline.proofs.Imports.{is_inside, largest_limit_code, map, map-append, moved, moved_by_two, negsuc}
use Rattle.headline.proofs.Imports.{no_code, parts_of, port_moved_by_two, pos, range_with_len, rectangle_cells}
use Rattle.headline.proofs.Imports.{rectangle_moved_by_two, refl, size_fault, span_from, span_parts, suc, sym}
use Rattle.headline.proofs.Imports.{takes_cells_at_start, true, zero, ℕ, ℤ, ◌++◌, ◌+ℤ◌, ◌+◌, ◌∙◌, ◌∷◌, ◌≡◌, ◌≤◌}
use Rattle.bbm_rule.specs.CellLists.{row_cells}
use Rattle.pattern.specs.Lines.{AreGoodAfter, cells_taken_at_end, takes_cells_at_end, holds}
use Rattle.headline.proofs.MovedPlanes.{any_map, cells_moved}

-- ---- lines

-- the line of the moved layout in the place of this one
abbrev moved_line : LayoutLine → LayoutLine
moved_line (Mirror r) = Mirror (rectangle_moved_by_two r)
moved_line (Ball c) = Ball (moved_by_two c)
moved_line (In q) = In (port_moved_by_two q)
moved_line (Out q) = Out (port_moved_by_two q)
moved_line (Waste c) = Waste (moved_by_two c)

abbrev moved_lines : List LayoutLine → List LayoutLine
moved_lines parts = map moved_line parts

map_both : {X Y Z W : Type 0} (f : X → Y) (g : Y → Z) (h : X → W) (k : W → Z) → ((x : X) → g (f x) ≡ k (h x)) →
    (xs : List X) → map g (map f xs) ≡ map k (map h xs)
map_both f g h k e [] = refl
map_both f g h k e (x ∷ xs) = ap₂ (λ a b. a ∷ b) (e x) (map_both f g h k e xs)

parts_moved : (p : Pattern) → parts_of (moved p) ≡ moved_lines (parts_of p)
parts_moved p = grind (arith, common_steps, map_both)

-- ---- the cells of a line

row_moved : (n x y : ℕ) → row_cells (x + 2) n (y + 2) ≡ map moved_by_two (row_cells x n y)
row_moved zero x y = refl
row_moved (suc n) x y = grind (arith, common_steps, (row_moved n (x + 1) y))

rows_moved : (n x w y : ℕ) → flat_map (row_cells (x + 2) w) (range_with_len (y + 2) n)
    ≡ map moved_by_two (flat_map (row_cells x w) (range_with_len y n))
rows_moved zero x w y = refl
rows_moved (suc n) x w y = grind (arith, common_steps, row_moved, map-append, (rows_moved n x w (y + 1)))

line_cells_moved : (part : LayoutLine) → cells_of (moved_line part) ≡ map moved_by_two (cells_of part)
unfolding cells_of rectangle_cells
line_cells_moved (Mirror r) = rows_moved r.h r.x r.w r.y
line_cells_moved _ = refl

holds_moved : (part : LayoutLine) (x y : ℤ) → holds (moved_line part) (x +ℤ pos 2) (y +ℤ pos 2) ≡ holds part x y
holds_moved part x y = grind (arith, common_steps, line_cells_moved, cells_moved)

-- ---- cells that are taken

begins_moved : (part : LayoutLine) → takes_cells_at_start (moved_line part) ≡ takes_cells_at_start part
unfolding takes_cells_at_start
begins_moved part = grind (arith, common_steps)

ends_moved : (part : LayoutLine) → takes_cells_at_end (moved_line part) ≡ takes_cells_at_end part
unfolding takes_cells_at_end
ends_moved part = grind (arith, common_steps)

begun_moved : (parts : List LayoutLine) (x y : ℤ) →
    cells_taken_at_start (moved_lines parts) (x +ℤ pos 2) (y +ℤ pos 2) ≡ cells_taken_at_start parts x y
unfolding cells_taken_at_start
begun_moved parts x y = grind (arith, common_steps, any_map, begins_moved, holds_moved)

ended_moved : (parts : List LayoutLine) (x y : ℤ) →
    cells_taken_at_end (moved_lines parts) (x +ℤ pos 2) (y +ℤ pos 2) ≡ cells_taken_at_end parts x y
unfolding cells_taken_at_end
ended_moved parts x y = grind (arith, common_steps, any_map, ends_moved, holds_moved)

taken_moved : (before : List LayoutLine) (part : LayoutLine) →
    has_taken_cell (moved_lines before) (moved_line part) ≡ has_taken_cell before part
unfolding has_taken_cell
taken_moved before part = grind (arith, common_steps, begins_moved, line_cells_moved, any_map, begun_moved, ended_moved)

-- ---- cells inside

span_enlarged : (n : ℕ) (x : ℤ) → in_span 0 n x ≡ true → in_span 0 (n + 4) (x +ℤ pos 2) ≡ true
span_enlarged n (pos k) h = grind (arith, common_steps, ints, span_parts, span_from)
span_enlarged n (negsuc k) h = let no = sym (in_span-negsuc 0 n k) ∙ h in cc

pub layout_enlarged : (s : LayoutHeader) (x y : ℤ) → in_layout s x y ≡ true →
    in_layout (enlarged s) (x +ℤ pos 2) (y +ℤ pos 2) ≡ true
layout_enlarged s x y h = grind (arith, common_steps, and_parts, span_enlarged)

inside_moved : (s : LayoutHeader) (part : LayoutLine) → is_inside s part ≡ true →
    is_inside (enlarged s) (moved_line part) ≡ true
unfolding is_inside
inside_moved s (Mirror r) h = grind (arith, common_steps)
inside_moved s (Ball c) h = layout_enlarged s c.x c.y h
inside_moved s (In q) h = layout_enlarged s q.cell.x q.cell.y h
inside_moved s (Out q) h = layout_enlarged s q.cell.x q.cell.y h
inside_moved s (Waste c) h = layout_enlarged s c.x c.y h

-- ---- the rules

limit_moved : (part : LayoutLine) → largest_limit_code (moved_line part) ≡ largest_limit_code part
unfolding largest_limit_code
limit_moved part = grind (arith, common_steps)

cell_moved : (s : LayoutHeader) (before : List LayoutLine) (part : LayoutLine) → cell_fault s before part ≡ None →
    cell_fault (enlarged s) (moved_lines before) (moved_line part) ≡ None
unfolding cell_fault
cell_moved s before part none = grind (arith, common_steps, inside_moved, taken_moved)

lines_good : (s : LayoutHeader) (before parts : List LayoutLine) → AreGoodAfter s before parts →
    AreGoodAfter (enlarged s) (moved_lines before) (moved_lines parts)
lines_good s before [] good = tt
lines_good s before (part ∷ parts) good =
    grind (arith, common_steps, limit_moved, cell_moved, map-append, (lines_good s (before ++ part ∷ []) parts good.2))

-- the lines of the moved layout are good, each after those before it
pub moved_good : (p : Pattern) → AreGoodAfter p.size [] (parts_of p) →
    AreGoodAfter (moved p).size [] (parts_of (moved p))
moved_good p good = grind (arith, common_steps, parts_moved, lines_good)

-- and its size is within the limits
pub enlarged_good : (s : LayoutHeader) → size_fault s ≡ None → s.w ≤ 60 → s.h ≤ 60 → size_fault (enlarged s) ≡ None
unfolding size_fault
enlarged_good s none wide high = grind (arith, common_steps, no_code, and_parts)
