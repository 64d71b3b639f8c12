-- The cells of a box.
use Rattle.certificate_lines.proofs.Imports.{Bool, Cell, List, [], and_parts, ap, arith, cell_itself, cell_same}
use Rattle.certificate_lines.proofs.Imports.{common_steps, inl, inr, is_cell_at, list_all, list_any, or_cases, or_right}
use Rattle.certificate_lines.proofs.Imports.{refl, true, ◌∙◌, ◌∷◌, ◌≡◌}
use Rattle.lemmas.proofs.Common.{or_left}
use Rattle.bbm_rule.specs.CellLists.{in_cells}

-- ---- the cells of a box

-- a cell of a list that passes a test, and is one of the list's cells
pub cell_passed : (test : Cell → Bool) (cells : List Cell) → list_any test cells ≡ true →
    (c : Cell) × (in_cells cells c.x c.y ≡ true) × (test c ≡ true)
cell_passed test [] h = absurd cc
cell_passed test (c ∷ cells) h =
    grind (arith, common_steps, or_cases, or_left, cell_itself, or_right, cell_passed test cells)

pub has_cell : (test : Cell → Bool) (cells : List Cell) (d : Cell) → in_cells cells d.x d.y ≡ true → test d ≡ true →
    list_any test cells ≡ true
has_cell test [] d h t = absurd cc
has_cell test (c ∷ cells) d h t = elim (or_cases (is_cell_at c d.x d.y) (in_cells cells d.x d.y) h) [
  | inl here ↦ or_left (test c) _ (ap test (cell_same c d here) ∙ t)
  | inr more ↦ or_right (test c) _ (has_cell test cells d more t)
]

-- a test that all cells of a list pass
pub cell_passes : (test : Cell → Bool) (cells : List Cell) (d : Cell) → list_all test cells ≡ true →
    in_cells cells d.x d.y ≡ true → test d ≡ true
cell_passes test [] d all there = absurd cc
cell_passes test (c ∷ cells) d all there =
    grind (arith, common_steps, and_parts, or_cases, cell_same, cell_passes test cells d)

pub cells_pass : (test : Cell → Bool) (cells : List Cell) →
    ((d : Cell) → in_cells cells d.x d.y ≡ true → test d ≡ true) → list_all test cells ≡ true
cells_pass test [] h = refl
cells_pass test (c ∷ cells) h =
    rw (
      h c (or_left (is_cell_at c c.x c.y) _ (cell_itself c)),
      cells_pass test cells (λ d there. h d (or_right (is_cell_at c d.x d.y) _ there)),
    ) refl
