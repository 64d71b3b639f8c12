-- The cells of lines with a star.
use Rattle.certificate_lines.proofs.Imports.{Bool, BorderLine, Cell, List, Option, [], arith, cell_same, common_steps}
use Rattle.certificate_lines.proofs.Imports.{false, if◌then◌else◌, is_some, is_star, is_starred_line_at, length}
use Rattle.certificate_lines.proofs.Imports.{list_any, or-false, same_cell, true, ℕ, ◌&&◌, ◌++◌, ◌||◌, ◌∷◌, ◌≡◌}

starred : (t : Option ℕ) (b : Bool) → is_some t ≡ false → b ≡ (is_star t && b)
starred t b h1 = grind (arith, common_steps)

timed : (t : Option ℕ) (b : Bool) → is_some t ≡ true → (is_star t && b) ≡ false
timed t b h1 = grind (arith, common_steps)

-- one that is there already
again : (keys : List Cell) (c d : Cell) (s : Bool) → same_cell c d ≡ s → list_any (same_cell d) keys ≡ true →
    list_any (same_cell c) keys ≡ (list_any (same_cell c) keys || s)
again keys c d s h1 h2 = grind (arith, common_steps, cell_same, or-false)

pub star_noted : (keys new : List Cell) (e : BorderLine) → is_some e.time ≡ false →
    new ≡ (if list_any (same_cell e.cell) keys then keys else keys ++ e.cell ∷ []) → (c : Cell) →
    list_any (same_cell c) new ≡ (list_any (same_cell c) keys || is_starred_line_at c e)
star_noted keys new e none is c = grind (arith, common_steps, starred)

pub no_star : (keys : List Cell) (e : BorderLine) → is_some e.time ≡ true → (c : Cell) →
    list_any (same_cell c) keys ≡ (list_any (same_cell c) keys || is_starred_line_at c e)
no_star keys e some c = grind (arith, common_steps, timed, or-false)

pub none_starred : (keys : List Cell) (c : Cell) → length keys ≡ 0 → false ≡ list_any (same_cell c) keys
none_starred keys c h1 = grind (arith, common_steps)
