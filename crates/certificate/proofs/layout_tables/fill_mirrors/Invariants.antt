-- The cells of the mirrors so far are live.
use Rattle.certificate.proofs.Imports.{in_rectangles, take, ℤ, ◌||◌, ◌≡◌}
use Rattle.bbm_rule.specs.Board.{live, HasSameSize}
use Rattle.certificate.proofs.layout_tables.fill_mirrors.Given as goal

abbrev pub invariant-loop-mirror : goal.invariant-loop-mirror
invariant-loop-mirror l =
    ((x y : ℤ) → live l.grid x y ≡ (live l.fn.grid x y || in_rectangles (take l.mirror-index l.mirrors) x y))
    × HasSameSize l.fn.grid l.grid
