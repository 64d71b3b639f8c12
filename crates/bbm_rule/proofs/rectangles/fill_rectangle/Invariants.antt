-- The rows so far are live.
use Rattle.bbm_rule.proofs.Imports.{live, ℤ, ◌-◌, ◌||◌, ◌≡◌}
use Rattle.bbm_rule.specs.Board.{HasSameSize}
use Rattle.bbm_rule.specs.Spans.{in_area}
use Rattle.bbm_rule.proofs.rectangles.fill_rectangle.Given as goal

abbrev pub invariant-loop-y : goal.invariant-loop-y
invariant-loop-y l = record {
  size : HasSameSize l.fn.grid l.grid;
  filled : (x y : ℤ) → live l.grid x y ≡ (live l.fn.grid x y || in_area l.r.x l.r.y l.r.w (l.y - l.r.y) x y);
}
