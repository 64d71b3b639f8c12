use Rattle.bbm_rule.proofs.Imports.{TurnsCornerWordsBetween, length, ◌-◌, ◌≤◌}
use Rattle.bbm_rule.proofs.words.turn_lanes.Given as goal

abbrev pub invariant-loop-at : goal.invariant-loop-at
invariant-loop-at l = record {
  within : l.at ≤ length l.upper_left;
  turned : TurnsCornerWordsBetween 0 l.at l.fn.upper_left l.fn.upper_right l.fn.lower_left l.fn.lower_right l.upper_left
      l.upper_right l.lower_left l.lower_right;
}

abbrev pub decreases-loop-at : goal.decreases-loop-at
decreases-loop-at l = length l.upper_left - l.at

abbrev pub invariant-loop-k : goal.invariant-loop-k
invariant-loop-k l = TurnsCornerWordsBetween 0 l.k l.fn.upper_left l.fn.upper_right l.fn.lower_left l.fn.lower_right
    l.upper_left
    l.upper_right l.lower_left l.lower_right
