use Rattle.bbm_rule.proofs.Imports.{cell_at, true, ℕ, ◌-◌, ◌<◌, ◌≡◌, ◌≤◌}
use Rattle.bbm_rule.proofs.marks.next_unmarked.Given as goal

-- all that were passed have a mark
abbrev pub invariant-loop-at : goal.invariant-loop-at
invariant-loop-at l = record {
  after : l.from ≤ l.at;
  passed : (u : ℕ) → l.from ≤ u → u < l.at → cell_at l.marks u ≡ true;
}

abbrev pub decreases-loop-at : goal.decreases-loop-at
decreases-loop-at l = l.end - l.at
