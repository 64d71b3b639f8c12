-- The cells so far are live, and the others as they were.
use Rattle.bbm_rule.proofs.Imports.{cell_at, true, ℕ, ◌-◌, ◌<◌, ◌≡◌, ◌≤◌}
use Rattle.bbm_rule.proofs.cells.fill_cells.Given as goal

abbrev pub invariant-loop-at : goal.invariant-loop-at
invariant-loop-at l = record {
  within : (l.fn.first ≤ l.at) × (l.at ≤ l.end);
  there : (q : ℕ) → l.fn.first ≤ q → q < l.at → cell_at l.words q ≡ true;
  before : (q : ℕ) → q < l.fn.first → cell_at l.words q ≡ cell_at l.fn.words q;
  after : (q : ℕ) → l.at ≤ q → cell_at l.words q ≡ cell_at l.fn.words q;
}

abbrev pub decreases-loop-at : goal.decreases-loop-at
decreases-loop-at l = l.end - l.at
