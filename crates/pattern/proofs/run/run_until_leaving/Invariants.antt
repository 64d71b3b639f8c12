use Rattle.pattern.proofs.Imports.{HasSameSize, IsDeadOutside, live, run, ℕ, ℤ, ◌≡◌, ◌≤◌}
use Rattle.pattern.proofs.run.run_until_leaving.Given as goal

abbrev pub invariant-loop-t : goal.invariant-loop-t
invariant-loop-t l = record {
  cells : (x y : ℤ) → live l.grid x y ≡ run (live l.fn.grid) l.t x y;
  stays : (k : ℕ) → k ≤ l.t → IsDeadOutside l.fn.size (run (live l.fn.grid) k);
  size : HasSameSize l.fn.grid l.grid;
}
