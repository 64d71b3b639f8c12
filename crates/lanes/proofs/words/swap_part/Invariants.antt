use Rattle.lanes.proofs.Imports.{SwapsPart, length, ◌-◌, ◌≡◌, ◌≤◌}
use Rattle.lanes.proofs.words.swap_part.Given as goal

-- the words so far have changed places
abbrev pub invariant-loop-k : goal.invariant-loop-k
invariant-loop-k l = record {
  within : l.k ≤ l.long;
  first_long : length l.first ≡ length l.fn.first;
  second_long : length l.second ≡ length l.fn.second;
  swap : SwapsPart l.a l.b l.k l.fn.first l.fn.second l.first l.second;
}

abbrev pub decreases-loop-k : goal.decreases-loop-k
decreases-loop-k l = l.long - l.k

abbrev pub invariant-loop-k-2 : goal.invariant-loop-k-2
invariant-loop-k-2 l = record {
  within : l.k ≤ l.long;
  first_long : length l.first ≡ length l.fn.first;
  second_long : length l.second ≡ length l.fn.second;
  swap : SwapsPart l.a l.b l.k l.fn.first l.fn.second l.first l.second;
}

abbrev pub decreases-loop-k-2 : goal.decreases-loop-k-2
decreases-loop-k-2 l = l.long - l.k
