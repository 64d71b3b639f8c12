-- The set has the names so far.
use Rattle.pattern.proofs.Imports.{has, list_all, take, true, ◌≡◌}
use Rattle.pattern.proofs.reading.has_all_names.Given as goal

abbrev pub invariant-loop-name : goal.invariant-loop-name
invariant-loop-name l = list_all (λ n. has l.set.keys n) (take l.name-index l.names) ≡ true
