-- The names so far are in the set, and no others.
use Rattle.pattern.proofs.Imports.{List, has, take, ℕ, ◌≡◌}
use Rattle.pattern.proofs.names.name_set.Given as goal

abbrev pub invariant-loop-name : goal.invariant-loop-name
invariant-loop-name l = (n : List ℕ) → has l.index.keys n ≡ has (take l.name-index l.names) n
