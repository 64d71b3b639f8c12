-- The bits of the names so far.
use Rattle.pattern.proofs.Imports.{has, map, take, ◌++◌, ◌≡◌}
use Rattle.pattern.proofs.names_on.push_whether_name_is_on.Given as goal

abbrev pub invariant-loop-name : goal.invariant-loop-name
invariant-loop-name l = l.bits.items ≡ l.fn.bits.items ++ map (λ n. has l.on.keys n) (take l.name-index l.names)
