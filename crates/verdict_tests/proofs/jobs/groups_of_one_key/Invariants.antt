-- The key stands in the list once for each shape so far.
use Rattle.lemmas.proofs.Common.{◌≡◌, map, take}
use Rattle.verdict_tests.proofs.jobs.groups_of_one_key.Given as goal

abbrev pub invariant-loop : goal.invariant-loop
invariant-loop l = l.keys.items ≡ map (λ _. l.key) (take l.index l.shapes)
