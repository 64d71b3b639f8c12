use Rattle.module_job.proofs.Imports.{take, ◌++◌, ◌≡◌}
use Rattle.module_job.proofs.keys.push_kept_places.Given as goal

abbrev pub invariant-loop-place : goal.invariant-loop-place
invariant-loop-place l = l.numbers.items ≡ l.initial.numbers.items ++ take l.place-index l.kept
