-- The numbers from the last one down are linked, and for each group the least of them is known.
use Rattle.job_pool.proofs.Imports.{length, ◌-◌}
use Rattle.job_pool.proofs.Linking.{AreLinkedFrom}
use Rattle.job_pool.proofs.links.link_members.Given as goal

abbrev pub invariant-loop-done : goal.invariant-loop-done
invariant-loop-done l = AreLinkedFrom l.groups l.links.items l.nearest.items (length l.groups - l.done)
