-- The lines so far, and those that are left.
use Rattle.lemmas.proofs.Common.{◌++◌, ◌≡◌, ◌≤◌, length}
use Rattle.answers.proofs.KeptLines.{kept_text}
use Rattle.answers.proofs.migration.push_lines_not_beginning_with_h.Given as goal

abbrev pub invariant-loop-length : goal.invariant-loop-length
invariant-loop-length l =
    (l.out.items ++ kept_text l.rest ≡ l.fn.out.items ++ kept_text l.text) × (length l.rest ≤ length l.text)

abbrev pub decreases-loop-length : goal.decreases-loop-length
decreases-loop-length l = length l.rest
