-- The bytes so far are those of the line.
use Rattle.section_text.proofs.Imports.{take, ◌++◌, ◌≡◌}
use Rattle.section_text.specs.Limits.{limits_line_bytes}
use Rattle.section_text.proofs.feed.begins_with_front.Given as goal

abbrev pub invariant-loop-place : goal.invariant-loop-place
invariant-loop-place l = take l.place (l.fn.first ++ l.fn.second) ≡ take l.place limits_line_bytes
