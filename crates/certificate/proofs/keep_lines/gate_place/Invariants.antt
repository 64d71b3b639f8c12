-- The gate is none of those so far.
use Rattle.certificate.proofs.Imports.{false, is_among, take, ◌≡◌}
use Rattle.certificate.proofs.keep_lines.gate_place.Given as goal

abbrev pub invariant-loop-place : goal.invariant-loop-place
invariant-loop-place l = is_among (take l.place l.gates) l.gate ≡ false
