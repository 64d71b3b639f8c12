-- The edge lines at the places so far.
use Rattle.certificate.proofs.Imports.{edge_lines_at, take, ◌≡◌}
use Rattle.certificate.proofs.implied_halos.edge_lines_at.Given as goal

abbrev pub invariant-loop-place : goal.invariant-loop-place
invariant-loop-place l = l.lines.items ≡ edge_lines_at l.modules (take l.place-index l.places)
