use Rattle.border_match.proofs.Imports.{BorderFault, IsLeastBorderFault, Option, Some, modules_in, setting_of}
use Rattle.border_match.proofs.Imports.{slice_get, vec_len, ℕ, ◌≡◌}
use Rattle.border_match.proofs.matching.match_borders.Given as goal

-- The modules before have their faults.
abbrev pub invariant-loop-job : goal.invariant-loop-job
invariant-loop-job l = (vec_len l.faults ≡ l.job-index)
    × ((i : ℕ) (f : Option BorderFault) → slice_get l.faults.items i ≡ Some f →
    IsLeastBorderFault (setting_of l.cert.circuit l.cert.layout) (modules_in l.cert) i f)
