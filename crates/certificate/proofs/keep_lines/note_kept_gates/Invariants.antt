-- The gates so far are noted.
use Rattle.certificate.proofs.Imports.{is_among, take, ℕ, ◌||◌, ◌≡◌}
use Rattle.certificate.proofs.keep_lines.note_kept_gates.Given as goal

abbrev pub invariant-loop-keep : goal.invariant-loop-keep
invariant-loop-keep l = (n : ℕ) →
    is_among l.kept.keys n ≡ (is_among l.fn.kept.keys n || is_among (take l.keep-index l.keeps) n)
