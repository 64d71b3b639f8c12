-- What the modules so far keep is noted.
use Rattle.certificate.proofs.Imports.{is_among, list_any, take, ℕ, ◌≡◌}
use Rattle.certificate.proofs.keep_lines.kept_gates.Given as goal

abbrev pub invariant-loop-module : goal.invariant-loop-module
invariant-loop-module l = (n : ℕ) →
    is_among l.kept.keys n ≡ list_any (λ m. is_among m.keeps.items n) (take l.module-index l.modules)
