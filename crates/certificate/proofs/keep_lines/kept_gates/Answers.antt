use Rattle.certificate.proofs.Imports.{arith, common_steps}
use Rattle.certificate.proofs.KeepLemmas.{kept_stored}
use Rattle.certificate.proofs.keep_lines.kept_gates.Goals as goal

pub returns : goal.returns
returns c circuit n = grind (arith, common_steps, kept_stored, c.loop-module.invariant n)
