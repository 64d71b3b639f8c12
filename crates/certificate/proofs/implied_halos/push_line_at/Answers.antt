use Rattle.certificate.proofs.Imports.{append-nil, arith, common_steps}
use Rattle.lemmas.proofs.Common.{slice_get_past}
use Rattle.certificate.proofs.implied_halos.push_line_at.Goals as goal

pub returns-in-None : goal.returns-in-None
returns-in-None c = grind (arith, common_steps, slice_get_past, append-nil)
