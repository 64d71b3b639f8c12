use Rattle.border_match.proofs.Haloless.{haloless_match}
use Rattle.border_match.proofs.laws.haloless_borders_match.Goals as goal

pub returns : goal.returns
returns c = haloless_match
