use Rattle.headline.proofs.MovedDesigns.{each_gets_yes}
use Rattle.headline.proofs.StillMirrors.{needs_room}
use Rattle.headline.proofs.laws.each_moved_correct_design_gets_yes.Goals as goal

pub returns : goal.returns
returns c = record { each = each_gets_yes; some = needs_room }
