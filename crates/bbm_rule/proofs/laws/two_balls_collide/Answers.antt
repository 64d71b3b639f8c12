use Rattle.bbm_rule.proofs.Imports.{partner, refl, step, turned}
use Rattle.bbm_rule.specs.Plane.{run}
use Rattle.bbm_rule.proofs.Meetings.{two_turn}
use Rattle.bbm_rule.proofs.laws.two_balls_collide.Goals as goal

pub returns-clause-turn : goal.returns-clause-turn
returns-clause-turn c = two_turn

pub returns-clause-collide : goal.returns-clause-collide
unfolding partner turned step run
returns-clause-collide c = refl
