use Rattle.lanes.proofs.TurnLemmas.{anti_stays, main_stays}
use Rattle.lanes.proofs.words.flips_of.Goals as goal

pub returns-clause-main : goal.returns-clause-main
returns-clause-main c = main_stays c.args.upper_left c.args.upper_right c.args.lower_left c.args.lower_right

pub returns-clause-anti : goal.returns-clause-anti
returns-clause-anti c = anti_stays c.args.upper_left c.args.upper_right c.args.lower_left c.args.lower_right
