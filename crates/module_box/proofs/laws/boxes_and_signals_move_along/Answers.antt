use Rattle.module_box.proofs.MovedBoxes.{boxes_moved, signals_moved}
use Rattle.module_box.proofs.laws.boxes_and_signals_move_along.Goals as goal

pub returns-clause-boxes : goal.returns-clause-boxes
returns-clause-boxes c = boxes_moved

pub returns-clause-signals : goal.returns-clause-signals
returns-clause-signals c = signals_moved
