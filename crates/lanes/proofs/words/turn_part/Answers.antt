use Rattle.lanes.proofs.Imports.{arith}
use Rattle.lanes.proofs.TurnLemmas.{part_turned}
use Rattle.lanes.proofs.words.turn_part.Goals as goal

pub returns : goal.returns
returns c =
    let t = c.turn_lanes.new in
    part_turned c.args.at.odd c.args.at.right c.args.at.down c.args.at.even _ _ _ _
    c.args.long c.args.odd.now c.args.right.now
    c.args.down.now c.args.even.now t.upper_left t.upper_right t.lower_left t.lower_right
    (omega arith) (omega arith) (omega arith) (omega arith) (omega arith) (omega arith) (omega arith) (omega arith)
    (omega arith) (omega arith) (omega arith) (omega arith) (λ k l. c.turn_lanes.ensures k (omega arith))
