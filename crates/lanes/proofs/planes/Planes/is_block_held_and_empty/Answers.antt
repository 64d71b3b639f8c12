use Rattle.lanes.proofs.Imports.{arith, ◌*◌}
use Rattle.lanes.proofs.HeldLemmas.{room_of}
use Rattle.lanes.proofs.planes.Planes.is_block_held_and_empty.Goals as goal

pub meets_condition_and_is_always_dead-requires : goal.meets_condition_and_is_always_dead-requires
meets_condition_and_is_always_dead-requires c = let p = c.args.self.now in
    omega (arith, p.odd.ok.0, room_of p.words c.args.block.odd (p.stride * p.rows) _ c.requires.0 p.odd_long)

pub meets_condition_and_is_always_dead-requires-then-meets_condition_and_is_always_dead :
    goal.meets_condition_and_is_always_dead-requires-then-meets_condition_and_is_always_dead
meets_condition_and_is_always_dead-requires-then-meets_condition_and_is_always_dead c = let p = c.args.self.now in
    omega (arith, p.right.ok.0, room_of p.words c.args.block.right (p.stride * p.rows) _ c.requires.1 p.right_long)

pub meets_condition_and_is_always_dead-requires-then-meets_condition_and_is_always_dead-2 :
    goal.meets_condition_and_is_always_dead-requires-then-meets_condition_and_is_always_dead-2
meets_condition_and_is_always_dead-requires-then-meets_condition_and_is_always_dead-2 c = let p = c.args.self.now in
    omega (arith, p.down.ok.0, room_of p.words c.args.block.down (p.stride * p.rows) _ c.requires.2 p.down_long)

pub meets_condition_and_is_always_dead-requires-then-meets_condition_and_is_always_dead-3 :
    goal.meets_condition_and_is_always_dead-requires-then-meets_condition_and_is_always_dead-3
meets_condition_and_is_always_dead-requires-then-meets_condition_and_is_always_dead-3 c = let p = c.args.self.now in
    omega (arith, p.even.ok.0, room_of p.words c.args.block.even (p.stride * p.rows) _ c.requires.3 p.even_long)
