use Rattle.lanes.proofs.Imports.{Even, block_at, refl}
use Rattle.lanes.proofs.CalmLemmas.{cells_of}
use Rattle.lanes.proofs.LiveLemmas.{dead_block}
use Rattle.lanes.proofs.TurnLemmas.{stable_turned}
use Rattle.lanes.proofs.SettledLemmas.{odd_marks_kept, same_number}
use Rattle.lanes.proofs.marked_planes.MarkedPlanes.unmark_even_block_if_dead.Goals as goal

pub returns-then-is_block_known_dead-clause-turned : goal.returns-then-is_block_known_dead-clause-turned
returns-then-is_block_known_dead-clause-turned c =
    let f = c.args.self.now in
    let free = rw c.block_places.ensures.block at
    (c.is_block_known_dead-is_block_known_dead.ensures c.if-is_block_known_dead.true) in
    λ e. stable_turned (block_at Even f.planes.stride c.args.n) f.planes
    (dead_block (block_at Even f.planes.stride c.args.n) f.live_marks f.planes
    (cells_of Even f.planes c.args.n c.requires) f.all_dead free)

pub returns-then-is_block_known_dead-clause-settled : goal.returns-then-is_block_known_dead-clause-settled
returns-then-is_block_known_dead-clause-settled c = λ u is. (
  (
    is.0,
    odd_marks_kept Even c.args.n c.args.self.now.block_marks c.unmark.new.self refl c.unmark.ensures.unmarked u is.1,
  ),
  same_number u c.args.self.now.planes,
)
