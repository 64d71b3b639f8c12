use Rattle.lanes.proofs.Imports.{arith, mul-le-mul_left, ◌*◌, ◌+◌, ◌≤◌}
use Rattle.lanes.proofs.planes.Planes.unmark_dead_cells.Goals as goal

pub unmark_if_dead-requires-clause-cell : goal.unmark_if_dead-requires-clause-cell
unmark_if_dead-requires-clause-cell c =
    let p = c.args.self.now in
    let m : p.words * (c.args.block.odd + 1) ≤ p.words * (p.stride * p.rows) =
    mul-le-mul_left p.words (omega (arith, c.requires.cells.0)) in
    omega (arith, m, p.odd.ok.0, p.odd_long)

pub unmark_if_dead-requires-2-clause-cell : goal.unmark_if_dead-requires-2-clause-cell
unmark_if_dead-requires-2-clause-cell c =
    let p = c.args.self.now in
    let m : p.words * (c.args.block.right + 1) ≤ p.words * (p.stride * p.rows) =
    mul-le-mul_left p.words (omega (arith, c.requires.cells.1)) in
    omega (arith, m, p.right.ok.0, p.right_long)

pub unmark_if_dead-requires-3-clause-cell : goal.unmark_if_dead-requires-3-clause-cell
unmark_if_dead-requires-3-clause-cell c =
    let p = c.args.self.now in
    let m : p.words * (c.args.block.down + 1) ≤ p.words * (p.stride * p.rows) =
    mul-le-mul_left p.words (omega (arith, c.requires.cells.2)) in
    omega (arith, m, p.down.ok.0, p.down_long)

pub unmark_if_dead-requires-4-clause-cell : goal.unmark_if_dead-requires-4-clause-cell
unmark_if_dead-requires-4-clause-cell c =
    let p = c.args.self.now in
    let m : p.words * (c.args.block.even + 1) ≤ p.words * (p.stride * p.rows) =
    mul-le-mul_left p.words (omega (arith, c.requires.cells.3)) in
    omega (arith, m, p.even.ok.0, p.even_long)
