use Rattle.lanes.proofs.Imports.{ap, arith, length, sym}
use Rattle.lanes.proofs.CalmLemmas.{range_cell_numbers}
use Rattle.lanes.proofs.HeldLemmas.{run_room}
use Rattle.lanes.proofs.planes.Planes.turn_block_range.Goals as goal

pub turn_part-requires-clause-first : goal.turn_part-requires-clause-first
turn_part-requires-clause-first c =
    let p = c.args.self.now in
    let at = c.first_word_places-at.ensures in
    let a = ap length c.deref_mut.ensures.value in
    let b = ap length c.deref_mut-2.ensures.value in
    let fits = rw (sym c.block_places.ensures.block) at
    (range_cell_numbers c.args.partition p c.args.first c.args.end c.requires.0 c.requires.1) in (
      omega (arith, run_room p.words _ _ _ _ fits.0 p.odd_long, at.main.0, a, p.odd.ok.0, p.odd_long),
      omega (arith, run_room p.words _ _ _ _ fits.1 p.right_long, at.anti.0, b, p.right.ok.0, p.right_long),
    )

pub turn_part-requires-clause-last : goal.turn_part-requires-clause-last
turn_part-requires-clause-last c =
    let p = c.args.self.now in
    let at = c.first_word_places-at.ensures in
    let a = ap length c.deref_mut-3.ensures.value in
    let b = ap length c.deref_mut-4.ensures.value in
    let fits = rw (sym c.block_places.ensures.block) at
    (range_cell_numbers c.args.partition p c.args.first c.args.end c.requires.0 c.requires.1) in (
      omega (arith, run_room p.words _ _ _ _ fits.2 p.down_long, at.anti.1, a, p.down.ok.0, p.down_long),
      omega (arith, run_room p.words _ _ _ _ fits.3 p.even_long, at.main.1, b, p.even.ok.0, p.even_long),
    )
