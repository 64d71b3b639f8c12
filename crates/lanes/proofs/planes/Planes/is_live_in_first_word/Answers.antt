use Rattle.lanes.proofs.Imports.{arith, get_or_read, mul-le-mul_left, ◌*◌, ◌+◌, ◌≤◌}
use Rattle.lanes.proofs.TurnLemmas.{four_zero}
use Rattle.lanes.proofs.planes.Planes.is_live_in_first_word.Goals as goal

pub returns : goal.returns
returns c =
    let p = c.args.self.now in
    let m : p.words * (c.args.u + 1) ≤ p.words * (p.stride * p.rows) = mul-le-mul_left p.words (omega arith) in
    let odd = get_or_read p.odd.items _ _ (omega (arith, m, p.odd.ok.0, p.odd_long)) c.index.ensures 0 in
    let right = get_or_read p.right.items _ _ (omega (arith, m, p.right.ok.0, p.right_long)) c.index-2.ensures 0 in
    let down = get_or_read p.down.items _ _ (omega (arith, m, p.down.ok.0, p.down_long)) c.index-3.ensures 0 in
    let even = get_or_read p.even.items _ _ (omega (arith, m, p.even.ok.0, p.even_long)) c.index-4.ensures 0 in
    rw (odd, right, down, even) (four_zero _ _ _ _)
