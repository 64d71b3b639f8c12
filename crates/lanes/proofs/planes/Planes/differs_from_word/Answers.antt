use Rattle.lanes.proofs.Imports.{arith, sym, ◌/◌}
use Rattle.lanes.proofs.LaneLemmas.{place_below}
use Rattle.lanes.proofs.PlaneWords.{lane_in_word, plane_odd, plane_down, plane_right, plane_even}
use Rattle.lanes.proofs.planes.Planes.differs_from_word.Goals as goal

pub returns-then-y-eq0 : goal.returns-then-y-eq0
returns-then-y-eq0 c = λ same k b lk l.
    let p = c.args.self.now in
    let below = place_below p.words p.stride p.rows (c.args.x / 2) (c.args.y / 2) k c.requires.0 c.requires.1 lk in
    let h = rw c.deref.ensures.value at c.has_word_other_than.ensures in
    lane_in_word p p.odd.items c.args.x c.args.y k b _ 0 l (plane_odd p c.args.x c.args.y (omega arith) (omega arith))
    (omega (arith, below, p.odd.ok.0, p.odd_long)) (sym (h same k lk))

pub returns-else-y-eq0 : goal.returns-else-y-eq0
returns-else-y-eq0 c = λ same k b lk l.
    let p = c.args.self.now in
    let below = place_below p.words p.stride p.rows (c.args.x / 2) (c.args.y / 2) k c.requires.0 c.requires.1 lk in
    let h = rw c.deref-else-y-eq0.ensures.value at c.has_word_other_than-else-y-eq0.ensures in
    lane_in_word p p.down.items c.args.x c.args.y k b _ 0 l (plane_down p c.args.x c.args.y (omega arith) (omega arith))
    (omega (arith, below, p.down.ok.0, p.down_long)) (sym (h same k lk))

pub returns-then-y-eq0-2 : goal.returns-then-y-eq0-2
returns-then-y-eq0-2 c = λ same k b lk l.
    let p = c.args.self.now in
    let below = place_below p.words p.stride p.rows (c.args.x / 2) (c.args.y / 2) k c.requires.0 c.requires.1 lk in
    let h = rw c.deref-then-y-eq0-2.ensures.value at c.has_word_other_than-then-y-eq0-2.ensures in
    lane_in_word p p.right.items c.args.x c.args.y k b _ 0 l
    (plane_right p c.args.x c.args.y (omega arith) (omega arith)) (omega (arith, below, p.right.ok.0, p.right_long))
    (sym (h same k lk))

pub returns-else-y-eq0-2 : goal.returns-else-y-eq0-2
returns-else-y-eq0-2 c = λ same k b lk l.
    let p = c.args.self.now in
    let below = place_below p.words p.stride p.rows (c.args.x / 2) (c.args.y / 2) k c.requires.0 c.requires.1 lk in
    let h = rw c.deref-else-y-eq0-2.ensures.value at c.has_word_other_than-else-y-eq0-2.ensures in
    lane_in_word p p.even.items c.args.x c.args.y k b _ 0 l (plane_even p c.args.x c.args.y (omega arith) (omega arith))
    (omega (arith, below, p.even.ok.0, p.even_long)) (sym (h same k lk))
