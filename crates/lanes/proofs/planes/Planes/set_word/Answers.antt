use Rattle.lanes.proofs.Imports.{arith, refl, ℕ, ◌%◌, ◌/◌, ◌≡◌, ◌≢◌}
use Rattle.lanes.proofs.LaneLemmas.{place_below}
use Rattle.lanes.proofs.PlaneWords.{sets_odd, sets_down, sets_right, sets_even}
use Rattle.lanes.proofs.planes.Planes.set_word.Goals as goal

odd_row : (y : ℕ) → y % 2 ≢ 0 → y % 2 ≡ 1
odd_row y odd = omega (arith, odd)

pub returns-then-y-eq0-clause-word_set : goal.returns-then-y-eq0-clause-word_set
returns-then-y-eq0-clause-word_set c =
    let p = c.args.self.now in
    let below = place_below p.words p.stride p.rows (c.args.x / 2)
    (c.args.y / 2) c.args.k c.requires.0 c.requires.1 c.requires.2 in
    sets_odd p _ c.args.x c.args.y c.args.k c.args.word refl refl c.requires.0 c.requires.2
    (omega (arith, below, p.odd.ok.0, p.odd_long)) (omega arith) (omega arith) refl refl refl refl

pub returns-else-y-eq0-clause-word_set : goal.returns-else-y-eq0-clause-word_set
returns-else-y-eq0-clause-word_set c =
    let p = c.args.self.now in
    let below = place_below p.words p.stride p.rows (c.args.x / 2)
    (c.args.y / 2) c.args.k c.requires.0 c.requires.1 c.requires.2 in
    sets_down p _ c.args.x c.args.y c.args.k c.args.word refl refl c.requires.0 c.requires.2
    (omega (arith, below, p.down.ok.0, p.down_long)) (omega arith) (omega arith) refl refl refl refl

pub returns-then-y-eq0-2-clause-word_set : goal.returns-then-y-eq0-2-clause-word_set
returns-then-y-eq0-2-clause-word_set c =
    let p = c.args.self.now in
    let below = place_below p.words p.stride p.rows (c.args.x / 2)
    (c.args.y / 2) c.args.k c.requires.0 c.requires.1 c.requires.2 in
    sets_right p _ c.args.x c.args.y c.args.k c.args.word refl refl c.requires.0 c.requires.2
    (omega (arith, below, p.right.ok.0, p.right_long)) (omega arith) (omega arith) refl refl refl refl

pub returns-else-y-eq0-2-clause-word_set : goal.returns-else-y-eq0-2-clause-word_set
returns-else-y-eq0-2-clause-word_set c =
    let p = c.args.self.now in
    let below = place_below p.words p.stride p.rows (c.args.x / 2)
    (c.args.y / 2) c.args.k c.requires.0 c.requires.1 c.requires.2 in
    sets_even p _ c.args.x c.args.y c.args.k c.args.word refl refl c.requires.0 c.requires.2
    (omega (arith, below, p.even.ok.0, p.even_long)) (omega arith) (omega arith) refl refl refl refl
