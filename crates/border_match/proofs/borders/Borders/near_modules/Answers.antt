use Rattle.border_match.proofs.Imports.{Box2, ap, arith}
use Rattle.border_match.proofs.NearModules.{all_rows}
use Rattle.border_match.proofs.borders.Borders.near_modules.Goals as goal

pub returns : goal.returns
returns c =
    let b = c.args.self.now in
    let top = ap (λ (a : Box2). a.y) c.area-area.ensures.area in
    let high = ap (λ (a : Box2). a.h) c.area-area.ensures.area in
    let least = c.min-end.ensures in
    let end = c.loop-y-test.false in
    record {
      owners_listed = all_rows b c.loop-y.near.items c.loop-y.y c.requires
          (λ r from lt. omega (arith, top, high, least, end, from, lt)) c.loop-y.invariant.noted;
      numbers_exist = c.loop-y.invariant.below;
    }
