use Rattle.border_match.proofs.Imports.{Box2, ap, arith, common_steps, rules}
use Rattle.border_match.proofs.Cells.{area_at, in_whole}
use Rattle.border_match.proofs.NearModules.{all_columns, columns_more}
use Rattle.border_match.proofs.borders.Borders.add_other_owners_in_row.Goals as goal

pub add_other_owner-requires-clause-cell_inside : goal.add_other_owner-requires-clause-cell_inside
add_other_owner-requires-clause-cell_inside c = grind (arith, common_steps, in_whole)

pub loop-x-smaller : goal.loop-x-smaller
loop-x-smaller c = grind (arith, common_steps, area_at)

pub loop-x-preserved : goal.loop-x-preserved
loop-x-preserved c =
    let owner = c.in_ok-owner.owner in
    let now = c.in_ok-owner.ensures in
    let before = c.loop-x.invariant in
    let at = area_at owner c.loop-x.x c.args.y _ _ (search rules) (search rules) now.holds in
    let least = c.min-next.ensures in
    record {
      noted = columns_more c.args.self.now c.loop-x.near.items c.add_other_owner.new.near.items c.args.y c.loop-x.next
          c.min-next.result c.loop-x.x owner _ _ (search rules) (search rules) now.holds (omega (arith, least))
          (omega (arith, least)) before.noted now.numbers_kept now.owners_listed;
      after = omega (arith, least, before.after, at.1.1);
      kept = λ k h. now.numbers_kept k (before.kept k h);
      below = now.numbers_exist;
    }

pub returns : goal.returns
returns c =
    let b = c.args.self.now in
    let left = ap (λ (a : Box2). a.x) c.area-area.ensures.area in
    let wide = ap (λ (a : Box2). a.w) c.area-area.ensures.area in
    let least = c.min-end.ensures in
    let end = c.loop-x-test.false in
    let all = c.loop-x.invariant in
    record {
      owners_listed = all_columns b c.loop-x.near.items c.args.y c.loop-x.next c.loop-x.x c.requires.borders_ready
          (λ d from lt. omega (arith, left, wide, least, end, from, lt)) all.noted;
      next_row_later = all.after;
      numbers_kept = all.kept;
      numbers_exist = all.below;
    }
