use Rattle.border_match.proofs.Imports.{arc_value, get_or, refl}
use Rattle.border_match.proofs.Cells.{job_at}
use Rattle.border_match.proofs.Least.{better_then, better_for}
use Rattle.border_match.proofs.Stars.{modules_step, star_covered}
use Rattle.border_match.proofs.borders.Borders.least_with_star_faults.Goals as goal

pub loop-number-preserved : goal.loop-number-preserved
loop-number-preserved c =
    let b = c.args.self.now in
    let near = c.args.near.now in
    let number = get_or near c.loop-number.number-index 0 in
    let owner = c.deref.result.now in
    let got = job_at arc_value b.jobs.now number _ owner
    (c.requires.numbers_exist c.loop-number.number-index 0 c.loop-number-test.true) c.deref.ensures in
    better_then _ _ _ _ _ _ _ c.loop-number.invariant c.least_with_stars_of_module-least-in-loop-number.ensures
    (λ h f r. modules_step b near c.loop-number.number-index number 0 owner h c.loop-number-test.true refl got r)

pub returns : goal.returns
returns c =
    let b = c.args.self.now in
    better_for _ _ _ _ _ c.loop-number.invariant
    (λ h f d. star_covered b c.args.near.now h c.loop-number.number-index c.requires.borders_ready
    c.requires.owners_listed
    c.loop-number-test.false f d)
