use Rattle.border_match.proofs.Least.{better_then, better_for}
use Rattle.border_match.proofs.Stars.{star_all, star_far, star_step}
use Rattle.border_match.proofs.borders.Borders.least_with_faults_at_stars.Goals as goal

pub returns : goal.returns
returns c = better_for _ _ _ _ _ c.loop-place.invariant
    (λ h f r. star_all _ _ c.args.self.now c.args.stars.now c.loop-place.place h c.loop-place-test.false r)

pub loop-place-preserved : goal.loop-place-preserved
loop-place-preserved c = better_then _ _ _ _ _ _ _ c.loop-place.invariant c.least_with_star_fault_at-least.ensures
    (λ h f r. star_step c.args.corner c.args.self.now c.args.stars.now c.loop-place.place _ c.in-Some.cell h
    c.loop-place-test.true
    c.in-Some.ensures.cell_moved r)

pub loop-place-preserved-in_default : goal.loop-place-preserved-in_default
loop-place-preserved-in_default c = better_for _ _ _ _ _ c.loop-place.invariant
    (λ h f r. star_far c.area-area.result c.args.corner c.args.self.now c.args.stars.now c.loop-place.place _ h
    c.area-area.ensures.area c.loop-place-test.true c.in_default.ensures.far_if_none f r)
