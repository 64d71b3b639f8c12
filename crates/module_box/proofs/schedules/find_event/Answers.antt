use Rattle.module_box.proofs.Imports.{arith, common_steps, length, slice_get-get_or, sym, ◌+◌, ◌-◌, ◌/◌, ◌<◌}
use Rattle.module_box.proofs.Rising.{drop_high, event_found, event_none, is_first, moment_exact, moment_total}
use Rattle.module_box.proofs.schedules.find_event.Goals as goal

pub loop-low-preserved-in-Less : goal.loop-low-preserved-in-Less
loop-low-preserved-in-Less c = grind (arith, common_steps, moment_total, slice_get-get_or)

pub loop-low-preserved : goal.loop-low-preserved
loop-low-preserved c = grind (arith, common_steps, drop_high, moment_total, slice_get-get_or)

pub returns-in-Equal : goal.returns-in-Equal
returns-in-Equal c =
    let m = c.loop-low.low + (c.loop-low.high - c.loop-low.low) / 2 in
    let within : m < length c.args.events.now = omega (arith, c.loop-low.invariant.0) in
    let got = slice_get-get_or c.args.events.now m _ within in
    let same = moment_exact _ _ (sym c.in-Equal.ensures) in
    sym (event_found c.args.events.now m _ c.args.moment same got
    (λ i b lt e. is_first _ _ _ m _ moment_total c.requires got i b lt e))

pub returns : goal.returns
returns c = grind (arith, common_steps, event_none, moment_total)
