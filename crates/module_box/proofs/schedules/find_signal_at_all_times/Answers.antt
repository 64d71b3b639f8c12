use Rattle.module_box.proofs.Imports.{arith, common_steps, length, slice_get-get_or, sym, ◌+◌, ◌-◌, ◌/◌, ◌<◌}
use Rattle.bbm_rule.proofs.CellOrder.{cell_total, cell_exact}
use Rattle.module_box.proofs.Rising.{all_times_found, all_times_none, drop_high, is_first}
use Rattle.module_box.proofs.schedules.find_signal_at_all_times.Goals as goal

pub loop-low-preserved-in-Less : goal.loop-low-preserved-in-Less
loop-low-preserved-in-Less c = grind (arith, common_steps, cell_total, slice_get-get_or)

pub loop-low-preserved : goal.loop-low-preserved
loop-low-preserved c = grind (arith, common_steps, drop_high, cell_total, slice_get-get_or)

pub returns-in-Equal : goal.returns-in-Equal
returns-in-Equal c =
    let m = c.loop-low.low + (c.loop-low.high - c.loop-low.low) / 2 in
    let within : m < length c.args.all_times.now = omega (arith, c.loop-low.invariant.0) in
    let got = slice_get-get_or c.args.all_times.now m _ within in
    let same = cell_exact _ _ (sym c.in-Equal.ensures) in
    sym (all_times_found c.args.all_times.now m _ c.args.cell same got
    (λ i b lt e. is_first _ _ _ m _ cell_total c.requires got i b lt e))

pub returns : goal.returns
returns c = grind (arith, common_steps, all_times_none, cell_total)
