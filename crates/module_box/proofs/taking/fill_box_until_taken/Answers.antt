use Rattle.module_box.proofs.Imports.{arith}
use Rattle.module_box.proofs.Takings.{row_goes_on, row_stops}
use Rattle.module_box.proofs.taking.fill_box_until_taken.Goals as goal

pub returns-then-stop-end : goal.returns-then-stop-end
returns-then-stop-end c =
    row_stops c.args.columns c.args.area c.args.free c.args.number c.loop-row.row _ c.fill_row_until_taken-stop.result
    c.args.table.now
    c.loop-row.table c.fill_row_until_taken-stop.new.table c.requires.even c.requires.fits
    c.loop-row.auto.row c.loop-row-test.true c.loop-row.invariant (omega (arith, c.min-end.ensures))
    (omega (arith, c.min-end.ensures)) c.fill_row_until_taken-stop.ensures c.if-stop-end.true

pub loop-row-preserved : goal.loop-row-preserved
loop-row-preserved c =
    row_goes_on c.args.columns c.args.area c.args.free c.args.number c.loop-row.row _ c.fill_row_until_taken-stop.result
    c.args.table.now c.loop-row.table c.fill_row_until_taken-stop.new.table c.requires.even c.requires.fits
    c.loop-row.auto.row c.loop-row-test.true c.loop-row.invariant c.min-end.ensures c.fill_row_until_taken-stop.ensures
    c.if-stop-end.false
