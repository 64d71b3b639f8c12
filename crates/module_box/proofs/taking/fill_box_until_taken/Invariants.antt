use Rattle.module_box.proofs.Imports.{◌*◌}
use Rattle.module_box.proofs.Takings.{TakesRows}
use Rattle.module_box.proofs.taking.fill_box_until_taken.Given as goal

abbrev pub invariant-loop-row : goal.invariant-loop-row
invariant-loop-row l = TakesRows l.columns l.fn.area l.free l.number (l.row * l.columns) l.initial.table l.table
