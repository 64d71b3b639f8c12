use Rattle.module_box.proofs.Imports.{length, take}
use Rattle.module_box.proofs.Tilings.{IsTakenBy}
use Rattle.module_box.proofs.tile.owner_table.Given as goal

abbrev pub invariant-loop-number : goal.invariant-loop-number
invariant-loop-number l = IsTakenBy l.columns l.blocks (length l.boxes) (take l.number l.boxes) l.numbers.items
