use Rattle.module_box.proofs.Imports.{AreFirstBoxesInside}
use Rattle.module_box.proofs.tile.first_box_outside.Given as goal

abbrev pub invariant-loop-number : goal.invariant-loop-number
invariant-loop-number l = AreFirstBoxesInside l.width l.height l.number l.boxes
