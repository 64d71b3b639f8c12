use Rattle.section_text.proofs.Imports.{arith}
use Rattle.section_text.proofs.Digits.{room}
use Rattle.section_text.proofs.number.read_digits.Goals as goal

pub overflow_mul-number : goal.overflow_mul-number
overflow_mul-number c = omega (arith, room c.loop-b.number c.loop-b.b-index c.loop-b.invariant.small (omega arith))

pub overflow_add-number : goal.overflow_add-number
overflow_add-number c = omega (arith, room c.loop-b.number c.loop-b.b-index c.loop-b.invariant.small (omega arith))
