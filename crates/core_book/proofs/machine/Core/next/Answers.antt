use Rattle.core_book.proofs.Imports.{arith, length, length-map, lists_of, ◌≡◌}
use Rattle.core_book.proofs.CoreSteps.{next-few}
use Rattle.core_book.proofs.machine.Core.next.Goals as goal

pub returns-clause-at_most : goal.returns-clause-at_most
returns-clause-at_most c =
    let is = c.self.invariant in
    let seats : length (lists_of c.self.inside.draws.items) ≡ length c.self.inside.draws.items =
    length-map c.self.inside.draws.items (λ v. v.items) in
    omega (arith, next-few _ is.core, is.numbers, is.seats, seats)
