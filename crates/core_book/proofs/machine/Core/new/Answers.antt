use Rattle.core_book.proofs.Imports.{IsCore, [], ap, arc_value, arith, length, length-map, length-replicate, lists_of}
use Rattle.core_book.proofs.Imports.{map, new_book, new_core, rules, subst, sym, ◌∙◌, ◌≡◌, ◌≤◌}
use Rattle.core_book.proofs.CoreSteps.{new-core}
use Rattle.core_book.proofs.machine.Core.new.Goals.{In_ok-book}
use Rattle.core_book.proofs.machine.Core.new.Goals as goal
use Rattle.lemmas.specs.Bounds.{max_modules}

view : (c : In_ok-book) → new_core c.args.digest (map arc_value c.args.jobs.items) c.args.seats
    ≡ record { next = 0; draws = lists_of c.in_ok-draws.draws.items; book = c.in_ok-book.book }
unfolding new_core
view c = (λ i. record { next = 0; draws = sym c.in_ok-draws.ensures i; book = sym c.in_ok-book.ensures i })

jobs : (c : In_ok-book) → length (new_book c.args.digest (map arc_value c.args.jobs.items)).jobs
    ≡ length c.args.jobs.items
unfolding new_book
jobs c = length-map c.args.jobs.items arc_value

pub invariant_of-result : goal.invariant_of-result
invariant_of-result c =
    let d = (goal.at.invariant_of-result c).In_ok-book in
    let seats : length (lists_of c.in_ok-draws.draws.items) ≡ length c.in_ok-draws.draws.items =
    length-map c.in_ok-draws.draws.items (λ v. v.items) in
    let drawn : length (lists_of c.in_ok-draws.draws.items) ≡ c.args.seats =
    ap length c.in_ok-draws.ensures ∙ length-replicate c.args.seats [] in
    let numbers : length c.in_ok-book.book.jobs ≡ length c.args.jobs.items =
    ap (λ b. length b.jobs) c.in_ok-book.ensures ∙ jobs d in
    let few : length c.args.jobs.items ≤ max_modules = search rules in
    record {
      core = subst IsCore (view d) (new-core c.args.digest (map arc_value c.args.jobs.items) c.args.seats);
      numbers = omega (arith, numbers, few);
      seats = omega (arith, seats, drawn, c.requires.seats);
    }

pub returns : goal.returns
returns c = sym (view (goal.at.returns c).In_ok-book)
