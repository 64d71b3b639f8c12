use Rattle.core_book.proofs.Imports.{BookView, CoreView, IsCore, after_filing, core_view, length, lists_of, subst, sym}
use Rattle.core_book.proofs.Imports.{◌≡◌, ◌≤◌}
use Rattle.core_book.specs.declared.machine.Event.TheVariants.{File}
use Rattle.core_book.proofs.CoreSteps.{event-core}
use Rattle.core_book.proofs.machine.Core.file.Goals as goal
use Rattle.lemmas.specs.Bounds.{max_modules}

pub invariant_of-self-2 : goal.invariant_of-self-2
invariant_of-self-2 c =
    let is = c.self.invariant in
    let after : c.file.new.self ≡ after_filing c.self.inside.book c.args.finding = c.in_ok-reply.ensures.after in
    let with_book : BookView → CoreView =
    λ b. record { next = c.self.inside.next; draws = lists_of c.self.inside.draws.items; book = b } in
    record {
      core = subst (λ (b : BookView). IsCore (with_book b)) (sym after)
          (event-core (core_view c.self.inside) (File c.args.finding) tt is.core);
      numbers = subst (λ (b : BookView). length b.jobs ≤ max_modules) (sym after) is.numbers;
      seats = is.seats;
    }
