use Rattle.core_book.proofs.Imports.{BookView, IsBookFilledSoFar, IsOpenFor, ap, arc_value, inr, map, new_book, subst}
use Rattle.core_book.proofs.Imports.{sym, ◌∙◌, ◌≡◌}
use Rattle.core_book.proofs.Fillings.{clones-same, new-open}
use Rattle.core_book.proofs.filling.fill.Goals.{then-not-own+in_ok-to_vec+in_ok-state, else-not-own}
use Rattle.core_book.proofs.filling.fill.Goals as goal

pub fill_open_book-requires : goal.fill_open_book-requires
fill_open_book-requires c =
    let digest = c.args.digest in
    let jobs = map arc_value c.args.jobs.now in
    elim c.if-not-own.branch [
      | then-not-own+in_ok-to_vec+in_ok-state w ↦
          let same = clones-same arc_value c.args.jobs.now w.in_ok-to_vec.field-0.items w.in_ok-to_vec.ensures.ok in
          record {
            open_for_jobs = new-open digest jobs c.if-not-own.state
                (w.state-is ∙ w.in_ok-state.ensures ∙ ap (new_book digest) same);
          }
      | else-not-own w ↦
          record {
            open_for_jobs = subst (IsOpenFor digest jobs) (sym w.state-is)
                (c.is_open_for-own.ensures.open_for_jobs w.if-not-own.false);
          }
    ]

pub returns-clause-replaced : goal.returns-clause-replaced
returns-clause-replaced c = λ other.
    let digest = c.args.digest in
    let jobs = map arc_value c.args.jobs.now in
    let after = c.fill_open_book.new.state in
    elim c.if-not-own.branch [
      | then-not-own+in_ok-to_vec+in_ok-state w ↦
          let same = clones-same arc_value c.args.jobs.now w.in_ok-to_vec.field-0.items w.in_ok-to_vec.ensures.ok in
          let is : c.if-not-own.state ≡ new_book digest jobs =
          w.state-is ∙ w.in_ok-state.ensures ∙ ap (new_book digest) same in
          inr (subst (λ (b : BookView). IsBookFilledSoFar b after) is c.fill_open_book.ensures.partly)
      | else-not-own w ↦ absurd (other (c.is_open_for-own.ensures.open_for_jobs w.if-not-own.false))
    ]
