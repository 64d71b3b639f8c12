use Rattle.lemmas.proofs.Common.{◌+◌, ◌∙◌, ◌≡◌, None, Some, ap, arith, inl, inr, length, refl, subst, sym}
use Rattle.lemmas.proofs.Common.{arc_value, length-map, slice_get_cases}
use Rattle.std.specs.Option.{option_copied}
use Rattle.core_book.specs.Book.{held_finding}
use Rattle.core_book.proofs.HeldJobs.{AreFaultsBelow, one-more}
use Rattle.audit_core.proofs.concluding.faults_in_full_book.Goals as goal

pub loop-number-preserved : goal.loop-number-preserved
loop-number-preserved c =
    let b = c.args.book.now in
    let own = c.in-Some.ensures.finding_is_own in
    subst (AreFaultsBelow b b.jobs (c.loop-number.number + 1)) (sym c.in_ok-push-in-Some.ensures.items)
    (one-more b b.jobs c.loop-number.number c.loop-number.faults.items _ c.in-Some.finding.now c.least_faults_of.result
    c.loop-number.invariant own.job (sym c.in-Some.ensures.held) refl c.least_faults_of.ensures)

pub unreachable-requires : goal.unreachable-requires
unreachable-requires c =
    let b = c.args.book.now in
    let none : held_finding b c.loop-number.number ≡ None = sym c.found.ensures.held ∙ ap option_copied c.in-None.is in
    let count : length c.jobs-count.result.now ≡ length b.jobs =
    sym (length-map c.jobs-count.result.now arc_value) ∙ ap length c.jobs-count.ensures in
    elim (slice_get_cases b.jobs c.loop-number.number).1 [
      | inl there ↦
          let held = c.requires c.loop-number.number there.0 there.1 there.2 in
          let never : Some held.finding ≡ None = sym held.held ∙ none in
          cc
      | inr past ↦ absurd (omega (arith, count, past.0, c.loop-number-test.true))
    ]
