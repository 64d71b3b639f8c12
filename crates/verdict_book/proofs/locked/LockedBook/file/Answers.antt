use Rattle.lemmas.proofs.Common.{[], ◌+◌, ◌∙◌, ◌∷◌, ◌≡◌, ap, arith, false, length, length-append, sym}
use Rattle.core_book.specs.Book.{BookView, held_finding_count, after_filing, accepted_count_after, filing_of}
use Rattle.core_book.specs.Replay.{has_closing}
use Rattle.core_book.specs.declared.log_entry.LogEntry.TheVariants.{Filed}
use Rattle.core_book.proofs.BookLaws.{closed-answers-closed}
use Rattle.core_book.proofs.Filings.{accepted_count_after-other}
use Rattle.core_book.proofs.Replays.{has_closing-push}
use Rattle.verdict_book.specs.Counts.{Counts, counts_after_reply}
use Rattle.verdict_book.proofs.Ruled.{ruled_by}
use Rattle.verdict_book.proofs.locked.LockedBook.file.Goals as goal

pub invariant_of-self-in-Accepted : goal.invariant_of-self-in-Accepted
invariant_of-self-in-Accepted g c =
    let old = c.args.self.now in
    let after : c.file.new.self ≡ after_filing old.state c.args.finding = c.in_ok-reply.ensures.after in
    let entries : length c.file.new.self.history ≡ length old.state.history + 1 =
    ap (λ (b : BookView). length b.history) after
    ∙ length-append old.state.history (Filed (filing_of old.state c.args.finding) ∷ []) in
    let one : held_finding_count c.file.new.self ≡ held_finding_count old.state + 1 =
    c.in_ok-reply.ensures.counted ∙ ap (accepted_count_after (held_finding_count old.state)) c.in-Accepted.is in
    record {
      own_digest = ap (λ (b : BookView). b.digest) after ∙ old.own_digest;
      own_jobs = ap (λ (b : BookView). b.jobs) after ∙ old.own_jobs;
      open_book = ap (λ (b : BookView). b.closed) after ∙ old.open_book;
      no_closing = ap (λ (b : BookView). has_closing b.history) after
          ∙ has_closing-push old.state.history (filing_of old.state c.args.finding) ∙ old.no_closing;
      filed = omega (arith, entries, old.filed, c.add.ensures.total, c.audit.ensures.total);
      accepted = omega (arith, one, old.accepted, c.add-in-Accepted.ensures.total, c.audit-2.ensures.total);
      few = omega (arith, one, entries, old.few);
    }

pub returns-in-Accepted-clause-counted : goal.returns-in-Accepted-clause-counted
returns-in-Accepted-clause-counted g c =
    let mine = c.mine.inside in
    (λ i. record { filed = mine.filed + 1; accepted = accepted_count_after mine.accepted (sym c.in-Accepted.is i) })
    ∙ ap (λ (m : Counts). counts_after_reply m c.in_ok-reply.reply) c.mine.view_is

pub invariant_of-self-in_default : goal.invariant_of-self-in_default
invariant_of-self-in_default g c =
    let old = c.args.self.now in
    let after : c.file.new.self ≡ after_filing old.state c.args.finding = c.in_ok-reply.ensures.after in
    let entries : length c.file.new.self.history ≡ length old.state.history + 1 =
    ap (λ (b : BookView). length b.history) after
    ∙ length-append old.state.history (Filed (filing_of old.state c.args.finding) ∷ []) in
    let same : held_finding_count c.file.new.self ≡ held_finding_count old.state =
    c.in_ok-reply.ensures.counted
    ∙ accepted_count_after-other (held_finding_count old.state) c.in_ok-reply.reply c.in_default.not-Accepted in
    record {
      own_digest = ap (λ (b : BookView). b.digest) after ∙ old.own_digest;
      own_jobs = ap (λ (b : BookView). b.jobs) after ∙ old.own_jobs;
      open_book = ap (λ (b : BookView). b.closed) after ∙ old.open_book;
      no_closing = ap (λ (b : BookView). has_closing b.history) after
          ∙ has_closing-push old.state.history (filing_of old.state c.args.finding) ∙ old.no_closing;
      filed = omega (arith, entries, old.filed, c.add.ensures.total, c.audit.ensures.total);
      accepted = omega (arith, same, old.accepted, c.audit-2.ensures.total);
      few = omega (arith, same, entries, old.few);
    }

pub returns-clause-not_closed : goal.returns-clause-not_closed
returns-clause-not_closed g c is =
    let closed = (closed-answers-closed c.args.self.now.state c.args.finding).0
    (sym c.in_ok-reply.ensures.reply ∙ is) in
    let still_open : c.args.self.now.state.closed ≡ false = c.args.self.now.open_book in
    absurd cc

pub returns-clause-counted : goal.returns-clause-counted
returns-clause-counted g c =
    let mine = c.mine.inside in
    (λ i. record {
      filed = mine.filed + 1;
      accepted = sym (accepted_count_after-other mine.accepted c.in_ok-reply.reply c.in_default.not-Accepted) i;
    }) ∙ ap (λ (m : Counts). counts_after_reply m c.in_ok-reply.reply) c.mine.view_is

pub returns-in-Accepted-clause-of_book : goal.returns-in-Accepted-clause-of_book
returns-in-Accepted-clause-of_book g c =
    let old = c.args.self.now in
    ruled_by old.state c.args.finding _ _ _ c.in_ok-reply.ensures.reply old.own_digest old.own_jobs old.open_book

pub returns-clause-of_book : goal.returns-clause-of_book
returns-clause-of_book g c =
    let old = c.args.self.now in
    ruled_by old.state c.args.finding _ _ _ c.in_ok-reply.ensures.reply old.own_digest old.own_jobs old.open_book
