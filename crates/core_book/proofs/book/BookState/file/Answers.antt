use Rattle.core_book.proofs.Imports.{Accepted, BookView, Filed, Filing, IsBook, IsHistoryReplayed, Some, []}
use Rattle.core_book.proofs.Imports.{after_filing, ap, arith, book_view, common_steps, filing_of, held_finding_count}
use Rattle.core_book.proofs.Imports.{reply_to, set, subst, sym, ◌++◌, ◌+◌, ◌∙◌, ◌∷◌, ◌≡◌}
use Rattle.core_book.proofs.Filings.{IsBook-filed, accepted-inside, held_finding_count-accepted}
use Rattle.core_book.proofs.Filings.{held_finding_count-filed, held_finding_count-other, left-accepted, left-other}
use Rattle.core_book.proofs.Replays.{IsHistoryReplayed-filed}
use Rattle.core_book.proofs.book.BookState.file.Goals.{After-push_reserved}
use Rattle.core_book.proofs.book.BookState.file.Goals as goal

-- the book by its fields, before the filing
abbrev book : After-push_reserved → BookView
book c = book_view c.self.inside

filing : (c : After-push_reserved) → c.filing_of-filing.result ≡ filing_of (book c) c.args.finding
filing c = c.filing_of-filing.ensures ∙ ap (λ (b : BookView). filing_of b c.args.finding) (sym c.self.view_is)

history : (c : After-push_reserved) →
    c.push_reserved.new.self.items ≡ (book c).history ++ Filed c.filing_of-filing.result ∷ []
history c = c.push_reserved.ensures.items
    ∙ ap (λ xs. xs ++ Filed c.filing_of-filing.result ∷ []) c.reserve.ensures.items

accepted : (c : After-push_reserved) → c.filing_of-filing.result.reply ≡ Accepted →
    reply_to (book c) c.args.finding ≡ Accepted
accepted c e = sym (ap (λ (x : Filing). x.reply) (filing c)) ∙ e

-- what is left where the finding is accepted, and where it is not
with_found : (c : After-push_reserved) → c.filing_of-filing.result.reply ≡ Accepted → record (book c) {
  findings = set (book c).findings c.filing_of-filing.result.number (Some c.args.finding);
  history = c.push_reserved.new.self.items;
} ≡ after_filing (book c) c.args.finding
with_found c e = left-accepted (book c) c.args.finding c.filing_of-filing.result c.push_reserved.new.self.items
    (filing c) (history c) e

without : (c : After-push_reserved) → (c.filing_of-filing.result.reply ≡ Accepted → ⊥) →
    record (book c) { history = c.push_reserved.new.self.items } ≡ after_filing (book c) c.args.finding
without c other = left-other (book c) c.args.finding c.filing_of-filing.result c.push_reserved.new.self.items (filing c)
    (history c) other

refused : (c : After-push_reserved) → (c.filing_of-filing.result.reply ≡ Accepted → ⊥) →
    reply_to (book c) c.args.finding ≡ Accepted → ⊥
refused c other e = other (ap (λ (x : Filing). x.reply) (filing c) ∙ e)

pub invariant_of-self-in_default : goal.invariant_of-self-in_default
invariant_of-self-in_default c =
    let d = (goal.at.invariant_of-self-in_default c).After-push_reserved in
    let is = c.self.invariant in
    let left = sym (without d c.in_default.not-Accepted) in
    record {
      book = subst IsBook left (IsBook-filed (book d) c.args.finding is.book);
      replayed = subst IsHistoryReplayed left (IsHistoryReplayed-filed (book d) c.args.finding is.book is.replayed);
      counted = is.counted ∙ sym (held_finding_count-other (book d) c.args.finding
          (refused d c.in_default.not-Accepted))
          ∙ ap held_finding_count left;
    }

pub returns-in_default-clause-reply : goal.returns-in_default-clause-reply
returns-in_default-clause-reply c = ap (λ (x : Filing). x.reply) c.filing_of-filing.ensures

pub returns-in_default-clause-after : goal.returns-in_default-clause-after
returns-in_default-clause-after c =
    grind (arith, common_steps, without, c.in_default.not-Accepted, c.args.finding, c.self.view_is)

pub returns-in_default-clause-counted : goal.returns-in_default-clause-counted
returns-in_default-clause-counted c = grind (arith, common_steps, held_finding_count-filed, without)

pub index_mut-requires : goal.index_mut-requires
index_mut-requires c = grind (arith, common_steps, accepted-inside, accepted, filing)

pub invariant_of-self-2 : goal.invariant_of-self-2
invariant_of-self-2 c =
    let d = (goal.at.invariant_of-self-2 c).After-push_reserved in
    let is = c.self.invariant in
    let left = sym (with_found d c.in-Accepted.is) in
    record {
      book = subst IsBook left (IsBook-filed (book d) c.args.finding is.book);
      replayed = subst IsHistoryReplayed left (IsHistoryReplayed-filed (book d) c.args.finding is.book is.replayed);
      counted = ap (λ n. n + 1) is.counted
          ∙ sym (held_finding_count-accepted (book d) c.args.finding is.book (accepted d c.in-Accepted.is))
          ∙ ap held_finding_count left;
    }

pub returns-clause-after : goal.returns-clause-after
returns-clause-after c = grind (arith, common_steps, with_found, c.in-Accepted.is, c.args.finding, c.self.view_is)

pub returns-clause-counted : goal.returns-clause-counted
returns-clause-counted c =
    let d = (goal.at.returns-clause-counted c).After-push_reserved in
    held_finding_count-filed (book d) c.args.self.now _ c.args.finding _ c.self.invariant.book c.self.view_is
    (ap (λ (x : Filing). x.reply) c.filing_of-filing.ensures)
    (with_found d c.in-Accepted.is ∙ ap (λ (b : BookView). after_filing b c.args.finding) c.self.view_is)
