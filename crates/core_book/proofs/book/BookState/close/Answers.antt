use Rattle.core_book.proofs.Imports.{BookView, IsBook, IsHistoryReplayed, after_closing, book_view, subst, sym, true}
use Rattle.core_book.proofs.Imports.{◌≡◌}
use Rattle.core_book.proofs.Filings.{IsBook-closed}
use Rattle.core_book.proofs.Replays.{IsHistoryReplayed-closed}
use Rattle.core_book.proofs.book.BookState.close.Goals as goal

pub invariant_of-self-2 : goal.invariant_of-self-2
invariant_of-self-2 c =
    let b : BookView = book_view c.self.inside in
    let left : after_closing b ≡ record b { closed = true; history = c.push.new.self.items } =
    (λ i. record b { closed = true; history = sym c.in_ok-push.ensures.items i }) in
    let is = c.self.invariant in
    record {
      book = subst IsBook left (IsBook-closed b is.book);
      replayed = subst IsHistoryReplayed left (IsHistoryReplayed-closed b is.replayed);
      counted = is.counted;
    }
