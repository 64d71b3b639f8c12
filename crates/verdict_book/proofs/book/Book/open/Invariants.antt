use Rattle.lemmas.proofs.Common.{◌+◌, ◌≡◌, replicate}
use Rattle.verdict_book.specs.Counts.{no_counts}
use Rattle.verdict_book.proofs.book.Book.open.Given as goal

abbrev pub invariant-loop-share : goal.invariant-loop-share
invariant-loop-share g l = record {
  filings : l.all_filings.parts + l._share ≡ l.shares;
  no_filings : l.all_filings.amount ≡ 0;
  acceptances : l.all_acceptances.parts + l._share ≡ l.shares;
  no_acceptances : l.all_acceptances.amount ≡ 0;
  shares : l.parts.items ≡ replicate l._share no_counts;
}
