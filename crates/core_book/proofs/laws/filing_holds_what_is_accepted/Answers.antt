use Rattle.core_book.proofs.BookLaws.{holds-what_is_accepted, holds-nothing_else, keeps-what_is_held, stays-book}
use Rattle.core_book.proofs.laws.filing_holds_what_is_accepted.Goals as goal

pub returns : goal.returns
returns c = record {
  accepted = holds-what_is_accepted;
  keeps_findings = keeps-what_is_held;
  nothing_else = holds-nothing_else;
  book = stays-book;
}
