-- The fields of a book, and its view
use Rattle.std.specs.Prelude.{◌≡◌, map}
use Rattle.std.specs.Arc.{arc_value}
use Rattle.core_book.specs.Book.{BookView, IsBook, IsHistoryReplayed, held_finding_count}
use Rattle.core_book.specs.declared.book.BookState.TheInside.{Inside}

-- the view of a book, from its fields
abbrev pub book_view : Inside → BookView
book_view a = record {
  digest = a.digest;
  jobs = map arc_value a.jobs.items;
  findings = a.found.items;
  closed = a.closed;
  history = a.history.items;
}

-- the fields of every book: a book to which its history replays, with the count of its findings
pub record AreBookFields (a : Inside) : Type 0 where
  pub book : IsBook (book_view a)
  pub replayed : IsHistoryReplayed (book_view a)
  pub counted : a.accepted ≡ held_finding_count (book_view a)
