-- The book is full when it is closed.
use Rattle.check_main.proofs.auditing.fill_and_close.Goals as goal

pub returns-clause-completed : goal.returns-clause-completed
returns-clause-completed c =
    record {
      full = c.fill_open_book.new.state;
      is_full = c.in_ok-fill_open_book.ensures.full;
      filled = c.fill_open_book.ensures.partly;
      closed = c.in_ok-close.ensures.after;
    }
