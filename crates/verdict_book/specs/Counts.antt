-- The counts of a share
use Rattle.std.specs.Prelude.{ℕ, ◌+◌}
use Rattle.core_book.specs.Book.{accepted_count_after}
use Rattle.core_book.specs.declared.reply.Reply.{Reply}

-- the replies, and those of them that were `Accepted`
pub record Counts : Type 0 where
  pub filed : ℕ
  pub accepted : ℕ

-- the counts of a share that was given no reply
abbrev pub no_counts : Counts
no_counts = record { filed = 0; accepted = 0 }

-- after one reply more
abbrev pub counts_after_reply : Counts → Reply → Counts
counts_after_reply c r = record { filed = c.filed + 1; accepted = accepted_count_after c.accepted r }
