-- The replies that a finding may get
use Rattle.std.specs.Prelude.{◌≡◌, ℕ, Bool, false, List, length}
use Rattle.module_job.specs.Jobs.{JobView}
use Rattle.core_book.specs.Book.{is_job_of}
use Rattle.core_book.specs.Replay.{reply_by_rule}
use Rattle.core_book.specs.declared.reply.Reply.{Reply}

-- The reply of an open book with this digest and these jobs to a finding of another digest, number and job. `taken`
-- says whether one is held for the number already.
pub record IsReplyOf (own : List ℕ) (jobs : List JobView) (digest : List ℕ) (number : ℕ) (job : JobView)
    (reply : Reply) : Type 0 where
  pub taken : Bool
  pub ruled : reply ≡ reply_by_rule own (length jobs) false taken digest number (is_job_of jobs number job)
