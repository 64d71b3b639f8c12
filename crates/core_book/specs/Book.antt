-- A book: the reply to a finding, and the book after a filing or a closing
use Rattle.std.specs.Prelude.{◌≡◌, ℕ, ◌+◌, Bool, true, false, List, [], ◌∷◌, ◌++◌, length, replicate, Option, Some}
use Rattle.std.specs.Prelude.{None, is_some, slice_get, slice_index_or, slice_set}
use Rattle.std.specs.List.{count_by}
use Rattle.std.specs.Option.{option_eq}
use Rattle.module_job.specs.Equality.{same_job}
use Rattle.module_job.specs.Jobs.{JobView}
use Rattle.local_run.specs.Shown.{digest_of, number_of, job_of}
use Rattle.local_run.specs.declared.finding.Finding.{Finding}
use Rattle.core_book.specs.Replay.{reply_by_rule, replay, empty_replayed, has_number, AreRepliesByRule}
use Rattle.core_book.specs.declared.log_entry.LogEntry.{LogEntry}
use Rattle.core_book.specs.declared.log_entry.LogEntry.TheVariants.{Filed, Closing}
use Rattle.core_book.specs.declared.log_entry.Filing.{Filing}
use Rattle.core_book.specs.declared.reply.Reply.{Reply}
use Rattle.core_book.specs.declared.reply.Reply.TheVariants.{Accepted}

-- A book as contracts see it: the digest of its certificate, its jobs, and for each of their numbers the finding that
-- is held for it, or `None`. It also says whether the book is closed, and has an entry for each filing and each closing
-- so far.
pub record BookView : Type 0 where
  pub digest : List ℕ
  pub jobs : List JobView
  pub findings : List (Option Finding)
  pub closed : Bool
  pub history : List LogEntry

-- an open book in which nothing is held, without history
unfoldable pub new_book : List ℕ → List JobView → BookView
new_book digest jobs =
    record { digest = digest; jobs = jobs; findings = replicate (length jobs) None; closed = false; history = [] }

-- the finding that is held for a number
abbrev pub held_finding : BookView → ℕ → Option Finding
held_finding b number = slice_index_or b.findings number None

-- for how many numbers one is held
abbrev pub held_finding_count : BookView → ℕ
held_finding_count b = count_by is_some b.findings

-- whether this is the job of that number
unfoldable pub is_job_of : List JobView → ℕ → JobView → Bool
is_job_of jobs number job = option_eq same_job (slice_get jobs number) (Some job)

-- the reply to a finding: the first that applies
unfoldable pub reply_to : BookView → Finding → Reply
reply_to b f =
    reply_by_rule b.digest (length b.jobs) b.closed (is_some (held_finding b (number_of f))) (digest_of f) (number_of f)
    (is_job_of b.jobs (number_of f) (job_of f))

-- the entry of a filing
abbrev pub filing_of : BookView → Finding → Filing
filing_of b f = record {
  digest = digest_of f;
  number = number_of f;
  same = is_job_of b.jobs (number_of f) (job_of f);
  reply = reply_to b f;
}

-- what is held after a reply
unfoldable pub findings_after : List (Option Finding) → Finding → Reply → List (Option Finding)
findings_after held f Accepted = slice_set held (number_of f) (Some f)
findings_after held f _ = held

-- for how many numbers a finding is held after a reply, if one was held for n
abbrev pub accepted_count_after : ℕ → Reply → ℕ
accepted_count_after count Accepted = count + 1
accepted_count_after count _ = count

-- the book after a filing
abbrev pub after_filing : BookView → Finding → BookView
after_filing b f =
    record b
    { findings = findings_after b.findings f (reply_to b f); history = b.history ++ Filed (filing_of b f) ∷ [] }

-- the book after it is closed
abbrev pub after_closing : BookView → BookView
after_closing b = record b { closed = true; history = b.history ++ Closing ∷ [] }

-- the finding is for the book's digest, for this number and for the book's job of it
pub record BelongsToBook (b : BookView) (number : ℕ) (f : Finding) : Type 0 where
  pub digest : digest_of f ≡ b.digest
  pub number_is : number_of f ≡ number
  pub job : slice_get b.jobs number ≡ Some (job_of f)

-- a book has a place for each job, and each finding in it is its own
pub record IsBook (b : BookView) : Type 0 where
  pub places : length b.findings ≡ length b.jobs
  pub own : (number : ℕ) (f : Finding) → held_finding b number ≡ Some f → BelongsToBook b number f

-- The history replays to what the book is. Each stored reply is the one that the rule gives there. The numbers that
-- were accepted are those for which a finding is held, and as many. The book is closed where the history says so.
pub record IsHistoryReplayed (b : BookView) : Type 0 where
  pub due : AreRepliesByRule b.digest (length b.jobs) empty_replayed b.history
  pub accepted : (number : ℕ) → has_number (replay b.history).accepted number ≡ is_some (held_finding b number)
  pub count : length (replay b.history).accepted ≡ held_finding_count b
  pub closed_is : (replay b.history).closed ≡ b.closed
