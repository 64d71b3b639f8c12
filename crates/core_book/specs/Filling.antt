-- Books that are filled up: each number without a finding gets one, in order
use Rattle.std.specs.Prelude.{◌≡◌, ℕ, zero, suc, ◌<◌, ◌≤◌, ◌⊎◌, true, false, if◌then◌else◌, List, [], ◌∷◌, ◌++◌, length}
use Rattle.std.specs.Prelude.{map, Some, IsSome, is_some, ◌+◌, ◌-◌, ◌^◌, ◌==◌, slice_index}
use Rattle.module_job.specs.Groups.{AreGroups}
use Rattle.module_job.specs.Jobs.{JobView}
use Rattle.module_job.specs.Shapes.{ShapeView, shape_of}
use Rattle.local_run.specs.Shown.{job_of, number_of}
use Rattle.local_run.specs.declared.finding.Finding.{Finding}
use Rattle.core_book.specs.Book.{BookView, IsHistoryReplayed, after_filing, held_finding, held_finding_count, reply_to}
use Rattle.core_book.specs.Verdicts.{AreFindingsHeldBelow}
use Rattle.core_book.specs.declared.log_entry.LogEntry.{LogEntry}
use Rattle.core_book.specs.declared.log_entry.LogEntry.TheVariants.{Filed}
use Rattle.core_book.specs.declared.reply.Reply.TheVariants.{Accepted}

-- the book is open, and of this digest and these jobs
pub record IsOpenFor (digest : List ℕ) (jobs : List JobView) (b : BookView) : Type 0 where
  pub still_open : b.closed ≡ false
  pub digest_is : b.digest ≡ digest
  pub jobs_are : b.jobs ≡ jobs

-- A book that is open for this digest and these jobs, to which its history replays, and which holds a finding of each
-- job. As many findings were accepted as there are jobs.
pub record IsFullBook (digest : List ℕ) (jobs : List JobView) (b : BookView) : Type 0 where
  pub is_open : IsOpenFor digest jobs b
  pub replays : IsHistoryReplayed b
  pub all_held : AreFindingsHeldBelow b jobs (length jobs)
  pub all_accepted : held_finding_count b ≡ length jobs

-- the numbers below this one for which the book holds nothing, in their order
abbrev pub missing_numbers_below : BookView → ℕ → List ℕ
missing_numbers_below b zero = []
missing_numbers_below b (suc n) = missing_numbers_below b n ++ (if is_some (held_finding b n) then [] else n ∷ [])

-- the entry of a finding of this number that the book accepts
abbrev pub accepted_entry : List ℕ → ℕ → LogEntry
accepted_entry digest number = Filed (record { digest = digest; number = number; same = true; reply = Accepted })

-- The second book is the first one after a finding was filed for each number below this one that lacked one, in order,
-- and each was accepted: nothing else was filed, and what was held is held still.
pub record IsBookFilledBelow (b c : BookView) (below : ℕ) : Type 0 where
  pub digest_stays : c.digest ≡ b.digest
  pub jobs_stay : c.jobs ≡ b.jobs
  pub closed_stays : c.closed ≡ b.closed
  pub history_grows : c.history ≡ b.history ++ map (accepted_entry b.digest) (missing_numbers_below b below)
  pub kept : (number : ℕ) (f : Finding) → held_finding b number ≡ Some f → held_finding c number ≡ Some f
  pub held : (number : ℕ) → number < below → IsSome (held_finding c number)
  pub rest : (number : ℕ) → below ≤ number → held_finding c number ≡ held_finding b number

-- the book is filled below some number, which is at most that of the jobs
pub record IsBookFilledSoFar (b c : BookView) : Type 0 where
  pub below : ℕ
  pub at_most : below ≤ length b.jobs
  pub filled : IsBookFilledBelow b c below

-- a finding for this number was filed, and accepted
pub record IsFindingFiledFor (b c : BookView) (number : ℕ) : Type 0 where
  pub lacked : is_some (held_finding b number) ≡ false
  pub finding : Finding
  pub number_is : number_of finding ≡ number
  pub accepted : reply_to b finding ≡ Accepted
  pub after : c ≡ after_filing b finding

-- the book held a finding for this number and is as it was, or one was filed and accepted
abbrev pub IsFindingHeldOrFiled : BookView → BookView → ℕ → Type 0
IsFindingHeldOrFiled b c number = ((is_some (held_finding b number) ≡ true) × (c ≡ b)) ⊎ IsFindingFiledFor b c number

-- ---- how many jobs are run

-- the shapes of jobs
abbrev pub shapes_of : List JobView → List ShapeView
shapes_of jobs = map shape_of jobs

-- A count after one more; the count stops at the greatest number that it can hold.
abbrev pub IsOneMoreOrGreatest : ℕ → ℕ → Type 0
IsOneMoreOrGreatest before after = before < 2 ^ 64 - 1 → after ≡ before + 1

-- the book holds a finding for this number, and of a job of the same shape
pub record HoldsFindingOfSameShape (b : BookView) (number : ℕ) (job : JobView) : Type 0 where
  pub finding : Finding
  pub held : held_finding b number ≡ Some finding
  pub alike : shape_of (job_of finding) ≡ shape_of job

-- how many of the numbers below this one are the first of their group
abbrev pub group_count_below : List ℕ → ℕ → ℕ
group_count_below groups zero = 0
group_count_below groups (suc n) = group_count_below groups n + (if slice_index groups n == n then 1 else 0)

-- a count of runs after at most one for each shape
abbrev pub RunsAtMostOncePerShape : List ShapeView → ℕ → ℕ → Type 0
RunsAtMostOncePerShape shapes before after = (groups : List ℕ) → AreGroups shapes groups →
    after ≤ before + group_count_below groups (length shapes)
