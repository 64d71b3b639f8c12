-- The results of workers
use Rattle.std.specs.Prelude.{◌≡◌, ℕ, ◌+◌, ◌<◌, ◌≤◌, false, List, [], ◌∷◌, map, slice_index_or, sum_by, length}
use Rattle.core_book.specs.Draws.{past_last, occurrences}
use Rattle.verdict_book.specs.Counts.{Counts}
use Rattle.job_pool.specs.Seats.{IsSeatOf, IsNewSeatOf, drawn_by, number_count_of}
use Rattle.job_pool.specs.declared.desk.Desk.{Desk}
use Rattle.job_pool.specs.declared.desk.DeskSeat.{DeskSeat}
use Rattle.job_pool.specs.declared.worker.Worker.{Worker}

-- the filings of some shares, in sum
abbrev pub sum_of_filed : List Counts → ℕ
sum_of_filed shares = sum_by (λ (s : Counts). s.filed) shares

-- a share's later counts are not less
pub record AreCountsNotLess (before after : Counts) : Type 0 where
  pub filed : before.filed ≤ after.filed
  pub accepted : before.accepted ≤ after.accepted

-- the number of shares stays, and no count is less
pub record AreSharesNotLess (before after : List Counts) : Type 0 where
  pub count : length after ≡ length before
  pub each : (i : ℕ) (d : Counts) → i < length before →
      AreCountsNotLess (slice_index_or before i d) (slice_index_or after i d)

-- For each job `groups` has the number of the first of its shape. This many findings are due from the seat that drew
-- these numbers: those of all members of the groups whose first numbers they are
abbrev pub due_finding_count : List ℕ → List ℕ → ℕ
due_finding_count groups [] = 0
due_finding_count groups (y ∷ ys) = occurrences y groups + due_finding_count groups ys

module _ {F A : Type 0} where
  -- a worker that may begin
  abbrev pub IsReadyWorker : Desk → Worker F A → Type 0
  IsReadyWorker desk w = IsNewSeatOf desk w.seat × (w.starved ≡ false)

  -- A worker that did not stop out of memory filed as many findings as were due from it, and drew on to the end
  pub record HasWorked (desk : Desk) (groups : List ℕ) (before after : Worker F A) : Type 0 where
    pub seat : IsSeatOf desk after.seat
    pub risen : AreCountsNotLess before.share after.share
    pub filed : after.starved ≡ false →
        after.share.filed ≡ before.share.filed + due_finding_count groups (drawn_by after.seat)
    pub ended : after.starved ≡ false → number_count_of desk < past_last (drawn_by after.seat)

  abbrev pub shares_of : List (Worker F A) → List Counts
  shares_of = map (λ w. w.share)

  abbrev pub seats_of : List (Worker F A) → List DeskSeat
  seats_of = map (λ w. w.seat)
