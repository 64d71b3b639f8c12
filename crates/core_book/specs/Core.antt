-- The core: the numbers that seats drew, and a book. The state after each event, and the answer to it
use Rattle.std.specs.Prelude.{ℕ, ◌+◌, ◌<◌, ◌≤◌, List, [], ◌∷◌, length, replicate, slice_index_or, slice_set}
use Rattle.std.specs.Prelude.{if◌then◌else◌, ⊤}
use Rattle.module_job.specs.Jobs.{JobView}
use Rattle.core_book.specs.Draws.{IsEachNumberDrawnOnce, total}
use Rattle.core_book.specs.Claims.{claim_answer, draws_after_claim, next_unless_seat_finished, is_seat_finished}
use Rattle.core_book.specs.Book.{BookView, IsBook, IsHistoryReplayed, after_filing, new_book, reply_to}
use Rattle.core_book.specs.declared.claim.Claim.{Claim}
use Rattle.core_book.specs.declared.claim.Claim.TheVariants as Claimed
use Rattle.core_book.specs.declared.machine.Answer.{Answer}
use Rattle.core_book.specs.declared.machine.Answer.TheVariants as Answered
use Rattle.core_book.specs.declared.machine.Event.{Event}
use Rattle.core_book.specs.declared.machine.Event.TheVariants as Events

-- the core as contracts see it: the next number, the numbers that each seat drew, and the book
pub record CoreView : Type 0 where
  pub next : ℕ
  pub draws : List (List ℕ)
  pub book : BookView

-- nothing was drawn, and nothing filed
unfoldable pub new_core : List ℕ → List JobView → ℕ → CoreView
new_core digest jobs seats = record { next = 0; draws = replicate seats []; book = new_book digest jobs }

-- how many numbers there are: one for each job
abbrev pub job_count_of : CoreView → ℕ
job_count_of c = length c.book.jobs

-- what a seat drew
abbrev pub draws_of : CoreView → ℕ → List ℕ
draws_of c seat = slice_index_or c.draws seat []

-- ---- a claim of a seat

-- the answer to a claim of a seat
abbrev pub claim_answer_of_seat : CoreView → ℕ → Claim
claim_answer_of_seat c seat = claim_answer (job_count_of c) (draws_of c seat) c.next

-- the core after a claim of a seat
abbrev pub after_claim : CoreView → ℕ → CoreView
after_claim c seat = record c {
  next = next_unless_seat_finished (job_count_of c) (draws_of c seat) c.next;
  draws = slice_set c.draws seat (draws_after_claim (job_count_of c) (draws_of c seat) c.next);
}

-- the answer to an event that is a claim
abbrev pub answer_of_claim : Claim → Answer
answer_of_claim (Claimed.Number number) = Answered.Number number
answer_of_claim Claimed.Empty = Answered.Empty

-- ---- an event

-- the core after it: a claim draws, a filing is the book's, and a loss changes nothing
abbrev pub after_event : CoreView → Event → CoreView
after_event c (Events.Claim seat) = after_claim c seat
after_event c (Events.File f) = record c { book = after_filing c.book f }
after_event c (Events.Lose number) = c

-- the answer to an event
abbrev pub answer_to : CoreView → Event → Answer
answer_to c (Events.Claim seat) = answer_of_claim (claim_answer_of_seat c seat)
answer_to c (Events.File f) = Answered.Reply (reply_to c.book f)
answer_to c (Events.Lose number) = Answered.Lost

-- the core after all of these, one after another
abbrev pub after_events : CoreView → List Event → CoreView
after_events c [] = c
after_events c (e ∷ es) = after_events (after_event c e) es

-- the seat of a claim is one of the seats
abbrev pub HasSeatBelow : ℕ → Event → Type 0
HasSeatBelow seats (Events.Claim seat) = seat < seats
HasSeatBelow seats (Events.File f) = ⊤
HasSeatBelow seats (Events.Lose number) = ⊤

-- ---- what is true of each core

-- 1 for a list that has ended, and else 0
abbrev pub one_if_seat_finished : ℕ → List ℕ → ℕ
one_if_seat_finished n draws = if is_seat_finished n draws then 1 else 0

-- Each number below the next was drawn, once. No more numbers were drawn than there are, but for one of each seat that
-- has ended. The book is one, and its history replays to it
pub record IsCore (c : CoreView) : Type 0 where
  pub drawn : IsEachNumberDrawnOnce c.next c.draws
  pub few : c.next ≤ job_count_of c + total (one_if_seat_finished (job_count_of c)) c.draws
  pub book_is : IsBook c.book
  pub replayed : IsHistoryReplayed c.book
