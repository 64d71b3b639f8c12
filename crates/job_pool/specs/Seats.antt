-- A desk and its seats
use Rattle.std.specs.Prelude.{◌≡◌, ℕ, ◌<◌, ◌≤◌, ◌++◌, List, [], ◌∷◌}
use Rattle.core_book.specs.Claims.{claim_answer, draws_after_claim}
use Rattle.core_book.specs.Draws.{past_last}
use Rattle.core_book.specs.declared.claim.Claim.{Claim}
use Rattle.core_book.specs.declared.claim.Claim.TheVariants.{Number, Empty}
use Rattle.job_pool.specs.declared.desk.Desk.{Desk}
use Rattle.job_pool.specs.declared.desk.DeskSeat.{DeskSeat}

-- how many numbers the desk hands out
abbrev pub number_count_of : Desk → ℕ
number_count_of desk = desk.numbers

-- how many seats were opened with it
abbrev pub seat_count_of : Desk → ℕ
seat_count_of desk = desk.seats

-- the seat was opened with the desk
abbrev pub IsSeatOf : Desk → DeskSeat → Type 0
IsSeatOf desk seat = (seat.seat.table_id ≡ desk.table.shared.table_id) × (seat.numbers ≡ desk.numbers)

-- what the seat drew, in order
abbrev pub drawn_by : DeskSeat → List ℕ
drawn_by seat = seat.seat.me.0.draws

-- a count that the desk's word has reached, as far as the seat knows: all numbers below it were drawn
abbrev pub seen_by : DeskSeat → ℕ
seen_by seat = seat.seat.me.0.seen

-- the seat was opened with the desk, and drew nothing yet
abbrev pub IsNewSeatOf : Desk → DeskSeat → Type 0
IsNewSeatOf desk seat = IsSeatOf desk seat × (drawn_by seat ≡ []) × (seen_by seat ≡ 0)

-- the claim of the core, at a next number that the seat had not seen to be drawn
pub record IsClaimOfSeat (n : ℕ) (before after : DeskSeat) (answer : Claim) : Type 0 where
  pub next : ℕ
  pub unseen : seen_by before ≤ next
  pub answers : answer ≡ claim_answer n (drawn_by before) next
  pub draws : drawn_by after ≡ draws_after_claim n (drawn_by before) next

-- A number is below n, it is none that the seat had seen to be drawn, and it is the draw that the seat got by the
-- claim. If the answer has no number, the seat's draws end with one of n or more, and it has seen that all numbers were
-- drawn
abbrev pub IsAnswerToClaim : ℕ → DeskSeat → DeskSeat → Claim → Type 0
IsAnswerToClaim n before after (Number i) =
    (i < n) × (seen_by before ≤ i) × (drawn_by after ≡ drawn_by before ++ i ∷ [])
IsAnswerToClaim n before after Empty = (n < past_last (drawn_by after)) × (n < seen_by after)
