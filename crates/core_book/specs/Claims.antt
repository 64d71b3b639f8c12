-- A claim: the next number goes to a seat, until the seat has drawn one past the numbers that there are
use Rattle.std.specs.Prelude.{ℕ, ◌+◌, nat_lt, if◌then◌else◌, Bool, List, [], ◌∷◌, ◌++◌}
use Rattle.core_book.specs.Draws.{past_last}
use Rattle.core_book.specs.declared.claim.Claim.{Claim}
use Rattle.core_book.specs.declared.claim.Claim.TheVariants.{Number, Empty}

-- whether a seat's draws end with a draw of n or more
abbrev pub is_seat_finished : ℕ → List ℕ → Bool
is_seat_finished n draws = nat_lt n (past_last draws)

-- a draw below n is one of the numbers
abbrev pub claim_answer_of_draw : ℕ → ℕ → Claim
claim_answer_of_draw n draw = if nat_lt draw n then Number draw else Empty

-- what a claim answers, if there are n numbers, the seat drew these, and the next number is `next`
abbrev pub claim_answer : ℕ → List ℕ → ℕ → Claim
claim_answer n draws next = if is_seat_finished n draws then Empty else claim_answer_of_draw n next

-- the seat's draws after it
abbrev pub draws_after_claim : ℕ → List ℕ → ℕ → List ℕ
draws_after_claim n draws next = if is_seat_finished n draws then draws else draws ++ next ∷ []

-- the next number after it
abbrev pub next_unless_seat_finished : ℕ → List ℕ → ℕ → ℕ
next_unless_seat_finished n draws next = if is_seat_finished n draws then next else next + 1
