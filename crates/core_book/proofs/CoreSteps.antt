-- The parts of a core that each event keeps
use Rattle.core_book.proofs.Imports.{All, Bool, CoreView, Event, HasSeatBelow, IsCore, IsEachNumberDrawnOnce, JobView}
use Rattle.core_book.proofs.Imports.{List, [], after_claim, after_event, after_events, ap, arith, common_steps}
use Rattle.core_book.proofs.Imports.{draws_after_claim, draws_of, false, get_or, if◌then◌else◌, is_seat_finished}
use Rattle.core_book.proofs.Imports.{job_count_of, length, length-replicate, length-set, map, nat_tests, new_core}
use Rattle.core_book.proofs.Imports.{next_unless_seat_finished, refl, set, subst, suc, sym, total, true, zero, ℕ, ◌++◌}
use Rattle.core_book.proofs.Imports.{◌+◌, ◌<◌, ◌∙◌, ◌∷◌, ◌≡◌, ◌≤◌}
use Rattle.lemmas.proofs.Common.{All-head, All-tail}
use Rattle.core_book.specs.Core.{one_if_seat_finished}
use Rattle.core_book.proofs.Counting.{drawn-none, drawn-push, is_seat_finished-push, total-le, total-set}
use Rattle.core_book.proofs.Filings.{IsBook-filed}
use Rattle.core_book.proofs.Replays.{IsBook-new, IsHistoryReplayed-filed, IsHistoryReplayed-new}
use Rattle.core_book.specs.declared.machine.Event.TheVariants as Events

-- ---- a claim

-- the draws of a seat are set to what they were
set-same : (lists : List (List ℕ)) (seat : ℕ) → set lists seat (get_or lists seat []) ≡ lists
set-same [] seat = refl
set-same (xs ∷ lists) zero = refl
set-same (xs ∷ lists) (suc seat) = ap (λ ls. xs ∷ ls) (set-same lists seat)

claim-drawn : (n next seat : ℕ) (lists : List (List ℕ)) → seat < length lists → (has : Bool) →
    IsEachNumberDrawnOnce next lists →
    IsEachNumberDrawnOnce (if has then next else next + 1)
    (set lists seat (if has then get_or lists seat [] else get_or lists seat [] ++ next ∷ []))
claim-drawn n next seat lists h1 has h2 = grind (arith, common_steps, set-same, drawn-push)

claim-few : (n next seat : ℕ) (lists : List (List ℕ)) → seat < length lists → (has : Bool) →
    is_seat_finished n (get_or lists seat []) ≡ has → next ≤ n + total (one_if_seat_finished n) lists →
    (if has then next else next + 1)
    ≤ n + total (one_if_seat_finished n) (set lists seat
    (if has then get_or lists seat [] else get_or lists seat [] ++ next ∷ []))
claim-few n next seat lists inside true e few =
    omega (arith, few, ap (total (one_if_seat_finished n)) (set-same lists seat))
claim-few n next seat lists inside false e few =
    grind (arith, common_steps, total-set, is_seat_finished-push, nat_tests)

pub claim-core : (c : CoreView) (seat : ℕ) → seat < length c.draws → IsCore c → IsCore (after_claim c seat)
claim-core c seat inside is = grind (arith, common_steps, claim-drawn, claim-few, c.next, c.draws)

-- ---- an event

pub event-core : (c : CoreView) (e : Event) → HasSeatBelow (length c.draws) e → IsCore c → IsCore (after_event c e)
event-core c (Events.Claim seat) seated is = claim-core c seat seated is
event-core c (Events.File f) seated is = record {
  drawn = is.drawn;
  few = is.few;
  book_is = IsBook-filed c.book f is.book_is;
  replayed = IsHistoryReplayed-filed c.book f is.book_is is.replayed;
}
event-core c (Events.Lose number) seated is = is

pub length-event : (c : CoreView) (e : Event) → length (after_event c e).draws ≡ length c.draws
length-event c e = grind (arith, common_steps, length-set)

pub events-core : (seats : ℕ) (es : List Event) (c : CoreView) → length c.draws ≡ seats → All (HasSeatBelow seats) es →
    IsCore c → IsCore (after_events c es)
events-core seats [] c len seated is = is
events-core seats (e ∷ es) c len seated is =
    let first : HasSeatBelow (length c.draws) e =
    subst (λ (n : ℕ). HasSeatBelow n e) (sym len) (All-head (HasSeatBelow seats) e es seated) in
    events-core seats es (after_event c e) (length-event c e ∙ len) (All-tail (HasSeatBelow seats) e es seated)
    (event-core c e first is)

pub length-events : (es : List Event) (c : CoreView) → length (after_events c es).draws ≡ length c.draws
length-events [] c = refl
length-events (e ∷ es) c = length-events es (after_event c e) ∙ length-event c e

pub new-core : (digest : List ℕ) (jobs : List JobView) (seats : ℕ) → IsCore (new_core digest jobs seats)
unfolding new_core
new-core digest jobs seats = record {
  drawn = drawn-none seats;
  few = omega arith;
  book_is = IsBook-new digest jobs;
  replayed = IsHistoryReplayed-new digest jobs;
}

pub length-new : (digest : List ℕ) (jobs : List JobView) (seats : ℕ) → length (new_core digest jobs seats).draws ≡ seats
unfolding new_core
length-new digest jobs seats = length-replicate seats []

one_if_seat_finished-one : (n : ℕ) (xs : List ℕ) → one_if_seat_finished n xs ≤ 1
one_if_seat_finished-one n xs = grind (arith, common_steps)

-- at most one draw of each seat is past the numbers
pub next-few : (c : CoreView) → IsCore c → c.next ≤ job_count_of c + length c.draws
next-few c is = grind (arith, common_steps, total-le, one_if_seat_finished-one)

-- ---- what the code leaves of a claim

-- what a seat drew, where the draws are seen through a function
pub drawn-at : {V : Type 0} (f : V → List ℕ) (vs : List V) (seat : ℕ) (v : V) → seat < length vs →
    v ≡ get_or vs seat v → f v ≡ get_or (map f vs) seat []
drawn-at f [] seat v inside at = absurd (omega (arith, inside))
drawn-at f (x ∷ vs) zero v inside at = ap f at
drawn-at f (x ∷ vs) (suc k) v inside at = drawn-at f vs k v (omega (arith, inside)) at

pub left-claim : (c : CoreView) (seat count next : ℕ) (before after : List ℕ) (draws : List (List ℕ)) →
    count ≡ job_count_of c → before ≡ draws_of c seat →
    next ≡ next_unless_seat_finished count before c.next → after ≡ draws_after_claim count before c.next →
    draws ≡ set c.draws seat after →
    record c { next = next; draws = draws } ≡ after_claim c seat
left-claim c seat count next before after draws counts was next_is after_is draws_are = grind (arith, common_steps)
