-- The laws of the core
use Rattle.core_book.proofs.Imports.{Accepted, All, Bool, Closed, CoreView, Double, Event, Finding, HasSeatBelow}
use Rattle.core_book.proofs.Imports.{IsBook, IsCore, IsEachNumberDrawnOnce, IsHistoryReplayed, JobView, List, None}
use Rattle.core_book.proofs.Imports.{Option, Reply, Some, Stranger, [], after_claim, after_event, after_events}
use Rattle.core_book.proofs.Imports.{after_filing, ap, arith, common_steps, cond, draws_of, eqb_tells, false, get_or}
use Rattle.core_book.proofs.Imports.{held_finding, if◌then◌else◌, inl, inr, is_seat_finished, is_some, job_count_of}
use Rattle.core_book.proofs.Imports.{length, nat_lt, nat_tests, new_core, number_of, occurrences, refl, reply_to}
use Rattle.core_book.proofs.Imports.{same_Some, subst, sum_by, sym, total, true, ℕ, ◌+◌, ◌<◌, ◌==◌, ◌∙◌, ◌∷◌, ◌≡◌, ◌≢◌}
use Rattle.core_book.proofs.Imports.{◌≤◌}
use Rattle.lemmas.proofs.Common.{◌⊎◌, Contains, Contains-append_cases, Contains-append_left, Contains-append_right}
use Rattle.lemmas.proofs.Common.{Contains-push, sum_by-append, nothing_in, one_in}
use Rattle.core_book.specs.Claims.{claim_answer_of_draw}
use Rattle.core_book.specs.Core.{answer_of_claim, answer_to}
use Rattle.core_book.specs.CoreLaws.{AcceptsAtMostOnePerNumber, AreAllNumbersDrawn, DrawsEachNumberOnce}
use Rattle.core_book.specs.CoreLaws.{EmptyOnlyIfAllAreDrawn, EventsKeepHeldFindings, HeldFindingsAreBooksAndLeast}
use Rattle.core_book.specs.CoreLaws.{HistoryReplaysAfterEvents, HoldsAcceptedFindings, OnlyAcceptedChangesFindings}
use Rattle.core_book.specs.CoreLaws.{core_after, finding_if_accepted, findings_accepted_by, findings_accepted_in}
use Rattle.core_book.proofs.BookLaws.{held-elsewhere, holds-nothing_else, holds-what_is_accepted, keeps-what_is_held}
use Rattle.core_book.proofs.CoreSteps.{claim-core, events-core, length-events, length-new, new-core}
use Rattle.core_book.proofs.Counting.{one_if_seat_finished-all}
use Rattle.core_book.proofs.Filings.{IsBook-filed, accepted-new}
use Rattle.core_book.proofs.Replays.{IsBook-new, IsHistoryReplayed-filed, IsHistoryReplayed-new, held_finding-new}
use Rattle.core_book.specs.declared.machine.Answer.TheVariants as Answered
use Rattle.core_book.specs.declared.machine.Event.TheVariants as Events
use Rattle.core_book.specs.declared.claim.Claim.TheVariants as Claimed

-- ---- draws

all-core : (digest : List ℕ) (jobs : List JobView) (seats : ℕ) (es : List Event) → All (HasSeatBelow seats) es →
    IsCore (core_after digest jobs seats es)
all-core digest jobs seats es seated = grind (arith, common_steps, events-core, length-new, new-core)

pub draws-each-once : DrawsEachNumberOnce
draws-each-once digest jobs seats es seated = (all-core digest jobs seats es seated).drawn

-- where a claim answers `Empty`, the next number after it is past the numbers
empty-past : (n next : ℕ) (lists : List (List ℕ)) (seat : ℕ) → seat < length lists → IsEachNumberDrawnOnce next lists →
    (has : Bool) → is_seat_finished n (get_or lists seat []) ≡ has →
    answer_of_claim (if has then Claimed.Empty else claim_answer_of_draw n next) ≡ Answered.Empty →
    n ≤ (if has then next else next + 1)
empty-past n next lists seat inside is true e h = let past = one_if_seat_finished-all n next lists seat inside e is in
    omega (arith, past)
empty-past n next lists seat inside is false e h = by_case (nat_lt next n) refl h
  where
    by_case : (b : Bool) → nat_lt next n ≡ b →
        answer_of_claim (if b then Claimed.Number next else Claimed.Empty) ≡ Answered.Empty → n ≤ next + 1
    by_case b h1 h2 = grind (arith, common_steps, nat_tests)

all-below : (next : ℕ) (lists : List (List ℕ)) (n : ℕ) → IsEachNumberDrawnOnce next lists → n ≤ next → (k : ℕ) → k < n →
    total (occurrences k) lists ≡ 1
all-below next lists n is most k below = let once = is.once k in grind (arith, nat_tests)

empty-all : (c : CoreView) (seat : ℕ) → seat < length c.draws → IsCore c →
    answer_to c (Events.Claim seat) ≡ Answered.Empty → AreAllNumbersDrawn (after_claim c seat)
empty-all c seat inside is h =
    let n = job_count_of c in
    let past = empty-past n c.next c.draws seat inside is.drawn (is_seat_finished n (draws_of c seat)) refl h in
    all-below (after_claim c seat).next (after_claim c seat).draws n (claim-core c seat inside is).drawn past

pub empty-where_all_are_drawn : EmptyOnlyIfAllAreDrawn
empty-where_all_are_drawn digest jobs seats es seat seated inside h =
    let c = core_after digest jobs seats es in
    let len : length c.draws ≡ seats = length-events es (new_core digest jobs seats) ∙ length-new digest jobs seats in
    empty-all c seat (omega (arith, inside, len)) (all-core digest jobs seats es seated) h

-- ---- what is held

pub events-keep : EventsKeepHeldFindings
events-keep c (Events.File g) k f h = keeps-what_is_held c.book g f k h
events-keep c _ k f h = h

pub only-accepted_changes : OnlyAcceptedChangesFindings
only-accepted_changes = grind (arith, common_steps, holds-nothing_else)

event-book : (c : CoreView) (e : Event) → IsBook c.book → IsBook (after_event c e).book
event-book c (Events.File g) is = IsBook-filed c.book g is
event-book c _ is = is

event-replayed : (c : CoreView) (e : Event) → IsBook c.book → IsHistoryReplayed c.book →
    IsHistoryReplayed (after_event c e).book
event-replayed c (Events.File g) book is = IsHistoryReplayed-filed c.book g book is
event-replayed c _ book is = is

events-book : (es : List Event) (c : CoreView) → IsBook c.book → IsBook (after_events c es).book
events-book [] c is = is
events-book (e ∷ es) c is = events-book es (after_event c e) (event-book c e is)

events-replayed : (es : List Event) (c : CoreView) → IsBook c.book → IsHistoryReplayed c.book →
    IsHistoryReplayed (after_events c es).book
events-replayed [] c book is = is
events-replayed (e ∷ es) c book is =
    events-replayed es (after_event c e) (event-book c e book) (event-replayed c e book is)

new-book : (digest : List ℕ) (jobs : List JobView) (seats : ℕ) → IsBook (new_core digest jobs seats).book
unfolding new_core
new-book digest jobs seats = IsBook-new digest jobs

new-replayed : (digest : List ℕ) (jobs : List JobView) (seats : ℕ) → IsHistoryReplayed (new_core digest jobs seats).book
unfolding new_core
new-replayed digest jobs seats = IsHistoryReplayed-new digest jobs

new-nothing : (digest : List ℕ) (jobs : List JobView) (seats : ℕ) (k : ℕ) →
    held_finding (new_core digest jobs seats).book k ≡ None
unfolding new_core
new-nothing digest jobs seats k = held_finding-new digest jobs k

pub events-replay : HistoryReplaysAfterEvents
events-replay digest jobs seats es =
    events-replayed es (new_core digest jobs seats) (new-book digest jobs seats) (new-replayed digest jobs seats)

pub holds-honest_own : HeldFindingsAreBooksAndLeast
holds-honest_own digest jobs seats es k f h = grind (arith, common_steps, events-book, new-book)

-- ---- what was accepted

-- what is held after an event was held before it, or was accepted by it
held-event : (c : CoreView) (e : Event) (k : ℕ) (f : Finding) → IsBook c.book →
    held_finding (after_event c e).book k ≡ Some f →
    (held_finding c.book k ≡ Some f) ⊎ (Contains (findings_accepted_by c e) f)
held-event c (Events.Claim seat) k f is h = inl h
held-event c (Events.Lose number) k f is h = inl h
held-event c (Events.File g) k f is h = by_reply (reply_to c.book g) refl
  where
    kept : reply_to c.book g ≢ Accepted → held_finding c.book k ≡ Some f
    kept other = ap (λ (xs : List (Option Finding)). get_or xs k None) (sym (holds-nothing_else c.book g other)) ∙ h

    by_reply : (r : Reply) → reply_to c.book g ≡ r →
        (held_finding c.book k ≡ Some f) ⊎ (Contains (finding_if_accepted g r) f)
    by_reply Accepted e =
        elim (eqb_tells (number_of g) k) [
          | inl p ↦
              let there : held_finding (after_filing c.book g) k ≡ Some g =
              ap (λ (n : ℕ). held_finding (after_filing c.book g) n) (sym p.1) ∙ holds-what_is_accepted c.book g is e in
              let same : g ≡ f = same_Some g f (sym there ∙ h) in
              inr (subst (λ (x : Finding). Contains (g ∷ []) x) same (Contains-push [] g))
          | inr q ↦ inl (sym (held-elsewhere c.book g k e (λ s. q.1 (sym s))) ∙ h)
        ]
    by_reply _ e = inl (kept (λ s. cc))

-- what is accepted by an event is held after it
accepted-event : (c : CoreView) (e : Event) (f : Finding) → IsBook c.book → Contains (findings_accepted_by c e) f →
    held_finding (after_event c e).book (number_of f) ≡ Some f
accepted-event c (Events.Claim seat) f is m = absurd (nothing_in f m)
accepted-event c (Events.Lose number) f is m = absurd (nothing_in f m)
accepted-event c (Events.File g) f is m = by_reply (reply_to c.book g) refl m
  where
    by_reply : (r : Reply) → reply_to c.book g ≡ r → Contains (finding_if_accepted g r) f →
        held_finding (after_filing c.book g) (number_of f) ≡ Some f
    by_reply Accepted e m =
        let same : g ≡ f = one_in g f m in
        subst (λ (x : Finding). held_finding (after_filing c.book g) (number_of x) ≡ Some x) same
        (holds-what_is_accepted c.book g is e)
    by_reply Closed e m = absurd (nothing_in f m)
    by_reply (Stranger mismatch) e m = absurd (nothing_in f m)
    by_reply (Double number) e m = absurd (nothing_in f m)

events-keep-all : (es : List Event) (c : CoreView) (k : ℕ) (f : Finding) → held_finding c.book k ≡ Some f →
    held_finding (after_events c es).book k ≡ Some f
events-keep-all [] c k f h = h
events-keep-all (e ∷ es) c k f h = events-keep-all es (after_event c e) k f (events-keep c e k f h)

held-among : (es : List Event) (c : CoreView) (k : ℕ) (f : Finding) → IsBook c.book →
    held_finding (after_events c es).book k ≡ Some f →
    (held_finding c.book k ≡ Some f) ⊎ (Contains (findings_accepted_in c es) f)
held-among [] c k f is h = inl h
held-among (e ∷ es) c k f is h =
    elim (held-among es (after_event c e) k f (event-book c e is) h) [
      | inl before ↦
          elim (held-event c e k f is before) [
            | inl first ↦ inl first
            | inr m ↦ inr (Contains-append_left (findings_accepted_by c e)
                (findings_accepted_in (after_event c e) es) f m)
          ]
      | inr m ↦ inr (Contains-append_right (findings_accepted_by c e) (findings_accepted_in (after_event c e) es) f m)
    ]

among-held : (es : List Event) (c : CoreView) (f : Finding) → IsBook c.book → Contains (findings_accepted_in c es) f →
    held_finding (after_events c es).book (number_of f) ≡ Some f
among-held [] c f is m = absurd (nothing_in f m)
among-held (e ∷ es) c f is m =
    elim (Contains-append_cases (findings_accepted_by c e) (findings_accepted_in (after_event c e) es) f m) [
      | inl first ↦ events-keep-all es (after_event c e) (number_of f) f (accepted-event c e f is first)
      | inr rest ↦ among-held es (after_event c e) f (event-book c e is) rest
    ]

pub holds-what_was_accepted : HoldsAcceptedFindings
holds-what_was_accepted digest jobs seats es k f = (forth, back)
  where
    forth : held_finding (core_after digest jobs seats es).book k ≡ Some f →
        Contains (findings_accepted_in (new_core digest jobs seats) es) f × (number_of f ≡ k)
    forth h = (
      elim (held-among es (new_core digest jobs seats) k f (new-book digest jobs seats) h) [
        | inl before ↦ let none = new-nothing digest jobs seats k in absurd cc
        | inr m ↦ m
      ],
      ((events-book es (new_core digest jobs seats) (new-book digest jobs seats)).own k f h).number_is,
    )

    back : Contains (findings_accepted_in (new_core digest jobs seats) es) f × (number_of f ≡ k) →
        held_finding (core_after digest jobs seats es).book k ≡ Some f
    back p = subst (λ (n : ℕ). held_finding (core_after digest jobs seats es).book n ≡ Some f) p.1
        (among-held es (new_core digest jobs seats) f (new-book digest jobs seats) p.0)

-- 1 where a finding is held for the number, and else 0
abbrev held_at : CoreView → ℕ → ℕ
held_at c k = cond (is_some (held_finding c.book k)) 1 0

-- 1 for a finding of the number, and else 0
abbrev at_number : ℕ → Finding → ℕ
at_number k f = cond (number_of f == k) 1 0

one-event : (c : CoreView) (e : Event) (k : ℕ) → IsBook c.book →
    sum_by (at_number k) (findings_accepted_by c e) + held_at c k ≤ held_at (after_event c e) k
one-event c (Events.Claim seat) k is = omega arith
one-event c (Events.Lose number) k is = omega arith
one-event c (Events.File g) k is = by_reply (reply_to c.book g) refl
  where
    kept : reply_to c.book g ≢ Accepted → held_at c k ≡ held_at (after_event c (Events.File g)) k
    kept other = ap (λ (xs : List (Option Finding)). cond (is_some (get_or xs k None)) 1 0)
        (sym (holds-nothing_else c.book g other))

    by_reply : (r : Reply) → reply_to c.book g ≡ r →
        sum_by (at_number k) (finding_if_accepted g r) + held_at c k ≤ held_at (after_event c (Events.File g)) k
    by_reply r h1 =
        grind (arith, common_steps, eqb_tells, holds-what_is_accepted, is_some, accepted-new, held-elsewhere, kept)

one-among : (es : List Event) (c : CoreView) (k : ℕ) → IsBook c.book →
    sum_by (at_number k) (findings_accepted_in c es) + held_at c k ≤ held_at (after_events c es) k
one-among [] c k is = omega arith
one-among (e ∷ es) c k is =
    grind
    (arith, common_steps, sum_by-append, one-event, event-book, (one-among es (after_event c e) k (event-book c e is)))

at_most_one : (b : Bool) → cond b 1 0 ≤ 1
at_most_one true = omega arith
at_most_one false = omega arith

pub accepts-one_for_each : AcceptsAtMostOnePerNumber
accepts-one_for_each digest jobs seats es k =
    let all = one-among es (new_core digest jobs seats) k (new-book digest jobs seats) in
    let most = at_most_one (is_some (held_finding (core_after digest jobs seats es).book k)) in
    omega (arith, all, most)
