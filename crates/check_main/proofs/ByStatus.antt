-- What each status of `program` means, from its clauses
use Rattle.check_main.proofs.Imports.{Check, CheckFault, Err, HoldsOfKnownInput, IsAccepted, IsNoSmallDesignText}
use Rattle.check_main.proofs.Imports.{IsRightInFull, IsWrongIfPlain, Kinds, LinesHaveMeaning, List, Memory, No, Ok}
use Rattle.check_main.proofs.Imports.{Outcome, RanCommand, Read, Refused, RelatesReadToWritten, Streams, Text, TooLong}
use Rattle.check_main.proofs.Imports.{Write, Yes, YesMeans, YesPromises, [], ap, arith, asked_by, bbmcheck_app, false}
use Rattle.check_main.proofs.Imports.{fault_of, inl, inr, refl, status_for, sym, true, ℕ, ◌∙◌, ◌∷◌, ◌≡◌, ◌≢◌, ◌≤◌, ◌⊎◌}
use Rattle.command_line.specs.CommandLine.{AsksForHelp, AsksOnlyForHelp}
use Rattle.meaning.specs.Headline.{IsRight}
use Rattle.headline.specs.Stops.{HasRightStops}
use Rattle.check_main.specs.Commands.{IsAnswerTo}
use Rattle.check_main.specs.Program.{AsksForCheck, ExplainedWords}
use Rattle.check_main.specs.Status.{WritesFaultLine}
use Rattle.check_main.specs.Stream.{Answers, BreaksOff, GivesTooMuch}
use Rattle.check_main.proofs.Ends.{at_fault, at_outcome, device_of, memory_of, outcome_or_memory, outcome_of}
use Rattle.check_main.proofs.Ends.{status_known}
use Rattle.streams.specs.declared.streams.Source.{Ghosts as Source}
use Rattle.streams.specs.declared.streams.Sink.{Ghosts as Sink}

-- words are accepted, or they are not
split : {P : Type 0} (kinds : Kinds) → (kinds ≡ [] → P) → (¬ (kinds ≡ []) → P) → P
split [] empty full = empty refl
split (k ∷ ks) empty full = full (λ e. cc)

-- The premises are the requirement on the writer and the clauses of `program`.
module _ {R W E : Type 0} {source : Source R} {sink : Sink W} {messages : Sink E} (words : List Text)
    (old new : Streams R W E) (status : ℕ) (writer_works : sink.has_failed old.writer ≡ false)
    (ran : IsAccepted words → RanCommand source sink messages (asked_by words) old new status)
    (explained : ¬ IsAccepted words → ExplainedWords sink messages words old new status) where
  -- a fact that holds in both cases
  either : {P : Type 0} → (RanCommand source sink messages (asked_by words) old new status → P) →
      (ExplainedWords sink messages words old new status → P) → P
  either by_run by_words = split (fault_of bbmcheck_app words) (λ a. by_run (ran a)) (λ n. by_words (explained n))

  -- the answer that a run gave
  answered_as : (outcome : Outcome) (r : RanCommand source sink messages (asked_by words) old new status) →
      status ≡ status_for (Ok outcome) →
      Answers (IsAnswerTo (asked_by words)) (source.left old.reader) (source.left new.reader)
      (sink.written_bytes old.writer) (sink.written_bytes new.writer) outcome
  answered_as outcome r is =
      at_outcome (Answers (IsAnswerTo (asked_by words)) (source.left old.reader) (source.left new.reader)
      (sink.written_bytes old.writer) (sink.written_bytes new.writer)) r.ended outcome
      (outcome_of outcome r.ended (sym r.status_of_end ∙ is)) r.served.answered

  -- a run with this fault said it
  said_as : (fault : CheckFault) (r : RanCommand source sink messages (asked_by words) old new status) →
      r.ended ≡ Err fault → WritesFaultLine messages old.errors new.errors fault
  said_as fault r is = at_fault (WritesFaultLine messages old.errors new.errors) r.ended fault is r.said

  -- and left the writer alone, if it is another than of the writer
  unwritten_as : (fault : CheckFault) (r : RanCommand source sink messages (asked_by words) old new status) →
      r.ended ≡ Err fault → fault ≢ Write → new.writer ≡ old.writer
  unwritten_as fault r is =
      at_fault (λ (f : CheckFault). f ≢ Write → new.writer ≡ old.writer) r.ended fault is r.served.unwritten

  -- a status is at most 5
  pub range : status ≤ 5
  range = either (λ r. let most = (status_known r.ended).0 in let is = r.status_of_end in omega (arith, most, is))
      (λ x. elim x.by_status.range [
        | inl zero ↦ omega (arith, zero)
        | inr (inl two) ↦ omega (arith, two)
        | inr (inr (inl four)) ↦ omega (arith, four)
        | inr (inr (inr five)) ↦ omega (arith, five)
      ])

  -- accepted words do not end with 2
  pub accepted : IsAccepted words → status ≢ 2
  accepted a two = let r = ran a in (status_known r.ended).1 (sym r.status_of_end ∙ two)

  -- for other words nothing is read
  pub unread : ¬ IsAccepted words → new.reader ≡ old.reader
  unread n = (explained n).unread

  -- and unless they are refused, they ask for help, or memory ran out
  pub help : ¬ IsAccepted words → status ≢ 2 → status ≢ 5 → AsksForHelp words
  help n not_two not_five = let x = (explained n).by_status in elim x.range [
    | inl zero ↦ (x.helped zero).0
    | inr (inl two) ↦ absurd (not_two two)
    | inr (inr (inl four)) ↦ (x.cut_off four).0
    | inr (inr (inr five)) ↦ absurd (not_five five)
  ]

  -- words that ask for help alone are not refused
  pub told : AsksOnlyForHelp words → status ≢ 2
  told alone two = either (λ r. (status_known r.ended).1 (sym r.status_of_end ∙ two))
      (λ x. (x.by_status.refused two).0 alone)

  -- 0 of accepted words: the text was read whole, and the answer is written
  pub yes : IsAccepted words → status ≡ 0 → Answers (IsAnswerTo (asked_by words)) (source.left old.reader)
      (source.left new.reader) (sink.written_bytes old.writer) (sink.written_bytes new.writer) Yes
  yes a zero = answered_as Yes (ran a) zero

  -- other words do not end with these statuses
  is_accepted : status ≢ 0 → status ≢ 2 → status ≢ 4 → status ≢ 5 → IsAccepted words
  is_accepted zero two four five = split (fault_of bbmcheck_app words) (λ a. a)
      (λ n. absurd (elim (explained n).by_status.range [
        | inl is ↦ zero is
        | inr (inl is) ↦ two is
        | inr (inr (inl is)) ↦ four is
        | inr (inr (inr is)) ↦ five is
      ]))

  -- only a command ends with 1
  accepted_at_one : status ≡ 1 → IsAccepted words
  accepted_at_one one = is_accepted (λ e. omega (arith, one, e)) (λ e. omega (arith, one, e))
      (λ e. omega (arith, one, e)) (λ e. omega (arith, one, e))

  -- and with 3
  accepted_at_three : status ≡ 3 → IsAccepted words
  accepted_at_three three = is_accepted (λ e. omega (arith, three, e)) (λ e. omega (arith, three, e))
      (λ e. omega (arith, three, e)) (λ e. omega (arith, three, e))

  -- 1: it was read whole, and an answer with the outcome no is written
  pub no : status ≡ 1 → Answers (IsAnswerTo (asked_by words)) (source.left old.reader) (source.left new.reader)
      (sink.written_bytes old.writer) (sink.written_bytes new.writer) No
  no one = answered_as No (ran (accepted_at_one one)) one

  -- 2: nothing is read or written
  pub words_refused : status ≡ 2 → (new.reader ≡ old.reader) × (new.writer ≡ old.writer)
  words_refused two = either (λ r. absurd ((status_known r.ended).1 (sym r.status_of_end ∙ two)))
      (λ x. (x.unread, (x.by_status.refused two).1))

  -- 3: it was read whole, and the refusal is written
  pub refused : status ≡ 3 → Answers (IsAnswerTo (asked_by words)) (source.left old.reader) (source.left new.reader)
      (sink.written_bytes old.writer) (sink.written_bytes new.writer) Refused
  refused three = answered_as Refused (ran (accepted_at_three three)) three

  -- 4: the reader failed, or the writer, or the text is too long, and `errors` has the line for this
  pub device : status ≡ 4 → ((source.has_failed new.reader ≡ true)
      × WritesFaultLine messages old.errors new.errors Read)
      ⊎ ((sink.has_failed new.writer ≡ true) × WritesFaultLine messages old.errors new.errors Write)
      ⊎ (GivesTooMuch (source.left old.reader) (source.left new.reader)
      × WritesFaultLine messages old.errors new.errors TooLong)
  device four = either
      (λ r. elim (device_of r.ended (sym r.status_of_end ∙ four)) [
        | inl read ↦ inl (r.served.read read, said_as Read r read)
        | inr (inl write) ↦ inr (inl (r.served.write write, said_as Write r write))
        | inr (inr long) ↦ inr (inr (r.served.too_long long, said_as TooLong r long))
      ])
      (λ x. inr (inl ((x.by_status.cut_off four).1, (x.by_status.cut_off four).2)))

  -- other than 4: the writer has not failed
  pub works : status ≢ 4 → sink.has_failed new.writer ≡ false
  works not_four = either
      (λ r. outcome_or_memory r.ended (λ e. not_four (r.status_of_end ∙ e)) r.served.works (λ both. both.1)
      (λ is. ap sink.has_failed (unwritten_as Memory r is (λ e. cc)) ∙ writer_works))
      (λ x. elim x.by_status.range [
        | inl zero ↦ (x.by_status.helped zero).1
        | inr (inl two) ↦ ap sink.has_failed (x.by_status.refused two).1 ∙ writer_works
        | inr (inr (inl four)) ↦ absurd (not_four four)
        | inr (inr (inr five)) ↦ ap sink.has_failed (x.by_status.out_of_memory five).0 ∙ writer_works
      ])

  -- 4, and the writer has not failed: nothing is written
  pub unwritten : status ≡ 4 → sink.has_failed new.writer ≡ false → new.writer ≡ old.writer
  unwritten four works = either
      (λ r. elim (device_of r.ended (sym r.status_of_end ∙ four)) [
        | inl read ↦ unwritten_as Read r read (λ e. cc)
        | inr (inl write) ↦ let failed = r.served.write write in absurd cc
        | inr (inr long) ↦ unwritten_as TooLong r long (λ e. cc)
      ])
      (λ x. let failed = (x.by_status.cut_off four).1 in absurd cc)

  -- 4 of accepted words, and the writer failed: a part of a right answer is written
  pub prefix : IsAccepted words → status ≡ 4 → sink.has_failed new.writer ≡ true →
      BreaksOff (IsAnswerTo (asked_by words)) (source.left old.reader) (source.left new.reader)
      (sink.written_bytes old.writer) (sink.written_bytes new.writer)
  prefix a four failed = let r = ran a in elim (device_of r.ended (sym r.status_of_end ∙ four)) [
    | inl read ↦ let same : new.writer ≡ old.writer = unwritten_as Read r read (λ e. cc) in absurd cc
    | inr (inl write) ↦ r.served.prefix write
    | inr (inr long) ↦ let same : new.writer ≡ old.writer = unwritten_as TooLong r long (λ e. cc) in absurd cc
  ]

  -- 5: nothing is written, and `errors` has the line for this
  pub not_decided : status ≡ 5 → (new.writer ≡ old.writer) × WritesFaultLine messages old.errors new.errors Memory
  not_decided five = either
      (λ r. let is = memory_of r.ended (sym r.status_of_end ∙ five) in
      (unwritten_as Memory r is (λ e. cc), said_as Memory r is))
      (λ x. x.by_status.out_of_memory five)

  -- 0, 1 and 3: `errors` got nothing
  pub quiet : status ≢ 2 → status ≢ 4 → status ≢ 5 → new.errors ≡ old.errors
  quiet not_two not_four not_five = either
      (λ r. outcome_or_memory r.ended (λ e. not_four (r.status_of_end ∙ e)) r.quiet (λ same. same)
      (λ is. absurd (not_five (r.status_of_end ∙ ap status_for is))))
      (λ x. elim x.by_status.range [
        | inl zero ↦ (x.by_status.helped zero).2
        | inr (inl two) ↦ absurd (not_two two)
        | inr (inr (inl four)) ↦ absurd (not_four four)
        | inr (inr (inr five)) ↦ absurd (not_five five)
      ])

  -- ---- the answer of `check`, by the clauses on it

  -- 0 of `check`: the text is right in full
  pub right_in_full : (AsksForCheck words → YesPromises IsRightInFull (status ≡ 0) (source.left old.reader)
      (sink.written_bytes old.writer) (sink.written_bytes new.writer)) →
      IsAccepted words → asked_by words ≡ Check → status ≡ 0 → HoldsOfKnownInput IsRightInFull (source.left old.reader)
  right_in_full full a asked zero = (full (record { accepted = a; asked = asked })).by_end zero

  -- a fourth line `verdict yes` of `check`, whatever the status: the text is right in full
  pub says_yes_in_full : (AsksForCheck words → YesPromises IsRightInFull (status ≡ 0) (source.left old.reader)
      (sink.written_bytes old.writer) (sink.written_bytes new.writer)) →
      IsAccepted words → asked_by words ≡ Check → YesMeans IsRightInFull (source.left old.reader)
      (sink.written_bytes old.writer) (sink.written_bytes new.writer)
  says_yes_in_full full a asked = (full (record { accepted = a; asked = asked })).by_line

  -- so the layout computes the circuit, at 0 of `check`
  pub correct : (AsksForCheck words → YesPromises IsRightInFull (status ≡ 0) (source.left old.reader)
      (sink.written_bytes old.writer) (sink.written_bytes new.writer)) →
      IsAccepted words → asked_by words ≡ Check → status ≡ 0 → HoldsOfKnownInput IsRight (source.left old.reader)
  correct full a asked zero text known = (right_in_full full a asked zero text known).right

  -- and at a fourth line `verdict yes`
  pub says_yes : (AsksForCheck words → YesPromises IsRightInFull (status ≡ 0) (source.left old.reader)
      (sink.written_bytes old.writer) (sink.written_bytes new.writer)) →
      IsAccepted words → asked_by words ≡ Check → YesMeans IsRight (source.left old.reader)
      (sink.written_bytes old.writer) (sink.written_bytes new.writer)
  says_yes full a asked before output f g line text known =
      (says_yes_in_full full a asked before output f g line text known).right

  -- and the stops hold, at 0 of `check`
  pub stops : (AsksForCheck words → YesPromises IsRightInFull (status ≡ 0) (source.left old.reader)
      (sink.written_bytes old.writer) (sink.written_bytes new.writer)) →
      IsAccepted words → asked_by words ≡ Check → status ≡ 0 → HoldsOfKnownInput HasRightStops (source.left old.reader)
  stops full a asked zero text known = (right_in_full full a asked zero text known).stops

  -- and at a fourth line `verdict yes`
  pub says_yes_of_stops : (AsksForCheck words → YesPromises IsRightInFull (status ≡ 0) (source.left old.reader)
      (sink.written_bytes old.writer) (sink.written_bytes new.writer)) →
      IsAccepted words → asked_by words ≡ Check → YesMeans HasRightStops (source.left old.reader)
      (sink.written_bytes old.writer) (sink.written_bytes new.writer)
  says_yes_of_stops full a asked before output f g line text known =
      (says_yes_in_full full a asked before output f g line text known).stops

  -- 1 of `check`: the text is wrong, if its certificate is plain
  pub wrong : (AsksForCheck words → status ≡ 1 → HoldsOfKnownInput IsWrongIfPlain (source.left old.reader)) →
      asked_by words ≡ Check → status ≡ 1 → HoldsOfKnownInput IsWrongIfPlain (source.left old.reader)
  wrong means asked one = means (record { accepted = accepted_at_one one; asked = asked }) one

  -- 1 of `check`: the lines have their meaning
  pub lines : (AsksForCheck words → status ≡ 1 → RelatesReadToWritten LinesHaveMeaning (source.left old.reader)
      (sink.written_bytes old.writer) (sink.written_bytes new.writer)) →
      asked_by words ≡ Check → status ≡ 1 → RelatesReadToWritten LinesHaveMeaning (source.left old.reader)
      (sink.written_bytes old.writer) (sink.written_bytes new.writer)
  lines means asked one = means (record { accepted = accepted_at_one one; asked = asked }) one

  -- 3 of `check`: the text is not the plain text of a small design
  pub small : (AsksForCheck words → status ≡ 3 → HoldsOfKnownInput IsNoSmallDesignText (source.left old.reader)) →
      asked_by words ≡ Check → status ≡ 3 → HoldsOfKnownInput IsNoSmallDesignText (source.left old.reader)
  small means asked three = means (record { accepted = accepted_at_three three; asked = asked }) three
