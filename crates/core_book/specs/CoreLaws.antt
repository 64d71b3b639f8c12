-- Laws of the core, over every list of events from a new one
use Rattle.std.specs.Prelude.{◌≡◌, ◌≢◌, ◌↔◌, ℕ, ◌<◌, ◌≤◌, ◌==◌, ⊤, List, [], ◌∷◌, ◌++◌, Some, All, Contains}
use Rattle.std.specs.List.{count_by}
use Rattle.certificate_lines.specs.Entries.{Setting, ModuleLines}
use Rattle.module_job.specs.Jobs.{JobView}
use Rattle.local_run.specs.Faults.{IsLeastFault, IsLeastKeepFault}
use Rattle.local_run.specs.Shown.{number_of, job_of, fault_of, keep_fault_of}
use Rattle.local_run.specs.declared.finding.Finding.{Finding}
use Rattle.core_book.specs.Draws.{IsEachNumberDrawnOnce, occurrences, total}
use Rattle.core_book.specs.Book.{BelongsToBook, IsHistoryReplayed, held_finding, reply_to}
use Rattle.core_book.specs.Core.{CoreView, HasSeatBelow, after_event, after_events, answer_to, new_core, job_count_of}
use Rattle.core_book.specs.Verdicts.{IsVerdict}
use Rattle.core_book.specs.declared.machine.Answer.TheVariants as Answered
use Rattle.core_book.specs.declared.machine.Event.{Event}
use Rattle.core_book.specs.declared.machine.Event.TheVariants as Events
use Rattle.core_book.specs.declared.reply.Reply.{Reply}
use Rattle.core_book.specs.declared.reply.Reply.TheVariants.{Accepted}
use Rattle.core_book.specs.declared.verdict.Verdict.{Verdict}
use Rattle.core_book.specs.declared.verdict.Verdict.TheVariants.{Yes, No}

-- the core after these events from a new one
abbrev pub core_after : List ℕ → List JobView → ℕ → List Event → CoreView
core_after digest jobs seats events = after_events (new_core digest jobs seats) events

-- ---- draws

-- each number below the next is in one seat's list, once, and no other is in any
abbrev pub DrawsEachNumberOnce : Type 0
DrawsEachNumberOnce = (digest : List ℕ) (jobs : List JobView) (seats : ℕ) (events : List Event) →
    All (HasSeatBelow seats) events →
    IsEachNumberDrawnOnce (core_after digest jobs seats events).next (core_after digest jobs seats events).draws

-- each of the numbers is in one seat's list, once
abbrev pub AreAllNumbersDrawn : CoreView → Type 0
AreAllNumbersDrawn c = (number : ℕ) → number < job_count_of c → total (occurrences number) c.draws ≡ 1

-- a claim answers `Empty` only if all numbers were drawn
abbrev pub EmptyOnlyIfAllAreDrawn : Type 0
EmptyOnlyIfAllAreDrawn = (digest : List ℕ) (jobs : List JobView) (seats : ℕ) (events : List Event) (seat : ℕ) →
    All (HasSeatBelow seats) events → seat < seats →
    answer_to (core_after digest jobs seats events) (Events.Claim seat) ≡ Answered.Empty →
    AreAllNumbersDrawn (after_event (core_after digest jobs seats events) (Events.Claim seat))

-- ---- findings

-- the finding, if the reply to it is `Accepted`
abbrev pub finding_if_accepted : Finding → Reply → List Finding
finding_if_accepted f Accepted = f ∷ []
finding_if_accepted f _ = []

-- the finding that an event has accepted, if it does
abbrev pub findings_accepted_by : CoreView → Event → List Finding
findings_accepted_by c (Events.Claim seat) = []
findings_accepted_by c (Events.File f) = finding_if_accepted f (reply_to c.book f)
findings_accepted_by c (Events.Lose number) = []

-- the findings that are answered `Accepted`, in their order
abbrev pub findings_accepted_in : CoreView → List Event → List Finding
findings_accepted_in c [] = []
findings_accepted_in c (e ∷ es) = findings_accepted_by c e ++ findings_accepted_in (after_event c e) es

-- the findings held are those that were answered `Accepted`, each for its number
abbrev pub HoldsAcceptedFindings : Type 0
HoldsAcceptedFindings = (digest : List ℕ) (jobs : List JobView) (seats : ℕ) (events : List Event) (number : ℕ)
    (f : Finding) →
    (held_finding (core_after digest jobs seats events).book number ≡ Some f)
    ↔ (Contains (findings_accepted_in (new_core digest jobs seats) events) f × (number_of f ≡ number))

-- at most one for each number
abbrev pub AcceptsAtMostOnePerNumber : Type 0
AcceptsAtMostOnePerNumber = (digest : List ℕ) (jobs : List JobView) (seats : ℕ) (events : List Event) (number : ℕ) →
    count_by (λ f. number_of f == number) (findings_accepted_in (new_core digest jobs seats) events) ≤ 1

-- each is of the book's job of its number, and has the least fault of that job
abbrev pub HeldFindingsAreBooksAndLeast : Type 0
HeldFindingsAreBooksAndLeast = (digest : List ℕ) (jobs : List JobView) (seats : ℕ) (events : List Event) (number : ℕ)
    (f : Finding) →
    held_finding (core_after digest jobs seats events).book number ≡ Some f →
    BelongsToBook (core_after digest jobs seats events).book number f × IsLeastFault (job_of f) (fault_of f)
    × IsLeastKeepFault (job_of f) (keep_fault_of f)

-- no event changes a finding that is held
abbrev pub EventsKeepHeldFindings : Type 0
EventsKeepHeldFindings = (c : CoreView) (e : Event) (number : ℕ) (f : Finding) → held_finding c.book number ≡ Some f →
    held_finding (after_event c e).book number ≡ Some f

-- no event but a filing that is answered `Accepted` changes what is held
abbrev pub OnlyAcceptedChangesFindings : Type 0
OnlyAcceptedChangesFindings =
    (c : CoreView) (e : Event) → answer_to c e ≢ Answered.Reply Accepted →
    (after_event c e).book.findings ≡ c.book.findings

-- the history replays to the book
abbrev pub HistoryReplaysAfterEvents : Type 0
HistoryReplaysAfterEvents = (digest : List ℕ) (jobs : List JobView) (seats : ℕ) (events : List Event) →
    IsHistoryReplayed (core_after digest jobs seats events).book

-- ---- verdicts

-- both are `Yes`, or both are `No` with the same lines
abbrev pub AreSameVerdicts : Verdict → Verdict → Type 0
AreSameVerdicts Yes Yes = ⊤
AreSameVerdicts Yes (No lines) = ⊥
AreSameVerdicts (No lines) Yes = ⊥
AreSameVerdicts (No lines) (No others) = lines.items ≡ others.items

-- the modules of a certificate have one verdict, whatever book it was concluded from
abbrev pub VerdictIsUnique : Type 0
VerdictIsUnique = (g : Setting) (ms : List ModuleLines) (jobs : List JobView) (v w : Verdict) → IsVerdict g ms jobs v →
    IsVerdict g ms jobs w → AreSameVerdicts v w
