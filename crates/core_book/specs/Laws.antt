-- Laws of books
use Rattle.std.specs.Prelude.{◌≡◌, ◌≢◌, ◌↔◌, ℕ, length, None, Some, IsSome, true}
use Rattle.local_run.specs.Shown.{number_of, fault_of, keep_fault_of}
use Rattle.local_run.specs.declared.finding.Finding.{Finding}
use Rattle.core_book.specs.Book.{BelongsToBook, BookView, IsBook, IsHistoryReplayed, after_closing, after_filing}
use Rattle.core_book.specs.Book.{held_finding, held_finding_count, reply_to}
use Rattle.core_book.specs.Verdicts.{AreFindingsHeldBelow}
use Rattle.core_book.specs.Replay.{has_closing}
use Rattle.core_book.specs.declared.reply.Mismatch.{Mismatch}
use Rattle.core_book.specs.declared.reply.Reply.TheVariants.{Closed, Stranger, Double, Accepted}

-- what is accepted is the book's own, and nothing is held for its number
abbrev pub AcceptedFindingMatchesBookAndIsNew : Type 0
AcceptedFindingMatchesBookAndIsNew = (b : BookView) (f : Finding) → reply_to b f ≡ Accepted →
    BelongsToBook b (number_of f) f × (held_finding b (number_of f) ≡ None)

-- what is answered `Double` is the book's own, and a finding is held for its number
abbrev pub DoubleFindingMatchesBookAndIsHeld : Type 0
DoubleFindingMatchesBookAndIsHeld = (b : BookView) (f : Finding) (number : ℕ) → reply_to b f ≡ Double number →
    BelongsToBook b number f × IsSome (held_finding b number)

-- what is the book's own is no stranger
abbrev pub MatchingFindingIsNoStranger : Type 0
MatchingFindingIsNoStranger =
    (b : BookView) (f : Finding) (number : ℕ) (mismatch : Mismatch) → BelongsToBook b number f →
    reply_to b f ≢ Stranger mismatch

-- a closed book answers `Closed`, and no other does
abbrev pub ClosedBookAloneAnswersClosed : Type 0
ClosedBookAloneAnswersClosed = (b : BookView) (f : Finding) → (reply_to b f ≡ Closed) ↔ (b.closed ≡ true)

-- what is accepted is held from then on
abbrev pub AcceptedFindingIsHeld : Type 0
AcceptedFindingIsHeld = (b : BookView) (f : Finding) → IsBook b → reply_to b f ≡ Accepted →
    held_finding (after_filing b f) (number_of f) ≡ Some f

-- no filing changes a finding that is held
abbrev pub FilingKeepsHeldFindings : Type 0
FilingKeepsHeldFindings = (b : BookView) (f g : Finding) (number : ℕ) → held_finding b number ≡ Some g →
    held_finding (after_filing b f) number ≡ Some g

-- if a finding is not accepted, what is held stays
abbrev pub UnacceptedKeepsFindings : Type 0
UnacceptedKeepsFindings = (b : BookView) (f : Finding) → reply_to b f ≢ Accepted →
    (after_filing b f).findings ≡ b.findings

-- a filing leaves a book
abbrev pub FilingKeepsBookValid : Type 0
FilingKeepsBookValid = (b : BookView) (f : Finding) → IsBook b → IsBook (after_filing b f)

-- a history that replays to the book does so after a filing, and after a closing
abbrev pub EachEntryKeepsReplay : Type 0
EachEntryKeepsReplay = (b : BookView) → IsBook b → IsHistoryReplayed b →
    ((f : Finding) → IsHistoryReplayed (after_filing b f)) × IsHistoryReplayed (after_closing b)

-- a book to which its history replays is closed exactly if the history has a closing entry
abbrev pub ClosedIfHistoryHasClosing : Type 0
ClosedIfHistoryHasClosing = (b : BookView) → IsHistoryReplayed b → b.closed ≡ has_closing b.history

-- what two books of the same jobs hold for one number has the same fault
abbrev pub BooksAgreeOnFaults : Type 0
BooksAgreeOnFaults = (b c : BookView) (number : ℕ) (f g : Finding) → IsBook b → IsBook c → b.jobs ≡ c.jobs →
    held_finding b number ≡ Some f → held_finding c number ≡ Some g →
    (fault_of f ≡ fault_of g) × (keep_fault_of f ≡ keep_fault_of g)

-- a book that accepted as many findings as it has jobs holds one for each job
abbrev pub FullBookHoldsAll : Type 0
FullBookHoldsAll = (b : BookView) → IsBook b → held_finding_count b ≡ length b.jobs →
    AreFindingsHeldBelow b b.jobs (length b.jobs)
