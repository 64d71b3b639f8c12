-- Reading a text to its end, and writing the answer.
use Rattle.std.specs.Prelude.{◌≡◌, ◌≢◌, ◌<◌, ◌≤◌, ◌++◌, ℕ, true, false, List, None, Result, IfErr, IfOk, IsErrOf}
use Rattle.std.specs.Prelude.{OnOk, length}
use Rattle.std.specs.declared.option.Option.{Option}
use Rattle.std.specs.Io.KnownBytes.{Consumes, IsAtEnd, Appends}
use Rattle.streams.specs.declared.streams.Source.{Ghosts as Source}
use Rattle.streams.specs.declared.streams.Sink.{Ghosts as Sink}
use Rattle.section_text.specs.Feeds.{FeedView}
use Rattle.section_text.specs.Limits.{own_text_limit}
use Rattle.answers.specs.declared.outcome.Outcome.{Outcome}
use Rattle.check_main.specs.declared.fault.CheckFault.{CheckFault}
use Rattle.check_main.specs.declared.fault.CheckFault.TheVariants.{Read, Write, TooLong}

-- the text is no longer than its first line allows
unfoldable pub IsTextWithinLimit : List ℕ → Type 0
IsTextWithinLimit text = length text ≤ own_text_limit text

-- the text is longer
unfoldable pub IsTextPastLimit : List ℕ → Type 0
IsTextPastLimit text = own_text_limit text < length text

-- the reader gave the text, and has no more
pub record ReadsAll (old new : Option (List ℕ)) (text : List ℕ) : Type 0 where
  pub given : Consumes old new text
  pub ended : IsAtEnd new
  pub within : IsTextWithinLimit text

-- the reader gave a byte past the limit of its text
pub record GivesTooMuch (old new : Option (List ℕ)) : Type 0 where
  pub text : List ℕ
  pub given : Consumes old new text
  pub beyond : IsTextPastLimit text

-- the feed is all of a text, of which no line is taken
abbrev pub closed_feed_of : List ℕ → FeedView
closed_feed_of text = record { text = text; taken = 0; closed = true; stop = None }

-- the writer took the first bytes of the output, and not all of them
pub record AppendsProperPrefix (old new : Option (List ℕ)) (output : List ℕ) : Type 0 where
  pub taken : List ℕ
  pub rest : List ℕ
  pub whole : output ≡ taken ++ rest
  pub cut : 0 < length rest
  pub appended : Appends old new taken

-- A command is a relation: which output, with which outcome, is right for a text.

-- a text was read whole, and an output that is right for it was written, with its outcome
pub record Answers (R : List ℕ → List ℕ → Outcome → Type 0) (left left' written_bytes written_bytes' : Option (List ℕ))
    (outcome : Outcome) : Type 0 where
  pub text : List ℕ
  pub output : List ℕ
  pub read : ReadsAll left left' text
  pub right : R text output outcome
  pub written : Appends written_bytes written_bytes' output

-- a text was read whole, and the first bytes of an output that is right for it were written, and not all of them
pub record BreaksOff (R : List ℕ → List ℕ → Outcome → Type 0)
    (left left' written_bytes written_bytes' : Option (List ℕ)) : Type 0 where
  pub text : List ℕ
  pub output : List ℕ
  pub outcome : Outcome
  pub read : ReadsAll left left' text
  pub right : R text output outcome
  pub written : AppendsProperPrefix written_bytes written_bytes' output

-- The effect of a call of the command `R` on a reader and a writer that had not failed, and its end.
pub record ServesCommand {X Y : Type 0} (R : List ℕ → List ℕ → Outcome → Type 0) (source : Source X) (sink : Sink Y)
    (reader reader' : X) (writer writer' : Y) (result : Result Outcome CheckFault) : Type 0 where
  pub answered : IfOk result (Answers R (source.left reader) (source.left reader')
      (sink.written_bytes writer) (sink.written_bytes writer'))
  pub works : OnOk result ((source.has_failed reader' ≡ false) × (sink.has_failed writer' ≡ false))
  pub read : IsErrOf result Read → source.has_failed reader' ≡ true
  pub too_long : IsErrOf result TooLong → GivesTooMuch (source.left reader) (source.left reader')
  pub write : IsErrOf result Write → sink.has_failed writer' ≡ true
  pub prefix : IsErrOf result Write → BreaksOff R (source.left reader) (source.left reader')
      (sink.written_bytes writer) (sink.written_bytes writer')
  pub unwritten : IfErr result (λ fault. fault ≢ Write → writer' ≡ writer)
