-- The effect of the program on its streams: a command ran, or words that are not accepted are explained.
--
-- Read before: Stream.antt (`ServesCommand`), Status.antt and Commands.antt; command_line/specs/CommandLine.antt (which
-- words are accepted); streams/src/streams.rt (the members of a source and of a sink).
use Rattle.std.specs.Prelude.{◌≡◌, ◌⊎◌, ℕ, true, false, List, Option, Result, IfErr, OnOk}
use Rattle.clap.specs.Walk.{Text}
use Rattle.clap.specs.declared.error.kind.ErrorKind.{ErrorKind}
use Rattle.clap.specs.declared.error.kind.ErrorKind.TheVariants.{DisplayHelp, DisplayVersion}
use Rattle.streams.specs.declared.streams.Source.{Ghosts as Source}
use Rattle.streams.specs.declared.streams.Sink.{Ghosts as Sink}
use Rattle.command_line.specs.CommandLine.{AsksForHelp, IsAccepted, AsksOnlyForHelp, asked_by}
use Rattle.command_line.specs.declared.Request.{Request}
use Rattle.command_line.specs.declared.Request.TheVariants.{Check}
use Rattle.answers.specs.declared.outcome.Outcome.{Outcome}
use Rattle.meaning.specs.Streams.{HoldsOfKnownInput, YesMeans}
use Rattle.check_main.specs.declared.fault.CheckFault.{CheckFault}
use Rattle.check_main.specs.declared.fault.CheckFault.TheVariants.{Write, Memory}
use Rattle.check_main.specs.declared.front.Streams.{Streams}
use Rattle.check_main.specs.Commands.{IsAnswerTo}
use Rattle.check_main.specs.Status.{WritesFaultLine, status_for}
use Rattle.check_main.specs.Stream.{ServesCommand}

-- the words are accepted, and ask for `check`
pub record AsksForCheck (words : List Text) : Type 0 where
  pub accepted : IsAccepted words
  pub asked : asked_by words ≡ Check

-- The promise of a yes: P holds of the text that the reader had to give. A call says yes by its end, or by the fourth
-- line of the bytes that it wrote, whatever its end.
pub record YesPromises (P : List ℕ → Type 0) (EndsAsYes : Type 0)
    (left written_bytes written_bytes' : Option (List ℕ)) : Type 0 where
  pub by_end : EndsAsYes → HoldsOfKnownInput P left
  pub by_line : YesMeans P left written_bytes written_bytes'

-- The command of a request ran on the streams, and its end gave the status.
pub record RanCommand {R W E : Type 0} (source : Source R) (sink : Sink W) (messages : Sink E) (request : Request)
    (old new : Streams R W E) (status : ℕ) : Type 0 where
  -- the end of the command: its outcome, or its fault
  pub ended : Result Outcome CheckFault
  -- what it read and wrote, by its end
  pub served : ServesCommand (IsAnswerTo request) source sink old.reader new.reader old.writer new.writer ended
  pub status_of_end : status ≡ status_for ended
  -- after a fault, `errors` got its line
  pub said : IfErr ended (WritesFaultLine messages old.errors new.errors)
  -- after an outcome, `errors` got nothing
  pub quiet : OnOk ended (new.errors ≡ old.errors)

-- an error of this kind is the help that was asked for, or the version
abbrev pub IsHelpOrVersion : ErrorKind → Type 0
IsHelpOrVersion kind = (kind ≡ DisplayHelp) ⊎ (kind ≡ DisplayVersion)

-- The effect of words that are not accepted on the writer and on `errors`, by the status. `AskForHelp` says that the
-- words ask for help or for the version, and `AskForHelpAlone` that nothing else is to be said of them.
pub record ExplainsWords {W E : Type 0} (sink : Sink W) (messages : Sink E) (AskForHelp AskForHelpAlone : Type 0)
    (writer writer' : W) (errors errors' : E) (status : ℕ) : Type 0 where
  -- no other status occurs
  pub range : (status ≡ 0) ⊎ (status ≡ 2) ⊎ (status ≡ 4) ⊎ (status ≡ 5)
  -- the words ask for help, the writer has not failed, and `errors` got nothing
  pub helped : status ≡ 0 → AskForHelp × (sink.has_failed writer' ≡ false) × (errors' ≡ errors)
  -- something is wrong with the words, and the writer got nothing
  pub refused : status ≡ 2 → (¬ AskForHelpAlone) × (writer' ≡ writer)
  -- the words ask for help, and the writer failed
  pub cut_off : status ≡ 4 → AskForHelp × (sink.has_failed writer' ≡ true)
      × WritesFaultLine messages errors errors' Write
  -- memory ran out, and the writer got nothing
  pub out_of_memory : status ≡ 5 → (writer' ≡ writer) × WritesFaultLine messages errors errors' Memory

-- The words were explained, and nothing was read.
pub record ExplainedWords {R W E : Type 0} (sink : Sink W) (messages : Sink E) (words : List Text)
    (old new : Streams R W E) (status : ℕ) : Type 0 where
  -- the reader is as it was
  pub unread : new.reader ≡ old.reader
  pub by_status : ExplainsWords sink messages (AsksForHelp words) (AsksOnlyForHelp words) old.writer new.writer
      old.errors new.errors status
