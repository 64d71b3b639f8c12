-- The exit status for the end of a command, and the line for a fault.
use Rattle.std.specs.Prelude.{◌≡◌, ◌++◌, ℕ, false, List, Ok, Err, Result, codes}
use Rattle.std.specs.Io.KnownBytes.{Appends}
use Rattle.streams.specs.declared.streams.Sink.{Ghosts as Sink}
use Rattle.answers.specs.declared.outcome.Outcome.{Outcome}
use Rattle.answers.specs.declared.outcome.Outcome.TheVariants.{Yes, No, Refused}
use Rattle.check_main.specs.declared.fault.CheckFault.{CheckFault}
use Rattle.check_main.specs.declared.fault.CheckFault.TheVariants.{Read, Write, TooLong, Memory}

-- the exit status for the end of a command
abbrev pub status_for : Result Outcome CheckFault → ℕ
status_for (Ok Yes) = 0
status_for (Ok No) = 1
status_for (Ok Refused) = 3
status_for (Err Read) = 4
status_for (Err Write) = 4
status_for (Err TooLong) = 4
status_for (Err Memory) = 5

-- the words for a fault
abbrev pub fault_text : CheckFault → List ℕ
fault_text Read = codes "read fault"
fault_text Write = codes "write fault"
fault_text TooLong = codes "text too long"
fault_text Memory = codes "out of memory"

-- the line for a fault on standard error
unfoldable pub fault_line : CheckFault → List ℕ
fault_line fault = codes "bbmcheck: " ++ fault_text fault ++ codes "\n"

-- the line for a fault was written to a sink, unless that failed
abbrev pub WritesFaultLine : {E : Type 0} → Sink E → E → E → CheckFault → Type 0
WritesFaultLine sink errors errors' fault =
    sink.has_failed errors' ≡ false →
    Appends (sink.written_bytes errors) (sink.written_bytes errors') (fault_line fault)
