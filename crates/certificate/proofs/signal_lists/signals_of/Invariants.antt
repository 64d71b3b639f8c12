-- What the lines so far say.
use Rattle.certificate.proofs.Imports.{AreSignalLists, take}
use Rattle.certificate.proofs.signal_lists.signals_of.Given as goal

abbrev pub invariant-loop-line : goal.invariant-loop-line
invariant-loop-line l = AreSignalLists l.locals (take l.line-index l.lines) l.table
