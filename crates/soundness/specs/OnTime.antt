-- The meaning of a yes for stops, delays and meetings.
use Rattle.std.specs.Prelude.{◌≡◌, List}
use Rattle.std.specs.List.{All}
use Rattle.circuit.specs.Meaning.{Circuit, Valuation, Satisfies, values_by_name}
use Rattle.pattern.specs.Layout.{Pattern}
use Rattle.certificate_lines.specs.Entries.{ModuleLines}
use Rattle.certificate.specs.Arrivals.{AreOnTime}
use Rattle.certificate.specs.Times.{all_stops}
use Rattle.certificate_lines.specs.declared.certificate_line.StopLine.{StopLine}
use Rattle.meaning.specs.Implements.{run_under}

-- for all values of the inputs, the cell of the stop is live at its time exactly if its wire is true
abbrev pub StopHolds : Circuit → Pattern → StopLine → Type 0
StopHolds c p s = (inputs v : Valuation) → Satisfies c.netlist inputs v →
    run_under c p inputs s.time s.cell.x s.cell.y ≡ values_by_name c v s.wire

-- all stops of modules do, each delay takes as many steps as it says, and the inputs of each gate meet
pub record AreStopsTrueAndOnTime (c : Circuit) (p : Pattern) (ms : List ModuleLines) : Type 0 where
  pub stops : All (StopHolds c p) (all_stops ms)
  pub times : AreOnTime c (all_stops ms)
