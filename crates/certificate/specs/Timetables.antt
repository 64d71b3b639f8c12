-- The signals of edge or halo lines, by the numbers of their wires
use Rattle.std.specs.Prelude.{◌≡◌, ℕ, List, map, None, Option, Some, IfSome, IsTrue}
use Rattle.std.specs.List.{All, flat_map}
use Rattle.circuit.specs.Meaning.{wires}
use Rattle.module_box.specs.Locals.{LocalNet, circuit_wire, is_among}
use Rattle.module_box.specs.Schedules.{IsRising, Signals}
use Rattle.module_box.specs.declared.schedules.Signal.{Signal}
use Rattle.module_box.specs.declared.schedules.Signal.TheVariants.{One, Wire}
use Rattle.certificate_lines.specs.StoredModules.{cell_at}
use Rattle.certificate_lines.specs.Versions.{border_line_cmp}
use Rattle.certificate.specs.Jobs.{event_if_timed, signal_if_starred}
use Rattle.module_job.specs.Signals.{IsSignalWireBelow, renumber_all_times, renumber_event}
use Rattle.certificate_lines.specs.declared.certificate_line.BorderLine.{BorderLine}
use Rattle.certificate_lines.specs.declared.stored_module.StoredBorder.{StoredBorder}
use Rattle.certificate.specs.declared.signal_lists.SignalLists.{SignalLists}

-- the time and the cell of a line
abbrev pub unnamed_line : StoredBorder → BorderLine
unnamed_line b = record { time = b.time; cell = cell_at b.column b.row; signal = None }

-- the signal of a wire, or the constant `1`
abbrev pub one_or_wire : Option ℕ → Signal
one_or_wire None = One
one_or_wire (Some w) = Wire w

-- what lines say, one after the other
abbrev pub stored_signals : List StoredBorder → Signals
stored_signals bs = record {
  all_times = flat_map (λ b. signal_if_starred (unnamed_line b) b.time (one_or_wire b.wire)) bs;
  events = flat_map (λ b. event_if_timed (unnamed_line b) b.time (one_or_wire b.wire)) bs;
}

-- the lines are in the order of edge and halo lines
abbrev pub AreBorderLinesRising : List StoredBorder → Type 0
AreBorderLinesRising bs = IsRising border_line_cmp unnamed_line bs

-- the wire of the line, if it has one, is one of the module's
abbrev pub HasLocalWire : LocalNet → StoredBorder → Type 0
HasLocalWire l b = IfSome b.wire (λ w. IsTrue (is_among l.circuit_wires w))

-- what is held and what happens is what the lines say, and each wire is one of the module's
pub record AreSignalLists (l : LocalNet) (bs : List StoredBorder) (t : SignalLists) : Type 0 where
  pub all_times : map (renumber_all_times (circuit_wire l)) t.all_times.items ≡ (stored_signals bs).all_times
  pub events : map (renumber_event (circuit_wire l)) t.events.items ≡ (stored_signals bs).events
  pub own_all_times : All (λ h. IsSignalWireBelow (wires l.netlist) h.signal) t.all_times.items
  pub own_events : All (λ e. IsSignalWireBelow (wires l.netlist) e.signal) t.events.items
