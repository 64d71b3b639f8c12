-- The fields of a circuit, and its view: the lines.
use Rattle.std.specs.Prelude.{◌≡◌, ◌≤◌, List, None, length, map}
use Rattle.circuit.specs.Entries.{defined}
use Rattle.circuit.specs.declared.circuit_line.CircuitLine.{CircuitLine}
use Rattle.circuit.specs.declared.netlist.Circuit.TheInside.{Inside}
use Rattle.circuit.specs.Rules.{consumed, gate_count, first_unconsumed}
use Rattle.circuit.specs.Bridge.{AreGoodCircuitLines, gates_of}
use Rattle.circuit.specs.Wiring.{gate_of}
use Rattle.lemmas.specs.Bounds.{max_gates, max_wires}

-- the lines of a circuit, from its fields
abbrev pub circuit_entries : Inside → List CircuitLine
circuit_entries a = a.entries.items

-- the fields of every circuit: good lines, of which each wire is consumed, within the limits
pub record AreCircuitFields (a : Inside) : Type 0 where
  pub wires : a.wires.keys ≡ defined a.entries.items
  pub all_used : first_unconsumed (consumed a.entries.items) (defined a.entries.items) ≡ None
  pub few_wires : length (defined a.entries.items) ≤ max_wires
  pub few_gates : gate_count a.entries.items ≤ max_gates
  pub good : AreGoodCircuitLines a.entries.items
  pub wired : map gate_of a.wired.items ≡ gates_of (defined a.entries.items) a.entries.items
