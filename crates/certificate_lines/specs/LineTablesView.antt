-- A circuit and a layout with tables of the layout's ports by their cells, and their view
use Rattle.std.specs.Prelude.{◌≡◌, ◌≤◌, None, length}
use Rattle.circuit.specs.Bridge.{netlist_of}
use Rattle.circuit.specs.Meaning.{wires}
use Rattle.pattern.specs.Lines.{size_fault}
use Rattle.certificate_lines.specs.Entries.{Setting}
use Rattle.certificate_lines.specs.PortTables.{ArePortTables}
use Rattle.certificate_lines.specs.Settings.{setting_of}
use Rattle.certificate_lines.specs.declared.line_tables.LineTables.TheInside.{Inside}
use Rattle.lemmas.specs.Bounds.{max_gates, max_wires}

-- the circuit and the layout, from the fields
abbrev pub tables_setting : Inside → Setting
tables_setting a = setting_of a.circuit.now a.layout.now

-- the tables are of the layout's ports, and circuit and layout are within their limits
pub record AreLineTables (a : Inside) : Type 0 where
  pub ports : ArePortTables a.circuit.now a.layout.now a.ports.now.ins a.ports.now.outs
  pub few_wires : wires (netlist_of a.circuit.now) ≤ max_wires
  pub few_gates : length (netlist_of a.circuit.now).gates ≤ max_gates
  pub sized : size_fault a.layout.now.size ≡ None
