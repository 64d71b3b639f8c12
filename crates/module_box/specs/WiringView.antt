-- The view of a wiring, from the fields
use Rattle.std.specs.Prelude.{◌≡◌, ◌≤◌, map, length}
use Rattle.circuit.specs.Meaning.{Netlist, AreGatesOrdered, wires}
use Rattle.module_box.specs.declared.wiring.Wiring.TheInside.{Inside}
use Rattle.module_box.specs.LocalGates.{gate_of_local_gate}
use Rattle.module_box.specs.Locals.{cut_limit, use_limit}

-- the netlist of a wiring, from the fields
abbrev pub wiring_net : Inside → Netlist
wiring_net l = record { given = l.given; gates = map gate_of_local_gate l.gates.items }

-- the gates are ordered over the given wires
pub record IsWiring (l : Inside) : Type 0 where
  pub ordered : AreGatesOrdered l.given (map gate_of_local_gate l.gates.items)
  pub sized : l.wires ≡ wires (wiring_net l)
  pub few_cuts : l.given ≤ cut_limit
  pub few_gates : length l.gates.items ≤ use_limit
  pub few_wires : l.wires ≤ 268
