-- The view of a module's wires and gates, from the fields
use Rattle.std.specs.Prelude.{◌≡◌, ◌≤◌, map, length}
use Rattle.circuit.specs.Meaning.{AreGatesOrdered, wires}
use Rattle.module_box.specs.declared.locals.Locals.TheInside.{Inside}
use Rattle.module_box.specs.LocalGates.{gate_of_local_gate}
use Rattle.module_box.specs.Locals.{LocalNet, cut_limit, use_limit}

-- the wires and gates of a module, from the fields
abbrev pub local_net : Inside → LocalNet
local_net l = record {
  netlist = record { given = l.given; gates = map gate_of_local_gate l.gates.items };
  circuit_wires = l.circuit_wires;
  circuit_gates = l.circuit_gates.items;
}

-- the gates are ordered over the cuts, and each wire has its number in the circuit
pub record IsLocalNet (l : Inside) : Type 0 where
  pub ordered : AreGatesOrdered l.given (map gate_of_local_gate l.gates.items)
  pub sized : length l.circuit_wires ≡ wires (local_net l).netlist
  pub few_cuts : l.given ≤ cut_limit
  pub few_gates : length l.gates.items ≤ use_limit
  pub few_wires : length l.circuit_wires ≤ 268
