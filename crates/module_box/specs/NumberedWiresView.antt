-- Wires that are numbered anew, by the fields that keep them
use Rattle.std.specs.Prelude.{◌≤◌, ◌^◌, ℕ, List, length}
use Rattle.module_box.specs.Locals.{AreDistinct}
use Rattle.module_box.specs.declared.numbered_wires.NumberedWires.TheInside.{Inside}

-- the wires in their order, from the fields
abbrev pub wires_in_order : Inside → List ℕ
wires_in_order a = a.wires.items

-- no wire is there twice, and each new number has 16 bits
pub record AreWiresNumbered (a : Inside) : Type 0 where
  pub different : AreDistinct a.wires.items
  pub few : length a.wires.items ≤ 2 ^ 16
