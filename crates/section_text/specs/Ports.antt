-- The names that the ports of a layout may have, as lists.
use Rattle.std.specs.Prelude.{ℕ, List, Option, Some, None}
use Rattle.section_text.specs.declared.ports.PortNames.{PortNames}
use Rattle.section_text.specs.declared.ports.PortNames.TheVariants.{Any, Only}

-- the names that ports may have: those of inputs, and those of outputs
pub record PortNameLists : Type 0 where
  pub ins : List (List ℕ)
  pub outs : List (List ℕ)

-- what port names say: `None` if any name is good
abbrev pub port_name_lists : PortNames → Option PortNameLists
port_name_lists Any = None
port_name_lists (Only ins outs) = Some (record { ins = ins.items; outs = outs.items })
