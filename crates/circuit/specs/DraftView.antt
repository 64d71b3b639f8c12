-- The fields of a draft, and its view.
use Rattle.std.specs.Prelude.{◌≡◌, ◌≤◌, ◌++◌, ◌∷◌, [], List, Option, length, map}
use Rattle.section_text.specs.Words.{has}
use Rattle.section_text.specs.declared.limits.Limits.{Limits}
use Rattle.circuit.specs.Entries.{defined}
use Rattle.circuit.specs.declared.circuit_line.CircuitLine.{CircuitLine}
use Rattle.circuit.specs.declared.draft.Draft.TheInside.{Inside}
use Rattle.circuit.specs.Rules.{consumed, gate_count, limit_or_name_code_within}
use Rattle.section_text.specs.declared.code.RefusalCode.{RefusalCode}
use Rattle.circuit.specs.Bridge.{AreGoodCircuitLines, gates_of}
use Rattle.circuit.specs.Wiring.{gate_of}
use Rattle.lemmas.specs.Bounds.{max_gates, max_wires}

-- a draft: the limits on its wires and gates, and its lines
pub record DraftView : Type 0 where
  pub limits : Limits
  pub lines : List CircuitLine

-- the code of the first test that a line fails if it is added to a draft
abbrev pub draft_fault : DraftView → CircuitLine → Option RefusalCode
draft_fault d r = limit_or_name_code_within d.limits d.lines r

-- a draft with one more line
abbrev pub with_line : DraftView → CircuitLine → DraftView
with_line d r = record d { lines = d.lines ++ r ∷ [] }

-- the view of a draft, from its fields
abbrev pub draft_view : Inside → DraftView
draft_view a = record { limits = a.limits; lines = a.entries.items }

-- the fields of every draft: good lines within the largest limits, with the names that they define. The mark of each of
-- these is set exactly if the lines consume it
pub record AreDraftFields (a : Inside) : Type 0 where
  pub wires : a.wires.keys ≡ defined a.entries.items
  pub consumed : a.consumed.items ≡ map (has (consumed a.entries.items)) (defined a.entries.items)
  pub gates : a.gates ≡ gate_count a.entries.items
  pub few_gates : a.gates ≤ max_gates
  pub few_wires : length (defined a.entries.items) ≤ max_wires
  pub good : AreGoodCircuitLines a.entries.items
  pub wired : map gate_of a.wired.items ≡ gates_of (defined a.entries.items) a.entries.items
