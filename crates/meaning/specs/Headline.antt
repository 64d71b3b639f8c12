-- The meaning of a yes of `check`, of the bytes of a text alone.
--
-- Read before, in this order: section_text/specs/Words.antt (which bytes are a name);
-- bbm_rule/specs/{Plane,Spans}.antt (a step, a run, a rectangle); pattern/specs/Layout.antt (a layout, and its plane);
-- circuit/specs/{Entries,Gates,Meaning,Bridge}.antt (the lines of a circuit, its gates, valuations);
-- Implements.antt (a layout computes a circuit); Printed.antt (how a text prints a circuit and a layout). The types
-- that they name are in circuit/src/circuit_line.rt, bbm_rule/src/block.rt and pattern/src/layout_line.rt.
-- `tools/docs/reading_list.py --definitions` names the definitions that are meant.
use Rattle.std.specs.Prelude.{ℕ, List}
use Rattle.circuit.specs.declared.circuit_line.CircuitLine.{CircuitLine}
use Rattle.pattern.specs.Layout.{Pattern}
use Rattle.meaning.specs.Implements.{IsCorrect}
use Rattle.meaning.specs.Printed.{BeginsWithDesign}

-- the text begins with a circuit and then a layout, and the layout computes the circuit
pub record IsRight (text : List ℕ) : Type 0 where
  pub circuit : List CircuitLine
  pub layout : Pattern
  pub begins : BeginsWithDesign text circuit layout
  pub correct : IsCorrect circuit layout
