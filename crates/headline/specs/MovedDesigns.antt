-- Each small design that computes its circuit gets a yes, after it is moved away from the rim of its rectangle.
--
-- Read before: SmallDesigns.antt; module_box/specs/Moves.antt (`moved_cell`).
use Rattle.std.specs.Prelude.{◌≡◌, ◌+◌, ◌≤◌, ℕ, pos, List, length, map}
use Rattle.bbm_rule.specs.declared.block.Cell.{Cell}
use Rattle.circuit.specs.Bridge.{input_names, netlist_of}
use Rattle.circuit.specs.declared.circuit_line.CircuitLine.{CircuitLine}
use Rattle.module_box.specs.Moves.{moved_cell}
use Rattle.pattern.specs.Layout.{Pattern}
use Rattle.pattern.specs.declared.layout_line.LayoutHeader.{LayoutHeader}
use Rattle.pattern.specs.declared.layout_line.Port.{Port}
use Rattle.bbm_rule.specs.declared.block.Box2.{Box2}
use Rattle.answers.specs.CheckText.{IsReportOf}
use Rattle.answers.specs.declared.outcome.Outcome.{Outcome}
use Rattle.answers.specs.declared.outcome.Outcome.TheVariants.{No, Yes}
use Rattle.soundness.specs.PlainCertificates.{TouchesRim}
use Rattle.meaning.specs.Implements.{IsCorrect}
use Rattle.headline.specs.SmallDesigns.{HasNoDelay, IsDesign, IsPlainText, IsSmallDesign, design_text}

-- ---- a layout that is moved

-- the cell two columns to the right of this one and two rows below it
abbrev pub moved_by_two : Cell → Cell
moved_by_two c = moved_cell (pos 2) (pos 2) c

-- the port of the same wire at the moved cell
abbrev pub port_moved_by_two : Port → Port
port_moved_by_two q = record { name = q.name; cell = moved_by_two q.cell }

-- the rectangle of the moved cells
abbrev pub rectangle_moved_by_two : Box2 → Box2
rectangle_moved_by_two r = record { x = r.x + 2; y = r.y + 2; w = r.w; h = r.h }

-- the same number of steps in a rectangle that is 4 cells wider and 4 cells higher
abbrev pub enlarged : LayoutHeader → LayoutHeader
enlarged s = record { w = s.w + 4; h = s.h + 4; steps = s.steps }

-- The same mirrors, balls, ports and waste cells in the middle of the larger rectangle. Both numbers of the move are
-- even, so the blocks of each step move onto blocks of the same step.
abbrev pub moved : Pattern → Pattern
moved p = record {
  size = enlarged p.size;
  mirrors = map rectangle_moved_by_two p.mirrors;
  balls = map moved_by_two p.balls;
  ins = map port_moved_by_two p.ins;
  outs = map port_moved_by_two p.outs;
  wastes = map moved_by_two p.wastes;
}

-- ---- what is proved of it

-- at most 60 by 60 cells, 65,536 steps, 12 inputs and 64 gates, so that the larger layout is small too
pub record HasRoomToMove (circuit : List CircuitLine) (layout : Pattern) : Type 0 where
  pub wide : layout.size.w ≤ 60
  pub high : layout.size.h ≤ 60
  pub short : layout.size.steps ≤ 65536
  pub inputs : length (input_names circuit) ≤ 12
  pub gates : length (netlist_of circuit).gates ≤ 64

-- The moved layout keeps the rules, computes the circuit, and keeps off its rim. Its plain text has a report, and each
-- report on this text has the outcome yes.
pub record MovedGetsYes (circuit : List CircuitLine) (layout : Pattern) : Type 0 where
  pub design : IsDesign circuit (moved layout)
  pub small : IsSmallDesign circuit (moved layout)
  pub plain : IsPlainText (design_text circuit (moved layout)) circuit (moved layout)
  pub correct : IsCorrect circuit (moved layout)
  pub off_rim : ¬ TouchesRim circuit (moved layout)
  pub report : List ℕ
  pub reported : IsReportOf (design_text circuit (moved layout)) report Yes
  pub always : (output : List ℕ) (outcome : Outcome) →
      IsReportOf (design_text circuit (moved layout)) output outcome → outcome ≡ Yes

-- This holds of each design with room that keeps the rules and computes its circuit, if the circuit has no delay.
abbrev pub EachMovedCorrectDesignGetsYes : Type 0
EachMovedCorrectDesignGetsYes = (circuit : List CircuitLine) (layout : Pattern) → IsDesign circuit layout →
    HasRoomToMove circuit layout → IsCorrect circuit layout → HasNoDelay circuit → MovedGetsYes circuit layout

-- Some design needs the move. It touches its rim, so its own plain text is reported with the outcome no.
pub record SomeDesignNeedsMove : Type 0 where
  pub circuit : List CircuitLine
  pub layout : Pattern
  pub design : IsDesign circuit layout
  pub room : HasRoomToMove circuit layout
  pub correct : IsCorrect circuit layout
  pub no_delay : HasNoDelay circuit
  pub touches : TouchesRim circuit layout
  pub output : List ℕ
  pub reported : IsReportOf (design_text circuit layout) output No
  pub gets_yes : MovedGetsYes circuit layout
