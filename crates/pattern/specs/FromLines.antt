-- A layout from its lines.
use Rattle.std.specs.Prelude.{List, [], ◌∷◌}
use Rattle.std.specs.List.{flat_map}
use Rattle.bbm_rule.specs.declared.block.Cell.{Cell}
use Rattle.pattern.specs.Layout.{Pattern}
use Rattle.pattern.specs.declared.layout_line.LayoutHeader.{LayoutHeader}
use Rattle.pattern.specs.declared.layout_line.LayoutLine.{LayoutLine}
use Rattle.pattern.specs.declared.layout_line.LayoutLine.TheVariants.{Mirror, Ball, In, Out, Waste}
use Rattle.pattern.specs.declared.layout_line.Port.{Port}
use Rattle.bbm_rule.specs.declared.block.Box2.{Box2}

-- the rectangle of a line, if it is a mirror
abbrev pub mirror_in : LayoutLine → List Box2
mirror_in (Mirror r) = r ∷ []
mirror_in _ = []

-- the cell of a line, if it is a ball
abbrev pub ball_in : LayoutLine → List Cell
ball_in (Ball c) = c ∷ []
ball_in _ = []

-- the port of a line, if it is an input
abbrev pub input_in : LayoutLine → List Port
input_in (In p) = p ∷ []
input_in _ = []

-- the port of a line, if it is an output
abbrev pub output_in : LayoutLine → List Port
output_in (Out p) = p ∷ []
output_in _ = []

-- the cell of a line, if it is a waste cell
abbrev pub waste_in : LayoutLine → List Cell
waste_in (Waste c) = c ∷ []
waste_in _ = []

-- the layout of this extent that these lines make
abbrev pub layout_of : LayoutHeader → List LayoutLine → Pattern
layout_of extent parts = record {
  size = extent;
  mirrors = flat_map mirror_in parts;
  balls = flat_map ball_in parts;
  ins = flat_map input_in parts;
  outs = flat_map output_in parts;
  wastes = flat_map waste_in parts;
}
