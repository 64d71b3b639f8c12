-- The fields of a layout, and its view.
use Rattle.std.specs.Prelude.{◌≡◌, None, []}
use Rattle.pattern.specs.declared.layout.Layout.TheInside.{Inside}
use Rattle.pattern.specs.Layout.{Pattern, parts_of}
use Rattle.pattern.specs.Lines.{size_fault, AreGoodAfter}

-- the view of a layout, from its fields
abbrev pub pattern_of : Inside → Pattern
pattern_of a = record {
  size = a.size;
  mirrors = a.mirrors.items;
  balls = a.balls.items;
  ins = a.ins.items;
  outs = a.outs.items;
  wastes = a.wastes.items;
}

-- its first line and its others are good
pub record AreLayoutFields (a : Inside) : Type 0 where
  pub size : size_fault a.size ≡ None
  pub parts : AreGoodAfter a.size [] (parts_of (pattern_of a))
