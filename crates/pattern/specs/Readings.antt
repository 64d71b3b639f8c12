-- The view of a reader of layouts.
use Rattle.std.specs.Prelude.{Option}
use Rattle.section_text.specs.declared.limits.Limits.{Limits}
use Rattle.section_text.specs.Ports.{PortNameLists}
use Rattle.pattern.specs.Layout.{Pattern}

-- the names that ports may have, and the layout so far
pub record ReadingView : Type 0 where
  -- the limits of the text
  pub limits : Limits
  pub ports : Option PortNameLists
  -- the layout of the lines so far
  pub layout : Pattern
