-- The text of a layout: each line spelled in the one way.
use Rattle.std.specs.Prelude.{ℕ, ℤ, pos, negsuc, List, [], ◌∷◌, ◌++◌, codes}
use Rattle.std.specs.List.{flat_map}
use Rattle.std.specs.Fmt.{decimal}
use Rattle.section_text.specs.Spelling.{line_text}
use Rattle.section_text.specs.declared.section.Form.TheVariants.{Header, Item, End}
use Rattle.bbm_rule.specs.declared.block.Cell.{Cell}
use Rattle.bbm_rule.specs.declared.block.Box2.{Box2}
use Rattle.pattern.specs.declared.layout_line.Port.{Port}
use Rattle.pattern.specs.declared.layout_line.LayoutHeader.{LayoutHeader}
use Rattle.pattern.specs.declared.layout_line.LayoutLine.{LayoutLine}
use Rattle.pattern.specs.declared.layout_line.LayoutLine.TheVariants.{Mirror, Ball, In, Out, Waste}
use Rattle.pattern.specs.Layout.{Pattern, parts_of}
use Rattle.pattern.specs.Forms.{Line}

-- the coordinate of a cell of a layout, which is not negative
abbrev pub natural_or_zero : ℤ → ℕ
natural_or_zero (pos n) = n
natural_or_zero (negsuc n) = 0

-- the words of a cell
abbrev pub cell_words : Cell → List (List ℕ)
cell_words c = decimal (natural_or_zero c.x) ∷ decimal (natural_or_zero c.y) ∷ []

-- the words of a rectangle
abbrev pub box_words : Box2 → List (List ℕ)
box_words r = decimal r.x ∷ decimal r.y ∷ decimal r.w ∷ decimal r.h ∷ []

-- the words of a port
abbrev pub port_words : Port → List (List ℕ)
port_words p = p.name ∷ cell_words p.cell

-- the words of a size
abbrev pub size_words : LayoutHeader → List (List ℕ)
size_words s = decimal s.w ∷ decimal s.h ∷ decimal s.steps ∷ []

-- the line of a part
abbrev pub part_text : LayoutLine → List ℕ
part_text (Mirror r) = line_text (codes "mirror") (box_words r)
part_text (Ball c) = line_text (codes "ball") (cell_words c)
part_text (In p) = line_text (codes "in") (port_words p)
part_text (Out p) = line_text (codes "out") (port_words p)
part_text (Waste c) = line_text (codes "waste") (cell_words c)

-- the text of a line, by its form
abbrev pub form_text : Line → List ℕ
form_text (Header s) = line_text (codes "layout") (size_words s)
form_text (Item part) = part_text part
form_text End = line_text (codes "end") []

-- the text of a layout, from its size line to its `end` line
unfoldable pub layout_text : Pattern → List ℕ
layout_text p = line_text (codes "layout") (size_words p.size) ++ flat_map part_text (parts_of p)
    ++ line_text (codes "end") []
