-- The line forms of the layout section: the meaning of the words of a line.
use Rattle.std.specs.Prelude.{ℕ, ◌+◌, List, length, Option, Some, None, codes, ◌==◌, if◌then◌else◌}
use Rattle.section_text.specs.Words.{◌>>=◌, is_word_at, name_at, number_at, if_one_word}
use Rattle.section_text.specs.declared.section.Form.{Form}
use Rattle.section_text.specs.declared.section.Form.TheVariants.{Header, Item, End}
use Rattle.bbm_rule.specs.declared.block.Cell.{Cell}
use Rattle.bbm_rule.specs.declared.block.Box2.{Box2}
use Rattle.pattern.specs.declared.layout_line.Port.{Port}
use Rattle.pattern.specs.declared.layout_line.LayoutHeader.{LayoutHeader}
use Rattle.pattern.specs.declared.layout_line.LayoutLine.{LayoutLine}
use Rattle.pattern.specs.declared.layout_line.LayoutLine.TheVariants.{Mirror, Ball, In, Out, Waste}
use Rattle.bbm_rule.specs.CellLists.{cell}

-- a line of the layout section
abbrev pub Line : Type 0
Line = Form LayoutHeader LayoutLine

-- the cell that word i and the next one are
unfoldable pub cell_of_words_from : List (List ℕ) → ℕ → Option Cell
cell_of_words_from ws i = do
  x ← number_at ws i
  y ← number_at ws (i + 1)
  Some (cell x y)

-- a keyword and a cell
unfoldable pub cell_after_keyword : List (List ℕ) → Option Cell
cell_after_keyword ws = if length ws == 3 then cell_of_words_from ws 1 else None

-- a keyword, a name and a cell
unfoldable pub port_after_keyword : List (List ℕ) → Option Port
port_after_keyword ws = do
  n ← name_at ws 1
  c ← cell_of_words_from ws 2
  Some (record { name = n; cell = c })

-- the port of an `in` or `out` line
unfoldable pub port_of : List (List ℕ) → Option Port
port_of ws = if length ws == 4 then port_after_keyword ws else None

-- a keyword and four numbers
unfoldable pub corner_and_sides : List (List ℕ) → Option Box2
corner_and_sides ws = do
  x ← number_at ws 1
  y ← number_at ws 2
  w ← number_at ws 3
  h ← number_at ws 4
  Some (record { x = x; y = y; w = w; h = h })

-- the box of a `mirror` or `module` line
unfoldable pub box_of : List (List ℕ) → Option Box2
box_of ws = if length ws == 5 then corner_and_sides ws else None

-- a keyword and three numbers
unfoldable pub sides_and_steps : List (List ℕ) → Option LayoutHeader
sides_and_steps ws = do
  w ← number_at ws 1
  h ← number_at ws 2
  steps ← number_at ws 3
  Some (record { w = w; h = h; steps = steps })

-- the size of a `layout` line
unfoldable pub size_of : List (List ℕ) → Option LayoutHeader
size_of ws = if length ws == 4 then sides_and_steps ws else None

-- the form of a line by its words, if it has one
unfoldable pub form_of : List (List ℕ) → Option Line
form_of ws =
    if is_word_at ws 0 (codes "layout") then (size_of ws >>= λ s. Some (Header s))
    else if is_word_at ws 0 (codes "mirror") then (box_of ws >>= λ r. Some (Item (Mirror r)))
    else if is_word_at ws 0 (codes "ball") then (cell_after_keyword ws >>= λ c. Some (Item (Ball c)))
    else if is_word_at ws 0 (codes "in") then (port_of ws >>= λ p. Some (Item (In p)))
    else if is_word_at ws 0 (codes "out") then (port_of ws >>= λ p. Some (Item (Out p)))
    else if is_word_at ws 0 (codes "waste") then (cell_after_keyword ws >>= λ c. Some (Item (Waste c)))
    else if is_word_at ws 0 (codes "end") then if_one_word ws End
    else None
