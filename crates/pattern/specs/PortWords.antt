-- The meaning of the words behind the keyword of a port line
use Rattle.std.specs.Prelude.{ℕ, List, Option, Some}
use Rattle.section_text.specs.Words.{number_of, name_of, ◌>>=◌}
use Rattle.bbm_rule.specs.declared.block.Cell.{Cell}
use Rattle.pattern.specs.declared.layout_line.Port.{Port}
use Rattle.bbm_rule.specs.CellLists.{cell}

-- the cell of two words
unfoldable pub cell_from_words : List ℕ → List ℕ → Option Cell
cell_from_words column row = do
  x ← number_of column
  y ← number_of row
  Some (cell x y)

-- the port of three words
unfoldable pub port_from_words : List ℕ → List ℕ → List ℕ → Option Port
port_from_words name column row = do
  n ← name_of name
  c ← cell_from_words column row
  Some (record { name = n; cell = c })
