-- The lines of a layout, and which line is good after which lines. The rules read from the lines themselves which cells
-- are taken.
use Rattle.std.specs.Prelude.{◌≡◌, ℕ, ◌+◌, ◌%◌, ◌==◌, ◌&&◌, ◌||◌, Bool, not, true, false, List, [], ◌∷◌, ◌++◌, nat_lt}
use Rattle.std.specs.Prelude.{nat_le, Option, Some, None, if◌then◌else◌}
use Rattle.std.specs.List.{All, list_any, list_all}
use Rattle.std.specs.Str.{bytes_eq}
use Rattle.bbm_rule.specs.Plane.{State, is_cell_at}
use Rattle.bbm_rule.specs.declared.block.Cell.{Cell}
use Rattle.section_text.specs.Words.{has}
use Rattle.section_text.specs.Codes.{code_if, or_else}
use Rattle.section_text.specs.Limits.{most_side, most_steps}
use Rattle.section_text.specs.declared.limits.Limits.{Limits}
use Rattle.section_text.specs.Ports.{PortNameLists}
use Rattle.pattern.specs.declared.layout_line.LayoutHeader.{LayoutHeader}
use Rattle.pattern.specs.declared.layout_line.LayoutLine.{LayoutLine}
use Rattle.pattern.specs.declared.layout_line.LayoutLine.TheVariants.{Mirror, Ball, In, Out, Waste}
use Rattle.bbm_rule.specs.CellLists.{rectangle_cells}
use Rattle.pattern.specs.Layout.{in_layout}
use Rattle.section_text.specs.declared.code.RefusalCode.{RefusalCode}
use Rattle.section_text.specs.declared.code.RefusalCode.TheVariants.{PastLimit, UnknownName, OutOfOrder, TakenCell}
use Rattle.section_text.specs.declared.code.RefusalCode.TheVariants.{SomethingMissing}
use Rattle.lemmas.specs.Bounds.{max_side, max_steps}

-- ---- limits

-- whether a side of the rectangle is within its limits
abbrev pub is_layout_side : ℕ → Bool
is_layout_side n = nat_le 2 n && nat_le n max_side && (n % 2 == 0)

-- width and height even, 2 to 4096; at most 1,048,576 steps
unfoldable pub size_fault : LayoutHeader → Option RefusalCode
size_fault s = code_if (not (is_layout_side s.w && is_layout_side s.h && nat_le s.steps max_steps)) PastLimit

-- whether a side of a mirror is within its limits
abbrev pub is_mirror_side : ℕ → Bool
is_mirror_side n = nat_le 1 n && nat_le n max_side

-- the sides of a mirror are 1 to 4096
unfoldable pub largest_limit_code : LayoutLine → Option RefusalCode
largest_limit_code (Mirror r) = code_if (not (is_mirror_side r.w && is_mirror_side r.h)) PastLimit
largest_limit_code _ = None

-- the code of a size outside the limits of its text
unfoldable pub text_size_fault : Limits → LayoutHeader → Option RefusalCode
text_size_fault l s =
    code_if (nat_lt (most_side l) s.w || (nat_lt (most_side l) s.h || nat_lt (most_steps l) s.steps)) PastLimit

-- the code of a mirror outside the limits of its text
unfoldable pub text_limit_fault : Limits → LayoutLine → Option RefusalCode
text_limit_fault l (Mirror r) = code_if (nat_lt (most_side l) r.w || nat_lt (most_side l) r.h) PastLimit
text_limit_fault l _ = None

-- ---- order

-- the kinds of line come in this order
unfoldable pub rank_of : LayoutLine → ℕ
rank_of (Mirror r) = 0
rank_of (Ball c) = 1
rank_of (In p) = 2
rank_of (Out p) = 3
rank_of (Waste c) = 4

-- whether a line of a later kind is before it
unfoldable pub has_later_kind_before : List LayoutLine → LayoutLine → Bool
has_later_kind_before before part = list_any (λ b. nat_lt (rank_of part) (rank_of b)) before

-- the code of a line after one of a later kind
unfoldable pub order_fault : List LayoutLine → LayoutLine → Option RefusalCode
order_fault before part = code_if (has_later_kind_before before part) OutOfOrder

-- ---- names; any is good if no names of ports are given

-- whether ports may have any name
abbrev pub allows_any_name : Option PortNameLists → Bool
allows_any_name None = true
allows_any_name (Some names) = false

-- whether an input cell may have the name
abbrev pub may_name_input : Option PortNameLists → List ℕ → Bool
may_name_input None n = true
may_name_input (Some names) n = has names.ins n

-- whether an output cell may have the name
abbrev pub may_name_output : Option PortNameLists → List ℕ → Bool
may_name_output None n = true
may_name_output (Some names) n = has names.outs n

-- the name of an input cell is one of the inputs, that of an output cell one of the outputs
unfoldable pub name_fault : Option PortNameLists → LayoutLine → Option RefusalCode
name_fault ports (In p) = code_if (not (may_name_input ports p.name)) UnknownName
name_fault ports (Out p) = code_if (not (may_name_output ports p.name)) UnknownName
name_fault ports _ = None

-- ---- cells

-- the cells of a line
unfoldable pub cells_of : LayoutLine → List Cell
cells_of (Mirror r) = rectangle_cells r
cells_of (Ball c) = c ∷ []
cells_of (In p) = p.cell ∷ []
cells_of (Out p) = p.cell ∷ []
cells_of (Waste c) = c ∷ []

-- whether all its cells lie inside the layout
unfoldable pub is_inside : LayoutHeader → LayoutLine → Bool
is_inside s (Mirror r) = nat_le (r.x + r.w) s.w && nat_le (r.y + r.h) s.h
is_inside s (Ball c) = in_layout s c.x c.y
is_inside s (In p) = in_layout s p.cell.x p.cell.y
is_inside s (Out p) = in_layout s p.cell.x p.cell.y
is_inside s (Waste c) = in_layout s c.x c.y

-- mirrors, balls and input cells take their cells at the start
unfoldable pub takes_cells_at_start : LayoutLine → Bool
takes_cells_at_start (Out p) = false
takes_cells_at_start (Waste c) = false
takes_cells_at_start _ = true

-- mirrors, output cells and waste cells take theirs at the end
unfoldable pub takes_cells_at_end : LayoutLine → Bool
takes_cells_at_end (Ball c) = false
takes_cells_at_end (In p) = false
takes_cells_at_end _ = true

-- whether the line has the cell (x, y)
abbrev pub holds : LayoutLine → State
holds part x y = list_any (λ c. is_cell_at c x y) (cells_of part)

-- the cells that are taken at the start, and at the end
unfoldable pub cells_taken_at_start : List LayoutLine → State
cells_taken_at_start parts x y = list_any (λ b. takes_cells_at_start b && holds b x y) parts

-- whether one of the lines takes the cell (x, y) at the end
unfoldable pub cells_taken_at_end : List LayoutLine → State
cells_taken_at_end parts x y = list_any (λ b. takes_cells_at_end b && holds b x y) parts

-- one of its cells is taken at the start, if it takes them then, or at the end
unfoldable pub has_taken_cell : List LayoutLine → LayoutLine → Bool
has_taken_cell before part =
    if takes_cells_at_start part then list_any (λ c. cells_taken_at_start before c.x c.y) (cells_of part)
    else list_any (λ c. cells_taken_at_end before c.x c.y) (cells_of part)

-- the code of a line with a cell outside the layout, or a cell that is taken
unfoldable pub cell_fault : LayoutHeader → List LayoutLine → LayoutLine → Option RefusalCode
cell_fault s before part = code_if (not (is_inside s part) || has_taken_cell before part) TakenCell

-- ---- a line after the lines before it

-- the code of the tests that come before those of the cells
unfoldable pub line_fault : Option PortNameLists → List LayoutLine → LayoutLine → Option RefusalCode
line_fault ports before part =
    or_else (order_fault before part) (or_else (largest_limit_code part) (name_fault ports part))

-- the code of a line after those before it
unfoldable pub layout_line_fault : Option PortNameLists → LayoutHeader → List LayoutLine → LayoutLine →
    Option RefusalCode
layout_line_fault ports s before part = or_else (line_fault ports before part) (cell_fault s before part)

-- each input and each output has a cell
abbrev pub is_input_cell_named : List ℕ → LayoutLine → Bool
is_input_cell_named n (In p) = bytes_eq n p.name
is_input_cell_named n _ = false

-- whether the line is an output cell of this name
abbrev pub is_output_cell_named : List ℕ → LayoutLine → Bool
is_output_cell_named n (Out p) = bytes_eq n p.name
is_output_cell_named n _ = false

-- the code of a layout in which an input or an output has no cell
unfoldable pub missing_port_fault : Option PortNameLists → List LayoutLine → Option RefusalCode
missing_port_fault None parts = None
missing_port_fault (Some names) parts =
    code_if (not (list_all (λ n. list_any (is_input_cell_named n) parts) names.ins
    && list_all (λ n. list_any (is_output_cell_named n) parts) names.outs)) SomethingMissing

-- the names of the ports are good, and each input and each output that is asked for has a cell
pub record ArePortsNamed (ports : Option PortNameLists) (parts : List LayoutLine) : Type 0 where
  pub good : All (λ part. name_fault ports part ≡ None) parts
  pub whole : missing_port_fault ports parts ≡ None

-- each line keeps the limits, and its cells are inside and free after the lines before it
abbrev pub AreGoodAfter : LayoutHeader → List LayoutLine → List LayoutLine → Type 0
AreGoodAfter s before [] = Unit {0}
AreGoodAfter s before (part ∷ parts) =
    (largest_limit_code part ≡ None) × (cell_fault s before part ≡ None) × AreGoodAfter s (before ++ part ∷ []) parts
