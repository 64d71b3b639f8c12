-- The rules on which line of a certificate is good after which lines. They read everything from the lines themselves
use Rattle.std.specs.Prelude.{ℕ, ◌+◌, ◌%◌, ◌==◌, ◌&&◌, ◌||◌, Bool, true, false, not, List, [], ◌∷◌, ◌++◌, length}
use Rattle.std.specs.Prelude.{slice_get, Option, Some, None, nat_lt, nat_le}
use Rattle.std.specs.List.{list_any, list_all}
use Rattle.std.specs.Ordering.{int_eq}
use Rattle.bbm_rule.specs.Plane.{State}
use Rattle.bbm_rule.specs.declared.block.Cell.{Cell}
use Rattle.section_text.specs.Limits.{most_modules}
use Rattle.section_text.specs.declared.limits.Limits.{Limits}
use Rattle.section_text.specs.Codes.{code_if, or_else}
use Rattle.circuit.specs.Gates.{is_inverse}
use Rattle.circuit.specs.Meaning.{Circuit, Gate, wire_of}
use Rattle.bbm_rule.specs.CellLists.{rectangle_cells}
use Rattle.pattern.specs.declared.layout_line.LayoutHeader.{LayoutHeader}
use Rattle.bbm_rule.specs.Boxes.{in_box, in_ring, in_halo}
use Rattle.module_box.specs.Locals.{is_among, cut_limit, use_limit}
use Rattle.module_box.specs.Tiling.{rectangle_of}
use Rattle.bbm_rule.specs.declared.block.Box2.{Box2}
use Rattle.certificate_lines.specs.declared.certificate_line.BorderLine.{BorderLine}
use Rattle.certificate_lines.specs.declared.certificate_line.CertificateLine.{CertificateLine}
use Rattle.certificate_lines.specs.declared.certificate_line.StopLine.{StopLine}
use Rattle.certificate_lines.specs.declared.certificate_line.CertificateLine.TheVariants.{Module, Cut, Use, Keep, Edge}
use Rattle.certificate_lines.specs.declared.certificate_line.CertificateLine.TheVariants.{Halo, Stop}
use Rattle.certificate_lines.specs.Entries.{Setting, ModuleLines, modules_of, last_module, areas, cuts, gates, edges}
use Rattle.certificate_lines.specs.Entries.{halos, stops, known}
use Rattle.certificate_lines.specs.Orders.{may_follow}
use Rattle.section_text.specs.declared.code.RefusalCode.{RefusalCode}
use Rattle.section_text.specs.declared.code.RefusalCode.TheVariants.{PastLimit, UnknownName, DefinedTwice, OutOfOrder}
use Rattle.section_text.specs.declared.code.RefusalCode.TheVariants.{MisplacedBox, NotLocal, NoPlace, SomethingMissing}
use Rattle.lemmas.specs.Bounds.{max_modules}

-- the whole rectangle of the layout
abbrev pub whole : LayoutHeader → Box2
whole s = rectangle_of s.w s.h

-- ---- local wires

-- whether there is a wire, and it is local
abbrev pub is_local_wire : List ℕ → Option ℕ → Bool
is_local_wire local None = false
is_local_wire local (Some w) = is_among local w

-- whether the name is that of a wire that is local, if these wires are
abbrev pub is_local : Circuit → List ℕ → List ℕ → Bool
is_local c local name = is_local_wire local (wire_of c name)

-- some port in the module's box has a wire that is not local
unfoldable pub has_nonlocal_port : Setting → ModuleLines → Bool
has_nonlocal_port g m = list_any
    (λ p. in_box m.area p.cell.x p.cell.y && not (is_local g.circuit (known g.circuit m) p.name))
    g.ports

-- whether the last module, if there is one, lacks the wire of a port in its box
abbrev pub is_last_module_incomplete : Setting → Option ModuleLines → Bool
is_last_module_incomplete g None = false
is_last_module_incomplete g (Some m) = has_nonlocal_port g m

-- ---- a module line: 11, 2, 8

-- whether a number is odd
abbrev pub is_odd : ℕ → Bool
is_odd n = n % 2 == 1

-- a side is even, 2 to 64
abbrev pub is_bad_box_side : ℕ → Bool
is_bad_box_side n = is_odd n || nat_lt n 2 || nat_lt 64 n

-- a corner is even, and the box is inside the rectangle
abbrev pub is_odd_corner_or_outside : LayoutHeader → Box2 → Bool
is_odd_corner_or_outside s b = is_odd b.x || is_odd b.y || nat_lt s.w (b.x + b.w) || nat_lt s.h (b.y + b.h)

-- whether one of the boxes has the cell (x, y)
abbrev pub in_boxes : List Box2 → State
in_boxes boxes x y = list_any (λ b. in_box b x y) boxes

-- a cell of the box is one of an earlier box
abbrev pub overlaps_earlier_box : List Box2 → Box2 → Bool
overlaps_earlier_box boxes b = list_any (λ c. in_boxes boxes c.x c.y) (rectangle_cells b)

-- the tests of a box by itself, after `count` modules, the last of them `before`
unfoldable pub module_box_code : Setting → ℕ → Option ModuleLines → Box2 → Option RefusalCode
module_box_code g count before b =
    or_else (code_if (is_last_module_incomplete g before) SomethingMissing)
    (or_else (code_if (is_bad_box_side b.w || is_bad_box_side b.h || nat_le max_modules count) PastLimit)
    (code_if (is_odd_corner_or_outside g.size b) MisplacedBox))

-- the code of a `module` line after these modules
unfoldable pub module_line_code : Setting → List ModuleLines → Option ModuleLines → Box2 → Option RefusalCode
module_line_code g ms before b = or_else (module_box_code g (length ms) before b)
    (code_if (overlaps_earlier_box (areas ms) b) MisplacedBox)

-- ---- a cut, after `count` cuts, if these wires are local: 2, 3, 4

-- the code of a cut of a wire
abbrev pub cut_wire_fault : List ℕ → Option ℕ → Option RefusalCode
cut_wire_fault local None = Some UnknownName
cut_wire_fault local (Some w) = code_if (is_among local w) DefinedTwice

-- the code of a cut line after this many cuts
unfoldable pub cut_line_code : Circuit → ℕ → List ℕ → List ℕ → Option RefusalCode
cut_line_code c count local name =
    or_else (code_if (nat_le cut_limit count) PastLimit) (cut_wire_fault local (wire_of c name))

-- ---- a used gate, after `count` used gates, if these wires are local: 2, 3, 9, 4

-- the wires become local one after the other, and none is local already
unfoldable pub are_new_and_distinct : List ℕ → List ℕ → Bool
are_new_and_distinct local [] = true
are_new_and_distinct local (w ∷ ws) = not (is_among local w) && are_new_and_distinct (local ++ w ∷ []) ws

-- the code of a used gate by its wires
unfoldable pub used_gate_fault : List ℕ → Option Gate → Option RefusalCode
used_gate_fault local None = Some UnknownName
used_gate_fault local (Some gate) =
    or_else (code_if (not (list_all (is_among local) gate.ins)) NotLocal)
    (code_if (not (are_new_and_distinct local gate.outs)) DefinedTwice)

-- the code of a use line after `count` used gates
unfoldable pub use_line_code : Circuit → ℕ → List ℕ → ℕ → Option RefusalCode
use_line_code c count local k = or_else (code_if (nat_le use_limit count) PastLimit)
    (used_gate_fault local (slice_get c.netlist.gates k))

-- ---- a kept gate, if these gates are used: 3, 9

-- whether there is a gate, and it is an inverse one
abbrev pub is_inverse_gate : Option Gate → Bool
is_inverse_gate None = false
is_inverse_gate (Some gate) = is_inverse gate.kind

-- it is the number of an inverse gate, and the module uses that gate
unfoldable pub keep_line_code : Circuit → List ℕ → ℕ → Option RefusalCode
keep_line_code c used k =
    or_else (code_if (not (is_inverse_gate (slice_get c.netlist.gates k))) UnknownName)
    (code_if (not (is_among used k)) NotLocal)

-- ---- an edge, halo or stop line: 2, 10, 3, 9

-- whether the line has a `*`, for every odd time
abbrev pub is_star : Option ℕ → Bool
is_star None = true
is_star (Some t) = false

-- whether two cells are the same
abbrev pub same_cell : Cell → Cell → Bool
same_cell c d = int_eq c.x d.x && int_eq c.y d.y

-- whether a line has a `*` and is for the cell
abbrev pub is_starred_line_at : Cell → BorderLine → Bool
is_starred_line_at c e = is_star e.time && same_cell c e.cell

-- A time is odd and below the steps, and no line with a `*` of the same list is for the cell. A `*` is good.
unfoldable pub is_line_time_allowed : ℕ → Bool → Option ℕ → Bool
is_line_time_allowed steps starred None = true
is_line_time_allowed steps starred (Some t) = is_odd t && nat_lt t steps && not starred

-- an edge is in the box's ring, and not on the rim of the rectangle, which is the rectangle's ring
unfoldable pub is_edge_place_and_time_allowed : LayoutHeader → Box2 → Bool → BorderLine → Bool
is_edge_place_and_time_allowed s area starred e =
    in_ring area e.cell.x e.cell.y && not (in_ring (whole s) e.cell.x e.cell.y)
    && is_line_time_allowed s.steps starred e.time

-- a halo line is in the box's halo, and inside the rectangle
unfoldable pub is_halo_place_and_time_allowed : LayoutHeader → Box2 → Bool → BorderLine → Bool
is_halo_place_and_time_allowed s area starred e =
    in_halo area e.cell.x e.cell.y && in_box (whole s) e.cell.x e.cell.y && is_line_time_allowed s.steps starred e.time

-- a stop is in the box, at a time up to the last one
unfoldable pub is_stop_place_and_time_allowed : LayoutHeader → Box2 → StopLine → Bool
is_stop_place_and_time_allowed size area s = in_box area s.cell.x s.cell.y && nat_le s.time size.steps

-- a signal is `1`, or a wire of the circuit, 3, that is local, 9
abbrev pub wire_fault : List ℕ → Option ℕ → Option RefusalCode
wire_fault local None = Some UnknownName
wire_fault local (Some w) = code_if (not (is_among local w)) NotLocal

-- the code of a signal: its wire must be local
unfoldable pub signal_fault : Circuit → List ℕ → Option (List ℕ) → Option RefusalCode
signal_fault c local None = None
signal_fault c local (Some name) = wire_fault local (wire_of c name)

-- the most edge, halo and stop lines of a module
abbrev pub timed_line_limit : ℕ
timed_line_limit = 65536

-- the code of such a line after `count` of these lines; `placed` says whether it may have its cell and time
unfoldable pub border_or_stop_line_code : Circuit → ℕ → List ℕ → Bool → Option (List ℕ) → Option RefusalCode
border_or_stop_line_code c count local placed signal =
    or_else (code_if (nat_le timed_line_limit count) PastLimit)
    (or_else (code_if (not placed) NoPlace) (signal_fault c local signal))

-- ---- a line after the lines before it

-- how many edge, halo and stop lines a module has
abbrev pub timed_line_count : ModuleLines → ℕ
timed_line_count m = length (edges m) + length (halos m) + length (stops m)

-- the code of an edge line of a module
abbrev pub edge_line_code : Setting → ModuleLines → BorderLine → Option RefusalCode
edge_line_code g m e = border_or_stop_line_code g.circuit (timed_line_count m) (known g.circuit m)
    (is_edge_place_and_time_allowed g.size m.area (list_any (is_starred_line_at e.cell) (edges m)) e) e.signal

-- the code of a halo line of a module
abbrev pub halo_line_code : Setting → ModuleLines → BorderLine → Option RefusalCode
halo_line_code g m e = border_or_stop_line_code g.circuit (timed_line_count m) (known g.circuit m)
    (is_halo_place_and_time_allowed g.size m.area (list_any (is_starred_line_at e.cell) (halos m)) e) e.signal

-- the code of a stop line of a module
abbrev pub stop_line_code : Setting → ModuleLines → StopLine → Option RefusalCode
stop_line_code g m s = border_or_stop_line_code g.circuit (timed_line_count m) (known g.circuit m)
    (is_stop_place_and_time_allowed g.size m.area s)
    (Some s.wire)

-- the code of a line of a module, but for its order
abbrev pub code_but_for_order : Setting → ModuleLines → CertificateLine → Option RefusalCode
code_but_for_order g m (Module b) = None
code_but_for_order g m (Cut n) = cut_line_code g.circuit (length (cuts m)) (known g.circuit m) n
code_but_for_order g m (Use k) = use_line_code g.circuit (length (gates m)) (known g.circuit m) k
code_but_for_order g m (Keep k) = keep_line_code g.circuit (gates m) k
code_but_for_order g m (Edge e) = edge_line_code g m e
code_but_for_order g m (Halo e) = halo_line_code g m e
code_but_for_order g m (Stop s) = stop_line_code g m s

-- a line of a module after those before it: its order first, 6
abbrev pub line_fault : Setting → ModuleLines → CertificateLine → Option RefusalCode
line_fault g m i = or_else (code_if (not (may_follow m.lines i)) OutOfOrder) (code_but_for_order g m i)

-- a line that is no `module` line belongs to a module
abbrev pub body_line_code : Setting → Option ModuleLines → CertificateLine → Option RefusalCode
body_line_code g None i = Some OutOfOrder
body_line_code g (Some m) i = line_fault g m i

-- the code of the first test that a line fails
unfoldable pub entry_fault : Setting → List CertificateLine → CertificateLine → Option RefusalCode
entry_fault g before (Module b) = module_line_code g (modules_of before) (last_module before) b
entry_fault g before i = body_line_code g (last_module before) i

-- the code of a line that is one module too many for the limits of its text, where the module before it is complete
unfoldable pub module_limit_fault : Limits → Setting → List CertificateLine → CertificateLine → Option RefusalCode
module_limit_fault l g before (Module b) = code_if (nat_le (most_modules l) (length (modules_of before))
    && not (is_last_module_incomplete g (last_module before))) PastLimit
module_limit_fault l g before i = None

-- ---- the end

-- some cell of the rectangle lies in no box
abbrev pub leaves_gap : LayoutHeader → List Box2 → Bool
leaves_gap s boxes = not (list_all (λ c. in_boxes boxes c.x c.y) (rectangle_cells (whole s)))

-- the ports of the last module are local, and the boxes leave no gap
unfoldable pub end_fault : Setting → List CertificateLine → Option RefusalCode
end_fault g entries = code_if
    (is_last_module_incomplete g (last_module entries) || leaves_gap g.size (areas (modules_of entries)))
    SomethingMissing
