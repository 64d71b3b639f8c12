-- Tables of the ports of a layout by their cells, and their view
use Rattle.std.specs.Prelude.{◌≡◌, ℕ, zero, suc, ℤ, ◌+◌, ◌-◌, ◌*◌, ◌<◌, ◌≤◌, true, false, if◌then◌else◌, List, [], ◌∷◌}
use Rattle.std.specs.Prelude.{length, get_or, map, Some, None, slice_get, Option}
use Rattle.std.specs.Int.RustNames.{unsigned_abs}
use Rattle.bbm_rule.specs.Plane.{is_cell_at}
use Rattle.circuit.specs.Bridge.{circuit_of}
use Rattle.circuit.specs.Meaning.{Circuit, wire_of}
use Rattle.circuit.specs.declared.circuit_line.CircuitLine.{CircuitLine}
use Rattle.pattern.specs.Layout.{HaveDistinctCells, Pattern, in_layout}
use Rattle.pattern.specs.declared.layout_line.LayoutHeader.{LayoutHeader}
use Rattle.pattern.specs.declared.layout_line.Port.{Port}
use Rattle.bbm_rule.specs.Boxes.{in_box}
use Rattle.bbm_rule.specs.declared.block.Box2.{Box2}
use Rattle.certificate_lines.specs.declared.ports.PortTable.TheInside.{Inside}
use Rattle.lemmas.specs.Bounds.{max_side}

-- the name of the port at the cell (x, y)
unfoldable pub port_at : List Port → ℤ → ℤ → Option (List ℕ)
port_at [] x y = None
port_at (p ∷ ps) x y = if is_cell_at p.cell x y then Some p.name else port_at ps x y

-- the ports are inside the layout
abbrev pub ArePortsInLayout : LayoutHeader → List Port → Type 0
ArePortsInLayout s ports = (i : ℕ) (p : Port) → slice_get ports i ≡ Some p → in_layout s p.cell.x p.cell.y ≡ true

-- the number of a port in a list with one port more in front, and 0 for no port
abbrev pub number_with_port_in_front : ℕ → ℕ
number_with_port_in_front zero = zero
number_with_port_in_front (suc n) = suc (suc n)

-- the number of the first port at the cell (x, y), counted from 1, or 0 if there is none
unfoldable pub port_number_at : List Port → ℤ → ℤ → ℕ
port_number_at [] x y = 0
port_number_at (p ∷ ports) x y =
    if is_cell_at p.cell x y then 1 else number_with_port_in_front (port_number_at ports x y)

-- the ports are inside the box
abbrev pub ArePortsInBox : Box2 → List Port → Type 0
ArePortsInBox b ports = (i : ℕ) (p : Port) → slice_get ports i ≡ Some p → in_box b p.cell.x p.cell.y ≡ true

-- the place of a column's entry among the entries of the numbered rows, which have `width` entries each; a row of the
-- number 0 has no entries
unfoldable pub entry_place_by_row_number : ℕ → ℕ → ℕ → Option ℕ
entry_place_by_row_number width zero column = None
entry_place_by_row_number width (suc row) column = Some (row * width + column)

-- the place of the entry of the cell (x, y), from the numbers of the box's rows
abbrev pub entry_place : Box2 → List ℕ → ℤ → ℤ → Option ℕ
entry_place b rows x y = entry_place_by_row_number b.w (get_or rows (unsigned_abs y - b.y) 0) (unsigned_abs x - b.x)

-- the entry at a place, and 0 for no place
unfoldable pub entry_or_zero : List ℕ → Option ℕ → ℕ
entry_or_zero numbers None = 0
entry_or_zero numbers (Some place) = get_or numbers place 0

-- each row of the box with a port has a number from 1 to `count` that no other row has
pub record AreRowsWithPortsNumbered (b : Box2) (ports : List Port) (rows : List ℕ) (count : ℕ) : Type 0 where
  pub sized : length rows ≡ b.h
  pub few : count ≤ b.h
  pub most : (row : ℕ) → get_or rows row 0 ≤ count
  pub own : (row other n : ℕ) → get_or rows row 0 ≡ suc n → get_or rows other 0 ≡ suc n → row ≡ other
  pub each : (i : ℕ) (p : Port) → slice_get ports i ≡ Some p → 0 < get_or rows (unsigned_abs p.cell.y - b.y) 0

-- a circuit, and the inputs or the outputs of a layout
pub record CircuitAndPorts : Type 0 where
  pub circuit : Circuit
  pub ports : List Port

-- the circuit and the ports of a table, from its fields
abbrev pub circuit_and_ports : Inside → CircuitAndPorts
circuit_and_ports a = record { circuit = circuit_of a.circuit.now; ports = a.ports.now }

-- each cell of a numbered row has an entry, which is the number of the port there, or 0. No port is in a row without a
-- number, or outside the area. Each port has its wire.
pub record ArePortTableFields (a : Inside) : Type 0 where
  pub small : (a.area.w ≤ max_side) × (a.area.h ≤ max_side)
  pub sized : length a.rows.items ≡ a.area.h
  pub within : (x y : ℤ) (place : ℕ) → in_box a.area x y ≡ true → entry_place a.area a.rows.items x y ≡ Some place →
      place < length a.numbers.items
  pub numbered : (x y : ℤ) → in_box a.area x y ≡ true →
      entry_or_zero a.numbers.items (entry_place a.area a.rows.items x y) ≡ port_number_at a.ports.now x y
  pub wires : a.wires.items ≡ map (λ p. wire_of (circuit_of a.circuit.now) p.name) a.ports.now
  pub elsewhere : (x y : ℤ) → in_box a.area x y ≡ false → port_at a.ports.now x y ≡ None

-- the tables are those of the inputs and of the outputs of the layout, of which no two are at one cell
pub record ArePortTables (cs : List CircuitLine) (p : Pattern) (ins outs : CircuitAndPorts) : Type 0 where
  pub inputs : ins ≡ record { circuit = circuit_of cs; ports = p.ins }
  pub outputs : outs ≡ record { circuit = circuit_of cs; ports = p.outs }
  pub ins_apart : HaveDistinctCells p.ins
  pub outs_apart : HaveDistinctCells p.outs
