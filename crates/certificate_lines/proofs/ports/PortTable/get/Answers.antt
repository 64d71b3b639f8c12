use Rattle.certificate_lines.proofs.Imports.{ArePortTableFields, Cell, CircuitAndPorts, Inside, List, Option, Some, ap}
use Rattle.certificate_lines.proofs.Imports.{arith, circuit_of, common_steps, entry_place, get_or, in_box, length-map}
use Rattle.certificate_lines.proofs.Imports.{option_map, port_at, port_number_at, positive, subst, sym, true, wire_of}
use Rattle.certificate_lines.proofs.Imports.{ℕ, ◌-◌, ◌∙◌, ◌≡◌}
use Rattle.certificate_lines.proofs.TableLemmas.{IsNumbered, entry_is, numbered_below, numbered_wire, placed}
use Rattle.certificate_lines.proofs.TableLemmas.{unnumbered, unplaced}
use Rattle.certificate_lines.proofs.ports.PortTable.get.Goals as goal

-- the place of a cell of the area, whose rows were read
place_at : (a : Inside) (c : Cell) (rows : List ℕ) (o : Option ℕ) → rows ≡ a.rows.items →
    o ≡ entry_place a.area rows c.x c.y → entry_place a.area a.rows.items c.x c.y ≡ o
place_at a c rows o are at = sym (at ∙ ap (λ (rs : List ℕ). entry_place a.area rs c.x c.y) are)

-- what stands in the table at the place of a cell of its area
entry_at : (a : Inside) → ArePortTableFields a → (c : Cell) (place n : ℕ) → in_box a.area c.x c.y ≡ true →
    entry_place a.area a.rows.items c.x c.y ≡ Some place → n ≡ get_or a.numbers.items place n →
    n ≡ port_number_at a.ports.now c.x c.y
entry_at a is c place n inside at entry =
    entry_is a.numbers.items place n entry (is.within c.x c.y place inside at)
    ∙ sym (placed a.numbers.items (entry_place a.area a.rows.items c.x c.y) place at) ∙ is.numbered c.x c.y inside

pub returns-in_err-place : goal.returns-in_err-place
returns-in_err-place c = grind (arith, common_steps, place_at, unplaced, unnumbered)

pub returns-then-number-eq0 : goal.returns-then-number-eq0
returns-then-number-eq0 c = grind (arith, common_steps, place_at, entry_at, unnumbered)

pub index-requires-2 : goal.index-requires-2
index-requires-2 c = grind (arith, common_steps, place_at, entry_at, numbered_below, positive, length-map)

pub returns : goal.returns
returns c =
    let a = c.self.inside in
    let is : IsNumbered a.ports.now (c.index.result.now - 1) c.args.cell.x c.args.cell.y =
    grind (arith, common_steps, place_at, entry_at, numbered_below, positive) in
    subst (λ (t : CircuitAndPorts). Some c.wire.result
    ≡ option_map (wire_of t.circuit) (port_at t.ports c.args.cell.x c.args.cell.y)) c.self.view_is
    (ap (λ (w : Option ℕ). Some w) c.wire.ensures
    ∙ numbered_wire (circuit_of a.circuit.now) a.ports.now a.wires.items (c.index.result.now - 1)
    c.args.cell.x c.args.cell.y c.index-2.result.now c.self.invariant.wires is (grind (arith, common_steps)))
