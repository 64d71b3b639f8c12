use Rattle.certificate_lines.proofs.Imports.{ArePortTableFields, Box2, Cell, Inside, List, None, Option, Some, ap}
use Rattle.certificate_lines.proofs.Imports.{arith, cell, common_steps, drop, entry_place, in_box, ints, length}
use Rattle.certificate_lines.proofs.Imports.{list_all, nat_eq, port_at, pos, suc, sym, take, to_z, true, w32, zero, ℕ}
use Rattle.certificate_lines.proofs.Imports.{◌+◌, ◌-◌, ◌<◌, ◌∙◌, ◌≡◌, ◌≤◌}
use Rattle.certificate_lines.proofs.RowLemmas.{row_entry, row_inside}
use Rattle.certificate_lines.proofs.TableLemmas.{part_zero, placed, unnumbered, unplaced}
use Rattle.certificate_lines.proofs.ports.PortTable.is_row_part_without_port.Goals as goal
use Rattle.lemmas.specs.Bounds.{max_side}

-- the first cell of the row, whose numbers were cast
cast_cell : (x y : ℕ) → x ≤ max_side → y < max_side → record { x = to_z w32 x; y = to_z w32 y } ≡ cell x y
cast_cell x y a b =
    let p : to_z w32 x ≡ pos x = omega (arith, ints) in
    let q : to_z w32 y ≡ pos y = omega (arith, ints) in
    λ i. record { x = p i; y = q i }

inside_at : (b : Box2) (x y : ℕ) → x ≤ max_side → y < max_side → in_box b (to_z w32 x) (to_z w32 y) ≡ true →
    in_box b (pos x) (pos y) ≡ true
inside_at b x y l m h = sym (ap (λ (d : Cell). in_box b d.x d.y) (cast_cell x y l m)) ∙ h

-- the place of the first cell's entry, whose rows were read
place_at : (a : Inside) (x y : ℕ) (rows : List ℕ) (o : Option ℕ) → x ≤ max_side → y < max_side → rows ≡ a.rows.items →
    o ≡ entry_place a.area rows (to_z w32 x) (to_z w32 y) → entry_place a.area a.rows.items (pos x) (pos y) ≡ o
place_at a x y rows o l m are at = sym (grind (arith, common_steps, cast_cell))

-- the entries of a part of a row
row_within : (a : Inside) → ArePortTableFields a → (x y width place : ℕ) → in_box a.area (pos x) (pos y) ≡ true →
    x + width ≤ a.area.x + a.area.w → entry_place a.area a.rows.items (pos x) (pos y) ≡ Some place →
    place + width ≤ length a.numbers.items
row_within a is x y zero place inside fits at =
    let lt = is.within (pos x) (pos y) place inside at in
    omega (arith, lt)
row_within a is x y (suc n) place inside fits at =
    let lt = is.within (pos (x + n)) (pos y) (place + n) (row_inside a.area x y n inside (omega (arith, fits)))
    (row_entry a.area a.rows.items x y n (Some place) inside at) in
    omega (arith, lt)

-- no port is at a cell whose entry is zero
free_at : (a : Inside) → ArePortTableFields a → (x y width place : ℕ) (numbers : List ℕ) → numbers ≡ a.numbers.items →
    in_box a.area (pos x) (pos y) ≡ true → x + width ≤ a.area.x + a.area.w →
    entry_place a.area a.rows.items (pos x) (pos y) ≡ Some place →
    list_all (λ m. nat_eq m 0) (take (place + width - place) (drop place numbers)) ≡ true →
    (k : ℕ) → k < width → port_at a.ports.now (pos (x + k)) (pos y) ≡ None
free_at a is x y width place numbers are inside fits at all k l =
    let n : place + width - place ≡ width = omega arith in
    let all = rw (n, are) at all in
    unnumbered a.ports.now (pos (x + k)) (pos y)
    (sym (is.numbered (pos (x + k)) (pos y) (row_inside a.area x y k inside (omega arith)))
    ∙ placed a.numbers.items _ (place + k) (row_entry a.area a.rows.items x y k (Some place) inside at)
    ∙ part_zero a.numbers.items place width k all l)

-- no port is in a row without entries
free_row : (a : Inside) → ArePortTableFields a → (x y width : ℕ) → in_box a.area (pos x) (pos y) ≡ true →
    x + width ≤ a.area.x + a.area.w → entry_place a.area a.rows.items (pos x) (pos y) ≡ None →
    (k : ℕ) → k < width → port_at a.ports.now (pos (x + k)) (pos y) ≡ None
free_row a is x y width inside fits at k l =
    unnumbered a.ports.now (pos (x + k)) (pos y)
    (grind (arith, common_steps, row_inside, unplaced, row_entry))

pub returns-in-None : goal.returns-in-None
returns-in-None c h k l =
    let area = c.self.inside.area in
    let inside = inside_at area c.args.x c.args.y (omega arith) (omega arith)
    (sym c.holds.ensures ∙ c.if-not-holds.false) in
    let at = place_at c.self.inside c.args.x c.args.y c.deref.result.now c.entry_place.result (omega arith)
    (omega arith) c.deref.ensures.value c.entry_place.ensures in
    grind (arith, common_steps, free_row)

pub slice_bounds-are_all_zero-end : goal.slice_bounds-are_all_zero-end
slice_bounds-are_all_zero-end c =
    let area = c.self.inside.area in
    let inside = inside_at area c.args.x c.args.y (omega arith) (omega arith)
    (sym c.holds.ensures ∙ c.if-not-holds.false) in
    let at = place_at c.self.inside c.args.x c.args.y c.deref.result.now c.entry_place.result (omega arith)
    (omega arith) c.deref.ensures.value c.entry_place.ensures in
    let fit = row_within c.self.inside c.self.invariant c.args.x c.args.y c.args.width c.in-Some.place inside
    (omega arith) (at ∙ c.in-Some.is) in
    omega (arith, fit, ap length c.deref-2.ensures.value)

pub returns : goal.returns
returns c h k l =
    let area = c.self.inside.area in
    let inside = inside_at area c.args.x c.args.y (omega arith) (omega arith)
    (sym c.holds.ensures ∙ c.if-not-holds.false) in
    let at = place_at c.self.inside c.args.x c.args.y c.deref.result.now c.entry_place.result (omega arith)
    (omega arith) c.deref.ensures.value c.entry_place.ensures in
    grind (arith, common_steps, free_at)
