use Rattle.certificate.proofs.Imports.{Box2, Cell, Dead, ap, arith, circuit_of, circuit_wire, common_steps, end_demand}
use Rattle.certificate.proofs.Imports.{map, range_with_len, rectangle_cells, renumber_demand, row_cells, ℕ, ◌-◌, ◌∙◌}
use Rattle.certificate.proofs.Imports.{◌≡◌}
use Rattle.std.specs.List.{flat_map}
use Rattle.certificate_lines.proofs.BoxPlaces.{found_at, same_count}
use Rattle.certificate.proofs.CellRows.{grow_row}
use Rattle.certificate.proofs.layout_tables.LayoutTables.start_and_demand_lists.Goals as goal

pub loop-y-preserved : goal.loop-y-preserved
loop-y-preserved c = grind (arith, common_steps, grow_row)

-- all rows are those of the box
all_rows : {B : Type 0} (f : Cell → B) (b : Box2) (n : ℕ) → n ≡ b.h →
    map f (flat_map (row_cells b.x b.w) (range_with_len b.y n)) ≡ map f (rectangle_cells b)
unfolding rectangle_cells
all_rows f b n all = ap (λ (k : ℕ). map f (flat_map (row_cells b.x b.w) (range_with_len b.y k))) all

pub returns-clause-starts_count : goal.returns-clause-starts_count
returns-clause-starts_count c = grind (arith, common_steps, same_count, all_rows)

pub returns-clause-starts : goal.returns-clause-starts
returns-clause-starts c = grind (arith, common_steps, found_at, all_rows)

pub returns-clause-demands_count : goal.returns-clause-demands_count
returns-clause-demands_count c = grind (arith, common_steps, same_count, all_rows)

pub returns-clause-demands : goal.returns-clause-demands
returns-clause-demands c =
    let f = λ (d : Cell). end_demand (circuit_of c.args.self.now.circuit) c.args.self.now.layout d.x d.y in
    found_at (renumber_demand (circuit_wire c.args.locals.now)) f c.args.area c.loop-y.lists.demands Dead
    (c.loop-y.invariant.demands ∙ all_rows f c.args.area (c.loop-y.y - c.args.area.y) (omega arith))
