use Rattle.certificate_lines.proofs.Imports.{List, Port, SFits, abs_from, ap, arith, get_or, positive, refl, rules}
use Rattle.certificate_lines.proofs.Imports.{slice_get-get_or, subst, sym, to_z-of_z, unsigned_abs, w32, ℕ, ◌+◌, ◌-◌}
use Rattle.certificate_lines.proofs.Imports.{◌∙◌, ◌≡◌}
use Rattle.certificate_lines.proofs.RowLemmas.{AreRowsSoFar, count_below, no_rows, read_row, row_kept, row_set}
use Rattle.certificate_lines.proofs.RowLemmas.{row_there, rows_done}
use Rattle.certificate_lines.proofs.ports.number_rows.Goals.{then-index-eq0, else-index-eq0}
use Rattle.certificate_lines.proofs.ports.number_rows.Goals as goal

pub loop-number-init : goal.loop-number-init
loop-number-init c =
    let zeros = c.in_ok-rows.ensures.items_if_clones_equal (λ y h. h) in
    subst (λ (rows : List ℕ). AreRowsSoFar c.args.area c.args.ports.now 0 rows 0) (sym zeros)
    (no_rows c.args.area c.args.ports.now _ refl)

pub overflow_sub-row : goal.overflow_sub-row
overflow_sub-row c =
    let p : Port = get_or c.args.ports.now c.loop-number.number c.index-ports-number.result in
    let at = slice_get-get_or c.args.ports.now c.loop-number.number c.index-ports-number.result
    c.loop-number-test.true in
    let fy : SFits w32 p.cell.y = search rules in
    let ey : c.unsigned_abs.result ≡ unsigned_abs p.cell.y = simp to_z-of_z at c.unsigned_abs.ensures.value in
    rw ey ((abs_from c.args.area p.cell.x p.cell.y (c.requires.inside c.loop-number.number p at)).1)

pub index-requires : goal.index-requires
index-requires c =
    let p : Port = get_or c.args.ports.now c.loop-number.number c.index-ports-number.result in
    let at = slice_get-get_or c.args.ports.now c.loop-number.number c.index-ports-number.result
    c.loop-number-test.true in
    let fy : SFits w32 p.cell.y = search rules in
    let ey : c.unsigned_abs.result ≡ unsigned_abs p.cell.y = simp to_z-of_z at c.unsigned_abs.ensures.value in
    let lt = row_there c.args.area c.args.ports.now c.loop-number.number p at
    (c.requires.inside c.loop-number.number p at)
    c.loop-number.rows.items c.loop-number.count c.loop-number.invariant in
    omega (arith, lt, ey)

pub overflow_add-count : goal.overflow_add-count
overflow_add-count c =
    let p : Port = get_or c.args.ports.now c.loop-number.number c.index-ports-number.result in
    let at = slice_get-get_or c.args.ports.now c.loop-number.number c.index-ports-number.result
    c.loop-number-test.true in
    let fy : SFits w32 p.cell.y = search rules in
    let ey : c.unsigned_abs.result ≡ unsigned_abs p.cell.y = simp to_z-of_z at c.unsigned_abs.ensures.value in
    let none = read_row c.args.area c.args.ports.now c.loop-number.number p at
    (c.requires.inside c.loop-number.number p at)
    c.loop-number.rows.items c.loop-number.count c.loop-number.invariant c.unsigned_abs.result c.index.result.now ey
    c.index.ensures in
    let lt = count_below c.args.area c.args.ports.now c.loop-number.number p at
    (c.requires.inside c.loop-number.number p at)
    c.loop-number.rows.items c.loop-number.count c.loop-number.invariant (sym none ∙ c.if-index-eq0.true) in
    omega (arith, lt, c.requires.small)

pub index_mut-requires : goal.index_mut-requires
index_mut-requires c =
    let p : Port = get_or c.args.ports.now c.loop-number.number c.index-ports-number.result in
    let at = slice_get-get_or c.args.ports.now c.loop-number.number c.index-ports-number.result
    c.loop-number-test.true in
    let fy : SFits w32 p.cell.y = search rules in
    let ey : c.unsigned_abs.result ≡ unsigned_abs p.cell.y = simp to_z-of_z at c.unsigned_abs.ensures.value in
    let lt = row_there c.args.area c.args.ports.now c.loop-number.number p at
    (c.requires.inside c.loop-number.number p at)
    c.loop-number.rows.items c.loop-number.count c.loop-number.invariant in
    omega (arith, lt, ey)

pub loop-number-preserved : goal.loop-number-preserved
loop-number-preserved c =
    let p : Port = get_or c.args.ports.now c.loop-number.number c.index-ports-number.result in
    let at = slice_get-get_or c.args.ports.now c.loop-number.number c.index-ports-number.result
    c.loop-number-test.true in
    let fy : SFits w32 p.cell.y = search rules in
    let ey : c.unsigned_abs.result ≡ unsigned_abs p.cell.y = simp to_z-of_z at c.unsigned_abs.ensures.value in
    let inside = c.requires.inside c.loop-number.number p at in
    let row = read_row c.args.area c.args.ports.now c.loop-number.number p at inside c.loop-number.rows.items
    c.loop-number.count
    c.loop-number.invariant c.unsigned_abs.result c.index.result.now ey c.index.ensures in
    elim c.if-index-eq0.branch [
      | then-index-eq0 w ↦ rw (w.rows-is, w.count-is)
          (row_set c.args.area c.args.ports.now c.loop-number.number p at inside c.loop-number.rows.items
          c.loop-number.count
          c.loop-number.invariant (c.unsigned_abs.result - c.args.area.y) (c.loop-number.count + 1)
          (ap (λ (y : ℕ). y - c.args.area.y) ey) (omega arith) (sym row ∙ w.if-index-eq0.true))
      | else-index-eq0 w ↦ rw (w.rows-is, w.count-is)
          (row_kept c.args.area c.args.ports.now c.loop-number.number p at inside c.loop-number.rows.items
          c.loop-number.count
          c.loop-number.invariant (let lt = positive c.index.result.now w.if-index-eq0.false in omega (arith, lt, row)))
    ]

pub returns : goal.returns
returns c = rows_done c.args.area c.args.ports.now c.loop-number.number c.loop-number.rows.items c.loop-number.count
    (omega arith) c.loop-number.invariant
