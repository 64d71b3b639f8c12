use Rattle.local_run.proofs.Imports.{Box2, IsDefinedAndHasFault, IsScanStride, ap, arith, box_coord, by_eq_or_not}
use Rattle.local_run.proofs.Imports.{by_lt_or_le, subst, sym, valuation, ℕ, ◌∙◌, ◌≡◌}
use Rattle.local_run.proofs.Firsts.{first_from, still_at_either_end, passed_over}
use Rattle.local_run.proofs.scan.first_fault_of_kind.Goals as goal

pub returns-in-Some : goal.returns-in-Some
returns-in-Some c =
    let j = c.args.job.now in
    let e = c.area-area.ensures.area in
    let ew : c.area-area.result.w ≡ j.area.w = ap (λ (b : Box2). b.w) e in
    let eh : c.area-area.result.h ≡ j.area.h = ap (λ (b : Box2). b.h) e in
    first_from j c.args.values.now c.args.search.time c.args.search.kind c.cells.x c.rows.y c.in-Some.assignment _ _
    c.requires.sought (c.box_cell_at-cell.ensures.x ∙ ap (λ (b : Box2). box_coord b.x c.cells.x) e)
    (c.box_cell_at-cell.ensures.y ∙ ap (λ (b : Box2). box_coord b.y c.rows.y) e) (omega arith) (omega arith)
    c.cells.invariant.rows (λ x a l la. c.cells.invariant.cells x a l (omega arith) la) c.in-Some.ensures

pub cells-preserved : goal.cells-preserved
cells-preserved c =
    let j = c.args.job.now in
    let e = c.area-area.ensures.area in
    let ew : c.area-area.result.w ≡ j.area.w = ap (λ (b : Box2). b.w) e in
    let s = c.scan_stride-stride.result in
    let stride : IsScanStride c.args.search.kind j.area.w j.area.h c.rows.y s =
    subst (λ (b : Box2). IsScanStride c.args.search.kind b.w b.h c.rows.y s) e c.scan_stride-stride.ensures in
    let here = c.cells.invariant.at in
    let at = rw e at here in
    record {
      rows = c.cells.invariant.rows;
      cells = λ x a lx lw la. by_lt_or_le x c.cells.x (λ l. c.cells.invariant.cells x a l lw la)
          (λ g. by_eq_or_not x c.cells.x
          (λ same. subst (λ (m : ℕ). IsDefinedAndHasFault j c.args.values.now a c.args.search.time c.args.search.kind
          (box_coord j.area.x m)
          (box_coord j.area.y c.rows.y) → ⊥) (sym same) (c.in_default.ensures a la))
          (λ ne f. passed_over j (valuation c.args.values.now a) c.args.search.time c.args.search.kind c.cells.x x
          c.rows.y s stride at (omega arith) lx lw f.1));
      at = still_at_either_end c.args.search.kind _ _ c.rows.y c.cells.x s c.scan_stride-stride.ensures here;
    }
