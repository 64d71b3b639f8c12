use Rattle.local_run.proofs.Imports.{Planes, ap, ap₂, arith, by_eq_or_not, cell_number_at, dead_lane, refl, subst, sym}
use Rattle.local_run.proofs.Imports.{◌%◌, ◌*◌, ◌+◌, ◌/◌, ◌∙◌, ◌≡◌}
use Rattle.lanes.specs.Calm.{AreNumberedCellsDead}
use Rattle.lanes.proofs.FieldLemmas.{one_past, past_all}
use Rattle.local_run.proofs.NextCells.{end_free}
use Rattle.local_run.proofs.QuietLemmas.{number_below}
use Rattle.local_run.proofs.Silence.{same_place}
use Rattle.local_run.proofs.ends.are_marked_correct_where_dead.Goals as goal

pub loop-rest-init : goal.loop-rest-init
loop-rest-init c = λ x y lx ly past k m ex ey lk lm must.
    let j = c.args.job.now in
    let p = c.args.marked_planes.now.planes in
    let size = c.requires.shows.size in
    let u = cell_number_at j.area x y in
    let below = number_below j.area x y c.requires.job_ready.job.even.w c.requires.job_ready.job.even.h lx ly in
    let all : p.stride * p.rows ≡ (j.area.w / 2 + 1) * (j.area.h / 2 + 1) = ap₂ (λ s r. s * r) size.1 size.2 in
    let dead = c.requires.unset_are_dead u (omega (arith, past.0, past.1)) past.2 (omega (arith, below, all)) in
    let same : u ≡ p.stride * ((1 + m) / 2) + (1 + k) / 2 =
    ap₂ (λ a b. cell_number_at j.area a b) ex ey ∙ ap (λ s. s * ((1 + m) / 2) + (1 + k) / 2) (sym size.1) in
    end_free j c.args.values.now k m p c.requires.job_ready c.requires.shows lk lm must
    (λ a la. dead_lane p (1 + k) (1 + m) a (subst (λ n. AreNumberedCellsDead n p) same dead) la)

pub returns-then-u-cells : goal.returns-then-u-cells
returns-then-u-cells c = λ all x y lx ly after before.
    let j = c.args.job.now in
    let below = number_below j.area x y c.requires.job_ready.job.even.w c.requires.job_ready.job.even.h lx ly in
    let long : c.cells_per_plane-cells.result ≡ (j.area.w / 2 + 1) * (j.area.h / 2 + 1) =
    c.cells_per_plane-cells.ensures.count_is_exact ∙ ap (λ (p : Planes). p.stride * p.rows) c.planes.ensures
    ∙ ap₂ (λ s r. s * r) c.requires.shows.size.1 c.requires.shows.size.2 in
    c.loop-rest.invariant x y lx ly (
      after,
      before,
      c.take_first_mark-place.ensures.first.2 (cell_number_at j.area x y % 64) (omega (arith, below, long)),
    )

pub loop-rest-preserved : goal.loop-rest-preserved
loop-rest-preserved c = λ x y lx ly past.
    let j = c.args.job.now in
    let p = c.planes-in-loop-rest.ensures in
    let at = c.column_and_row-column.ensures in
    let u = c.args.first + c.take_first_mark-place.result.0 in
    let taken = c.take_first_mark-place.ensures in
    let one = one_past c.args.first
    (c.args.first + 64) c.loop-rest.rest c.take_first_mark-place.result.1 c.take_first_mark-place.result.0
    (omega arith) (omega arith) taken.first.0 (omega arith) taken.first.1 taken.rest.0 taken.rest.1 in
    let stride : c.planes-in-loop-rest.result.now.stride ≡ j.area.w / 2 + 1 =
    ap (λ (p : Planes). p.stride) p ∙ c.requires.shows.size.1 in
    let number : (j.area.w / 2 + 1) * c.column_and_row-column.result.1 + c.column_and_row-column.result.0 ≡ u =
    ap (λ s. s * c.column_and_row-column.result.1 + c.column_and_row-column.result.0) (sym stride)
    ∙ at.place_is_exact in
    by_eq_or_not (cell_number_at j.area x y) u
    (λ is.
    let h = same_place (j.area.w / 2 + 1) c.column_and_row-column.result.0 c.column_and_row-column.result.1 x y
    (omega (arith, at.column, stride)) (omega arith) (number ∙ sym is) in
    c.if-not-are_correct_where_dead.ensures refl x y lx ly h.0 h.1)
    (λ ne. c.loop-rest.invariant x y lx ly (one.from (cell_number_at j.area x y) ne past))

pub returns : goal.returns
returns c = λ all x y lx ly after before.
    c.loop-rest.invariant x y lx ly
    (past_all c.args.first (c.args.first + 64) c.loop-rest.rest (cell_number_at c.args.job.now.area x y)
    (omega arith) after before)
