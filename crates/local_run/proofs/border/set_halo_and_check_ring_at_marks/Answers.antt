use Rattle.local_run.proofs.Imports.{Planes, and_parts, ap, ap₂, arith, by_eq_or_not, cell_number_at, refl, sym, ℕ, ◌%◌}
use Rattle.local_run.proofs.Imports.{◌*◌, ◌+◌, ◌/◌, ◌<◌, ◌∙◌, ◌≡◌}
use Rattle.lanes.specs.Sweeps.{IsInRangeNotInWordRest}
use Rattle.lanes.proofs.FieldLemmas.{one_past, past_all}
use Rattle.lanes.proofs.SettledLemmas.{settled_once, settled_twice}
use Rattle.local_run.proofs.QuietLemmas.{number_below}
use Rattle.local_run.proofs.Silence.{same_place}
use Rattle.local_run.specs.Steady.{AreSignalsCorrectAtNumber}
use Rattle.local_run.proofs.border.set_halo_and_check_ring_at_marks.Goals as goal

pub loop-rest-init : goal.loop-rest-init
loop-rest-init c =
    let a = c.args in
    let unset : (x y : ℕ) → IsInRangeNotInWordRest a.first (a.first + 64) a.word (cell_number_at a.job.now.area x y) →
    AreSignalsCorrectAtNumber a.job.now a.values.now a.lines.now.time a.marked_planes.now.planes
    (cell_number_at a.job.now.area x y) =
    λ x y past. c.requires.unset_are_correct (cell_number_at a.job.now.area x y)
    (omega (arith, past.0, past.1)) past.2 in
    record {
      shows = c.requires.shows;
      halo = λ x y lx ly past. (unset x y past).halo x y lx ly refl;
      right = λ e x y lx ly past. (unset x y past).edges x y lx ly refl;
      settled = settled_once a.marked_planes.now;
      same = λ b x y lb lx before. refl;
    }

pub loop-rest-preserved : goal.loop-rest-preserved
loop-rest-preserved c =
    let j = c.args.job.now in
    let m = c.loop-rest.invariant in
    let e = c.set_halo_cells_or_are_edges_correct-is_right.ensures in
    let p = c.planes-in-loop-rest.ensures in
    let at = c.column_and_row-column.ensures in
    let u = c.args.first + c.take_first_mark-place.result.0 in
    let taken = c.take_first_mark-place.ensures in
    let one = one_past c.args.first
    (c.args.first + 64) c.loop-rest.rest c.take_first_mark-place.result.1 c.take_first_mark-place.result.0
    (omega arith) (omega arith) taken.first.0 (omega arith) taken.first.1 taken.rest.0 taken.rest.1 in
    let stride : c.planes-in-loop-rest.result.now.stride ≡ j.area.w / 2 + 1 =
    ap (λ (p : Planes). p.stride) p ∙ m.shows.size.1 in
    let number : (j.area.w / 2 + 1) * c.column_and_row-column.result.1 + c.column_and_row-column.result.0 ≡ u =
    ap (λ s. s * c.column_and_row-column.result.1 + c.column_and_row-column.result.0) (sym stride)
    ∙ at.place_is_exact in
    let here : (x y : ℕ) → x < j.area.w + 2 → cell_number_at j.area x y ≡ u →
    (x / 2 ≡ c.column_and_row-column.result.0) × (y / 2 ≡ c.column_and_row-column.result.1) =
    λ x y lx is. same_place (j.area.w / 2 + 1) c.column_and_row-column.result.0 c.column_and_row-column.result.1 x y
    (omega (arith, at.column, stride)) (omega arith) (number ∙ sym is) in
    let there : (x y : ℕ) → (x / 2 ≡ c.column_and_row-column.result.0) × (y / 2 ≡ c.column_and_row-column.result.1) →
    cell_number_at j.area x y ≡ u = λ x y s. ap₂ (λ r k. (j.area.w / 2 + 1) * r + k) s.1 s.0 ∙ number in
    record {
      shows = e.shows;
      halo = λ x y lx ly past. by_eq_or_not (cell_number_at j.area x y) u
          (λ is. let h = here x y lx is in e.halo x y lx ly h.0 h.1)
          (λ ne. λ b lb out. e.rest b x y lb lx (λ s. ne (there x y s))
          ∙ m.halo x y lx ly (one.from (cell_number_at j.area x y) ne past) b lb out);
      right = λ all x y lx ly past. by_eq_or_not (cell_number_at j.area x y) u
          (λ is. let h = here x y lx is in e.edges (and_parts _ _ all).1 x y lx ly h.0 h.1)
          (λ ne. m.right (and_parts _ _ all).0 x y lx ly (one.from (cell_number_at j.area x y) ne past));
      settled = settled_twice c.args.marked_planes.now c.loop-rest.marked_planes
          c.set_halo_cells_or_are_edges_correct-is_right.new.marked_planes m.settled e.settled;
      same = λ b x y lb lx before. e.rest b x y lb lx (λ s. let h = there x y s in absurd (omega (arith, h, before)))
          ∙ m.same b x y lb lx before;
    }

pub returns-clause-halo : goal.returns-clause-halo
returns-clause-halo c = λ x y lx ly after before.
    c.loop-rest.invariant.halo x y lx ly
    (past_all c.args.first (c.args.first + 64) c.loop-rest.rest (cell_number_at c.args.job.now.area x y)
    (omega arith) after before)

pub returns-then-u-cells-clause-halo : goal.returns-then-u-cells-clause-halo
returns-then-u-cells-clause-halo c = λ x y lx ly after before.
    let j = c.args.job.now in
    let s1 = c.requires.shows.size.1 in
    let s2 = c.requires.shows.size.2 in
    let below = number_below j.area x y c.requires.job_ready.job.even.w c.requires.job_ready.job.even.h lx ly in
    let long : c.cells_per_plane-cells.result ≡ (j.area.w / 2 + 1) * (j.area.h / 2 + 1) =
    c.cells_per_plane-cells.ensures.count_is_exact ∙ ap (λ (p : Planes). p.stride * p.rows) c.planes.ensures
    ∙ ap₂ (λ s r. s * r) s1 s2 in
    c.loop-rest.invariant.halo x y lx ly (
      after,
      before,
      c.take_first_mark-place.ensures.first.2 (cell_number_at j.area x y % 64) (omega (arith, below, long)),
    )
