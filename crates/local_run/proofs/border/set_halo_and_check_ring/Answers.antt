use Rattle.local_run.proofs.Imports.{Edge, IsDefinedAndHasFault, Planes, and_parts, ap, ap₂, arith, box_coord}
use Rattle.local_run.proofs.Imports.{by_lt_or_le, cell_number_at, halo_coord, refl, subst, ℕ, ℤ, ◌%◌, ◌*◌, ◌+◌, ◌/◌}
use Rattle.local_run.proofs.Imports.{◌<◌, ◌∙◌, ◌≡◌, ◌≤◌}
use Rattle.lanes.proofs.MarkSearch.{whole_zero}
use Rattle.local_run.proofs.Firsts.{free_from}
use Rattle.local_run.proofs.QuietLemmas.{number_below}
use Rattle.local_run.proofs.Steady.{correct_unless_marked, still_settled}
use Rattle.local_run.proofs.Stepping.{outer_inner}
use Rattle.local_run.specs.Steady.{AreSignalsCorrectAtNumber}
use Rattle.local_run.proofs.border.set_halo_and_check_ring.Goals as goal

pub set_halo_and_check_ring_at_marks-is_right-requires-clause-unset_are_correct :
    goal.set_halo_and_check_ring_at_marks-is_right-requires-clause-unset_are_correct
set_halo_and_check_ring_at_marks-is_right-requires-clause-unset_are_correct c = λ u e none.
    let l = c.args.lines.now in
    let m = c.loop-k.invariant in
    let says = rw (c.marks.ensures, c.events.ensures.marks, c.last_event_marks.ensures.marks)
    at c.border_marks_to_check-word.ensures.unset_need_no_look in
    correct_unless_marked c.args.job.now c.args.values.now l.time c.loop-k.marked_planes l.marks.items l.events.items
    l.last_event_marks.items u c.requires.job_ready m.shows c.requires.lines c.requires.events m.steady
    (says u (omega (arith, e)) none)

pub loop-k-preserved : goal.loop-k-preserved
loop-k-preserved c =
    let j = c.args.job.now in
    let m = c.loop-k.invariant in
    let e = c.set_halo_and_check_ring_at_marks-is_right.ensures in
    record {
      shows = e.shows;
      steady = still_settled j c.args.values.now c.loop-k.marked_planes
          c.set_halo_and_check_ring_at_marks-is_right.new.marked_planes c.args.lines.now.last_event_marks.items
          c.requires.job_ready m.shows.size e.settled m.steady;
      halo = λ x y lx ly before. by_lt_or_le (cell_number_at j.area x y) (64 * c.loop-k.k)
          (λ h b lb out. e.rest b x y lb lx h ∙ m.halo x y lx ly h b lb out)
          (λ g. e.halo x y lx ly g (omega (arith, before)));
      right = λ all x y lx ly before. by_lt_or_le (cell_number_at j.area x y) (64 * c.loop-k.k)
          (λ h. m.right (and_parts _ _ all).0 x y lx ly h)
          (λ g. e.edges (and_parts _ _ all).1 x y lx ly g (omega (arith, before)));
    }

pub loop-k-preserved-then-word-eq0 : goal.loop-k-preserved-then-word-eq0
loop-k-preserved-then-word-eq0 c =
    let j = c.args.job.now in
    let l = c.args.lines.now in
    let m = c.loop-k.invariant in
    let p = c.loop-k.marked_planes in
    let says = rw (c.marks.ensures, c.events.ensures.marks, c.last_event_marks.ensures.marks)
    at c.border_marks_to_check-word.ensures.unset_need_no_look in
    let passed : (n : ℕ) → 64 * c.loop-k.k ≤ n → n < 64 * (c.loop-k.k + 1) →
    AreSignalsCorrectAtNumber j c.args.values.now l.time p.planes n = λ n g h.
    correct_unless_marked j c.args.values.now l.time p l.marks.items l.events.items l.last_event_marks.items n
    c.requires.job_ready m.shows c.requires.lines c.requires.events m.steady
    (says n (omega arith) (whole_zero _ (n % 64) c.if-word-eq0.true)) in
    record {
      shows = m.shows;
      steady = m.steady;
      halo = λ x y lx ly before. by_lt_or_le (cell_number_at j.area x y) (64 * c.loop-k.k) (m.halo x y lx ly)
          (λ g. (passed (cell_number_at j.area x y) g (omega (arith, before))).halo x y lx ly refl);
      right = λ all x y lx ly before. by_lt_or_le (cell_number_at j.area x y) (64 * c.loop-k.k) (m.right all x y lx ly)
          (λ g. (passed (cell_number_at j.area x y) g (omega (arith, before))).edges x y lx ly refl);
    }

pub returns-clause-halo : goal.returns-clause-halo
returns-clause-halo c = λ x y lx ly.
    let s1 = c.requires.shows.size.1 in
    let s2 = c.requires.shows.size.2 in
    let long : c.cells_per_plane-cells.result ≡ (c.args.job.now.area.w / 2 + 1) * (c.args.job.now.area.h / 2 + 1) =
    c.cells_per_plane-cells.ensures.count_is_exact ∙ ap (λ (p : Planes). p.stride * p.rows) c.planes.ensures
    ∙ ap₂ (λ s r. s * r) s1 s2 in
    c.loop-k.invariant.halo x y lx ly
    (omega (
      arith,
      number_below c.args.job.now.area x y c.requires.job_ready.job.even.w c.requires.job_ready.job.even.h lx ly,
      long,
    ))

pub returns-clause-edges : goal.returns-clause-edges
returns-clause-edges c = λ h.
    let j = c.args.job.now in
    let vs = c.args.values.now in
    free_from j vs c.args.lines.now.time Edge c.requires.sought (λ x y a lx ly la.
    subst (λ (z : ℤ). ¬ IsDefinedAndHasFault j vs a c.args.lines.now.time Edge z (box_coord j.area.y y))
    (outer_inner j.area.x x)
    (subst (λ (z : ℤ). ¬ IsDefinedAndHasFault j vs a c.args.lines.now.time Edge (halo_coord j.area.x (1 + x)) z)
    (outer_inner j.area.y y)
    (c.loop-k.invariant.right h (1 + x) (1 + y) (omega arith) (omega arith)
    (below (1 + x) (1 + y) (omega arith) (omega arith)) a la)))
  where
    below : (x y : ℕ) → x < c.args.job.now.area.w + 2 → y < c.args.job.now.area.h + 2 →
        cell_number_at c.args.job.now.area x y < 64 * c.loop-k.k
    below x y lx ly =
        let long : c.cells_per_plane-cells.result ≡ (c.args.job.now.area.w / 2 + 1) * (c.args.job.now.area.h / 2 + 1) =
        c.cells_per_plane-cells.ensures.count_is_exact ∙ ap (λ (p : Planes). p.stride * p.rows) c.planes.ensures
        ∙ ap₂ (λ s r. s * r) c.requires.shows.size.1 c.requires.shows.size.2 in
        omega (
          arith,
          number_below c.args.job.now.area x y c.requires.job_ready.job.even.w c.requires.job_ready.job.even.h lx ly,
          long,
        )

pub border_marks_to_check-word-requires-clause-room_new_last :
    goal.border_marks_to_check-word-requires-clause-room_new_last
border_marks_to_check-word-requires-clause-room_new_last c =
    let j = c.args.job.now in
    let q = c.requires.job_ready.job in
    let room = c.requires.lines.room in
    let long : c.cells_per_plane-cells.result ≡ (j.area.w / 2 + 1) * (j.area.h / 2 + 1) =
    c.cells_per_plane-cells.ensures.count_is_exact ∙ ap (λ (p : Planes). p.stride * p.rows) c.planes.ensures
    ∙ ap₂ (λ s r. s * r) c.requires.shows.size.1 c.requires.shows.size.2 in
    let within = c.loop-k-test.true in
    let words = c.div_ceil-k-end.ensures in
    let new = c.events.ensures.long in
    let last = c.last_event_marks.ensures.long in (
      omega (arith, within, words, new, room, long),
      omega (arith, within, words, last, room, long),
    )
