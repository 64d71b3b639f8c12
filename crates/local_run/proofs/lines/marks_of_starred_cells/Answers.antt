use Rattle.local_run.proofs.Imports.{AreStarredCellMarks, List, ap, arith, div_ceil, length, shape_of, subst, sym}
use Rattle.local_run.proofs.Imports.{ℕ, ◌*◌, ◌∙◌, ◌≡◌, ◌≤◌}
use Rattle.lemmas.proofs.Common.{with_items_is}
use Rattle.local_run.proofs.lines.marks_of_starred_cells.Goals as goal

room : (n m w : ℕ) → w ≡ div_ceil m 64 → n ≡ 5 * w → 5 * m ≤ 64 * n
room n m w e h = omega (arith, e, h)

pub returns-clause-marks : goal.returns-clause-marks
returns-clause-marks c =
    let j = c.args.job.now in
    let shape : c.deref.result.now ≡ shape_of j = c.deref.ensures ∙ c.shape.ensures in
    let v = c.deref_mut.ensures.value in
    let items = with_items_is c.in_ok-marks.marks c.mark_stars_of_shape.new.marks
    (omega (arith, ap length v, c.in_ok-marks.marks.ok.0)) in
    let m = rw shape at c.mark_stars_of_shape.ensures in
    let long : length c.mark_stars_of_shape.new.marks ≡ 5 * c.number_mark_word_count.result =
    omega
    (arith, c.mark_stars_of_shape.auto.marks, ap length v, c.in_ok-marks.marks.ok.0, c.in_ok-marks.ensures.len) in
    let q = c.requires in
    subst (λ (xs : List ℕ). AreStarredCellMarks (shape_of j) xs) (sym items)
    (record {
      room = (
        omega arith,
        omega arith,
        q.width.1,
        q.height.1,
        q.even.w,
        q.even.h,
        room _ _ _ c.number_mark_word_count.ensures long,
      );
      edges = m.edges;
      halos = m.halos;
    })
