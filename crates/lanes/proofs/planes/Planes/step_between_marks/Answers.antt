use Rattle.lanes.proofs.Imports.{HasWordsStrideRows, IsNotRowEndBlock, arith, false≢true, sym, ℕ, ◌*◌, ◌-◌, ◌<◌, ◌∙◌}
use Rattle.lanes.proofs.Imports.{◌≤◌}
use Rattle.lanes.proofs.FieldLemmas.{by_row_end, join}
use Rattle.lanes.proofs.RunLemmas.{first_join, first_part, run_skipped, run_turned}
use Rattle.lanes.proofs.planes.Planes.step_between_marks.Goals as goal

pub loop-at-preserved : goal.loop-at-preserved
loop-at-preserved c =
    let p = c.args.self.now in
    let part = c.args.partition in
    let m = c.loop-at.invariant in
    let e = c.turn_block_range.ensures in
    let next = c.next_unmarked-at-in-loop-at.ensures in
    let blocks = c.block_number_count-blocks.ensures.count_is_exact in
    let q = c.loop-at.self in
    let r = c.turn_block_range.new.self in
    let at = c.loop-at.at in
    let end = c.next_marked-end.result in
    let marked = c.next_marked-end.ensures in
    let size : HasWordsStrideRows p.words p.stride p.rows r =
    (e.size.0 ∙ m.size.0, e.size.1 ∙ m.size.1, e.size.2 ∙ m.size.2) in
    let inside : (n : ℕ) → at ≤ n → n < end → IsNotRowEndBlock part q.stride n = λ n g h.
    by_row_end part q.stride n (λ i. i) (λ out.
    let out = rw m.size.1 at out in
    absurd (false≢true (sym (marked.passed_unmarked n g h)
    ∙ c.requires.marked_blocks_stable.last n (omega (arith, h, marked.range.1, blocks)) out))) in
    let run = run_turned part q r at (end - at) end (omega (arith, marked.range.0)) inside e.part in
    record {
      size = size;
      within = next.range.1;
      unmarked = next.unmarked;
      turned = run_skipped part p r c.args.marks.now end c.next_unmarked-at-in-loop-at.result
          c.requires.marked_blocks_stable
          (omega (arith, next.range.1, blocks)) next.passed_marked
          (join part p q r at end m.size (omega (arith, marked.range.0)) m.turned run) next.range.0;
      first = first_join part p q r m.size m.first (first_part part q r at (q.words * (end - at)) e.part);
    }
