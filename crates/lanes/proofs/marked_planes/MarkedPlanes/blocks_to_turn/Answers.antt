use Rattle.lanes.proofs.Imports.{inl, inr}
use Rattle.lanes.proofs.FieldLemmas.{passed_stay}
use Rattle.lanes.proofs.MarkSearch.{lacks_live, lacks_own}
use Rattle.lanes.proofs.marked_planes.MarkedPlanes.blocks_to_turn.Goals as goal

pub returns-in-Odd : goal.returns-in-Odd
returns-in-Odd c =
    let f = c.args.self.now in
    record {
      calm = λ end short within. passed_stay c.args.partition f.planes f.block_marks f.live_marks c.args.k end _ f.calm
          f.all_dead short within
          (λ n e none. elim (lacks_live c.marks_of.result.now f.live_marks c.word.result c.args.k n c.word.ensures e
          none) [
            | inl free ↦ inl (rw c.marks_of.ensures at free)
            | inr free ↦ inr (rw c.in-Odd.is free)
          ]);
    }

pub returns-in-Even : goal.returns-in-Even
returns-in-Even c =
    let f = c.args.self.now in
    record {
      calm = λ end short within. passed_stay c.args.partition f.planes f.block_marks f.live_marks c.args.k end _ f.calm
          f.all_dead short within
          (λ n e none. inl (rw c.marks_of.ensures at (lacks_own c.marks_of.result.now c.args.k n e none)));
    }
