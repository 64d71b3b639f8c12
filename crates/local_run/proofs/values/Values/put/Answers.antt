use Rattle.local_run.proofs.Imports.{arith, ◌∙◌}
use Rattle.local_run.proofs.Scans.{shown_all}
use Rattle.local_run.proofs.values.Values.put.Goals as goal

pub returns : goal.returns
returns c =
    let vs = c.args.self.now in
    let words = c.requires.words in
    let put = rw c.deref.ensures.value at c.put.ensures.cell_set in
    record {
      puts = record {
        size = put.size;
        there = shown_all vs c.put.new.self.planes c.args.x c.args.y c.args.signal vs.words
            (λ k b lk l. put.there k b (omega (arith, lk, words)) l ∙ c.source.ensures.values k b lk l);
        rest = λ a x y la. put.rest a x y (omega (arith, la, words));
      };
      settled = c.put.ensures.settled;
    }
