use Rattle.local_run.proofs.Imports.{arith, ◌+◌, ◌∙◌}
use Rattle.local_run.proofs.border.set_halo_cell.Goals as goal

pub returns-then-differs_from_signal-clause-shows : goal.returns-then-differs_from_signal-clause-shows
returns-then-differs_from_signal-clause-shows c =
    let e = c.put.ensures.puts in
    let shows = c.requires.shows in
    let room = c.requires.job_ready.room in
    let count = c.requires.job_ready.count in
    let s1 = shows.size.1 in
    record {
      size = (e.size.0 ∙ shows.size.0, e.size.1 ∙ shows.size.1, e.size.2 ∙ shows.size.2);
      cells = λ a x y la lx ly. e.rest a (1 + x) (1 + y) (omega arith) (omega arith)
          (λ s. let s0 = s.0 in let s1 = s.1 in
          c.requires.halo_coord (omega arith, omega arith, omega arith, omega arith)) ∙ shows.cells a x y la lx ly;
    }
