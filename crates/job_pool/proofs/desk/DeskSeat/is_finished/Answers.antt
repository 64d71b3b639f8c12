use Rattle.job_pool.proofs.Imports.{arith, length, nat_tests, ◌+◌, ◌-◌, ◌≡◌}
use Rattle.job_pool.proofs.Sums.{past_last-last}
use Rattle.job_pool.proofs.desk.DeskSeat.is_finished.Goals as goal

pub returns-then-count-gt0 : goal.returns-then-count-gt0
returns-then-count-gt0 c =
    let xs = c.args.self.now.drawn.items in
    let count = c.len-count.result in
    let some : length xs ≡ (count - 1) + 1 = omega arith in
    let e = past_last-last xs (count - 1) c.index.result.now some in
    let i = c.index.ensures in
    grind (arith, nat_tests)
