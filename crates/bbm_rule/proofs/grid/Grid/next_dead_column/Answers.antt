use Rattle.bbm_rule.proofs.Imports.{false, true, ◌*◌}
use Rattle.bbm_rule.proofs.GridLemmas.{same_before, same_there}
use Rattle.bbm_rule.proofs.grid.Grid.next_dead_column.Goals as goal

pub returns-clause-all_live : goal.returns-clause-all_live
returns-clause-all_live c =
    let g = c.self.inside in
    let passed = rw c.deref.ensures.value at c.next_unmarked-place.ensures.passed_marked in
    same_before g.width g.height (64 * g.stride) g.words.items c.args.self.now c.args.y c.args.from c.args.end
    c.next_unmarked-place.result true c.self.view_is (rw (← c.self.view_is) at c.requires.row)
    (rw (← c.self.view_is) at c.requires.columns.1) c.next_unmarked-place.ensures.range.1 passed

pub returns-clause-found_dead : goal.returns-clause-found_dead
returns-clause-found_dead c =
    let g = c.self.inside in
    let unmarked = rw c.deref.ensures.value at c.next_unmarked-place.ensures.unmarked in
    same_there g.width g.height (64 * g.stride) g.words.items c.args.self.now c.args.y c.args.from c.args.end
    c.next_unmarked-place.result false c.self.view_is (rw (← c.self.view_is) at c.requires.row)
    (rw (← c.self.view_is) at c.requires.columns.1) c.next_unmarked-place.ensures.range.0 unmarked
