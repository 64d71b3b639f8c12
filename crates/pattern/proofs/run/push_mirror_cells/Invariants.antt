use Rattle.pattern.proofs.Imports.{flat_map, rectangle_cells, take, ◌++◌, ◌≡◌}
use Rattle.pattern.proofs.run.push_mirror_cells.Given as goal

abbrev pub invariant-loop-mirror : goal.invariant-loop-mirror
invariant-loop-mirror l = l.out.items ≡ l.fn.out.items ++ flat_map rectangle_cells (take l.mirror-index l.mirrors)
