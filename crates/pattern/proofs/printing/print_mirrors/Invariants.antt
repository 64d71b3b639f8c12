-- The lines so far are printed.
use Rattle.pattern.proofs.Imports.{codes, flat_map, line_text, box_words, take, ◌++◌, ◌≡◌}
use Rattle.pattern.proofs.printing.print_mirrors.Given as goal

abbrev pub invariant-loop-mirror : goal.invariant-loop-mirror
invariant-loop-mirror l = l.out.items
    ≡ l.fn.out.items ++ flat_map (λ r. line_text (codes "mirror") (box_words r)) (take l.mirror-index l.mirrors)
