use Rattle.pattern.proofs.Imports.{arith}
use Rattle.pattern.proofs.TakenLemmas.{is_sized}
use Rattle.pattern.proofs.draft.Draft.new.Goals as goal

pub new-requires-clause-width : goal.new-requires-clause-width
new-requires-clause-width c = let sized = is_sized c.args.size c.requires in
    (sized.width.0, omega (arith, sized.width.1), sized.width.2)

pub new-requires-clause-height : goal.new-requires-clause-height
new-requires-clause-height c = let sized = is_sized c.args.size c.requires in
    (sized.height.0, omega (arith, sized.height.1), sized.height.2)
