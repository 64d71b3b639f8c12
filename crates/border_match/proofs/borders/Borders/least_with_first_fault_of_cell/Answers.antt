use Rattle.border_match.proofs.Imports.{arith}
use Rattle.border_match.proofs.Least.{better_same, better_with}
use Rattle.border_match.proofs.Steps.{first_is_least, not_before}
use Rattle.border_match.proofs.borders.Borders.least_with_first_fault_of_cell.Goals as goal

pub returns-then-is_fault : goal.returns-then-is_fault
returns-then-is_fault c =
    better_with _ _ _ _ _ (c.is_fault.ensures.0 c.if-is_fault.true)
    (λ h f same. first_is_least c.loop-time.time c.args.cell h (not_before _ _ (c.loop-time.invariant h f same)) same)
    c.lesser.ensures.covers_as_before c.lesser.ensures.best_or_fault c.lesser.ensures.fault_covered

pub returns : goal.returns
returns c = better_same _ _ _ (λ h f same. c.loop-time.invariant h f same (let e = f.early in omega (arith, e)))
