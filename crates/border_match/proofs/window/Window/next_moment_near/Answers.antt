-- In each case no moment in between is at a cell of the window.
use Rattle.border_match.proofs.Imports.{arith, ints, rules}
use Rattle.border_match.proofs.FarEvents.{above_rows, before_columns, behind_columns, behind_rows, below_rows}
use Rattle.border_match.proofs.window.Window.next_moment_near.Goals as goal

pub returns-then-cell-self-clause-passed_moments_far : goal.returns-then-cell-self-clause-passed_moments_far
returns-then-cell-self-clause-passed_moments_far c =
    above_rows c.args.self c.args.at _ (search rules) (search rules) (search rules) (search rules)

pub returns-then-cell-self-2-clause-passed_moments_far : goal.returns-then-cell-self-2-clause-passed_moments_far
returns-then-cell-self-2-clause-passed_moments_far c =
    below_rows c.args.self c.args.at _ (search rules) (omega (arith, c.saturating_add.ensures)) (search rules)
    (search rules)

pub returns-then-cell-self-3-clause-passed_moments_far : goal.returns-then-cell-self-3-clause-passed_moments_far
returns-then-cell-self-3-clause-passed_moments_far c =
    before_columns c.args.self c.args.at _ (search rules) (search rules) (search rules) (search rules)

pub returns-then-cell-self-4-clause-passed_moments_far : goal.returns-then-cell-self-4-clause-passed_moments_far
returns-then-cell-self-4-clause-passed_moments_far c =
    behind_columns c.args.self c.args.at _ c.requires.cell_far (search rules) (search rules) (omega (arith, ints))
    (search rules) (search rules) (search rules)

pub returns-clause-passed_moments_far : goal.returns-clause-passed_moments_far
returns-clause-passed_moments_far c =
    behind_rows c.args.self c.args.at _ c.requires.cell_far (search rules) (search rules) (omega (arith, ints))
    (omega (arith, c.saturating_add.ensures)) (search rules) (search rules)
