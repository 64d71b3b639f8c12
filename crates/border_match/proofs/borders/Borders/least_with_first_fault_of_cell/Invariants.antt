use Rattle.border_match.proofs.Imports.{BorderFault, IsFaultOfSearchedJob, ◌<◌, ◌≡◌}
use Rattle.border_match.proofs.borders.Borders.least_with_first_fault_of_cell.Given as goal

-- The cell has no fault before.
abbrev pub invariant-loop-time : goal.invariant-loop-time
invariant-loop-time l = (h : BorderFault) → IsFaultOfSearchedJob l.self h → h.cell ≡ l.cell → h.time < l.time → ⊥
