-- the numbers so far have a finding, and one job of each shape was run at most
use Rattle.core_book.proofs.Imports.{group_count_below, ◌+◌, ◌≤◌}
use Rattle.core_book.proofs.Fillings.{IsFilling}
use Rattle.core_book.proofs.filling.fill_open_book.Given as goal

abbrev pub invariant-loop-number : goal.invariant-loop-number
invariant-loop-number l = IsFilling l.fn.state l.state l.number
    × (l.runs ≤ l.fn.runs + group_count_below l.groups.items l.number)
