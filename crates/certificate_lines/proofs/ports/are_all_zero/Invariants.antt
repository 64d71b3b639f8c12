use Rattle.certificate_lines.proofs.Imports.{list_all, nat_eq, take, ◌≡◌}
use Rattle.certificate_lines.proofs.ports.are_all_zero.Given as goal

-- the numbers so far are 0 if and only if they join to 0
abbrev pub invariant-loop-number : goal.invariant-loop-number
invariant-loop-number l = nat_eq l.joined 0 ≡ list_all (λ n. nat_eq n 0) (take l.number-index l.numbers)
