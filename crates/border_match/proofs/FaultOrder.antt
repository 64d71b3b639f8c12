-- The order of border faults
use Rattle.border_match.proofs.Imports.{BorderFault, arith, border_fault_cmp, cell_cmp, common_steps, ℕ, ℤ}
use Rattle.lemmas.proofs.Common.{CmpEqualImpliesEq, IsTotalOrder, exact_pairs, exact_signed, exact_unsigned}
use Rattle.lemmas.proofs.Common.{nat_cmp_total, on_total, then_total}
use Rattle.bbm_rule.proofs.CellOrder.{cell_total}

pub border_total : IsTotalOrder border_fault_cmp
unfolding border_fault_cmp
border_total = then_total (on_total (λ (f : BorderFault). f.time) nat_cmp_total)
    (on_total (λ (f : BorderFault). f.cell) cell_total)

abbrev key : BorderFault → ℕ × (ℤ × ℤ)
key f = (f.time, (f.cell.y, f.cell.x))

pub border_exact : CmpEqualImpliesEq border_fault_cmp
unfolding border_fault_cmp cell_cmp
border_exact a b e = grind (arith, common_steps, exact_pairs, exact_unsigned, exact_signed, key)
