-- The order of cells is total and exact
use Rattle.lemmas.proofs.Common.{CmpEqualImpliesEq, IsTotalOrder, arith, common_steps, exact_pairs, exact_signed}
use Rattle.lemmas.proofs.Common.{int_cmp_total, on_total, then_total, ℤ}
use Rattle.bbm_rule.specs.CellOrder.{cell_cmp}
use Rattle.bbm_rule.specs.declared.block.Cell.{Cell}

pub cell_total : IsTotalOrder cell_cmp
unfolding cell_cmp
cell_total = then_total (on_total (λ (c : Cell). c.y) int_cmp_total) (on_total (λ (c : Cell). c.x) int_cmp_total)

abbrev cell_key : Cell → ℤ × ℤ
cell_key c = (c.y, c.x)

pub cell_exact : CmpEqualImpliesEq cell_cmp
unfolding cell_cmp
cell_exact a b e = grind (arith, common_steps, exact_pairs, exact_signed, cell_key)
