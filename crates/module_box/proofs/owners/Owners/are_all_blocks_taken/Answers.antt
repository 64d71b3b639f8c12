use Rattle.module_box.proofs.Imports.{arith, below_or_from, common_steps, eq-eqb, eqb-true}
use Rattle.module_box.proofs.owners.Owners.are_all_blocks_taken.Goals as goal

pub returns : goal.returns
returns c = rw (← c.self.view_is) (
  λ e k lt. grind (arith, common_steps, eqb-true),
  λ all. grind (arith, common_steps, below_or_from, eq-eqb),
)
