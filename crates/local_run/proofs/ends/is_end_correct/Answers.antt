use Rattle.local_run.proofs.Imports.{End, inl, inr, refl}
use Rattle.local_run.proofs.Firsts.{free_from}
use Rattle.local_run.proofs.ends.is_end_correct.Goals as goal

pub returns-then-are_demands_met : goal.returns-then-are_demands_met
returns-then-are_demands_met c = λ dead.
    free_from c.args.job.now c.args.values.now c.args.job.now.steps End refl
    (λ x y a lx ly la. elim (c.if-are_demands_met.ensures refl x y lx ly) [
      | inl must ↦ c.are_others_dead.ensures dead x y lx ly must a la
      | inr correct ↦ correct a la
    ])
