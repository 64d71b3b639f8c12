use Rattle.core_book.proofs.Imports.{arc_value, arith, common_steps}
use Rattle.core_book.proofs.Fillings.{lists-told}
use Rattle.core_book.proofs.filling.are_same_jobs.Goals as goal

pub returns-clause-same_jobs : goal.returns-clause-same_jobs
returns-clause-same_jobs c = (lists-told arc_value c.args.own.now c.args.jobs.now c.eq.result c.eq.ensures).0

pub returns-clause-other : goal.returns-clause-other
returns-clause-other c =
    grind (arith, common_steps, lists-told, c.eq.result, c.args.own.now, c.args.jobs.now, c.eq.ensures)
