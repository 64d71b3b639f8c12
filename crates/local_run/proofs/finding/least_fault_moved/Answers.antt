use Rattle.local_run.proofs.Imports.{Fault, IsLeastFault, None, Option, Some, subst, sym}
use Rattle.local_run.proofs.MovedJobs.{least_moved}
use Rattle.local_run.proofs.finding.least_fault_moved.Goals as goal

pub returns-in-Some-clause-least : goal.returns-in-Some-clause-least
returns-in-Some-clause-least c =
    let j = c.args.from.now in
    let k = c.args.to.now in
    subst (λ (f : Fault). IsLeastFault k (Some f)) (sym c.fault_moved_to_job.ensures)
    (least_moved j k (Some c.in-Some.fault) c.prove_valid.ensures c.prove_valid-2.ensures
    c.requires.same_shape
    (subst (λ (o : Option Fault). IsLeastFault j o) c.in-Some.is c.requires.least))

pub returns-in-None-clause-least : goal.returns-in-None-clause-least
returns-in-None-clause-least c =
    let j = c.args.from.now in
    let k = c.args.to.now in
    least_moved j k None c.prove_valid.ensures c.prove_valid-2.ensures c.requires.same_shape
    (subst (λ (o : Option Fault). IsLeastFault j o) c.in-None.is c.requires.least)
