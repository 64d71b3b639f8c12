-- A line more of each kind.
use Rattle.certificate_lines.proofs.Imports.{arith, common_steps}
use Rattle.certificate_lines.proofs.Lists.{some_is}
use Rattle.certificate_lines.proofs.StoredLemmas.{cut_added, gate_added, keep_added, edge_added, halo_added, stop_added}
use Rattle.certificate_lines.proofs.stored_module.StoredModule.push.Goals as goal

pub returns-in_ok-push-in-Cut-Some-clause-lines : goal.returns-in_ok-push-in-Cut-Some-clause-lines
returns-in_ok-push-in-Cut-Some-clause-lines c = rw (c.in-Cut-Some.is-0, c.in-Cut-Some.is-1)
    (λ d own follows. cut_added d c.args.self.now c.push.new.self c.in-Cut-Some.field-0-0 c.in-Cut-Some.wire
    (some_is _ _ own.name) (grind (arith, common_steps)) follows)

pub returns-in_ok-push-in-Use-default-clause-lines : goal.returns-in_ok-push-in-Use-default-clause-lines
returns-in_ok-push-in-Use-default-clause-lines c = rw c.in-Use-default.is-0
    (λ d own follows. gate_added d c.args.self.now c.push-in-Use-default.new.self c.in-Use-default.number
    (grind (arith, common_steps)) follows)

pub returns-in_ok-push-in-Keep-default-clause-lines : goal.returns-in_ok-push-in-Keep-default-clause-lines
returns-in_ok-push-in-Keep-default-clause-lines c = rw c.in-Keep-default.is-0
    (λ d own follows. keep_added d c.args.self.now c.push-in-Keep-default.new.self c.in-Keep-default.number
    (grind (arith, common_steps)) follows)

pub returns-in_ok-push_border-in-Edge-default-clause-lines : goal.returns-in_ok-push_border-in-Edge-default-clause-lines
returns-in_ok-push_border-in-Edge-default-clause-lines c = rw c.in-Edge-default.is-0
    (λ d own follows. edge_added d c.args.self.now c.push_border.new.lines c.in-Edge-default.border
    c.stored_border.result (grind (arith, common_steps)) c.in_ok-push_border-in-Edge-default.ensures.ok follows)

pub returns-in_ok-push_border-in-Halo-default-clause-lines : goal.returns-in_ok-push_border-in-Halo-default-clause-lines
returns-in_ok-push_border-in-Halo-default-clause-lines c = rw c.in-Halo-default.is-0
    (λ d own follows. halo_added d c.args.self.now c.push_border-in-Halo-default.new.lines c.in-Halo-default.border
    c.stored_border-in-Halo-default.result (grind (arith, common_steps)) c.in_ok-push_border-in-Halo-default.ensures.ok
    follows)

pub returns-in_ok-push-in-Stop-Some-clause-lines : goal.returns-in_ok-push-in-Stop-Some-clause-lines
returns-in_ok-push-in-Stop-Some-clause-lines c = rw (c.in-Stop-Some.is-0, c.in-Stop-Some.is-1)
    (λ d own follows. stop_added d c.args.self.now c.push-in-Stop-Some.new.self c.in-Stop-Some.stop
    c.stored_stop.result (grind (arith, common_steps)) c.in_ok-push-in-Stop-Some.ensures.items)
