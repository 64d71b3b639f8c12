use Rattle.border_match.proofs.Imports.{ap, circuit_wire, job_signals, renumber_signal, sym, ◌∙◌}
use Rattle.border_match.proofs.EventSignals.{own_signal}
use Rattle.border_match.proofs.signals.signal_at_event.Goals as goal

pub returns : goal.returns
returns c =
    let j = c.args.job.now in
    c.circuit_signal.ensures ∙ ap (renumber_signal (circuit_wire j.locals)) (sym
    (own_signal j.area.x j.area.y (job_signals c.args.border j) c.schedule.result.now c.args.event
    (c.has_any_starred_line.ensures c.if-has_any_starred_line.false) c.schedule.ensures c.prove_rising.ensures.moments
    c.requires.event_listed))
