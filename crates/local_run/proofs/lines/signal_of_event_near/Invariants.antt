use Rattle.local_run.proofs.lines.signal_of_event_near.Given as goal

-- nothing has to be known of the events that are no answer
abbrev pub invariant-loop-k : goal.invariant-loop-k
invariant-loop-k l = Unit {0}
