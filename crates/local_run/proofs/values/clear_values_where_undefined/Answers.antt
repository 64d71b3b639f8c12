use Rattle.local_run.proofs.Cleared.{cleared_keeps}
use Rattle.local_run.proofs.values.clear_values_where_undefined.Goals as goal

pub returns-clause-keeps : goal.returns-clause-keeps
returns-clause-keeps c = cleared_keeps c.args.defined.now c.loop-k.k c.args.values.now c.loop-k.values
    c.loop-k.invariant
