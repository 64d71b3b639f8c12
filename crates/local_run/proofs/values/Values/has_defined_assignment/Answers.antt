use Rattle.local_run.proofs.Imports.{arith, is_defined_under}
use Rattle.local_run.proofs.Scans.{block_clear, defined_in_word}
use Rattle.local_run.proofs.values.Values.has_defined_assignment.Goals as goal

pub loop-k-preserved : goal.loop-k-preserved
loop-k-preserved c =
    block_clear (is_defined_under c.args.self.now) c.loop-k.k c.index.result.now
    (λ b l. defined_in_word c.args.self.now c.loop-k.k b c.index.result.now _ l (omega arith) c.index.ensures)
    c.loop-k.invariant c.if-index-ne0.false
