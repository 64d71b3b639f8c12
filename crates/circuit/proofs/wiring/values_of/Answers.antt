use Rattle.circuit.proofs.Imports.{ap, arith, rules, true, ◌≡◌}
use Rattle.lemmas.proofs.Common.{Ok}
use Rattle.circuit.proofs.Loops.{values_more}
use Rattle.circuit.proofs.wiring.values_of.Goals as goal

pub loop-number-preserved : goal.loop-number-preserved
loop-number-preserved c =
    let pushed : c.in_ok-push_out_values.field-0 ≡ true = search rules in
    values_more c.args.given.now c.loop-number.values.items c.push_out_values.new.values.items c.args.gates.now
    c.loop-number.number c.index-gates-number.result (omega arith) c.index-gates-number.is
    (c.in_ok-push_out_values.ensures.found (ap Ok pushed)) c.loop-number.invariant
