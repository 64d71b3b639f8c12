use Rattle.certificate_lines.proofs.Imports.{arith, take_all}
use Rattle.lemmas.proofs.Common.{common_steps}
use Rattle.certificate_lines.proofs.TableLemmas.{one_more_zero}
use Rattle.certificate_lines.proofs.ports.are_all_zero.Goals as goal

pub loop-number-preserved : goal.loop-number-preserved
loop-number-preserved c =
    one_more_zero c.args.numbers.now c.loop-number.number-index c.loop-number.joined c.loop-number-test.true
    c.loop-number.invariant

pub returns : goal.returns
returns c = grind (arith, common_steps, take_all)
