-- The wires after one more line, and after none.
use Rattle.certificate_lines.proofs.Imports.{arith, common_steps}
use Rattle.certificate_lines.proofs.StoredLemmas.{wires_kept}
use Rattle.certificate_lines.proofs.stored_module.push_line_in_last_module.Goals as goal

pub returns-in-Ok-clause-wires : goal.returns-in-Ok-clause-wires
returns-in-Ok-clause-wires c d own all = wires_kept d c.args.modules.now.items _ _ c.push.new.self
    (grind (arith, common_steps)) (grind (arith, common_steps)) (c.push.ensures.wires d own) all

pub returns-in-Err-clause-wires : goal.returns-in-Err-clause-wires
returns-in-Err-clause-wires c d own all = wires_kept d c.args.modules.now.items _ _ c.push.new.self
    (grind (arith, common_steps)) (grind (arith, common_steps)) (c.push.ensures.wires d own) all
