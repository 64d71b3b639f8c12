use Rattle.certificate_lines.proofs.Imports.{ap, arith, common_steps, length, length_push, map-append, ◌-◌, ◌∙◌, ◌≡◌}
use Rattle.lemmas.proofs.Common.{set-append_seam}
use Rattle.certificate_lines.proofs.local_wires.move_wires_to_earlier.Goals as goal

pub returns-clause-earlier : goal.returns-clause-earlier
returns-clause-earlier c =
    let xs = c.args.earlier.now.items in
    let grown = c.in_ok-push.ensures.items in
    let one = ap length grown ∙ length_push xs c.new.result in
    let counted = c.len-last.ensures in
    let last : c.len-last.result - 1 ≡ length xs = omega (arith, one, counted) in
    grind (arith, common_steps, set-append_seam, map-append)
