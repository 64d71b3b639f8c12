use Rattle.certificate.proofs.Imports.{circuit_of, map, module_lines, refl, subst, ◌≡◌}
use Rattle.std.specs.Result.{IfOk}
use Rattle.certificate.proofs.TimeLemmas.{lines_told}
use Rattle.certificate.proofs.times.timing_lines_of.Goals as goal

pub returns : goal.returns
returns c =
    subst (λ xs. IfOk c.time_lines_of_gates.result (λ lines. lines.items ≡ xs))
    (lines_told (circuit_of c.args.circuit.now)
    (map (module_lines (circuit_of c.args.circuit.now)) c.args.modules.now) _ c.in_ok-firsts.firsts.items
    c.in_ok-lasts.lasts.items c.deref.result.now c.deref-2.result.now c.deref.ensures.value c.deref-2.ensures.value
    refl c.in_ok-firsts.ensures c.in_ok-lasts.ensures) c.time_lines_of_gates.ensures
