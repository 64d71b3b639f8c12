use Rattle.certificate.proofs.Imports.{All, HasCircuitWire, HasCircuitWires, append_assoc, circuit_of, subst}
use Rattle.certificate.proofs.Imports.{Module, ap, ap₂, body_lines_with, entry_text, flat_map, lines_of_modules, sym}
use Rattle.certificate.proofs.Imports.{take, ◌++◌, ◌∙◌, ◌∷◌}
use Rattle.sha2.specs.Hashers.{Holds256}
use Rattle.certificate.proofs.PrintedLines.{module_more}
use Rattle.certificate.proofs.StoredSignals.{all_at}
use Rattle.certificate.proofs.digest.hash_modules.Goals as goal

pub print_module_lines-requires-clause-wires : goal.print_module_lines-requires-clause-wires
print_module_lines-requires-clause-wires c =
    all_at (HasCircuitWires (circuit_of c.args.circuit.now)) c.args.modules.now c.requires c.loop-module.module-index
    c.module-item.result c.loop-module-test.true c.module-item.is

pub print_module_lines-requires-clause-halo_wires : goal.print_module_lines-requires-clause-halo_wires
print_module_lines-requires-clause-halo_wires c =
    subst (All (HasCircuitWire (circuit_of c.args.circuit.now))) (sym c.deref.ensures.value)
    (all_at (HasCircuitWires (circuit_of c.args.circuit.now)) c.args.modules.now c.requires c.loop-module.module-index
    c.module-item.result c.loop-module-test.true c.module-item.is).halos

pub loop-module-preserved : goal.loop-module-preserved
loop-module-preserved c m h =
    let circuit = circuit_of c.args.circuit.now in
    let before = flat_map entry_text (lines_of_modules circuit (take c.loop-module.module-index c.args.modules.now)) in
    let text_is =
    c.as_slice.ensures.value ∙ c.in_ok-print_module_lines.ensures
    ∙ ap₂ (λ o hs. o ++ flat_map entry_text (Module c.module-item.result.area
    ∷ body_lines_with circuit c.module-item.result hs)) c.truncate.ensures.items c.deref.ensures.value in
    subst (Holds256 c.update.new.self)
    (append_assoc m before c.as_slice.result.now ∙ ap (λ t. m ++ t) (ap (λ t. before ++ t) text_is
    ∙ sym (module_more circuit c.args.modules.now c.loop-module.module-index c.module-item.result
    c.loop-module-test.true c.module-item.is)))
    (c.update.ensures (m ++ before) (c.loop-module.invariant m h))
