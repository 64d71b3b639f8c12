use Rattle.certificate.proofs.Imports.{All, HasCircuitWire, HasCircuitWires, arith, circuit_of}
use Rattle.certificate.proofs.Imports.{common_steps, subst, sym}
use Rattle.certificate.proofs.PrintedLines.{module_more}
use Rattle.certificate.proofs.StoredSignals.{all_at}
use Rattle.certificate.proofs.printing.print_modules.Goals as goal

pub print_module_lines-requires-clause-wires : goal.print_module_lines-requires-clause-wires
print_module_lines-requires-clause-wires c =
    all_at (HasCircuitWires (circuit_of c.args.circuit.now)) c.args.modules.now c.requires c.loop-module.module-index
    c.module-item.result c.loop-module-test.true c.module-item.is

pub print_module_lines-requires-clause-halo_wires : goal.print_module_lines-requires-clause-halo_wires
print_module_lines-requires-clause-halo_wires c =
    subst (All (HasCircuitWire (circuit_of c.args.circuit.now))) (sym c.deref.ensures.value)
    (all_at (HasCircuitWires (circuit_of c.args.circuit.now)) c.args.modules.now c.requires c.loop-module.module-index
    c.module-item.result c.loop-module-test.true c.module-item.is).halos

pub loop-module-preserved : goal.loop-module-preserved
loop-module-preserved c = grind (arith, common_steps, module_more)
