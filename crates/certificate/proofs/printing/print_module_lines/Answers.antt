use Rattle.certificate.proofs.Imports.{circuit_of}
use Rattle.certificate.proofs.PrintedLines.{module_printed}
use Rattle.certificate.proofs.printing.print_module_lines.Goals as goal

pub returns : goal.returns
returns c = module_printed (circuit_of c.args.circuit.now) c.args.stored.now c.args.halos.now c.args.out.now.items
    c.in_ok-print_module.ensures
    c.in_ok-print_cuts.ensures c.deref.ensures.value c.in_ok-print_use_or_keep_lines.ensures c.deref-2.ensures.value
    c.in_ok-print_use_or_keep_lines-2.ensures c.deref-3.ensures.value c.in_ok-print_borders.ensures
    c.deref-4.ensures.value
    c.in_ok-print_borders-2.ensures c.in_ok-print_stops.ensures c.deref-5.ensures.value
