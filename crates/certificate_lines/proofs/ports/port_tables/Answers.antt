use Rattle.certificate_lines.proofs.Imports.{HaveDistinctCells, arith, common_steps, subst}
use Rattle.certificate_lines.proofs.ports.port_tables.Goals as goal

pub returns : goal.returns
returns c = record {
  inputs = grind (arith, common_steps);
  outputs = grind (arith, common_steps);
  ins_apart = subst HaveDistinctCells c.ins.ensures.same_ports c.ins.ensures.cells_distinct;
  outs_apart = subst HaveDistinctCells c.outs.ensures.same_ports c.outs.ensures.cells_distinct;
}
