use Rattle.circuit.proofs.Imports.{append-nil, arith, sym, value_lines}
use Rattle.circuit.proofs.Values.{printed_more, printed_all}
use Rattle.circuit.proofs.printing.print_value_lines.Goals as goal

pub loop-i-init : goal.loop-i-init
unfolding value_lines
loop-i-init c = sym (append-nil c.args.out.now.items)

pub loop-i-preserved : goal.loop-i-preserved
loop-i-preserved c = printed_more c.args.out.now.items c.loop-i.out.items _ c.args.names.now c.args.values.now
    c.loop-i.i c.index-names-i.result _ (omega arith)
    (omega arith) c.index-names-i.is c.loop-i.invariant c.in_ok-print_value.ensures

pub returns : goal.returns
returns c = printed_all c.args.out.now.items c.loop-i.out.items c.args.names.now c.args.values.now c.loop-i.i
    (omega arith) c.loop-i.invariant
