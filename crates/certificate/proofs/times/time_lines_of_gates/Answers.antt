use Rattle.certificate.proofs.Imports.{Some, ap, arith, delay_line, gate_of, length, lines_of_numbered_gates, meet_line}
use Rattle.certificate.proofs.Imports.{netlist_of, slice_get, sym, time_in_table, ◌++◌, ◌∙◌, ◌≡◌, ◌≤◌}
use Rattle.certificate.proofs.TimeLemmas.{all_gates, one_gate_more}
use Rattle.certificate.proofs.times.time_lines_of_gates.Goals as goal

pub loop-number-preserved : goal.loop-number-preserved
loop-number-preserved c =
    let gates = (netlist_of c.args.circuit.now).gates in
    let at : slice_get gates c.loop-number.number ≡ Some (gate_of c.gate-gate.result) =
    ap (slice_get gates) (sym c.of.ensures) ∙ c.gate-gate.ensures in
    one_gate_more (delay_line (time_in_table c.args.firsts.now) (time_in_table c.args.lasts.now)) _
    c.loop-number.lines.items
    c.push_delay_line.new.lines.items c.loop-number.number gates _ at c.in_ok-push_delay_line.ensures
    c.loop-number.invariant

pub loop-number-2-init : goal.loop-number-2-init
loop-number-2-init c =
    let gates = (netlist_of c.args.circuit.now).gates in
    let count = c.gates-count.ensures.count in
    let past : length gates ≤ c.loop-number.number =
    (let end = c.loop-number-test.false in omega (arith, count, end)) in
    let f = delay_line (time_in_table c.args.firsts.now) (time_in_table c.args.lasts.now) in
    ap (λ xs. xs ++ lines_of_numbered_gates (meet_line (time_in_table c.args.lasts.now)) 0 gates)
    (all_gates f (lines_of_numbered_gates f 0 gates) c.loop-number.lines.items c.loop-number.number gates past
    c.loop-number.invariant)

pub loop-number-2-preserved : goal.loop-number-2-preserved
loop-number-2-preserved c =
    let gates = (netlist_of c.args.circuit.now).gates in
    let at : slice_get gates c.loop-number-2.number ≡ Some (gate_of c.gate-gate-in-loop-number-2.result) =
    ap (slice_get gates) (sym c.of-in-loop-number-2.ensures) ∙ c.gate-gate-in-loop-number-2.ensures in
    one_gate_more (meet_line (time_in_table c.args.lasts.now)) _ c.loop-number-2.lines.items
    c.push_meet_line.new.lines.items
    c.loop-number-2.number gates _ at c.in_ok-push_meet_line.ensures c.loop-number-2.invariant

pub returns : goal.returns
returns c =
    let gates = (netlist_of c.args.circuit.now).gates in
    let count = c.gates-count.ensures.count in
    let past : length gates ≤ c.loop-number-2.number =
    (let end = c.loop-number-2-test.false in omega (arith, count, end)) in
    all_gates (meet_line (time_in_table c.args.lasts.now)) _ c.loop-number-2.lines.items c.loop-number-2.number gates
    past
    c.loop-number-2.invariant
