use Rattle.certificate.proofs.Imports.{delay_line, drop, lines_of_numbered_gates, meet_line, netlist_of, time_in_table}
use Rattle.certificate.proofs.Imports.{time_lines_of_gates, ◌++◌, ◌≡◌}
use Rattle.certificate.proofs.times.time_lines_of_gates.Given as goal

-- the lines so far and those of the other delays are those of all delays
abbrev pub invariant-loop-number : goal.invariant-loop-number
invariant-loop-number l =
    let f = delay_line (time_in_table l.firsts) (time_in_table l.lasts) in
    let gates = (netlist_of l.circuit).gates in
    l.lines.items ++ lines_of_numbered_gates f l.number (drop l.number gates) ≡ lines_of_numbered_gates f 0 gates

abbrev pub invariant-loop-number-2 : goal.invariant-loop-number-2
invariant-loop-number-2 l =
    let f = meet_line (time_in_table l.lasts) in
    let gates = (netlist_of l.circuit).gates in
    l.lines.items ++ lines_of_numbered_gates f l.number (drop l.number gates)
    ≡ time_lines_of_gates (time_in_table l.firsts) (time_in_table l.lasts) gates
