-- The circuit and the layout that a certificate is for
use Rattle.std.specs.Prelude.{◌++◌, List}
use Rattle.circuit.specs.Bridge.{circuit_of}
use Rattle.pattern.specs.Layout.{Pattern}
use Rattle.certificate_lines.specs.Entries.{Setting}
use Rattle.circuit.specs.declared.circuit_line.CircuitLine.{CircuitLine}

-- a circuit of these lines, and a layout
abbrev pub setting_of : List CircuitLine → Pattern → Setting
setting_of lines p = record { circuit = circuit_of lines; size = p.size; ports = p.ins ++ p.outs }
