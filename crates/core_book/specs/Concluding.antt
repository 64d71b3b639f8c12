-- The conclusion on a certificate, from a book
use Rattle.std.specs.Prelude.{List}
use Rattle.section_text.specs.Ports.{PortNameLists}
use Rattle.circuit.specs.Bridge.{circuit_of, input_names, output_names}
use Rattle.circuit.specs.declared.circuit_line.CircuitLine.{CircuitLine}
use Rattle.certificate_lines.specs.Entries.{Setting, ModuleLines}
use Rattle.certificate.specs.Grammars.{CertView, modules_in}
use Rattle.certificate_lines.specs.Settings.{setting_of}
use Rattle.module_job.specs.Jobs.{JobView}
use Rattle.certificate.specs.Jobs.{AreJobsOf}

-- the circuit and the layout that a certificate is for
abbrev pub setting : CertView → Setting
setting s = setting_of s.circuit s.layout

-- the modules with the halo lines that they have, or that the edge lines mean
abbrev pub modules : CertView → List ModuleLines
modules s = modules_in s

-- these are the jobs of the certificate's modules
abbrev pub AreJobsOfCertificate : CertView → List JobView → Type 0
AreJobsOfCertificate s jobs = AreJobsOf (circuit_of s.circuit) s.layout (modules s) jobs

-- the names that the ports of a layout for the circuit may have
abbrev pub port_names_of : List CircuitLine → PortNameLists
port_names_of lines = record { ins = input_names lines; outs = output_names lines }
