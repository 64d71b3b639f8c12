-- From a yes to the whole pattern
use Rattle.soundness.proofs.Imports.{AreGatesOrdered, AreGoodAfter, AreModules, BelongTogether, IsAcceptedBundle}
use Rattle.soundness.proofs.Imports.{IsCorrect, IsVerdict, JobView, LayoutHeader, List, None, Some, Yes, [], arith}
use Rattle.soundness.proofs.Imports.{circuit_of, common_steps, defined, input_names, modules, netlist_of, parts_of}
use Rattle.soundness.proofs.Imports.{setting, size_fault, take, ◌≡◌}
use Rattle.pattern.specs.Lines.{ArePortsNamed}
use Rattle.certificate.specs.Grammars.{CertView}
use Rattle.core_book.specs.Concluding.{AreJobsOfCertificate, port_names_of}
use Rattle.soundness.specs.OnTime.{AreStopsTrueAndOnTime}
use Rattle.soundness.proofs.InputRuns.{read_layout-names}
use Rattle.soundness.proofs.PortNames.{read_layout-is_named}
use Rattle.soundness.proofs.WholeRuns.{correct, on_time}

-- what a certificate says of its circuit, its layout and its modules
pub record IsRead (s : CertView) (size : LayoutHeader) : Type 0 where
  pub ordered : AreGatesOrdered (netlist_of s.circuit).given (netlist_of s.circuit).gates
  pub same : size ≡ s.layout.size
  pub limits : size_fault size ≡ None
  pub laid_out : AreGoodAfter size [] (parts_of s.layout)
  pub are_modules : AreModules (setting s) (modules s)
  pub inputs : take (netlist_of s.circuit).given (defined s.circuit) ≡ input_names s.circuit
  pub named : ArePortsNamed (Some (port_names_of s.circuit)) (parts_of s.layout)

-- it belongs together with the jobs of its modules
pub bundle_read : (s : CertView) (size : LayoutHeader) (jobs : List JobView) → IsRead s size →
    AreJobsOfCertificate s jobs → BelongTogether s.circuit s.layout (modules s) jobs
bundle_read s size jobs is own = grind (arith, common_steps)

accepted_bundle : (s : CertView) (size : LayoutHeader) (jobs : List JobView) → IsRead s size →
    AreJobsOfCertificate s jobs → IsVerdict (setting s) (modules s) jobs Yes →
    IsAcceptedBundle s.circuit s.layout (modules s) jobs
unfolding IsVerdict
accepted_bundle s size jobs is own accepted = record { bundle = bundle_read s size jobs is own; accepted = accepted }

pub yes_means-correct : (s : CertView) (size : LayoutHeader) (jobs : List JobView) → IsRead s size →
    AreJobsOfCertificate s jobs → IsVerdict (setting s) (modules s) jobs Yes → IsCorrect s.circuit s.layout
yes_means-correct s size jobs is own judged =
    correct s.circuit s.layout (modules s) jobs (read_layout-names s.circuit s.layout is.inputs is.named)
    (read_layout-is_named s.circuit s.layout is.named) (accepted_bundle s size jobs is own judged)

pub yes_means-on_time : (s : CertView) (size : LayoutHeader) (jobs : List JobView) → IsRead s size →
    AreJobsOfCertificate s jobs → IsVerdict (setting s) (modules s) jobs Yes →
    AreStopsTrueAndOnTime (circuit_of s.circuit) s.layout (modules s)
yes_means-on_time s size jobs is own judged =
    on_time s.circuit s.layout (modules s) jobs (read_layout-names s.circuit s.layout is.inputs is.named)
    (accepted_bundle s size jobs is own judged)
