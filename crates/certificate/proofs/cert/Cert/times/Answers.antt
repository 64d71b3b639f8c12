use Rattle.certificate.proofs.Imports.{All, CertView, HasCircuitWires, ap, circuit_of, delay_and_meet_lines, map}
use Rattle.certificate.proofs.Imports.{module_lines, modules_of, setting_of, subst, sym, ◌∙◌, ◌≡◌}
use Rattle.lemmas.proofs.Common.{IfOk}
use Rattle.certificate_lines.proofs.StoredLemmas.{modules_stored}
use Rattle.certificate.specs.CertView.{cert_view}
use Rattle.certificate.specs.Grammars.{modules_in}
use Rattle.certificate.proofs.MeantLines.{times_meant}
use Rattle.certificate.proofs.cert.Cert.times.Goals as goal

pub timing_lines_of-requires : goal.timing_lines_of-requires
timing_lines_of-requires c =
    subst (All (HasCircuitWires (circuit_of c.self.inside.circuit.now))) (sym c.deref.ensures.value)
    c.self.invariant.good.wires

pub returns : goal.returns
returns c =
    let s : CertView = cert_view c.self.inside in
    let circuit = circuit_of s.circuit in
    subst (λ (s : CertView). IfOk c.timing_lines_of.result (λ lines. lines.items
    ≡ delay_and_meet_lines (circuit_of s.circuit) (modules_in s))) c.self.view_is
    (subst (λ ls. IfOk c.timing_lines_of.result (λ lines. lines.items ≡ ls))
    (ap (λ ms. delay_and_meet_lines circuit (map (module_lines circuit) ms)) c.deref.ensures.value
    ∙ ap (delay_and_meet_lines circuit) (sym (modules_stored circuit c.self.inside.modules.items))
    ∙ sym (times_meant s.version (setting_of s.circuit s.layout) circuit (modules_of s.entries)))
    c.timing_lines_of.ensures)
