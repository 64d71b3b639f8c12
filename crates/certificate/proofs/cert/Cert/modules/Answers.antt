use Rattle.certificate.proofs.Imports.{All, AreModules, CertView, ap, arith, circuit_of, length, length-map, map}
use Rattle.certificate.proofs.Imports.{module_lines, modules_of, setting_of, subst, sym}
use Rattle.certificate_lines.specs.Modules.{IsWithinLineLimit}
use Rattle.certificate_lines.proofs.StoredLemmas.{modules_stored}
use Rattle.certificate.specs.Grammars.{version_number}
use Rattle.certificate.specs.ValidCertificates.{IsValidCertificate}
use Rattle.certificate.proofs.FullModules.{meant_modules}
use Rattle.certificate.proofs.MeantLines.{meant_of}
use Rattle.certificate.proofs.cert.Cert.modules.Goals as goal

pub returns-clause-count : goal.returns-clause-count
returns-clause-count c =
    let circuit = circuit_of c.self.inside.circuit.now in
    let seen = ap (λ (s : CertView). length (modules_of s.entries)) c.self.view_is in
    let stored = ap length (modules_stored circuit c.self.inside.modules.items) in
    let mapped = length-map c.self.inside.modules.items (module_lines circuit) in
    omega (arith, c.len.ensures, c.self.inside.modules.ok, seen, stored, mapped)

pub returns-clause-valid : goal.returns-clause-valid
returns-clause-valid c =
    let circuit = circuit_of c.self.inside.circuit.now in
    let g = setting_of c.self.inside.circuit.now c.self.inside.layout.now in
    let stored = modules_stored circuit c.self.inside.modules.items in
    subst IsValidCertificate c.self.view_is (record {
      ordered = c.prove_valid.ensures.gates_ordered;
      inputs = c.prove_valid.ensures.inputs_come_first;
      limits = c.prove_valid-2.ensures.limits;
      parts = c.prove_valid-2.ensures.parts_good;
      written = subst (AreModules g) (sym stored) c.self.invariant.good.modules;
      good = subst (AreModules g) (sym (meant_of (version_number c.self.inside.version) g stored))
          (meant_modules (version_number c.self.inside.version) g
          (map (module_lines circuit) c.self.inside.modules.items)
          c.self.invariant.good.modules c.self.invariant.complete);
      lines = subst (All IsWithinLineLimit) (sym stored) c.self.invariant.good.few_lines;
    })
