use Rattle.certificate.proofs.Imports.{CertView, arc_value, circuit_of, map, modules_by_version, setting_of, subst, sym}
use Rattle.lemmas.proofs.Common.{IfOk}
use Rattle.certificate_lines.proofs.StoredLemmas.{modules_stored}
use Rattle.certificate.specs.CertView.{cert_view}
use Rattle.certificate.specs.Grammars.{modules_in}
use Rattle.certificate.specs.Jobs.{AreJobsOf}
use Rattle.certificate.proofs.cert.Cert.jobs.Goals as goal

pub jobs_of_version-requires-clause-good : goal.jobs_of_version-requires-clause-good
jobs_of_version-requires-clause-good c = rw (c.in_ok-tables.ensures, c.deref.ensures.value) c.self.invariant.good

pub jobs_of_version-requires-clause-owners : goal.jobs_of_version-requires-clause-owners
jobs_of_version-requires-clause-owners c = rw (c.in_ok-tables.ensures, c.deref.ensures.value) c.self.invariant.owners

pub returns : goal.returns
returns c =
    let s : CertView = cert_view c.self.inside in
    subst (λ (s : CertView). IfOk c.jobs_of_version.result (λ js. AreJobsOf (circuit_of s.circuit) s.layout
    (modules_in s) (map arc_value js.items))) c.self.view_is
    (subst (λ ms. IfOk c.jobs_of_version.result (λ js. AreJobsOf (circuit_of s.circuit) s.layout
    (modules_by_version s.version (setting_of s.circuit s.layout) ms) (map arc_value js.items)))
    (sym (modules_stored (circuit_of s.circuit) c.self.inside.modules.items))
    (rw (c.in_ok-tables.ensures, c.deref.ensures.value) at c.jobs_of_version.ensures))
