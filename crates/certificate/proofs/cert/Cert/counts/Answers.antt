use Rattle.certificate.proofs.Imports.{CertView, Some, ap, arith, circuit_of, length, length-map, map, mapped_at}
use Rattle.certificate.proofs.Imports.{module_lines, modules_of, slice_get, subst, sym, ◌∙◌, ◌≡◌}
use Rattle.certificate_lines.specs.Entries.{line_counts_of}
use Rattle.certificate_lines.proofs.StoredLemmas.{modules_stored}
use Rattle.certificate.proofs.JobsSoFar.{element_at}
use Rattle.certificate.proofs.cert.Cert.counts.Goals as goal

pub index-requires : goal.index-requires
index-requires c =
    let circuit = circuit_of c.self.inside.circuit.now in
    let seen = ap (λ (s : CertView). length (modules_of s.entries)) c.self.view_is in
    let stored = ap length (modules_stored circuit c.self.inside.modules.items) in
    let mapped = length-map c.self.inside.modules.items (module_lines circuit) in
    omega (arith, c.self.inside.modules.ok, seen, stored, mapped)

pub returns : goal.returns
returns c =
    let circuit = circuit_of c.self.inside.circuit.now in
    let ms = c.self.inside.modules.items in
    let seen = ap (λ (s : CertView). length (modules_of s.entries)) c.self.view_is in
    let stored = ap length (modules_stored circuit ms) in
    let mapped = length-map ms (module_lines circuit) in
    let at = mapped_at (module_lines circuit) ms c.args.number c.index.result.now
    (element_at ms c.args.number c.index.result.now (omega (arith, seen, stored, mapped)) c.index.ensures) in
    subst (λ (s : CertView). slice_get (map line_counts_of (modules_of s.entries)) c.args.number ≡ Some c.counts.result)
    c.self.view_is
    (ap (λ ns. slice_get (map line_counts_of ns) c.args.number) (modules_stored circuit ms)
    ∙ mapped_at line_counts_of (map (module_lines circuit) ms) c.args.number
    (module_lines circuit c.index.result.now) at
    ∙ ap Some (sym (c.counts.ensures circuit)))
