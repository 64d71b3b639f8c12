use Rattle.certificate.proofs.Imports.{CertView, [], ap, certificate_text, circuit_of, entry_text, lines_of_modules}
use Rattle.certificate.proofs.Imports.{flat_map, subst, ◌++◌, ◌∙◌, ◌≡◌, codes, ◌∷◌}
use Rattle.std.specs.Fmt.{decimal}
use Rattle.section_text.specs.Spelling.{line_text}
use Rattle.certificate.specs.CertView.{cert_view}
use Rattle.certificate.specs.Grammars.{version_number}
use Rattle.certificate.proofs.PrintedLines.{certificate_printed}
use Rattle.certificate.proofs.printing.print_certificate.Goals as goal

pub returns : goal.returns
returns c =
    subst (λ (s : CertView). c.extend_from_slice.new.self.items ≡ certificate_text s) c.cert.view_is
    (certificate_printed (cert_view c.cert.inside) [] _ _ _
    (c.in_ok-print_header.ensures ∙ ap (λ o. o ++ line_text (codes "certificate")
    (decimal (version_number c.cert.inside.version) ∷ [])) c.new-out.ensures.items)
    (c.in_ok-print_modules.ensures ∙ ap (λ ms. c.print_header.new.out.items
    ++ flat_map entry_text (lines_of_modules (circuit_of c.cert.inside.circuit.now) ms)) c.deref.ensures.value)
    c.in_ok-extend_from_slice.ensures.items)
