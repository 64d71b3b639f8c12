use Rattle.certificate.proofs.Imports.{ap, circuit_of, sym, ◌++◌, ◌∙◌}
use Rattle.section_text.specs.Spelling.{space_and_word}
use Rattle.certificate_lines.proofs.StoredLemmas.{wire_within}
use Rattle.certificate.proofs.PrintedLines.{name_found}
use Rattle.certificate.proofs.printing.print_wire.Goals as goal

pub name-requires : goal.name-requires
name-requires c = wire_within (circuit_of c.args.circuit.now) c.args.wire c.requires

pub returns : goal.returns
returns c =
    c.in_ok-print_word.ensures.ok ∙ ap (λ n. c.args.out.now.items ++ space_and_word n)
    (c.bytes.ensures.bytes
    ∙ sym (name_found (circuit_of c.args.circuit.now) c.args.wire c.name.result c.name.ensures.name))
