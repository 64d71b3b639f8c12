-- The names of the ports are good.
use Rattle.pattern.proofs.Imports.{ArePortsNamed, Option, Pattern, PortNameLists, parts_of, port_name_lists, subst, sym}
use Rattle.section_text.proofs.Good.{reads_faultless}
use Rattle.pattern.proofs.Named.{faultless_named}
use Rattle.pattern.proofs.reading.read_layout_within.Goals as goal

pub returns-in-Ok-read-clause-names : goal.returns-in-Ok-read-clause-names
returns-in-Ok-read-clause-names c =
    let read = faultless_named _ _ _ _ (reads_faultless _ _ _ _ _ c.in-Ok-read.ensures.reads) in
    subst (λ (q : Pattern). ArePortsNamed (port_name_lists c.args.ports.now) (parts_of q))
    (sym c.into_layout-layout.ensures)
    (subst (λ (ports : Option PortNameLists). ArePortsNamed ports (parts_of c.read_section-read.new.section.layout))
    c.in-Ok.ensures.ports read)
