-- The circuit, and the layout with the circuit's port names.
use Rattle.lemmas.proofs.Common.{Err, subst}
use Rattle.section_text.specs.Section.{Reads}
use Rattle.pattern.specs.Grammars.{layout_grammar, layout_section}
use Rattle.pattern.specs.Layout.{Pattern}
use Rattle.answers.proofs.Bundles.{circuit_failed, layout_failed}
use Rattle.answers.proofs.design.read_design.Goals as goal

pub returns-in-Err-clause-fault : goal.returns-in-Err-clause-fault
returns-in-Err-clause-fault c =
    circuit_failed c.args.limits c.args.text.now c.read_circuit_within.new.feed c.requires.front_taken
    c.requires.feed_not_stopped c.in-Err.fault c.in-Err.ensures

pub returns-in-Err-read_layout_within-clause-fault : goal.returns-in-Err-read_layout_within-clause-fault
returns-in-Err-read_layout_within-clause-fault c =
    layout_failed c.args.limits c.args.text.now c.read_circuit_within.new.feed c.requires.front_taken
    c.requires.feed_not_stopped c.in-Ok.circuit c.in-Ok.ensures c.read_layout_within.new.feed
    c.in-Err-read_layout_within.fault
    (subst (λ n. Reads {A = Pattern} (layout_grammar c.args.limits n) layout_section c.read_circuit_within.new.feed
    c.read_layout_within.new.feed (Err c.in-Err-read_layout_within.fault)) c.in-Ok-port_names.ensures.ports
    c.in-Err-read_layout_within.ensures.reads)
