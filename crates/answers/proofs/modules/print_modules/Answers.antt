use Rattle.lemmas.proofs.Common.{◌∙◌, map, sym}
use Rattle.certificate_lines.specs.Entries.{line_counts_of, modules_of}
use Rattle.answers.proofs.ModuleText.{no_lines, one_more_line}
use Rattle.answers.proofs.modules.print_modules.Goals as goal

pub loop-number-init : goal.loop-number-init
loop-number-init c = c.new-out.ensures.items ∙ sym no_lines

pub loop-number-preserved : goal.loop-number-preserved
loop-number-preserved c =
    one_more_line (map line_counts_of (modules_of c.args.cert.now.entries)) c.loop-number.number c.counts.result
    c.loop-number.out.items c.print_module.new.out.items c.counts.ensures c.loop-number.invariant
    c.in_ok-print_module.ensures
