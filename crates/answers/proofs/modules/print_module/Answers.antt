use Rattle.answers.proofs.ModuleText.{line_made}
use Rattle.answers.proofs.modules.print_module.Goals as goal

pub returns : goal.returns
returns c =
    line_made c.args.number c.args.counts c.args.out.now.items _ _ _ _ _ c.in_ok-extend_from_slice.ensures.items
    c.in_ok-print_count.ensures c.in_ok-print_box.ensures.ok c.in_ok-print_counts.ensures c.in_ok-push.ensures.items
