use Rattle.certificate_lines.proofs.OrderLemmas.{follows_key}
use Rattle.certificate_lines.proofs.order.may_follow.Goals as goal

pub returns : goal.returns
returns c line lines is order last =
    follows_key line c.args.last c.args.entry.now c.may_precede.result c.requires is
    (λ l at. c.may_precede.ensures l c.args.entry.now at c.key_of.ensures) lines order last
