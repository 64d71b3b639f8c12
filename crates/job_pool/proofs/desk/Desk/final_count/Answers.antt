use Rattle.job_pool.proofs.Imports.{AreNumbersDealt, ap, get_or, subst, ◌∙◌, ◌≡◌}
use Rattle.job_pool.proofs.Sums.{at_head}
use Rattle.job_pool.proofs.Moves.{ends}
use Rattle.job_pool.proofs.desk.Desk.final_count.Goals as goal

pub returns : goal.returns
returns c = let desk = c.args.self in
    let f = c.close_with-closed.ensures.values.2 in
    let word : get_or f.0.words 0 0 ≡ c.word-counter.result =
    ap (λ ws. get_or ws 0 0) f.2 ∙ at_head _ _ c.word-counter.ensures in
    let kept = subst (λ k. AreNumbersDealt k desk.table.shared.key.seats c.word-counter.result f.0.views) desk.size.0
    (subst (λ w. AreNumbersDealt desk.table.shared.key.numbers desk.table.shared.key.seats w f.0.views) word f.1.0.1) in
    ends desk.numbers desk.seats c.word-counter.result c.args.seat.id f.0.views c.args.seat.me.0
    (subst (λ k. AreNumbersDealt desk.numbers k c.word-counter.result f.0.views) desk.size.1 kept) f.1.1 c.requires.1
