use Rattle.lemmas.proofs.Common.{[], ◌≡◌, ap, arith, rules, sum_by, vec_len, sum_by_push}
use Rattle.verdict_book.specs.Counts.{Counts}
use Rattle.verdict_book.proofs.locked.LockedBook.total.Goals as goal

pub returns-clause-filed : goal.returns-clause-filed
returns-clause-filed g c =
    let now = c.loop-share in
    let i = now.invariant in
    let none : vec_len now.shares ≡ 0 = search rules in
    let whole : now.all_filings.parts ≡ g.F.Ledger.parts = omega (arith, i.parts, i.within, c.requires.filings) in
    let total = c.audit-2.ensures.whole whole in
    omega (arith, i.amount, total, i.total, c.args.self.filed)

pub returns-clause-all_filed : goal.returns-clause-all_filed
returns-clause-all_filed g c =
    let now = c.loop-share in
    let empty : now.shares.items ≡ [] = search rules in
    let rest : sum_by (λ (s : Counts). s.filed) now.shares.items ≡ 0 = ap (sum_by (λ (s : Counts). s.filed)) empty in
    omega (arith, now.invariant.sum, rest)

pub returns-clause-accepted : goal.returns-clause-accepted
returns-clause-accepted g c =
    let now = c.loop-share in
    let i = now.invariant in
    let none : vec_len now.shares ≡ 0 = search rules in
    let whole : now.all_acceptances.parts ≡ g.A.Ledger.parts =
    omega (arith, i.accepted_parts, i.accepted_within, c.requires.acceptances) in
    let total = c.audit-3.ensures.whole whole in
    omega (arith, i.accepted_amount, total, i.accepted_total, c.args.self.accepted)

pub returns-clause-all_accepted : goal.returns-clause-all_accepted
returns-clause-all_accepted g c =
    let now = c.loop-share in
    let empty : now.shares.items ≡ [] = search rules in
    let rest : sum_by (λ (s : Counts). s.accepted) now.shares.items ≡ 0 =
    ap (sum_by (λ (s : Counts). s.accepted)) empty in
    omega (arith, now.invariant.accepted_sum, rest)

pub loop-share-preserved : goal.loop-share-preserved
loop-share-preserved g c =
    let i = c.loop-share.invariant in
    let popped = c.in-Some.ensures in
    let filed = c.audit.ensures in
    let accepted = c.audit-in-Some.ensures in
    let all_filed = ap (sum_by (λ (s : Counts). s.filed)) popped.items in
    let all_accepted = ap (sum_by (λ (s : Counts). s.accepted)) popped.items in
    record {
      parts = search rules;
      within = search rules;
      amount = search rules;
      sum = omega (arith, i.sum, all_filed, sum_by_push, ap (λ (s : Counts). s.filed) c.share.view_is);
      total = search rules;
      accepted_parts = search rules;
      accepted_within = search rules;
      accepted_amount = search rules;
      accepted_sum =
          omega (arith, i.accepted_sum, all_accepted, sum_by_push, ap (λ (s : Counts). s.accepted) c.share.view_is);
      accepted_total = search rules;
    }
