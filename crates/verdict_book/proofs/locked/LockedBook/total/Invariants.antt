use Rattle.lemmas.proofs.Common.{◌+◌, ◌≡◌, ◌≤◌, sum_by, vec_len}
use Rattle.verdict_book.specs.Counts.{Counts}
use Rattle.verdict_book.proofs.locked.LockedBook.total.Given as goal

abbrev pub invariant-loop-share : goal.invariant-loop-share
invariant-loop-share g l = record {
  parts : l.all_filings.parts + vec_len l.shares ≡ vec_len l.fn.shares;
  within : l.all_filings.parts ≤ g.F.Ledger.parts;
  amount : l.all_filings.amount ≡ l.filed;
  sum : l.filed + sum_by (λ (s : Counts). s.filed) l.shares.items ≡ sum_by (λ (s : Counts). s.filed) l.fn.shares.items;
  total : l.filings.total ≡ l.fn.self.filings.total;
  accepted_parts : l.all_acceptances.parts + vec_len l.shares ≡ vec_len l.fn.shares;
  accepted_within : l.all_acceptances.parts ≤ g.A.Ledger.parts;
  accepted_amount : l.all_acceptances.amount ≡ l.accepted;
  accepted_sum : l.accepted + sum_by (λ (s : Counts). s.accepted) l.shares.items
      ≡ sum_by (λ (s : Counts). s.accepted) l.fn.shares.items;
  accepted_total : l.acceptances.total ≡ l.fn.self.acceptances.total;
}

abbrev pub decreases-loop-share : goal.decreases-loop-share
decreases-loop-share g l = goal.left-loop-share g l
