use Rattle.lemmas.proofs.Common.{[], ◌++◌, ◌+◌, ◌∙◌, ◌∷◌, ◌≡◌, List, ap, arith, replicate, ℕ, replicate_more}
use Rattle.verdict_book.specs.Counts.{Counts, no_counts}
use Rattle.verdict_book.proofs.book.Book.open.Goals as goal

-- one part more is split off
next_part : (parts left split all : ℕ) → parts + split ≡ all → left + 1 ≡ parts → left + (split + 1) ≡ all
next_part parts left split all whole is = omega arith

-- and nothing of the amount
no_amount : (amount left : ℕ) → amount ≡ 0 → left + 0 ≡ amount → left ≡ 0
no_amount amount left none is = omega arith

pub loop-share-preserved : goal.loop-share-preserved
loop-share-preserved g c =
    let i = c.loop-share.invariant in
    let filed = c.split_off.ensures in
    let accepted = c.split_off-in-loop-share.ensures in
    let done = c.loop-share._share in
    record {
      filings = next_part _ _ done _ i.filings filed.parts_left;
      no_filings = no_amount _ _ i.no_filings filed.amount_left;
      acceptances = next_part _ _ done _ i.acceptances accepted.parts_left;
      no_acceptances = no_amount _ _ i.no_acceptances accepted.amount_left;
      shares = c.in_ok-push.ensures.items ∙ ap (λ (l : List Counts). l ++ c.new-share.result ∷ []) i.shares
          ∙ ap (λ (s : Counts). replicate done no_counts ++ s ∷ []) c.new-share.ensures ∙ replicate_more done no_counts;
    }
