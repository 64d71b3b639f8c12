-- A reply depends only on the book's digest, its jobs, and whether the book already has a finding of that number.
use Rattle.lemmas.proofs.Common.{◌∙◌, ◌≡◌, List, false, is_some, length, ℕ}
use Rattle.module_job.specs.Jobs.{JobView}
use Rattle.local_run.specs.Shown.{digest_of, number_of, job_of}
use Rattle.local_run.specs.declared.finding.Finding.{Finding}
use Rattle.core_book.specs.Book.{BookView, held_finding, is_job_of, reply_to}
use Rattle.core_book.specs.Replay.{reply_by_rule}
use Rattle.core_book.specs.declared.reply.Reply.{Reply}
use Rattle.verdict_book.specs.Replies.{IsReplyOf}

pub ruled_by : (b : BookView) (f : Finding) (r : Reply) (digest : List ℕ) (jobs : List JobView) → r ≡ reply_to b f →
    b.digest ≡ digest → b.jobs ≡ jobs → b.closed ≡ false →
    IsReplyOf digest jobs (digest_of f) (number_of f) (job_of f) r
unfolding reply_to
ruled_by b f r digest jobs is d j still = record {
  taken = is_some (held_finding b (number_of f));
  ruled = is ∙ (λ i. reply_by_rule (d i) (length (j i)) (still i) (is_some (held_finding b (number_of f))) (digest_of f)
      (number_of f) (is_job_of (j i) (number_of f) (job_of f)));
}
