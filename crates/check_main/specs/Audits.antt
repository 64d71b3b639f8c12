-- The book of an audit, and its history.
use Rattle.std.specs.Prelude.{◌≡◌, ℕ, List, [], ◌∷◌, ◌++◌, length, map}
use Rattle.sha2.specs.Sha256.{sha256}
use Rattle.certificate.specs.Grammars.{CertView}
use Rattle.module_job.specs.Jobs.{JobView}
use Rattle.certificate.specs.Text.{certificate_text}
use Rattle.core_book.specs.Book.{BookView, after_closing, held_finding_count}
use Rattle.core_book.specs.Concluding.{AreJobsOfCertificate}
use Rattle.core_book.specs.Filling.{IsBookFilledSoFar, IsFullBook}
use Rattle.core_book.specs.Verdicts.{AreFindingsHeldBelow}
use Rattle.core_book.specs.declared.log_entry.LogEntry.{LogEntry}
use Rattle.core_book.specs.declared.log_entry.LogEntry.TheVariants.{Filed, Closing}
use Rattle.core_book.specs.declared.log_entry.Filing.{Filing}

-- the filings of a history
abbrev pub filings_in : List LogEntry → List Filing
filings_in [] = []
filings_in (Filed f ∷ es) = f ∷ filings_in es
filings_in (Closing ∷ es) = filings_in es

-- filings, and behind them the only closing entry
abbrev pub IsClosedOnce : List LogEntry → Type 0
IsClosedOnce history = history ≡ map Filed (filings_in history) ++ Closing ∷ []

-- the book is of the certificate's digest and jobs, and a finding of each job was accepted
pub record IsAuditOf (c : CertView) (b : BookView) : Type 0 where
  pub digest_is : b.digest ≡ sha256 (certificate_text c)
  pub jobs_are : AreJobsOfCertificate c b.jobs
  pub all_held : AreFindingsHeldBelow b b.jobs (length b.jobs)
  pub all_accepted : held_finding_count b ≡ length b.jobs

-- the first book was filled up, and closed then
pub record IsFilledAndClosed (digest : List ℕ) (jobs : List JobView) (b c : BookView) : Type 0 where
  pub full : BookView
  pub is_full : IsFullBook digest jobs full
  pub filled : IsBookFilledSoFar b full
  pub closed : c ≡ after_closing full
