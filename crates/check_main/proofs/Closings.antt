-- The book of an audit.
use Rattle.check_main.proofs.Imports.{AreJobsOfCertificate, CertView, List, [], ap, arith, certificate_text, false}
use Rattle.check_main.proofs.Imports.{length, length-append, map, refl, subst, sym, ℕ, ◌++◌, ◌+◌, ◌∙◌, ◌∷◌, ◌≡◌, ◌≤◌}
use Rattle.sha2.specs.Sha256.{sha256}
use Rattle.core_book.specs.Book.{BookView, IsHistoryReplayed, after_closing, held_finding_count, new_book}
use Rattle.core_book.specs.Replay.{Replayed, accepted_after, after_entry, empty_replayed, has_closing, replay}
use Rattle.core_book.specs.Replay.{replay_from}
use Rattle.core_book.specs.Verdicts.{AreFindingsHeldBelow}
use Rattle.core_book.specs.declared.reply.Reply.{Reply}
use Rattle.core_book.proofs.Replays.{closed-by_its_history}
use Rattle.core_book.specs.declared.log_entry.LogEntry.{LogEntry}
use Rattle.core_book.specs.declared.log_entry.LogEntry.TheVariants.{Filed, Closing}
use Rattle.module_job.specs.Jobs.{JobView}
use Rattle.check_main.specs.Preparing.{IsNewBookOf}
use Rattle.check_main.specs.Audits.{IsAuditOf, IsClosedOnce, IsFilledAndClosed, filings_in}
use Rattle.core_book.specs.declared.reply.Reply.TheVariants as reply

pub no_history : (b : BookView) (digest : List ℕ) (jobs : List JobView) → b ≡ new_book digest jobs → b.history ≡ []
unfolding new_book
no_history b digest jobs is = ap (λ (v : BookView). v.history) is

pub new_book_of : (c : CertView) (b : BookView) (digest : List ℕ) (jobs : List JobView) → b ≡ new_book digest jobs →
    digest ≡ sha256 (certificate_text c) → AreJobsOfCertificate c jobs → IsNewBookOf c b
unfolding new_book
new_book_of c b digest jobs is own all =
    let e : b.digest ≡ digest = ap (λ (v : BookView). v.digest) is in
    let j : b.jobs ≡ jobs = ap (λ (v : BookView). v.jobs) is in
    record {
      digest = e ∙ own;
      jobs = subst (AreJobsOfCertificate c) (sym j) all;
      is_new = is ∙ ap (λ d. new_book d jobs) (sym e) ∙ ap (new_book b.digest) (sym j);
    }

-- without a closing entry there are only filings
all_filings : (es : List LogEntry) → has_closing es ≡ false → es ≡ map Filed (filings_in es)
all_filings [] still = refl
all_filings (Filed f ∷ es) still = ap (λ l. Filed f ∷ l) (all_filings es still)
all_filings (Closing ∷ es) still = absurd cc

filings_closed : (es : List LogEntry) → filings_in (es ++ Closing ∷ []) ≡ filings_in es
filings_closed [] = refl
filings_closed (Filed f ∷ es) = ap (λ l. f ∷ l) (filings_closed es)
filings_closed (Closing ∷ es) = filings_closed es

-- a book that is closed after filings alone
closed_once : (old new : BookView) → has_closing old.history ≡ false → new ≡ after_closing old →
    IsClosedOnce new.history
closed_once old new still is =
    let same : new.history ≡ old.history ++ Closing ∷ [] = ap (λ (v : BookView). v.history) is in
    same ∙ ap (λ l. l ++ Closing ∷ [])
    (all_filings old.history still ∙ ap (map Filed) (sym (filings_closed old.history) ∙ ap filings_in (sym same)))

pub completed_closed : (digest : List ℕ) (jobs : List JobView) (b c : BookView) → IsFilledAndClosed digest jobs b c →
    IsClosedOnce c.history
completed_closed digest jobs b c is =
    let still : has_closing is.full.history ≡ false =
    sym (closed-by_its_history is.full is.is_full.replays) ∙ is.is_full.is_open.still_open in
    closed_once is.full c still is.closed

-- ---- a full book that is closed

-- at least as many filings as numbers that were accepted
accepted_filed : (p : Replayed) (es : List LogEntry) →
    length (replay_from p es).accepted ≤ length p.accepted + length (filings_in es)
accepted_filed p [] = omega arith
accepted_filed p (Closing ∷ es) = accepted_filed (after_entry p Closing) es
accepted_filed p (Filed f ∷ es) =
    let rest = accepted_filed (after_entry p (Filed f)) es in
    let more = one_more p.accepted f.number f.reply in
    omega (arith, rest, more)
  where
    one_more : (ks : List ℕ) (k : ℕ) (r : Reply) → length (accepted_after ks k r) ≤ length ks + 1
    one_more ks k reply.Accepted = omega (arith, length-append ks (k ∷ []))
    one_more ks k reply.Closed = omega arith
    one_more ks k (reply.Stranger mismatch) = omega arith
    one_more ks k (reply.Double number) = omega arith

pub many_filings : (b : BookView) → IsHistoryReplayed b → held_finding_count b ≤ length (filings_in b.history)
many_filings b is =
    let count : length (replay b.history).accepted ≡ held_finding_count b = is.count in
    let most = accepted_filed empty_replayed b.history in
    omega (arith, count, most)

held_closed : (b : BookView) (jobs : List JobView) (n : ℕ) → AreFindingsHeldBelow b jobs n →
    AreFindingsHeldBelow (after_closing b) jobs n
held_closed b jobs n held k j below at =
    let h = held k j below at in
    record { finding = h.finding; held = h.held; whole = h.whole }

pub audit_of : (s : CertView) (digest : List ℕ) (jobs : List JobView) (b c : BookView) →
    digest ≡ sha256 (certificate_text s) → AreJobsOfCertificate s jobs → IsFilledAndClosed digest jobs b c →
    IsAuditOf s c
audit_of s digest jobs b c of_text own is =
    let full = is.is_full in
    let same : jobs ≡ is.full.jobs = sym full.is_open.jobs_are in
    subst (IsAuditOf s) (sym is.closed) (record {
      digest_is = full.is_open.digest_is ∙ of_text;
      jobs_are = subst (AreJobsOfCertificate s) same own;
      all_held = held_closed is.full is.full.jobs (length is.full.jobs)
          (subst (λ (js : List JobView). AreFindingsHeldBelow is.full js (length js)) same full.all_held);
      all_accepted = full.all_accepted ∙ ap length same;
    })
