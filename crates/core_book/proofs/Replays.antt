-- The history of a book replays to it
use Rattle.core_book.proofs.Imports.{Accepted, BookView, Bool, Filed, Filing, Finding, IsBook, IsHistoryReplayed}
use Rattle.core_book.proofs.Imports.{JobView, List, LogEntry, None, Option, Reply, Some, [], after_closing}
use Rattle.core_book.proofs.Imports.{after_filing, ap, arith, common_steps, count_by, eqb_tells, false, filing_of}
use Rattle.core_book.proofs.Imports.{findings_after, get_or, get_or-set_other, get_or-set_same, held_finding}
use Rattle.core_book.proofs.Imports.{held_finding_count, if◌then◌else◌, is_some, length, length-append}
use Rattle.core_book.proofs.Imports.{length-replicate, new_book, number_of, refl, replicate, reply_to, set, suc, sym}
use Rattle.core_book.proofs.Imports.{true, zero, ℕ, ◌++◌, ◌+◌, ◌<◌, ◌∙◌, ◌∷◌, ◌≡◌}
use Rattle.lemmas.proofs.Common.{list_any-append}
use Rattle.core_book.specs.Replay.{Replayed, AreRepliesByRule, IsReplyByRule, accepted_after, after_entry}
use Rattle.core_book.specs.Replay.{empty_replayed, has_closing, has_number, replay, replay_from}
use Rattle.core_book.specs.declared.log_entry.LogEntry.TheVariants.{Closing}
use Rattle.core_book.proofs.Filings.{accepted-inside, findings_after-accepted, findings_after-other}
use Rattle.core_book.proofs.Filings.{held_finding_count-accepted, held_finding_count-other}

-- ---- one entry more

replay_from-push : (p : Replayed) (es : List LogEntry) (e : LogEntry) →
    replay_from p (es ++ e ∷ []) ≡ after_entry (replay_from p es) e
replay_from-push p [] e = refl
replay_from-push p (x ∷ es) e = replay_from-push (after_entry p x) es e

AreRepliesByRule-push : (own : List ℕ) (count : ℕ) (p : Replayed) (es : List LogEntry) (e : LogEntry) →
    AreRepliesByRule own count p es →
    IsReplyByRule own count (replay_from p es) e → AreRepliesByRule own count p (es ++ e ∷ [])
AreRepliesByRule-push own count p [] e h due = (due, tt)
AreRepliesByRule-push own count p (x ∷ es) e h due =
    (h.0, AreRepliesByRule-push own count (after_entry p x) es e h.1 due)

-- the reply that is stored is the one that the rule gives there
due-filing : (b : BookView) (f : Finding) → IsHistoryReplayed b →
    IsReplyByRule b.digest (length b.jobs) (replay b.history) (Filed (filing_of b f))
unfolding reply_to
due-filing b f is = grind (arith, common_steps)

-- ---- which numbers

number-more : (ks : List ℕ) (held : List (Option Finding)) (n : ℕ) (f : Finding) → n < length held →
    ((k : ℕ) → has_number ks k ≡ is_some (get_or held k None)) → (k : ℕ) →
    has_number (ks ++ n ∷ []) k ≡ is_some (get_or (set held n (Some f)) k None)
number-more ks held n f inside h k =
    grind (arith, common_steps, list_any-append, eqb_tells, get_or-set_same, get_or-set_other)

-- the book after a filing, by the numbers that were accepted then and what is held then
by-reply : (b : BookView) (f : Finding) (ks : List ℕ) (held : List (Option Finding)) → IsHistoryReplayed b →
    accepted_after (replay b.history).accepted (number_of f) (reply_to b f) ≡ ks →
    findings_after b.findings f (reply_to b f) ≡ held → length ks ≡ held_finding_count (after_filing b f) →
    ((k : ℕ) → has_number ks k ≡ is_some (get_or held k None)) → IsHistoryReplayed (after_filing b f)
by-reply b f ks held is numbers same count each =
    let e : LogEntry = Filed (filing_of b f) in
    let push = replay_from-push empty_replayed b.history e in
    let now : (replay (b.history ++ e ∷ [])).accepted ≡ ks = ap (λ (p : Replayed). p.accepted) push ∙ numbers in
    record {
      due = AreRepliesByRule-push b.digest (length b.jobs) empty_replayed b.history e is.due (due-filing b f is);
      accepted = λ k. ap (λ (xs : List ℕ). has_number xs k) now ∙ each k
          ∙ ap (λ (xs : List (Option Finding)). is_some (get_or xs k None)) (sym same);
      count = ap length now ∙ count;
      closed_is = ap (λ (p : Replayed). p.closed) push ∙ is.closed_is;
    }

filed-by : (b : BookView) (f : Finding) (r : Reply) → reply_to b f ≡ r → IsBook b → IsHistoryReplayed b →
    IsHistoryReplayed (after_filing b f)
filed-by b f Accepted e book is =
    let ks = (replay b.history).accepted in
    by-reply b f (ks ++ number_of f ∷ []) (set b.findings (number_of f) (Some f)) is
    (ap (accepted_after ks (number_of f)) e) (findings_after-accepted b f e)
    (length-append ks (number_of f ∷ []) ∙ ap (λ (n : ℕ). n + 1) is.count
    ∙ sym (held_finding_count-accepted b f book e))
    (number-more ks b.findings (number_of f) f (accepted-inside b f book e) is.accepted)
filed-by b f _ e book is =
    by-reply b f _ b.findings is (ap (accepted_after (replay b.history).accepted (number_of f)) e)
    (findings_after-other b.findings f _ (λ s. cc))
    (is.count ∙ sym (held_finding_count-other b f (λ s. cc))) is.accepted

pub IsHistoryReplayed-filed : (b : BookView) (f : Finding) → IsBook b → IsHistoryReplayed b →
    IsHistoryReplayed (after_filing b f)
IsHistoryReplayed-filed b f book is = filed-by b f (reply_to b f) refl book is

pub IsHistoryReplayed-closed : (b : BookView) → IsHistoryReplayed b → IsHistoryReplayed (after_closing b)
IsHistoryReplayed-closed b is =
    let push = replay_from-push empty_replayed b.history Closing in
    let same : (replay (b.history ++ Closing ∷ [])).accepted ≡ (replay b.history).accepted =
    ap (λ (p : Replayed). p.accepted) push in
    record {
      due = AreRepliesByRule-push b.digest (length b.jobs) empty_replayed b.history Closing is.due tt;
      accepted = λ k. ap (λ (xs : List ℕ). has_number xs k) same ∙ is.accepted k;
      count = ap length same ∙ is.count;
      closed_is = ap (λ (p : Replayed). p.closed) push;
    }

-- ---- a new book

abbrev nothing : ℕ → List (Option Finding)
nothing n = replicate n None

none-there : (n k : ℕ) → has_number [] k ≡ is_some (get_or (nothing n) k None)
none-there zero k = refl
none-there (suc n) zero = refl
none-there (suc n) (suc k) = none-there n k

none-counted : (n : ℕ) → 0 ≡ count_by is_some (nothing n)
none-counted zero = refl
none-counted (suc n) = none-counted n

pub IsHistoryReplayed-new : (digest : List ℕ) (jobs : List JobView) → IsHistoryReplayed (new_book digest jobs)
unfolding new_book
IsHistoryReplayed-new digest jobs = grind (arith, common_steps, none-there, none-counted)

none-found : (n k : ℕ) (f : Finding) → get_or (nothing n) k None ≡ Some f → ⊥
none-found zero k f e = cc
none-found (suc n) zero f e = cc
none-found (suc n) (suc k) f e = none-found n k f e

pub IsBook-new : (digest : List ℕ) (jobs : List JobView) → IsBook (new_book digest jobs)
unfolding new_book
IsBook-new digest jobs = grind (arith, common_steps, length-replicate, none-found)

-- ---- closing entries

pub has_closing-push : (es : List LogEntry) (f : Filing) → has_closing (es ++ Filed f ∷ []) ≡ has_closing es
has_closing-push [] f = refl
has_closing-push (Filed x ∷ es) f = has_closing-push es f
has_closing-push (Closing ∷ es) f = refl

closed-from : (p : Replayed) (es : List LogEntry) →
    (replay_from p es).closed ≡ (if p.closed then true else has_closing es)
closed-from p [] = by_case p.closed
  where
    by_case : (b : Bool) → b ≡ (if b then true else false)
    by_case b = grind (arith, common_steps)
closed-from p (Filed f ∷ es) = closed-from (after_entry p (Filed f)) es
closed-from p (Closing ∷ es) = closed-from (after_entry p Closing) es ∙ by_case p.closed
  where
    by_case : (b : Bool) → true ≡ (if b then true else true)
    by_case true = refl
    by_case false = refl

pub closed-by_its_history : (b : BookView) → IsHistoryReplayed b → b.closed ≡ has_closing b.history
closed-by_its_history b is = sym is.closed_is ∙ closed-from empty_replayed b.history

found-nothing : (n k : ℕ) → get_or (nothing n) k None ≡ None
found-nothing zero k = refl
found-nothing (suc n) zero = refl
found-nothing (suc n) (suc k) = found-nothing n k

pub held_finding-new : (digest : List ℕ) (jobs : List JobView) (k : ℕ) → held_finding (new_book digest jobs) k ≡ None
unfolding new_book
held_finding-new digest jobs k = found-nothing (length jobs) k
