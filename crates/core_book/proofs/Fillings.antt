-- Books that are filled up
use Rattle.core_book.proofs.Imports.{Accepted, BookView, Bool, Filed, Finding, IsBook, IsBookFilledSoFar}
use Rattle.core_book.proofs.Imports.{IsFindingHeldOrFiled, IsHistoryReplayed, IsOpenFor, IsSome, JobView, List, None}
use Rattle.core_book.proofs.Imports.{Option, Some, [], after_filing, ap, append-nil, append_assoc, arith, common_steps}
use Rattle.core_book.proofs.Imports.{cond, digest_of, eqb_tells, false, filing_of, get_or, held_finding}
use Rattle.core_book.proofs.Imports.{held_finding_count, if◌then◌else◌, inl, inr, is_some, job_of, jobs_decide, length}
use Rattle.core_book.proofs.Imports.{map, new_book, number_of, pointwise, refl, reply_to, same_job, slice_get, subst}
use Rattle.core_book.proofs.Imports.{suc, sym, true, ℕ, ◌++◌, ◌+◌, ◌<◌, ◌∙◌, ◌∷◌, ◌≡◌, ◌≢◌, ◌≤◌}
use Rattle.lemmas.proofs.Common.{AllZip, Decides, map-append, slice_eq-Decides}
use Rattle.std.specs.List.{count_by}
use Rattle.std.specs.Cmp.Derive.Mapped.{pointwise-map}
use Rattle.core_book.specs.Filling.{IsBookFilledBelow, IsFullBook, accepted_entry, missing_numbers_below}
use Rattle.core_book.proofs.BookLaws.{held-elsewhere, holds-what_is_accepted, keeps-what_is_held, own-digest, own-job}
use Rattle.core_book.proofs.BookLaws.{own-number}
use Rattle.core_book.proofs.Filings.{IsBook-filed, accepted-own, reply_to-new}
use Rattle.core_book.proofs.FullBooks.{count, full_book_holds-all}

-- ---- the same jobs

-- whether two lists, seen through a function, are the same, as `==` tells it
pub lists-told : {Y : Type 0} (view : Y → JobView) (xs ys : List Y) (r : Bool) →
    r ≡ pointwise (λ a b. same_job (view a) (view b)) xs ys → Decides r (map view xs ≡ map view ys)
lists-told view xs ys r e = slice_eq-Decides {E = same_job} jobs_decide (map view xs) (map view ys) r
    (e ∙ sym (pointwise-map view same_job xs ys))

pub clones-same : {Y : Type 0} (view : Y → JobView) (xs ys : List Y) → AllZip (λ x y. view y ≡ view x) xs ys →
    map view ys ≡ map view xs
clones-same view [] [] all = refl
clones-same view [] (y ∷ ys) all = absurd all
clones-same view (x ∷ xs) [] all = absurd all
clones-same view (x ∷ xs) (y ∷ ys) all = grind (arith, common_steps, (clones-same view xs ys all.1))

-- a new book of these jobs
pub new-open : (digest : List ℕ) (jobs : List JobView) (b : BookView) → b ≡ new_book digest jobs →
    IsOpenFor digest jobs b
unfolding new_book
new-open digest jobs b is = grind (arith, common_steps)

-- ---- one number

-- a finding of the book's own, for a number that lacks one, is accepted
pub new-accepted : (b : BookView) (f : Finding) (n : ℕ) (job : JobView) → b.closed ≡ false → digest_of f ≡ b.digest →
    number_of f ≡ n → job_of f ≡ job → slice_get b.jobs n ≡ Some job → is_some (held_finding b n) ≡ false →
    reply_to b f ≡ Accepted
new-accepted b f n job still_open digest number whole at lacks =
    grind (arith, common_steps, reply_to-new, own-digest, own-number, own-job)

pub filed-for : (b c : BookView) (f : Finding) (n : ℕ) (job : JobView) → b.closed ≡ false → digest_of f ≡ b.digest →
    number_of f ≡ n → job_of f ≡ job → slice_get b.jobs n ≡ Some job → is_some (held_finding b n) ≡ false →
    c ≡ after_filing b f → IsFindingHeldOrFiled b c n
filed-for b c f n job still_open digest number whole at lacks after =
    inr (record {
      lacked = lacks;
      finding = f;
      number_is = number;
      accepted = new-accepted b f n job still_open digest number whole at lacks;
      after = after;
    })

-- ---- number after number

-- a number that held a finding before
missing_numbers_below-held : (b : BookView) (n : ℕ) → is_some (held_finding b n) ≡ true →
    missing_numbers_below b (suc n) ≡ missing_numbers_below b n
missing_numbers_below-held b n held = grind (arith, common_steps, append-nil)

missing_numbers_below-new : (b : BookView) (n : ℕ) → is_some (held_finding b n) ≡ false →
    missing_numbers_below b (suc n) ≡ missing_numbers_below b n ++ n ∷ []
missing_numbers_below-new b n lacks = ap (λ (t : Bool). missing_numbers_below b n ++ (if t then [] else n ∷ [])) lacks

step-held : (b c : BookView) (n : ℕ) → IsBookFilledBelow b c n → is_some (held_finding c n) ≡ true →
    IsBookFilledBelow b c (suc n)
step-held b c n is held = grind (arith, common_steps, missing_numbers_below-held, eqb_tells)

-- the entry of a finding that is accepted
entry-accepted : (b c : BookView) (f : Finding) (n : ℕ) → c.digest ≡ b.digest → number_of f ≡ n →
    reply_to c f ≡ Accepted → Filed (filing_of c f) ≡ accepted_entry b.digest n
entry-accepted b c f n digest number accepted = grind (arith, common_steps, accepted-own, own-job, c.jobs)

history-filed : (b c : BookView) (f : Finding) (n : ℕ) → IsBookFilledBelow b c n → is_some (held_finding c n) ≡ false →
    number_of f ≡ n → reply_to c f ≡ Accepted
    → (after_filing c f).history ≡ b.history ++ map (accepted_entry b.digest) (missing_numbers_below b (suc n))
history-filed b c f n is lacks number accepted =
    grind (arith, common_steps, missing_numbers_below-new, entry-accepted, append_assoc, map-append, c.history)

step-filed : (b c : BookView) (f : Finding) (n : ℕ) → IsBook c → IsBookFilledBelow b c n →
    is_some (held_finding c n) ≡ false →
    number_of f ≡ n → reply_to c f ≡ Accepted → IsBookFilledBelow b (after_filing c f) (suc n)
step-filed b c f n book is lacks number accepted = record {
  digest_stays = is.digest_stays;
  jobs_stay = is.jobs_stay;
  closed_stays = is.closed_stays;
  history_grows = history-filed b c f n is lacks number accepted;
  kept = λ k g e. keeps-what_is_held c f g k (is.kept k g e);
  held = λ k below.
      elim (eqb_tells n k) [
        | inl p ↦
            let here : held_finding (after_filing c f) (number_of f) ≡ Some f =
            holds-what_is_accepted c f book accepted in
            subst (λ (j : ℕ). IsSome (held_finding (after_filing c f) j)) (number ∙ p.1) (ap is_some here)
        | inr q ↦
            let other : n ≢ k = q.1 in
            let elsewhere : held_finding (after_filing c f) k ≡ held_finding c k =
            held-elsewhere c f k accepted (λ e. other (sym number ∙ sym e)) in
            ap is_some elsewhere ∙ is.held k (omega (arith, below, other))
      ];
  rest = λ k le. held-elsewhere c f k accepted (λ e. absurd (omega (arith, le, e, number)))
      ∙ is.rest k (omega (arith, le));
}

-- what the loop keeps
pub record IsFilling (b c : BookView) (n : ℕ) : Type 0 where
  pub filled : IsBookFilledBelow b c n
  pub book : IsBook c

pub filling-step : (b c d : BookView) (n : ℕ) → IsFilling b c n → IsFindingHeldOrFiled c d n → IsFilling b d (n + 1)
filling-step b c d n is (inl p) = grind (arith, common_steps, step-held)
filling-step b c d n is (inr h) =
    let next : suc n ≡ n + 1 = omega arith in
    subst (λ (x : BookView). IsFilling b x (n + 1)) (sym h.after) (record {
      filled = subst (IsBookFilledBelow b (after_filing c h.finding)) next
          (step-filed b c h.finding n is.book is.filled h.lacked h.number_is h.accepted);
      book = IsBook-filed c h.finding is.book;
    })

-- ---- a full book

pub partly : (b c : BookView) (n : ℕ) → n ≤ length b.jobs → IsBookFilledBelow b c n → IsBookFilledSoFar b c
partly b c n most is = record { below = n; at_most = most; filled = is }

pub open-stays : (digest : List ℕ) (jobs : List JobView) (b c : BookView) (n : ℕ) → IsOpenFor digest jobs b →
    IsBookFilledBelow b c n → IsOpenFor digest jobs c
open-stays digest jobs b c n own is = grind (arith, common_steps)

count-all : (os : List (Option Finding)) → ((k : ℕ) → k < length os → is_some (get_or os k None) ≡ true) →
    count_by is_some os ≡ length os
count-all [] all = refl
count-all (o ∷ os) all =
    let rest : count_by is_some os ≡ length os = count-all os (λ k below. all (suc k) (omega (arith, below))) in
    let one : ◌≡◌ {A = ℕ} (cond (is_some o) 1 0) 1 = ap (λ (t : Bool). cond t 1 0) (all 0 (omega arith)) in
    omega (arith, count o os, rest, one)

pub is-full : (digest : List ℕ) (jobs : List JobView) (b : BookView) → IsOpenFor digest jobs b → IsHistoryReplayed b →
    IsBook b → held_finding_count b ≡ length b.jobs → IsFullBook digest jobs b
is-full digest jobs b own replays book all = grind (arith, common_steps, full_book_holds-all)

pub filled-all : (b c : BookView) (n : ℕ) → length b.jobs ≤ n → IsFilling b c n → held_finding_count c ≡ length c.jobs
filled-all b c n past is = grind (arith, common_steps, count-all, c.jobs, c.findings)
