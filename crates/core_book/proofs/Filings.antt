-- Replies, and what filing keeps
use Rattle.core_book.proofs.Imports.{Accepted, BelongsToBook, BookView, Bool, Closed, Content, Digest, Double, Filed}
use Rattle.core_book.proofs.Imports.{Filing, Finding, IsBook, JobView, List, LogEntry, None, Number, Option, Reply}
use Rattle.core_book.proofs.Imports.{Some, Stranger, [], after_closing, after_filing, ap, arith, common_steps, cond}
use Rattle.core_book.proofs.Imports.{digest_of, eqb_tells, false, filing_of, findings_after, get_or, get_or-set_other}
use Rattle.core_book.proofs.Imports.{get_or-set_same, held_finding, held_finding_count, if◌then◌else◌, is_job_of}
use Rattle.core_book.proofs.Imports.{is_some, job_of, jobs_decide, length, length-set, map, nat_eq, nat_lt, nat_tests}
use Rattle.core_book.proofs.Imports.{not, number_of, option_eq, option_map, pointwise, refl, reply_to, same_job, set}
use Rattle.core_book.proofs.Imports.{slice_get, slice_get-map, slice_get_read, suc, sum_by, sym, true, zero, ℕ, ◌++◌}
use Rattle.core_book.proofs.Imports.{◌+◌, ◌<◌, ◌∙◌, ◌∷◌, ◌≡◌, ◌≢◌, ◌≤◌}
use Rattle.lemmas.proofs.Common.{same_text, sum_by-set, false_from_not, true_from_not}
use Rattle.core_book.specs.Book.{accepted_count_after}

-- ---- which reply, by the tests

pub reply_to-closed : (b : BookView) (f : Finding) → b.closed ≡ true → reply_to b f ≡ Closed
unfolding reply_to
reply_to-closed b f closed = rw closed

pub reply_to-other_digest : (b : BookView) (f : Finding) → b.closed ≡ false →
    pointwise nat_eq (digest_of f) b.digest ≡ false → reply_to b f ≡ Stranger Digest
unfolding reply_to
reply_to-other_digest b f closed digest = rw (closed, digest)

pub reply_to-other_number : (b : BookView) (f : Finding) → b.closed ≡ false →
    pointwise nat_eq (digest_of f) b.digest ≡ true → nat_lt (number_of f) (length b.jobs) ≡ false →
    reply_to b f ≡ Stranger Number
unfolding reply_to
reply_to-other_number b f closed digest number = rw (closed, digest, number)

pub reply_to-other_job : (b : BookView) (f : Finding) → b.closed ≡ false →
    pointwise nat_eq (digest_of f) b.digest ≡ true → nat_lt (number_of f) (length b.jobs) ≡ true →
    is_job_of b.jobs (number_of f) (job_of f) ≡ false → reply_to b f ≡ Stranger Content
unfolding reply_to
reply_to-other_job b f closed digest number job = rw (closed, digest, number, job)

pub reply_to-held : (b : BookView) (f : Finding) → b.closed ≡ false → pointwise nat_eq (digest_of f) b.digest ≡ true →
    nat_lt (number_of f) (length b.jobs) ≡ true → is_job_of b.jobs (number_of f) (job_of f) ≡ true →
    is_some (held_finding b (number_of f)) ≡ true → reply_to b f ≡ Double (number_of f)
unfolding reply_to
reply_to-held b f closed digest number job held = rw (closed, digest, number, job, held)

pub reply_to-new : (b : BookView) (f : Finding) → b.closed ≡ false → pointwise nat_eq (digest_of f) b.digest ≡ true →
    nat_lt (number_of f) (length b.jobs) ≡ true → is_job_of b.jobs (number_of f) (job_of f) ≡ true →
    is_some (held_finding b (number_of f)) ≡ false → reply_to b f ≡ Accepted
unfolding reply_to
reply_to-new b f closed digest number job held = rw (closed, digest, number, job, held)

-- ---- the tests as the code makes them

pub digest-differs : (b : BookView) (f : Finding) (theirs own : List ℕ) (r : Bool) →
    r ≡ not (pointwise nat_eq theirs own) → theirs ≡ digest_of f → own ≡ b.digest → r ≡ true →
    pointwise nat_eq (digest_of f) b.digest ≡ false
digest-differs b f theirs own r e t o differs = grind (arith, common_steps, false_from_not)

pub digest-agrees : (b : BookView) (f : Finding) (theirs own : List ℕ) (r : Bool) →
    r ≡ not (pointwise nat_eq theirs own) → theirs ≡ digest_of f → own ≡ b.digest → r ≡ false →
    pointwise nat_eq (digest_of f) b.digest ≡ true
digest-agrees b f theirs own r e t o agrees = grind (arith, common_steps, true_from_not)

pub number-past : (b : BookView) (f : Finding) (n count : ℕ) → n ≡ number_of f → count ≡ length b.jobs → count ≤ n →
    nat_lt (number_of f) (length b.jobs) ≡ false
number-past b f n count e c past = grind (arith, nat_tests)

pub number-within : (b : BookView) (f : Finding) (n count : ℕ) → n ≡ number_of f → count ≡ length b.jobs → n < count →
    nat_lt (number_of f) (length b.jobs) ≡ true
number-within b f n count e c below = grind (arith, nat_tests)

-- the job at a place, where the jobs are seen through a function
pub is_job_of-at : {Y : Type 0} (view : Y → JobView) (ys : List Y) (n : ℕ) (y : Y) (job : JobView) → n < length ys →
    y ≡ get_or ys n y → is_job_of (map view ys) n job ≡ same_job (view y) job
unfolding is_job_of
is_job_of-at view ys n y job below at = grind (arith, common_steps, option_eq, slice_get-map, slice_get_read)

-- the test of the job, as the code makes it
pub job-told : {Y : Type 0} (view : Y → JobView) (jobs : List JobView) (ys seen : List Y) (n : ℕ) (y : Y)
    (own theirs : JobView) (r : Bool) → map view ys ≡ jobs → seen ≡ ys → n < length seen → y ≡ get_or seen n y →
    own ≡ view y → r ≡ same_job own theirs → r ≡ is_job_of jobs n theirs
job-told view jobs ys seen n y own theirs r of_book all below at o e = grind (arith, common_steps, is_job_of-at)

is_job_of-past : {Y : Type 0} (view : Y → JobView) (ys : List Y) (n : ℕ) (job : JobView) → length ys ≤ n →
    is_job_of (map view ys) n job ≡ false
unfolding is_job_of
is_job_of-past view ys n job past =
    ap (λ (o : Option JobView). option_eq same_job o (Some job))
    (slice_get-map view ys n ∙ ap (option_map view) (slice_get_past ys n past))
  where
    slice_get_past : {X : Type 0} (xs : List X) (k : ℕ) → length xs ≤ k → slice_get xs k ≡ None
    slice_get_past [] k le = refl
    slice_get_past (x ∷ xs) zero le = absurd (omega (arith, le))
    slice_get_past (x ∷ xs) (suc k) le = slice_get_past xs k (omega (arith, le))

pub no_job-told : {Y : Type 0} (view : Y → JobView) (jobs : List JobView) (ys seen : List Y) (n : ℕ)
    (job : JobView) → map view ys ≡ jobs → seen ≡ ys → length seen ≤ n → false ≡ is_job_of jobs n job
no_job-told view jobs ys seen n job of_book all past = grind (arith, common_steps, is_job_of-past)

-- ---- what a reply tells

-- the outcomes of the tests of a finding that is accepted
record Passes (closed digest number job held : Bool) : Type 0 where
  pub closed_is : closed ≡ false
  pub digest_is : digest ≡ true
  pub number_is : number ≡ true
  pub job_is : job ≡ true
  pub held_is : held ≡ false

passes : (closed digest number job held : Bool) (n : ℕ) →
    (if closed then Closed else if not digest then Stranger Digest else if not number then Stranger Number else if not
    job then Stranger Content else if held then Double n else Accepted) ≡ Accepted →
    Passes closed digest number job held
passes true digest number job held n e = cc
passes false false number job held n e = cc
passes false true false job held n e = cc
passes false true true false held n e = cc
passes false true true true true n e = cc
passes false true true true false n e = grind (arith, common_steps)

accepted-passes : (b : BookView) (f : Finding) → reply_to b f ≡ Accepted →
    Passes b.closed (pointwise nat_eq (digest_of f) b.digest) (nat_lt (number_of f) (length b.jobs))
    (is_job_of b.jobs (number_of f) (job_of f)) (is_some (held_finding b (number_of f)))
unfolding reply_to
accepted-passes b f e = passes _ _ _ _ _ (number_of f) e

-- a job that passes the test is the job of that number
same_option : (o : Option JobView) (job : JobView) → option_eq same_job o (Some job) ≡ true → o ≡ Some job
same_option o job h1 = grind (arith, common_steps, jobs_decide)

pub is_job_of-true : (jobs : List JobView) (n : ℕ) (job : JobView) → is_job_of jobs n job ≡ true →
    slice_get jobs n ≡ Some job
unfolding is_job_of
is_job_of-true jobs n job e = same_option (slice_get jobs n) job e

pub accepted-own : (b : BookView) (f : Finding) → reply_to b f ≡ Accepted → BelongsToBook b (number_of f) f
accepted-own b f e =
    let p = accepted-passes b f e in
    record {
      digest = same_text _ _ (sym p.digest_is);
      number_is = refl;
      job = is_job_of-true b.jobs (number_of f) (job_of f) p.job_is;
    }

pub accepted-number : (b : BookView) (f : Finding) → reply_to b f ≡ Accepted → number_of f < length b.jobs
accepted-number b f e =
    let p = accepted-passes b f e in
    grind (arith, nat_tests, p.number_is)

pub accepted-new : (b : BookView) (f : Finding) → reply_to b f ≡ Accepted →
    is_some (held_finding b (number_of f)) ≡ false
accepted-new b f e = (accepted-passes b f e).held_is

-- ---- what is held after a filing

pub accepted-inside : (b : BookView) (f : Finding) → IsBook b → reply_to b f ≡ Accepted →
    number_of f < length b.findings
accepted-inside b f is e = grind (arith, common_steps, accepted-number)

pub findings_after-accepted : (b : BookView) (f : Finding) → reply_to b f ≡ Accepted →
    findings_after b.findings f (reply_to b f) ≡ set b.findings (number_of f) (Some f)
unfolding findings_after
findings_after-accepted b f e = ap (findings_after b.findings f) e

pub findings_after-other : (held : List (Option Finding)) (f : Finding) (r : Reply) → r ≢ Accepted →
    findings_after held f r ≡ held
unfolding findings_after
findings_after-other held f r h1 = grind (arith, common_steps)

-- whose a finding is depends on the digest and the jobs alone
own-moved : (b c : BookView) (n : ℕ) (f : Finding) → b.digest ≡ c.digest → b.jobs ≡ c.jobs → BelongsToBook b n f →
    BelongsToBook c n f
own-moved b c n f digest jobs p = grind (arith, common_steps, slice_get)

own-set : (b : BookView) (n : ℕ) (f : Finding) → n < length b.findings → BelongsToBook b n f → IsBook b →
    (k : ℕ) (g : Finding) → get_or (set b.findings n (Some f)) k None ≡ Some g → BelongsToBook b k g
own-set b n f inside own is k g e = grind (arith, common_steps, eqb_tells, get_or-set_same, get_or-set_other)

-- a book that holds what another one held after a filing
book-of : (b c : BookView) (held : List (Option Finding)) → b.digest ≡ c.digest → b.jobs ≡ c.jobs → c.findings ≡ held →
    length held ≡ length b.jobs → ((k : ℕ) (g : Finding) → get_or held k None ≡ Some g → BelongsToBook b k g) → IsBook c
book-of b c held digest jobs same places own = record {
  places = ap length same ∙ places ∙ ap length jobs;
  own = λ k g e. own-moved b c k g digest jobs (own k g (ap (λ os. get_or os k None) (sym same) ∙ e));
}

filed-by : (b : BookView) (f : Finding) (r : Reply) → reply_to b f ≡ r → IsBook b → IsBook (after_filing b f)
filed-by b f Accepted e is =
    let inside = accepted-inside b f is e in
    book-of b (after_filing b f) (set b.findings (number_of f) (Some f)) refl refl (findings_after-accepted b f e)
    (length-set b.findings (number_of f) (Some f) ∙ is.places)
    (own-set b (number_of f) f inside (accepted-own b f e) is)
filed-by b f _ e is =
    book-of b (after_filing b f) b.findings refl refl
    (findings_after-other b.findings f (reply_to b f) (λ s. cc)) is.places is.own

pub IsBook-filed : (b : BookView) (f : Finding) → IsBook b → IsBook (after_filing b f)
IsBook-filed b f is = filed-by b f (reply_to b f) refl is

pub IsBook-closed : (b : BookView) → IsBook b → IsBook (after_closing b)
IsBook-closed b is = book-of b (after_closing b) b.findings refl refl refl is.places is.own

abbrev counted : Option Finding → ℕ
counted o = cond (is_some o) 1 0

pub held_finding_count-accepted : (b : BookView) (f : Finding) → IsBook b → reply_to b f ≡ Accepted →
    held_finding_count (after_filing b f) ≡ held_finding_count b + 1
held_finding_count-accepted b f is e =
    let inside : number_of f < length b.findings = accepted-inside b f is e in
    let sum = sum_by-set counted b.findings (number_of f) (Some f) None inside in
    let none : counted (get_or b.findings (number_of f) None) ≡ counted None =
    ap (λ (t : Bool). cond t 1 0) (accepted-new b f e) in
    let one : held_finding_count (after_filing b f) ≡ sum_by counted (set b.findings (number_of f) (Some f)) =
    ap (sum_by counted) (findings_after-accepted b f e) in
    omega (arith, sum, none, one)

pub held_finding_count-other : (b : BookView) (f : Finding) → reply_to b f ≢ Accepted →
    held_finding_count (after_filing b f) ≡ held_finding_count b
held_finding_count-other b f other = ap (sum_by counted) (findings_after-other b.findings f (reply_to b f) other)

by_reply : (b : BookView) (f : Finding) (r : Reply) → reply_to b f ≡ r → IsBook b →
    held_finding_count (after_filing b f) ≡ accepted_count_after (held_finding_count b) r
by_reply b f r h1 h2 = grind (arith, common_steps, held_finding_count-accepted, held_finding_count-other)

pub held_finding_count-filed : (b c after : BookView) (f : Finding) (r : Reply) → IsBook b → b ≡ c → r ≡ reply_to c f →
    after ≡ after_filing c f → held_finding_count after ≡ accepted_count_after (held_finding_count c) r
held_finding_count-filed b c after f r is same e left = grind (arith, common_steps, by_reply)

pub accepted_count_after-other : (n : ℕ) (r : Reply) → (r ≡ Accepted → ⊥) → accepted_count_after n r ≡ n
accepted_count_after-other n r h1 = grind (arith, common_steps)

-- ---- what a book says of a number

-- ---- what the code leaves

pub left-accepted : (b : BookView) (f : Finding) (filing : Filing) (history : List LogEntry) → filing ≡ filing_of b f →
    history ≡ b.history ++ Filed filing ∷ [] → filing.reply ≡ Accepted
    → record b { findings = set b.findings filing.number (Some f); history = history } ≡ after_filing b f
left-accepted b f filing history is entries e = grind (arith, common_steps, findings_after-accepted)

pub left-other : (b : BookView) (f : Finding) (filing : Filing) (history : List LogEntry) → filing ≡ filing_of b f →
    history ≡ b.history ++ Filed filing ∷ [] → (filing.reply ≡ Accepted → ⊥)
    → record b { history = history } ≡ after_filing b f
left-other b f filing history is entries other = grind (arith, common_steps, findings_after-other)
