-- The laws of books
use Rattle.core_book.proofs.Imports.{Accepted, BelongsToBook, BookView, Bool, Closed, Content, Digest, Double, Finding}
use Rattle.core_book.proofs.Imports.{IsSome}
use Rattle.core_book.proofs.Imports.{None, Number, Option, Reply, Some, Stranger, after_filing, ap, arith, common_steps}
use Rattle.core_book.proofs.Imports.{digest_of, false, get_or-set_other, get_or-set_same, held_finding, if◌then◌else◌}
use Rattle.core_book.proofs.Imports.{is_job_of, is_some, job_of, jobs_decide, least_keep_unique, least_unique, length}
use Rattle.core_book.proofs.Imports.{nat_eq, nat_lt, nat_tests, not, number_of, option_eq, pointwise, refl, reply_to}
use Rattle.core_book.proofs.Imports.{same_Some, slice_get, slice_get_within, subst, sym, true, ℕ, ◌∙◌, ◌≡◌, ◌≢◌}
use Rattle.lemmas.proofs.Common.{bytes_decides}
use Rattle.core_book.specs.Laws.{AcceptedFindingMatchesBookAndIsNew, BooksAgreeOnFaults, ClosedBookAloneAnswersClosed}
use Rattle.core_book.specs.Laws.{DoubleFindingMatchesBookAndIsHeld}
use Rattle.core_book.specs.Laws.{AcceptedFindingIsHeld, UnacceptedKeepsFindings, FilingKeepsHeldFindings}
use Rattle.core_book.specs.Laws.{MatchingFindingIsNoStranger, FilingKeepsBookValid, EachEntryKeepsReplay}
use Rattle.core_book.specs.declared.reply.Mismatch.{Mismatch}
use Rattle.core_book.proofs.Filings.{IsBook-filed, accepted-inside, accepted-new, accepted-own, findings_after-accepted}
use Rattle.core_book.proofs.Filings.{findings_after-other, is_job_of-true, reply_to-closed, reply_to-held, reply_to-new}
use Rattle.core_book.proofs.Replays.{IsHistoryReplayed-closed, IsHistoryReplayed-filed}

pub none_held : (o : Option Finding) → is_some o ≡ false → o ≡ None
none_held o h1 = grind (arith, common_steps)

-- ---- a finding of the book's own passes the tests

pub own-digest : (b : BookView) (n : ℕ) (f : Finding) → BelongsToBook b n f →
    pointwise nat_eq (digest_of f) b.digest ≡ true
own-digest b n f own = (bytes_decides (digest_of f) b.digest).1 own.digest

pub own-number : (b : BookView) (f : Finding) → BelongsToBook b (number_of f) f →
    nat_lt (number_of f) (length b.jobs) ≡ true
own-number b f own = grind (arith, common_steps, slice_get_within, nat_tests)

pub own-job : (b : BookView) (n : ℕ) (f : Finding) → BelongsToBook b n f → is_job_of b.jobs n (job_of f) ≡ true
unfolding is_job_of
own-job b n f own = grind (arith, common_steps, option_eq, jobs_decide)

pub accepts-its-own : AcceptedFindingMatchesBookAndIsNew
accepts-its-own b f e = (accepted-own b f e, none_held _ (accepted-new b f e))

no_stranger : (b : BookView) (f : Finding) (mismatch : Mismatch) (closed held : Bool) →
    BelongsToBook b (number_of f) f →
    b.closed ≡ closed → is_some (held_finding b (number_of f)) ≡ held → reply_to b f ≢ Stranger mismatch
no_stranger b f mismatch true held own is held_is e = grind (arith, common_steps, reply_to-closed)
no_stranger b f mismatch false true own is held_is e =
    grind (arith, common_steps, reply_to-held, own-digest, own-number, own-job)
no_stranger b f mismatch false false own is held_is e =
    grind (arith, common_steps, reply_to-new, own-digest, own-number, own-job)

pub knows-its-own : MatchingFindingIsNoStranger
knows-its-own b f k mismatch own = grind (arith, common_steps, no_stranger)

-- the outcomes of the tests of a finding that is answered `Double`
record IsDouble (digest number job held : Bool) (n k : ℕ) : Type 0 where
  pub digest_is : digest ≡ true
  pub number_is : number ≡ true
  pub job_is : job ≡ true
  pub held_is : held ≡ true
  pub same : n ≡ k

doubles : (closed digest number job held : Bool) (n k : ℕ) →
    (if closed then Closed else if not digest then Stranger Digest else if not number then Stranger Number else if not
    job then Stranger Content else if held then Double n else Accepted) ≡ Double k → IsDouble digest number job held n k
doubles true digest number job held n k e = cc
doubles false false number job held n k e = cc
doubles false true false job held n k e = cc
doubles false true true false held n k e = cc
doubles false true true true true n k e = grind (arith, common_steps)
doubles false true true true false n k e = cc

double_tells : (b : BookView) (f : Finding) (k : ℕ) → reply_to b f ≡ Double k →
    IsDouble (pointwise nat_eq (digest_of f) b.digest) (nat_lt (number_of f) (length b.jobs))
    (is_job_of b.jobs (number_of f) (job_of f)) (is_some (held_finding b (number_of f))) (number_of f) k
unfolding reply_to
double_tells b f k e = doubles _ _ _ _ _ (number_of f) k e

-- the tests of an open book answer something else than `Closed`
not_closed : (closed digest number job held : Bool) (n : ℕ) →
    (if closed then Closed else if not digest then Stranger Digest else if not number then Stranger Number else if not
    job then Stranger Content else if held then Double n else Accepted) ≡ Closed → closed ≡ true
not_closed closed digest number job held n h1 = grind (arith, common_steps)

closed_tells : (b : BookView) (f : Finding) → reply_to b f ≡ Closed → b.closed ≡ true
unfolding reply_to
closed_tells b f e = not_closed _ _ _ _ _ (number_of f) e

pub closed-answers-closed : ClosedBookAloneAnswersClosed
closed-answers-closed b f = (closed_tells b f, reply_to-closed b f)

double-own : (b : BookView) (f : Finding) (k : ℕ) → reply_to b f ≡ Double k → BelongsToBook b k f
double-own b f k e = grind (arith, common_steps, double_tells, bytes_decides, is_job_of-true)

pub doubles-what_is_held : DoubleFindingMatchesBookAndIsHeld
doubles-what_is_held b f k e =
    let p = double_tells b f k e in
    (double-own b f k e, subst (λ (n : ℕ). IsSome (held_finding b n)) p.same p.held_is)

-- ---- what a filing leaves

pub holds-what_is_accepted : AcceptedFindingIsHeld
holds-what_is_accepted b f is e = grind (arith, common_steps, findings_after-accepted, get_or-set_same, accepted-inside)

-- a number whose finding was accepted held none before
other_number : (b : BookView) (f g : Finding) (k : ℕ) → reply_to b f ≡ Accepted → held_finding b k ≡ Some g →
    k ≢ number_of f
other_number b f g k e held same =
    let new : is_some (held_finding b k) ≡ false =
    ap (λ (n : ℕ). is_some (held_finding b n)) same ∙ accepted-new b f e in
    let old : is_some (held_finding b k) ≡ true = ap is_some held in
    cc

keeps : (b : BookView) (f g : Finding) (k : ℕ) (r : Reply) → reply_to b f ≡ r → held_finding b k ≡ Some g →
    held_finding (after_filing b f) k ≡ Some g
keeps b f g k Accepted e held = grind (arith, common_steps, findings_after-accepted, get_or-set_other, other_number)
keeps b f g k _ e held = grind (arith, common_steps, findings_after-other)

pub keeps-what_is_held : FilingKeepsHeldFindings
keeps-what_is_held b f g k held = keeps b f g k (reply_to b f) refl held

pub holds-nothing_else : UnacceptedKeepsFindings
holds-nothing_else b f other = findings_after-other b.findings f (reply_to b f) other

pub stays-book : FilingKeepsBookValid
stays-book b f is = IsBook-filed b f is

pub stays-replayed : EachEntryKeepsReplay
stays-replayed b book is = ((λ f. IsHistoryReplayed-filed b f book is), IsHistoryReplayed-closed b is)

-- a filing that is accepted changes nothing at another number
pub held-elsewhere : (b : BookView) (f : Finding) (k : ℕ) → reply_to b f ≡ Accepted → k ≢ number_of f →
    held_finding (after_filing b f) k ≡ held_finding b k
held-elsewhere b f k e other = grind (arith, common_steps, findings_after-accepted, get_or-set_other)

-- ---- two books

pub books-agree : BooksAgreeOnFaults
books-agree b c k f g is other jobs held there =
    let mine = (is.own k f held).job in
    let theirs = (other.own k g there).job in
    let same : job_of f ≡ job_of g = same_Some _ _ (sym mine ∙ ap (λ js. slice_get js k) jobs ∙ theirs) in
    grind (arith, common_steps, least_unique, least_keep_unique)
