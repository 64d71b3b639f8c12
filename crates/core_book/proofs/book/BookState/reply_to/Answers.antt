use Rattle.core_book.proofs.Imports.{BookView, ap, arc_value, arith, common_steps, digest_of, false, length, length-map}
use Rattle.core_book.proofs.Imports.{nat_eq, nat_lt, number_of, pointwise, sym, true, ◌∙◌, ◌≡◌}
use Rattle.core_book.proofs.Filings.{digest-differs, digest-agrees, number-past, number-within, reply_to-closed}
use Rattle.core_book.proofs.Filings.{reply_to-other_digest, reply_to-other_number, reply_to-other_job, reply_to-held}
use Rattle.core_book.proofs.Filings.{reply_to-new}
use Rattle.core_book.proofs.book.BookState.reply_to.Goals.{After-digest, After-len, After-found}
use Rattle.core_book.proofs.book.BookState.reply_to.Goals as goal

pub returns-then-self : goal.returns-then-self
returns-then-self c = sym (reply_to-closed c.args.self.now c.args.finding.now
    (ap (λ (v : BookView). v.closed) (sym c.self.view_is) ∙ c.if-self.true))

is_open : (c : After-digest) → c.args.self.now.closed ≡ false
is_open c = ap (λ (v : BookView). v.closed) (sym c.self.view_is) ∙ c.if-self.false

pub returns-then-ne : goal.returns-then-ne
returns-then-ne c = grind (arith, common_steps, reply_to-other_digest, is_open, digest-differs)

agrees : (c : After-len) → pointwise nat_eq (digest_of c.args.finding.now) c.args.self.now.digest ≡ true
agrees c = grind (arith, common_steps, digest-agrees)

-- the length of the list of jobs as the code sees it
count : (c : After-len) → c.len.result ≡ length c.args.self.now.jobs
count c =
    c.len.ensures ∙ c.self.inside.jobs.ok.0 ∙ sym (length-map c.self.inside.jobs.items arc_value)
    ∙ ap (λ (v : BookView). length v.jobs) c.self.view_is

pub returns-then-number-len : goal.returns-then-number-len
returns-then-number-len c = grind (arith, common_steps, reply_to-other_number, is_open, agrees, number-past, count)

pub returns-then-not-same : goal.returns-then-not-same
returns-then-not-same c =
    let d = (goal.at.returns-then-not-same c).After-len in
    let within : nat_lt (number_of c.args.finding.now) (length c.args.self.now.jobs) ≡ true =
    number-within c.args.self.now c.args.finding.now c.number-number.result c.len.result c.number-number.ensures
    (count d) c.if-number-len.false in
    sym (reply_to-other_job c.args.self.now c.args.finding.now (is_open (goal.at.returns-then-not-same c).After-digest)
    (agrees d) within (sym c.requires ∙ c.if-not-same.true))

within : (c : After-found) → (c.len.result ≡ length c.args.self.now.jobs) →
    nat_lt (number_of c.args.finding.now) (length c.args.self.now.jobs) ≡ true
within c len = number-within c.args.self.now c.args.finding.now c.number-number.result c.len.result
    c.number-number.ensures len c.if-number-len.false

pub returns-in-Some : goal.returns-in-Some
returns-in-Some c = grind (arith, common_steps, reply_to-held, is_open, agrees, within, count)

pub returns-in-None : goal.returns-in-None
returns-in-None c = grind (arith, common_steps, reply_to-new, is_open, agrees, within, count)
