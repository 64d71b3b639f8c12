-- The circuit and the layout, the certificate, and the end of the text.
use Rattle.check_main.proofs.Imports.{FeedView, IfOk, IfOk-weaker, List, ap, certificate_text, length, subst, sym, ℕ}
use Rattle.check_main.proofs.Imports.{◌++◌, ◌∙◌, ◌≡◌}
use Rattle.sha2.specs.Sha256.{sha256}
use Rattle.certificate_lines.specs.Settings.{setting_of}
use Rattle.answers.specs.CheckText.{SaysReport}
use Rattle.answers.specs.BundleText.{bundle_with_limits}
use Rattle.answers.proofs.Bundles.{bundle_answers, bundle_goes_on, bundle_read, certificate_failed, going_3}
use Rattle.answers.proofs.Bundles.{refusal_answers}
use Rattle.check_main.specs.Preparing.{FollowsTakenLines, IsCertificateTextFrom}
use Rattle.check_main.proofs.SectionBytes.{IsReadFrom, section_is_rest, some_weaker, text_taken}
use Rattle.check_main.proofs.bundle.report_after_front.Goals as goal
use Rattle.answers.proofs.SectionLines.{section_bytes}

pub returns-in-Err : goal.returns-in-Err
returns-in-Err g c =
    record {
      answered = IfOk-weaker c.refusal_answer.result _ _
          (λ answered told. refusal_answers SaysReport
          (bundle_with_limits c.args.limits c.args.feed.text) c.in-Err.fault answered.output.items answered.outcome
          c.in-Err.ensures.fault told)
          c.refusal_answer.ensures.refusal_told;
    }

pub returns-in-Err-read : goal.returns-in-Err-read
returns-in-Err-read g c =
    let fails = certificate_failed c.args.limits c.args.feed c.read_design.new.text c.requires.front_taken
    c.requires.feed_not_stopped c.in-Ok.design.circuit c.in-Ok.design.layout c.in-Ok.ensures.read
    c.read_certificate_and_digest-digest.new.feed
    c.in-Err-read.fault (subst (IsReadFrom c.args.limits c.in-Ok.design.circuit c.in-Ok.design.layout
    c.read_design.new.text
    c.read_certificate_and_digest-digest.new.feed) c.in-Err-read.is
    c.read_certificate_and_digest-digest.ensures.reads) in
    record {
      answered = IfOk-weaker c.refusal_answer-in-Err-read.result _ _
          (λ answered told. refusal_answers SaysReport
          (bundle_with_limits c.args.limits c.args.feed.text) c.in-Err-read.fault answered.output.items
          answered.outcome fails
          told) c.refusal_answer-in-Err-read.ensures.refusal_told;
    }

pub returns-in-Err-finish : goal.returns-in-Err-finish
returns-in-Err-finish g c =
    let going = going_3 c.args.limits c.args.feed c.read_design.new.text c.requires.front_taken
    c.requires.feed_not_stopped c.in-Ok.design.circuit c.in-Ok.design.layout c.in-Ok.ensures.read
    c.read_certificate_and_digest-digest.new.feed
    c.in-Ok-read.cert (subst (IsReadFrom c.args.limits c.in-Ok.design.circuit c.in-Ok.design.layout
    c.read_design.new.text
    c.read_certificate_and_digest-digest.new.feed) c.in-Ok-read.is
    c.read_certificate_and_digest-digest.ensures.reads) in
    let fails = bundle_goes_on c.args.limits c.args.feed c.read_design.new.text c.requires.front_taken
    c.requires.feed_not_stopped c.in-Ok.design.circuit c.in-Ok.design.layout c.in-Ok.ensures.read
    c.read_certificate_and_digest-digest.new.feed
    c.in-Ok-read.cert (subst (IsReadFrom c.args.limits c.in-Ok.design.circuit c.in-Ok.design.layout
    c.read_design.new.text
    c.read_certificate_and_digest-digest.new.feed) c.in-Ok-read.is c.read_certificate_and_digest-digest.ensures.reads)
    c.in-Err-finish.fault (c.in-Err-finish.ensures.more_is_left going) (c.in-Err-finish.ensures.fault going).0 in
    record {
      answered = IfOk-weaker c.refusal_answer-in-Err-finish.result _ _
          (λ answered told. refusal_answers SaysReport
          (bundle_with_limits c.args.limits c.args.feed.text) c.in-Err-finish.fault answered.output.items
          answered.outcome
          fails told)
          c.refusal_answer-in-Err-finish.ensures.refusal_told;
    }

-- the certificate's section was read last, and the end of the text was looked for after it
pub prepare-requires-clause-section : goal.prepare-requires-clause-section
prepare-requires-clause-section g c =
    let going = going_3 c.args.limits c.args.feed c.read_design.new.text c.requires.front_taken
    c.requires.feed_not_stopped c.in-Ok.design.circuit c.in-Ok.design.layout c.in-Ok.ensures.read
    c.read_certificate_and_digest-digest.new.feed
    c.in-Ok-read.cert (subst (IsReadFrom c.args.limits c.in-Ok.design.circuit c.in-Ok.design.layout
    c.read_design.new.text
    c.read_certificate_and_digest-digest.new.feed) c.in-Ok-read.is
    c.read_certificate_and_digest-digest.ensures.reads) in
    let cert = c.in-Ok-read.cert in
    let read = text_taken c.text_round_trips.ensures.printed c.args.limits
    (setting_of c.in-Ok.design.circuit c.in-Ok.design.layout) c.read_design.new.text
    c.read_certificate_and_digest-digest.new.feed
    cert
    (subst (IsReadFrom c.args.limits c.in-Ok.design.circuit c.in-Ok.design.layout c.read_design.new.text
    c.read_certificate_and_digest-digest.new.feed) c.in-Ok-read.is
    c.read_certificate_and_digest-digest.ensures.reads) in
    let bytes = section_bytes c.taken_text-from.result.now _ (certificate_text cert)
    (read ∙ ap (λ (l : List ℕ). l ++ certificate_text cert) (sym c.taken_text-from.ensures)) in
    subst (λ (f : FeedView). IsCertificateTextFrom f (length c.taken_text-from.result.now) cert)
    (sym (c.in_default.ensures.ok going).2)
    (record { within = bytes.0; bytes = bytes.2 })

-- so a digest that was taken beside is that of the section
pub prepare-requires-clause-digest : goal.prepare-requires-clause-digest
prepare-requires-clause-digest g c =
    let going = going_3 c.args.limits c.args.feed c.read_design.new.text c.requires.front_taken
    c.requires.feed_not_stopped c.in-Ok.design.circuit c.in-Ok.design.layout c.in-Ok.ensures.read
    c.read_certificate_and_digest-digest.new.feed
    c.in-Ok-read.cert (subst (IsReadFrom c.args.limits c.in-Ok.design.circuit c.in-Ok.design.layout
    c.read_design.new.text
    c.read_certificate_and_digest-digest.new.feed) c.in-Ok-read.is
    c.read_certificate_and_digest-digest.ensures.reads) in
    let done = c.in_default.ensures.ok going in
    let rest = section_is_rest c.text_round_trips.ensures.printed c.args.limits
    (setting_of c.in-Ok.design.circuit c.in-Ok.design.layout) c.read_design.new.text
    c.read_certificate_and_digest-digest.new.feed
    c.in-Ok-read.cert (subst (IsReadFrom c.args.limits c.in-Ok.design.circuit c.in-Ok.design.layout
    c.read_design.new.text
    c.read_certificate_and_digest-digest.new.feed) c.in-Ok-read.is c.read_certificate_and_digest-digest.ensures.reads)
    done.0 done.1 in
    some_weaker _ (λ d. (bytes : List ℕ) → FollowsTakenLines c.read_design.new.text bytes → d ≡ sha256 bytes)
    (λ d. d ≡ sha256 (certificate_text c.in-Ok-read.cert)) (λ d is. is (certificate_text c.in-Ok-read.cert) rest)
    c.read_certificate_and_digest-digest.ensures.digest

pub returns : goal.returns
returns g c =
    let going = going_3 c.args.limits c.args.feed c.read_design.new.text c.requires.front_taken
    c.requires.feed_not_stopped c.in-Ok.design.circuit c.in-Ok.design.layout c.in-Ok.ensures.read
    c.read_certificate_and_digest-digest.new.feed
    c.in-Ok-read.cert (subst (IsReadFrom c.args.limits c.in-Ok.design.circuit c.in-Ok.design.layout
    c.read_design.new.text
    c.read_certificate_and_digest-digest.new.feed) c.in-Ok-read.is
    c.read_certificate_and_digest-digest.ensures.reads) in
    let done = c.in_default.ensures.ok going in
    let was_read = bundle_read c.args.limits c.args.feed c.read_design.new.text c.requires.front_taken
    c.requires.feed_not_stopped c.in-Ok.design.circuit c.in-Ok.design.layout c.in-Ok.ensures.read
    c.read_certificate_and_digest-digest.new.feed
    c.in-Ok-read.cert (subst (IsReadFrom c.args.limits c.in-Ok.design.circuit c.in-Ok.design.layout
    c.read_design.new.text
    c.read_certificate_and_digest-digest.new.feed) c.in-Ok-read.is c.read_certificate_and_digest-digest.ensures.reads)
    (subst (λ r. IfOk r (λ d. d.circuit ≡ c.in-Ok.design.circuit)) c.in-Ok-read.is
    c.read_certificate_and_digest-digest.ensures.circuit)
    (subst (λ r. IfOk r (λ d. d.layout ≡ c.in-Ok.design.layout)) c.in-Ok-read.is
    c.read_certificate_and_digest-digest.ensures.layout) done.0
    done.1 in
    record {
      answered = IfOk-weaker c.report_on.result _ _
          (λ answered says. bundle_answers SaysReport
          (bundle_with_limits c.args.limits c.args.feed.text) c.in-Ok-read.cert answered.output.items answered.outcome
          was_read
          says) c.report_on.ensures.says;
    }
