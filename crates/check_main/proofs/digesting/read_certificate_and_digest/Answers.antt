-- The copy is what stands behind the lines that were taken, and nothing else is.
use Rattle.check_main.proofs.Imports.{ap, sym, ◌∙◌}
use Rattle.lemmas.proofs.Common.{append_cancel_left}
use Rattle.sha2.specs.Sha256.{sha256}
use Rattle.check_main.specs.Preparing.{taken_bytes}
use Rattle.check_main.proofs.digesting.read_certificate_and_digest.Goals as goal

pub returns-clause-digest : goal.returns-clause-digest
returns-clause-digest g c rest is =
    c.read_certificate_while_digesting-read.ensures.digest
    ∙ ap sha256 (c.deref.ensures.value
    ∙ append_cancel_left (taken_bytes c.args.feed.now) c.in-Some.copy.items rest (c.in-Some.ensures ∙ sym is))
