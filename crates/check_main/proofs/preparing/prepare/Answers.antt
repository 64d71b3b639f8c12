use Rattle.std.proofs.Common.{rules, ◌≡◌}
use Rattle.sha2.specs.Sha256.{sha256}
use Rattle.certificate.specs.Text.{certificate_text}
use Rattle.check_main.proofs.Closings.{new_book_of}
use Rattle.check_main.proofs.preparing.prepare.Goals as goal

pub returns : goal.returns
returns c =
    let own : c.match-digest.digest ≡ sha256 (certificate_text c.args.cert.now) = search rules in
    record {
      book = new_book_of c.args.cert.now c.in_ok-state.state _ _ c.in_ok-state.ensures own c.in_ok-jobs.ensures;
      borders = c.in_ok-borders.ensures;
    }
