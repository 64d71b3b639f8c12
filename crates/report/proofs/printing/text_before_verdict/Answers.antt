use Rattle.lemmas.proofs.Common.{◌∙◌, ◌≡◌, rules}
use Rattle.std.specs.String.{string_bytes}
use Rattle.report.proofs.OpeningLines.{opening_made}
use Rattle.report.proofs.printing.text_before_verdict.Goals as goal

pub returns : goal.returns
returns c =
    let bytes : c.into_bytes.result.items ≡ string_bytes c.in_ok-lines.lines = search rules in
    opening_made c.args.digest c.args.modules
    (string_bytes c.in_ok-digits.digits) c.into_bytes.result.items c.in_ok-digits.ensures
    (bytes ∙ c.in_ok-lines.ensures.ok)
