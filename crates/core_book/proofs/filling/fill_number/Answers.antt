use Rattle.core_book.proofs.Imports.{IsFindingHeldOrFiled, arc_value, false, held_finding, is_some, rules, subst, sym}
use Rattle.core_book.proofs.Imports.{◌≡◌}
use Rattle.lemmas.proofs.Common.{OnOk}
use Rattle.core_book.proofs.Fillings.{filed-for}
use Rattle.core_book.proofs.filling.fill_number.Goals.{in-Ok, in-Err}
use Rattle.core_book.proofs.filling.fill_number.Goals as goal

pub returns-clause-held_or_filed : goal.returns-clause-held_or_filed
returns-clause-held_or_filed c =
    let b = c.args.state.now in
    let lacks : is_some (held_finding b c.args.number) ≡ false = search rules in
    elim c.match-file.branch [
      | in-Ok w ↦
          let f = c.in_ok-finding.finding in
          let one : IsFindingHeldOrFiled b c.file.new.self c.args.number =
          filed-for b c.file.new.self f c.args.number
          (arc_value c.args.job.now) c.requires.still_open c.in_ok-finding.ensures.digest c.in_ok-finding.ensures.number
          c.in_ok-finding.ensures.job c.requires.job lacks w.in-Ok.ensures.after in
          subst (λ r. OnOk r (IsFindingHeldOrFiled b c.file.new.self c.args.number)) (sym w.result-is) one
      | in-Err w ↦ subst (λ r. OnOk r (IsFindingHeldOrFiled b c.file.new.self c.args.number)) (sym w.result-is) tt
    ]
