use Rattle.lemmas.proofs.Common.{[], ◌++◌, ◌∙◌, ◌∷◌, ◌≡◌, List, ap, append_assoc, ap₂, codes, flat_map, subst, sym, ℕ}
use Rattle.std.specs.Result.{OnOk}
use Rattle.section_text.specs.Spelling.{line_text}
use Rattle.circuit.specs.Bridge.{circuit_of}
use Rattle.certificate.specs.Grammars.{modules_in}
use Rattle.certificate.specs.Times.{delay_and_meet_lines}
use Rattle.certificate.specs.declared.times.TimeLine.{TimeLine}
use Rattle.core_book.specs.Verdicts.{timing_report_line}
use Rattle.core_book.specs.declared.verdict.Verdict.{Verdict}
use Rattle.report.specs.ReportText.{report_line_text, verdict_lines}
use Rattle.report.proofs.printing.print_verdict.Goals as goal

pub returns-in_ok-times-in-Yes : goal.returns-in_ok-times-in-Yes
returns-in_ok-times-in-Yes c =
    let old = c.args.text.now.items in
    let yes : List ℕ = line_text (codes "verdict") (codes "yes" ∷ []) in
    let lines : List TimeLine → List ℕ = λ ts. flat_map (λ t. report_line_text (timing_report_line t)) ts in
    let times = delay_and_meet_lines (circuit_of c.args.cert.now.circuit) (modules_in c.args.cert.now) in
    subst (λ xs. OnOk c.print_timing_lines.result (c.print_timing_lines.new.text.items ≡ xs))
    (ap₂ (λ xs ts. xs ++ lines ts) c.in_ok-extend_from_slice-in-Yes.ensures.items
    (c.deref.ensures.value ∙ c.in_ok-times-in-Yes.ensures)
    ∙ append_assoc old yes (lines times) ∙ ap (λ (v : Verdict). old ++ verdict_lines times v) (sym c.in-Yes.is))
    c.print_timing_lines.ensures
