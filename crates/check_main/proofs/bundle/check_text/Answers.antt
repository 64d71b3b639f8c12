-- The report on the text, and what the laws say of each outcome.
use Rattle.check_main.proofs.Imports.{IfOk-weaker, subst}
use Rattle.answers.specs.CheckText.{IsReportOf}
use Rattle.headline.proofs.PlainTexts.{no_is_wrong, no_lines_tell}
use Rattle.headline.proofs.SmallDesigns.{refused_is_none}
use Rattle.headline.proofs.YesIsPrinted.{yes_is_right}
use Rattle.headline.proofs.YesIsRight.{fourth_line-tells, yes_has_right_stops}
use Rattle.headline.proofs.YesIsRightInFull.{yes_is_right_in_full}
use Rattle.check_main.proofs.bundle.check_text.Goals as goal

pub returns : goal.returns
returns g c = record {
  reported = c.report_of_text.ensures.answered;
  fourth_line = IfOk-weaker c.report_of_text.result _ _
      (λ a says. fourth_line-tells c.args.feed.text a.output.items a.outcome says) c.report_of_text.ensures.answered;
  right = IfOk-weaker c.report_of_text.result _ _
      (λ a says yes. yes_is_right c.args.feed.text a.output.items
      (subst (IsReportOf c.args.feed.text a.output.items) yes says)) c.report_of_text.ensures.answered;
  stops = IfOk-weaker c.report_of_text.result _ _
      (λ a says yes. yes_has_right_stops c.args.feed.text a.output.items
      (subst (IsReportOf c.args.feed.text a.output.items) yes says)) c.report_of_text.ensures.answered;
  in_full = IfOk-weaker c.report_of_text.result _ _
      (λ a says yes. yes_is_right_in_full c.args.feed.text a.output.items
      (subst (IsReportOf c.args.feed.text a.output.items) yes says)) c.report_of_text.ensures.answered;
  wrong = IfOk-weaker c.report_of_text.result _ _
      (λ a says no. no_is_wrong c.args.feed.text a.output.items
      (subst (IsReportOf c.args.feed.text a.output.items) no says)) c.report_of_text.ensures.answered;
  lines = IfOk-weaker c.report_of_text.result _ _
      (λ a says no. no_lines_tell c.args.feed.text a.output.items
      (subst (IsReportOf c.args.feed.text a.output.items) no says)) c.report_of_text.ensures.answered;
  refused_not_small = IfOk-weaker c.report_of_text.result _ _
      (λ a says refused. refused_is_none c.args.feed.text a.output.items
      (subst (IsReportOf c.args.feed.text a.output.items) refused says)) c.report_of_text.ensures.answered;
}
