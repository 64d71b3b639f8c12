-- Laws of the line `limits 2`: it changes which texts are refused, and no other report.
use Rattle.std.specs.Prelude.{◌≡◌, ◌≢◌, ℕ, List, ◌++◌, codes}
use Rattle.section_text.specs.declared.limits.Limits.TheVariants.{First, Second}
use Rattle.answers.specs.CheckText.{IsReportOf}
use Rattle.answers.specs.declared.outcome.Outcome.{Outcome}
use Rattle.answers.specs.declared.outcome.Outcome.TheVariants.{Refused, Yes}
use Rattle.report.specs.ReportText.{refusal_line}
use Rattle.meaning.specs.Design.{front_text, text_limits}

-- a text that is not refused has the same report behind that line
abbrev pub FrontLineKeepsReports : Type 0
FrontLineKeepsReports = (text output : List ℕ) (outcome : Outcome) → text_limits text ≡ First →
    IsReportOf text output outcome → outcome ≢ Refused → IsReportOf (front_text Second ++ text) output outcome

-- a layout that is two cells wider than the first limits, without cells that are live, in nine modules
unfoldable pub wide_text : List ℕ
wide_text =
    codes "circuit\nend\nlayout 514 2 0\nend\ncertificate 1\n"
    ++ codes "module 0 0 64 2\nmodule 64 0 64 2\nmodule 128 0 64 2\nmodule 192 0 64 2\nmodule 256 0 64 2\n"
    ++ codes "module 320 0 64 2\nmodule 384 0 64 2\nmodule 448 0 64 2\nmodule 512 0 2 2\nend\n"

-- the first limits refuse its third line with code 2
abbrev pub WideTextIsRefused : Type 0
WideTextIsRefused = IsReportOf wide_text (refusal_line (record { line = 3; code = 2 })) Refused

-- and behind the line `limits 2` it is reported with a yes
abbrev pub WideTextIsAccepted : Type 0
WideTextIsAccepted = (output : List ℕ) × IsReportOf (front_text Second ++ wide_text) output Yes
