-- Laws of plain texts: `check` decides them, and the lines of a no mean something.
use Rattle.std.specs.Prelude.{◌≡◌, ◌≢◌, ◌↔◌, ℕ, List}
use Rattle.circuit.specs.declared.circuit_line.CircuitLine.{CircuitLine}
use Rattle.pattern.specs.Layout.{Pattern}
use Rattle.answers.specs.CheckText.{IsReportOf}
use Rattle.answers.specs.declared.outcome.Outcome.{Outcome}
use Rattle.answers.specs.declared.outcome.Outcome.TheVariants.{Yes, No, Refused}
use Rattle.soundness.specs.PlainCertificates.{TouchesRim}
use Rattle.meaning.specs.Design.{SaysDesign}
use Rattle.meaning.specs.Headline.{IsRight}
use Rattle.meaning.specs.Implements.{IsCorrect}
use Rattle.headline.specs.Stops.{HasRightStops, SaysBundle}
use Rattle.headline.specs.ThereAndBack.{there_and_back_text}
use Rattle.headline.specs.Plain.{SaysPlainCertificate, HasRimTouch, IsWrongIfPlain}
use Rattle.headline.specs.SmallDesigns.{plain_lines, design_text, HasNoDelay, IsDesign, IsNoSmallDesignText}
use Rattle.headline.specs.SmallDesigns.{IsPlainText, IsSmallDesign}
use Rattle.headline.specs.ReportLines.{LinesHaveMeaning}

-- A text that is reported with the outcome no is wrong if it is plain.
abbrev pub PlainNoMeansWrongOrRimLive : Type 0
PlainNoMeansWrongOrRimLive = (text output : List ℕ) → IsReportOf text output No → IsWrongIfPlain text

-- A text that is reported with the outcome yes keeps off its rim, plain or not.
abbrev pub YesKeepsOffRim : Type 0
YesKeepsOffRim = (text output : List ℕ) → IsReportOf text output Yes → ¬ HasRimTouch text

-- So `check` decides whether a plain text is right, has right stops and keeps off its rim, if it does not refuse it.
abbrev pub PlainTextIsDecided : Type 0
PlainTextIsDecided = (text output : List ℕ) (outcome : Outcome) → SaysPlainCertificate text →
    IsReportOf text output outcome →
    outcome ≢ Refused → (outcome ≡ Yes) ↔ (IsRight text × HasRightStops text × ¬ HasRimTouch text)

-- A text with the lines of the plain certificate is plain, so `check` decides it, if it does not refuse it.
abbrev pub PlainLinesTextIsDecided : Type 0
PlainLinesTextIsDecided = (text output : List ℕ) (outcome : Outcome) (circuit : List CircuitLine) (layout : Pattern) →
    SaysBundle text circuit layout (plain_lines circuit layout) → IsReportOf text output outcome → outcome ≢ Refused →
    SaysPlainCertificate text × ((outcome ≡ Yes) ↔ (IsRight text × HasRightStops text × ¬ HasRimTouch text))

-- A plain text of a small design is not refused. `check` says yes to it exactly if the layout computes the circuit and
-- keeps off its rim, and its stops, delays and meetings are right.
abbrev pub SmallDesignIsDecided : Type 0
SmallDesignIsDecided = (text output : List ℕ) (outcome : Outcome) (circuit : List CircuitLine) (layout : Pattern) →
    IsPlainText text circuit layout → IsSmallDesign circuit layout → IsReportOf text output outcome →
    (outcome ≢ Refused) × ((outcome ≡ Yes) ↔ (IsRight text × HasRightStops text × ¬ HasRimTouch text))

-- So no such text is refused.
abbrev pub RefusedIsNoSmallDesign : Type 0
RefusedIsNoSmallDesign = (text output : List ℕ) → IsReportOf text output Refused → IsNoSmallDesignText text

-- Each small design has a plain text: its lines and the plain lines, each in its one spelling.
abbrev pub EachSmallDesignHasPlainText : Type 0
EachSmallDesignHasPlainText = (circuit : List CircuitLine) (layout : Pattern) → IsDesign circuit layout →
    IsSmallDesign circuit layout → IsPlainText (design_text circuit layout) circuit layout

-- So `check` decides each small design, by this text. It does not refuse the text. It says yes exactly if the layout
-- computes the circuit and keeps off its rim, and the circuit has no delay.
abbrev pub EachSmallDesignIsDecided : Type 0
EachSmallDesignIsDecided = (circuit : List CircuitLine) (layout : Pattern) (output : List ℕ) (outcome : Outcome) →
    IsDesign circuit layout → IsSmallDesign circuit layout → IsReportOf (design_text circuit layout) output outcome →
    (outcome ≢ Refused)
    × ((outcome ≡ Yes) ↔ (IsCorrect circuit layout × HasNoDelay circuit × ¬ TouchesRim circuit layout))

-- The rules of a design are not too many: each text that is not refused says a circuit and a layout that keep them.
abbrev pub UnrefusedKeepsDesignRules : Type 0
UnrefusedKeepsDesignRules = (text output : List ℕ) (outcome : Outcome) (circuit : List CircuitLine) (layout : Pattern) →
    IsReportOf text output outcome → outcome ≢ Refused → SaysDesign text circuit layout → IsDesign circuit layout

-- Some plain text is reported with the outcome yes (`ThereAndBackTextIsAccepted`), so the laws are not vacuous.
abbrev pub ThereAndBackTextIsPlain : Type 0
ThereAndBackTextIsPlain = SaysPlainCertificate there_and_back_text

-- It is the plain text of a small design, so `SmallDesignIsDecided` is not vacuous.
pub record ThereAndBackTextIsSmall : Type 0 where
  pub circuit : List CircuitLine
  pub layout : Pattern
  pub plain : IsPlainText there_and_back_text circuit layout
  pub small : IsSmallDesign circuit layout

-- the lines of a report with the outcome no have the meaning of `LinesHaveMeaning`
abbrev pub LinesOfNoHaveMeaning : Type 0
LinesOfNoHaveMeaning = (text output : List ℕ) → IsReportOf text output No → LinesHaveMeaning text output
