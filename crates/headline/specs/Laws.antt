-- Laws of the answers.
use Rattle.std.specs.Prelude.{◌≡◌, ◌≢◌, ◌<◌, ◌↔◌, ℕ, List, Some, slice_get, codes}
use Rattle.section_text.specs.Words.{lines_of}
use Rattle.circuit.specs.Bridge.{netlist_of}
use Rattle.circuit.specs.Meaning.{Satisfies, Valuation, wires}
use Rattle.circuit.specs.declared.circuit_line.CircuitLine.{CircuitLine}
use Rattle.certificate_lines.specs.declared.certificate_line.CertificateLine.{CertificateLine}
use Rattle.pattern.specs.Layout.{Pattern}
use Rattle.answers.specs.declared.outcome.Outcome.{Outcome}
use Rattle.answers.specs.declared.outcome.Outcome.TheVariants.{Yes, Refused}
use Rattle.answers.specs.CheckText.{IsReportOf}
use Rattle.meaning.specs.Design.{SaysDesign}
use Rattle.meaning.specs.Headline.{IsRight}
use Rattle.meaning.specs.Streams.{FourthLineSaysYes}
use Rattle.meaning.specs.Implements.{IsCorrect}
use Rattle.meaning.specs.Printed.{BeginsWithDesign}
use Rattle.headline.specs.Stops.{HasRightStops, SaysBundle}
use Rattle.headline.specs.RightInFull.{IsGoodDesign, IsRightInFull}

-- a command has at most one answer to each text
abbrev pub HasAtMostOneAnswerToEachText : (List ℕ → List ℕ → Outcome → Type 0) → Type 0
HasAtMostOneAnswerToEachText R = (text output output' : List ℕ) (outcome outcome' : Outcome) → R text output outcome →
    R text output' outcome' → (output ≡ output') × (outcome ≡ outcome')

-- a command has an answer to each text; with the law above, its answer is a function of the text
abbrev pub HasAnAnswerToEachText : (List ℕ → List ℕ → Outcome → Type 0) → Type 0
HasAnAnswerToEachText R = (text : List ℕ) → (output : List ℕ) × (outcome : Outcome) × R text output outcome

-- what is reported with the outcome yes is right
abbrev pub YesMeansRight : Type 0
YesMeansRight = (text output : List ℕ) → IsReportOf text output Yes → IsRight text

-- The same by the words of the lines: the text says a circuit and then a layout, and the layout computes the circuit.
pub record SaysCorrectDesign (text : List ℕ) : Type 0 where
  pub circuit : List CircuitLine
  pub layout : Pattern
  pub says : SaysDesign text circuit layout
  pub correct : IsCorrect circuit layout

-- a text that is right is right as it is read
abbrev pub RightSaysCorrectDesign : Type 0
RightSaysCorrectDesign = (text : List ℕ) → IsRight text → SaysCorrectDesign text

-- a text that begins with a circuit and a layout says them
abbrev pub PrintedDesignIsRead : Type 0
PrintedDesignIsRead = (text : List ℕ) (circuit : List CircuitLine) (layout : Pattern) →
    BeginsWithDesign text circuit layout → SaysDesign text circuit layout

-- and a text that is not refused begins with the circuit and the layout that it says
abbrev pub TextBeginsWithReadDesign : Type 0
TextBeginsWithReadDesign = (text output : List ℕ) (outcome : Outcome) (circuit : List CircuitLine) (layout : Pattern) →
    IsReportOf text output outcome → outcome ≢ Refused →
    SaysDesign text circuit layout → BeginsWithDesign text circuit layout

-- a text begins with one circuit and one layout at most
abbrev pub BeginsWithOneDesign : Type 0
BeginsWithOneDesign = (text : List ℕ) (circuit circuit' : List CircuitLine) (layout layout' : Pattern) →
    BeginsWithDesign text circuit layout → BeginsWithDesign text circuit' layout' →
    (circuit ≡ circuit') × (layout ≡ layout')

-- and its stops are right
abbrev pub YesMeansRightStops : Type 0
YesMeansRightStops = (text output : List ℕ) → IsReportOf text output Yes → HasRightStops text

-- and all of this and more holds of one circuit and one layout
abbrev pub YesMeansRightInFull : Type 0
YesMeansRightInFull = (text output : List ℕ) → IsReportOf text output Yes → IsRightInFull text

-- The circuit has one valuation for each choice of values of the inputs: two of them agree on each wire
abbrev pub YesHasOneValuation : Type 0
YesHasOneValuation = (text output : List ℕ) (circuit : List CircuitLine) (layout : Pattern) (inputs u v : Valuation) →
    IsReportOf text output Yes → SaysDesign text circuit layout →
    Satisfies (netlist_of circuit) inputs u → Satisfies (netlist_of circuit) inputs v →
    (w : ℕ) → w < wires (netlist_of circuit) → u w ≡ v w

-- a report says yes in its fourth line exactly if that is the outcome
abbrev pub FourthLineShowsOutcome : Type 0
FourthLineShowsOutcome = (text output : List ℕ) (outcome : Outcome) → IsReportOf text output outcome →
    (FourthLineSaysYes output → outcome ≡ Yes) × (outcome ≡ Yes → FourthLineSaysYes output)

-- and the fourth line is that of the lines of the output
abbrev pub SaysYesMeansFourthLine : Type 0
SaysYesMeansFourthLine = (output : List ℕ) →
    FourthLineSaysYes output ↔ (slice_get (lines_of output) 3 ≡ Some (codes "verdict yes"))

-- a text says one circuit and one layout at most
abbrev pub SaysOneDesign : Type 0
SaysOneDesign = (text : List ℕ) (circuit circuit' : List CircuitLine) (layout layout' : Pattern) →
    SaysDesign text circuit layout → SaysDesign text circuit' layout' →
    (circuit ≡ circuit') × (layout ≡ layout')

-- and the lines of one certificate
abbrev pub SaysOneCertificate : Type 0
SaysOneCertificate = (text : List ℕ) (circuit circuit' : List CircuitLine) (layout layout' : Pattern)
    (certificate certificate' : List CertificateLine) →
    SaysBundle text circuit layout certificate → SaysBundle text circuit' layout' certificate' →
    certificate ≡ certificate'

-- In a text that is not refused, each line of the circuit and of the layout is good after those before it, and has its
-- one spelling.
abbrev pub UnrefusedDesignIsGood : Type 0
UnrefusedDesignIsGood = (text output : List ℕ) (outcome : Outcome) (circuit : List CircuitLine) (layout : Pattern) →
    IsReportOf text output outcome → outcome ≢ Refused →
    SaysDesign text circuit layout → IsGoodDesign text circuit layout
