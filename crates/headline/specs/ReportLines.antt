-- The meaning of the lines of a report that says no, of texts and bytes.
--
-- Read before: Plain.antt; report/specs/ReportText.antt up to `lines_before_verdict` (how a line is spelled);
-- soundness/specs/FirstFaults.antt from `IsCellAsCertified` on, without the laws;
-- soundness/specs/PlainCertificates.antt from `LocalLineMeans` to `LineMeans`.
use Rattle.std.specs.Prelude.{◌≡◌, ℕ, List, [], ◌∷◌, ◌++◌, slice_get, Some, Option, codes}
use Rattle.std.specs.List.{All, flat_map}
use Rattle.circuit.specs.Bridge.{netlist_of, circuit_of}
use Rattle.circuit.specs.declared.circuit_line.CircuitLine.{CircuitLine}
use Rattle.pattern.specs.Layout.{Pattern}
use Rattle.certificate_lines.specs.Entries.{ModuleLines, modules_of}
use Rattle.certificate_lines.specs.declared.certificate_line.CertificateLine.{CertificateLine}
use Rattle.soundness.specs.PlainCertificates.{LineMeans}
use Rattle.headline.specs.Stops.{SaysBundle}
use Rattle.section_text.specs.Spelling.{line_text}
use Rattle.circuit.specs.Meaning.{Satisfies, Valuation}
use Rattle.local_run.specs.declared.fault.Fault.{Fault}
use Rattle.soundness.specs.FirstFaults.{IsModuleAssignmentOf, IsEarliestLine, IsRealFault}
use Rattle.core_book.specs.declared.verdict.ReportLine.{ReportLine}
use Rattle.report.specs.ReportText.{report_line_text, lines_before_verdict}
use Rattle.headline.specs.Plain.{SaysPlainCertificate}

-- the output is three opening lines, then `verdict no`, and then these lines as `report_line_text` spells them
pub record SaysNoWith (output : List ℕ) (lines : List ReportLine) : Type 0 where
  pub digest : List ℕ
  pub modules : ℕ
  pub spelled : output ≡ lines_before_verdict digest modules
      ++ (line_text (codes "verdict") (codes "no" ∷ []) ++ flat_map report_line_text lines)

-- The text says a circuit, a layout and a certificate. Then the earliest of these lines is real, whatever the inputs
-- and the values v of the wires for them. If v gives the module of the line the line's assignment, its fault is one of
-- the whole plane.
abbrev pub IsEarliestReportLineReal : List ℕ → List ReportLine → Type 0
IsEarliestReportLineReal text lines =
    (circuit : List CircuitLine) (layout : Pattern) (certificate : List CertificateLine) →
    SaysBundle text circuit layout certificate →
    (i : ℕ) (m : ModuleLines) (f : Fault) (inputs v : Valuation) → IsEarliestLine lines i f →
    slice_get (modules_of certificate) i ≡ Some m → Satisfies (netlist_of circuit) inputs v →
    IsModuleAssignmentOf (circuit_of circuit) m v f.assignment → IsRealFault circuit layout m inputs v f

-- if the text is plain, each of these lines means what `LineMeans` says
abbrev pub LinesHaveMeaningIfPlain : List ℕ → List ReportLine → Type 0
LinesHaveMeaningIfPlain text lines =
    (said : SaysPlainCertificate text) → All (LineMeans said.circuit said.layout said.one) lines

-- The meaning of an output of no for a text: the earliest of the lines after its fourth is real. If the text is plain,
-- each of them means something.
pub record LinesHaveMeaning (text output : List ℕ) : Type 0 where
  pub lines : List ReportLine
  pub says : SaysNoWith output lines
  pub earliest : IsEarliestReportLineReal text lines
  pub plain : LinesHaveMeaningIfPlain text lines

-- The bytes of a reader are known, and so are those of a writer before and after: P holds of what there was to read and
-- of what was written.
abbrev pub RelatesReadToWritten : (List ℕ → List ℕ → Type 0) → Option (List ℕ) → Option (List ℕ) → Option (List ℕ) →
    Type 0
RelatesReadToWritten P left written_bytes written_bytes' =
    (text before output : List ℕ) → left ≡ Some text → written_bytes ≡ Some before →
    written_bytes' ≡ Some (before ++ output) → P text output
