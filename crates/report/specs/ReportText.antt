-- The output for a bundle: the line for its refusal, or the report on its certificate
use Rattle.std.specs.Prelude.{ℕ, List, [], ◌∷◌, ◌++◌, length, codes, Option, Some, None}
use Rattle.std.specs.Fmt.{decimal, signed_decimal}
use Rattle.std.specs.List.{flat_map}
use Rattle.hex.specs.Hex.{encode_lower}
use Rattle.sha2.specs.Sha256.{sha256}
use Rattle.section_text.specs.Spelling.{line_text}
use Rattle.section_text.specs.declared.fault.Refusal.{Refusal}
use Rattle.circuit.specs.Bridge.{circuit_of}
use Rattle.certificate_lines.specs.Entries.{modules_of}
use Rattle.certificate.specs.Grammars.{CertView, modules_in}
use Rattle.certificate.specs.Text.{certificate_text}
use Rattle.certificate.specs.Times.{delay_and_meet_lines}
use Rattle.certificate.specs.declared.times.StopGap.{StopGap}
use Rattle.certificate.specs.declared.times.StopGap.TheVariants.{Steps, Missing, Before}
use Rattle.certificate.specs.declared.times.TimeLine.{TimeLine}
use Rattle.local_run.specs.declared.fault.Fault.{Fault}
use Rattle.local_run.specs.declared.fault.KeepFault.{KeepFault}
use Rattle.local_run.specs.declared.fault.Kind.{Kind}
use Rattle.local_run.specs.declared.fault.Kind.TheVariants.{Edge, Stop, End}
use Rattle.border_match.specs.declared.fault.BorderFault.{BorderFault}
use Rattle.core_book.specs.Verdicts.{timing_report_line}
use Rattle.core_book.specs.declared.verdict.ReportLine.{ReportLine}
use Rattle.core_book.specs.declared.verdict.ReportLine.TheVariants.{Local, Keep, Border, Unkept, Delay, Meet}
use Rattle.core_book.specs.declared.verdict.Verdict.{Verdict}
use Rattle.core_book.specs.declared.verdict.Verdict.TheVariants.{Yes, No}

-- the line for a refusal: `refused`, the line of the text, and the code
abbrev pub refusal_line : Refusal → List ℕ
refusal_line r = line_text (codes "refused") (decimal r.line ∷ decimal r.code ∷ [])

-- the word for a kind of fault
abbrev pub fault_kind_word : Kind → List ℕ
fault_kind_word Edge = codes "edge"
fault_kind_word Stop = codes "stop"
fault_kind_word End = codes "end"

-- a fault of a job: its kind, its time, its cell and its assignment
abbrev pub fault_words : Fault → List (List ℕ)
fault_words f = fault_kind_word f.kind ∷ decimal f.time ∷ signed_decimal f.cell.x ∷ signed_decimal f.cell.y
    ∷ decimal f.assignment ∷ []

-- a border fault: its time and its cell
abbrev pub border_fault_words : BorderFault → List (List ℕ)
border_fault_words f = decimal f.time ∷ signed_decimal f.cell.x ∷ signed_decimal f.cell.y ∷ []

-- how many steps a delay takes, if that can be said
abbrev pub gap_steps_word : StopGap → List ℕ
gap_steps_word (Steps m) = decimal m
gap_steps_word Missing = codes "missing"
gap_steps_word Before = codes "before"

-- when inputs meet, if they do
abbrev pub meeting_time_word : Option ℕ → List ℕ
meeting_time_word (Some t) = decimal t
meeting_time_word None = codes "differ"

-- a keep fault: its gate and its assignment
abbrev pub keep_fault_words : KeepFault → List (List ℕ)
keep_fault_words f = decimal f.gate ∷ decimal f.assignment ∷ []

-- the line for a fault of a module, for a gate that no module keeps, or for what stops say of a gate
abbrev pub report_line_text : ReportLine → List ℕ
report_line_text (Local m f) = line_text (codes "local") (decimal m ∷ fault_words f)
report_line_text (Keep m f) = line_text (codes "keep") (decimal m ∷ keep_fault_words f)
report_line_text (Border m f) = line_text (codes "border") (decimal m ∷ border_fault_words f)
report_line_text (Unkept gate) = line_text (codes "unkept") (decimal gate ∷ [])
report_line_text (Delay k n gap) = line_text (codes "delay") (decimal k ∷ decimal n ∷ gap_steps_word gap ∷ [])
report_line_text (Meet k at) = line_text (codes "meet") (decimal k ∷ meeting_time_word at ∷ [])

-- `yes` and then these lines of delays and meetings, or `no` and then the lines of the verdict
abbrev pub verdict_lines : List TimeLine → Verdict → List ℕ
verdict_lines times Yes = line_text (codes "verdict") (codes "yes" ∷ [])
    ++ flat_map (λ t. report_line_text (timing_report_line t)) times
verdict_lines times (No lines) = line_text (codes "verdict") (codes "no" ∷ []) ++ flat_map report_line_text lines.items

-- before the verdict: the version of reports, the certificate's digest in lower case, and how many modules it has
abbrev pub lines_before_verdict : List ℕ → ℕ → List ℕ
lines_before_verdict digest modules =
    line_text (codes "bbmcheck") (codes "1" ∷ []) ++ line_text (codes "certificate") (encode_lower digest ∷ [])
    ++ line_text (codes "modules") (decimal modules ∷ [])

-- the report on a certificate
unfoldable pub report_text : CertView → Verdict → List ℕ
report_text c v = lines_before_verdict (sha256 (certificate_text c)) (length (modules_of c.entries))
    ++ verdict_lines (delay_and_meet_lines (circuit_of c.circuit) (modules_in c)) v
