-- Laws of the certificate section, and of jobs
use Rattle.std.specs.Prelude.{◌≡◌, ℕ, ℤ, ◌+◌, ◌<◌, ◌≤◌, ◌%◌, ◌&&◌, false, Contains, IsTrue, List, [], ◌∷◌, ◌++◌, None}
use Rattle.std.specs.Prelude.{Some, length, slice_get, take, drop, Ok, Option, nat_le, ◌||◌}
use Rattle.std.specs.List.{All, flat_map}
use Rattle.section_text.specs.Words.{lines_of}
use Rattle.section_text.specs.Codes.{code_if, or_else}
use Rattle.section_text.specs.declared.code.RefusalCode.{RefusalCode}
use Rattle.section_text.specs.declared.code.RefusalCode.TheVariants.{MisplacedBox, NoForm, PastLimit, SomethingMissing}
use Rattle.section_text.specs.declared.limits.Limits.{Limits}
use Rattle.section_text.specs.declared.limits.Limits.TheVariants.{First, Second}
use Rattle.bbm_rule.specs.declared.block.Box2.{Box2}
use Rattle.section_text.specs.Section.{section_of, with_line_feed}
use Rattle.bbm_rule.specs.Boxes.{in_box, in_halo}
use Rattle.module_box.specs.Schedules.{signal_at}
use Rattle.certificate_lines.specs.Entries.{ModuleLines, Setting, areas, edges, halos, last_module, modules_of}
use Rattle.certificate.specs.Grammars.{CertView, certificate_grammar, certificate_section}
use Rattle.certificate.specs.Jobs.{line_signals}
use Rattle.certificate_lines.specs.Modules.{AreModules}
use Rattle.certificate_lines.specs.Rules.{end_fault, entry_fault, is_bad_box_side, is_last_module_incomplete}
use Rattle.certificate_lines.specs.Rules.{is_odd_corner_or_outside, overlaps_earlier_box}
use Rattle.certificate_lines.specs.Versions.{is_halo_line}
use Rattle.certificate_lines.specs.Versions.{AreGoodLines, has_nonlocal_edge_wire_beside, is_haloless_version}
use Rattle.certificate_lines.specs.Versions.{modules_by_version, with_halo_lines, without_halo_lines}
use Rattle.certificate_lines.specs.declared.certificate_line.CertificateLine.TheVariants.{Module}
use Rattle.certificate_lines.specs.declared.certificate_line.CertificateLine.{CertificateLine}
use Rattle.certificate.specs.Text.{certificate_text}
use Rattle.certificate.specs.Arrivals.{AreOnTime, IsTimeLineTrue}
use Rattle.certificate.specs.Times.{all_stops, are_all_timings_obeyed, delay_and_meet_lines, first_seen_time}
use Rattle.certificate.specs.Times.{last_seen_time, stop_times_of_wire}
use Rattle.certificate_lines.specs.declared.certificate_line.StopLine.{StopLine}
use Rattle.circuit.specs.Meaning.{Circuit}

-- the text of a certificate that is read is the text of the lines that it is read from
abbrev pub PrintsWhatIsRead : Type 0
PrintsWhatIsRead = (l : Limits) (g : Setting) (n : ℕ) (ls : List (List ℕ)) (c : CertView) →
    section_of (certificate_grammar l g) n ls ≡ Ok (certificate_section c) →
    flat_map with_line_feed (take (length c.entries + 2) ls) ≡ certificate_text c

-- and it is read as the same certificate again, wherever it is
abbrev pub ReadsWhatIsPrinted : Type 0
ReadsWhatIsPrinted = (l : Limits) (g : Setting) (text : List ℕ) (from n m : ℕ) (c : CertView) →
    section_of (certificate_grammar l g) n (drop from (lines_of text)) ≡ Ok (certificate_section c) →
    section_of (certificate_grammar l g) m (lines_of (certificate_text c)) ≡ Ok (certificate_section c)

-- the first time of a wire is the least of the times of its stops
abbrev pub FirstSeenTimeIsLeast : Type 0
FirstSeenTimeIsLeast = (c : Circuit) (ss : List StopLine) (w t : ℕ) → first_seen_time c ss w ≡ Some t →
    Contains (stop_times_of_wire c ss w) t × All (λ u. t ≤ u) (stop_times_of_wire c ss w)

-- the last one is the greatest
abbrev pub LastSeenTimeIsGreatest : Type 0
LastSeenTimeIsGreatest = (c : Circuit) (ss : List StopLine) (w t : ℕ) → last_seen_time c ss w ≡ Some t →
    Contains (stop_times_of_wire c ss w) t × All (λ u. u ≤ t) (stop_times_of_wire c ss w)

-- what each line says of its gate is right
abbrev pub TimeLinesAreTrue : Type 0
TimeLinesAreTrue = (c : Circuit) (ms : List ModuleLines) →
    All (IsTimeLineTrue c (all_stops ms)) (delay_and_meet_lines c ms)

-- if all rules are kept, each delay takes as many steps as it says, and for each gate there is a time at which its
-- inputs meet
abbrev pub ObeyedLinesAreOnTime : Type 0
ObeyedLinesAreOnTime = (c : Circuit) (ms : List ModuleLines) →
    IsTrue (are_all_timings_obeyed (delay_and_meet_lines c ms)) →
    AreOnTime c (all_stops ms)

-- if no edge line names a wire that a module beside it lacks, the modules of either version are modules of version 1
abbrev pub BothVersionsGiveModules : Type 0
BothVersionsGiveModules = (version : ℕ) (g : Setting) (ms : List ModuleLines) → AreModules g ms →
    (is_haloless_version version && has_nonlocal_edge_wire_beside g ms) ≡ false →
    AreModules g (modules_by_version version g ms)

-- There, at an odd time below the steps, a cell of the halo of a module carries what the edge lines of the module that
-- has it say.
abbrev pub HaloCarriesOwnersEdge : Type 0
HaloCarriesOwnersEdge = (g : Setting) (ms : List ModuleLines) → AreModules g ms →
    (i k : ℕ) (m owner : ModuleLines) (t : ℕ) (x y : ℤ) → slice_get ms i ≡ Some m → slice_get ms k ≡ Some owner →
    t % 2 ≡ 1 → t < g.size.steps →
    IsTrue (in_halo m.area x y) → IsTrue (in_box owner.area x y) →
    signal_at (line_signals g.circuit (halos (with_halo_lines g ms m))) t x y
    ≡ signal_at (line_signals g.circuit (edges owner)) t x y

-- the lines between a header and an end are good, and the end after them
pub record AreGoodSectionLines (g : Setting) (es : List CertificateLine) : Type 0 where
  pub lines : AreGoodLines g [] es
  pub end : end_fault g es ≡ None

-- good lines are good without the halo lines
abbrev pub HalolessLinesStayGood : Type 0
HalolessLinesStayGood = (g : Setting) (es : List CertificateLine) → AreGoodSectionLines g es →
    AreGoodSectionLines g (without_halo_lines es)

-- each line passes the tests of a section of this version after those before it
abbrev pub AreFaultlessLines : Limits → Setting → ℕ → List CertificateLine → List CertificateLine → Type 0
AreFaultlessLines l g version before [] = Unit {0}
AreFaultlessLines l g version before (i ∷ es) =
    ((certificate_grammar l g).item_fault version before i ≡ None) × AreFaultlessLines l g version (before ++ i ∷ []) es

-- the lines are what a section of this version has between its header and its end
pub record IsSectionOf (l : Limits) (g : Setting) (version : ℕ) (es : List CertificateLine) : Type 0 where
  pub header : (certificate_grammar l g).header_fault version ≡ None
  pub lines : AreFaultlessLines l g version [] es
  pub end : (certificate_grammar l g).end_fault version es ≡ None

-- So a section of version 1 is one of version 2 without its halo lines, if each module knows the wires of the edge
-- lines beside it.
abbrev pub HalolessSectionIsVersionTwo : Type 0
HalolessSectionIsVersionTwo = (l : Limits) (g : Setting) (es : List CertificateLine) → IsSectionOf l g 1 es →
    has_nonlocal_edge_wire_beside g (modules_of es) ≡ false →
    IsSectionOf l g 2 (without_halo_lines es)

-- ---- limits

-- With the first limits, the code of a `module` line after these lines: at most 1024 modules.
abbrev pub first_limits_module_code : Setting → List CertificateLine → Box2 → Option RefusalCode
first_limits_module_code g before b =
    or_else (code_if (is_last_module_incomplete g (last_module before)) SomethingMissing)
    (or_else (code_if (is_bad_box_side b.w || is_bad_box_side b.h || nat_le 1024 (length (modules_of before)))
    PastLimit)
    (or_else (code_if (is_odd_corner_or_outside g.size b) MisplacedBox)
    (code_if (overlaps_earlier_box (areas (modules_of before)) b) MisplacedBox)))

-- and of any line
abbrev pub first_limits_entry_fault : Setting → List CertificateLine → CertificateLine → Option RefusalCode
first_limits_entry_fault g before (Module b) = first_limits_module_code g before b
first_limits_entry_fault g before i = entry_fault g before i

-- with the first limits a line is tested as in a text without the line `limits 2`
abbrev pub FirstLimitsAreUnchanged : Type 0
FirstLimitsAreUnchanged = (g : Setting) (version : ℕ) (before : List CertificateLine) (i : CertificateLine) →
    (certificate_grammar First g).item_fault version before i
    ≡ or_else (code_if (is_haloless_version version && is_halo_line i) NoForm) (first_limits_entry_fault g before i)

-- a line that passes the first limits passes the second ones
abbrev pub SecondLimitsAreWider : Type 0
SecondLimitsAreWider = (g : Setting) (version : ℕ) (before : List CertificateLine) (i : CertificateLine) →
    (certificate_grammar First g).item_fault version before i ≡ None →
    (certificate_grammar Second g).item_fault version before i ≡ None
