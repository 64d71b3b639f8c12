-- The report on a plain text
use Rattle.headline.proofs.Imports.{Accepts, All, AnswersOrRefuses, AreOnTime, BelongTogether, Bundle, CertView}
use Rattle.headline.proofs.Imports.{CertificateLine, Circuit, CircuitLine, Err, Fault, HasRightStops, HasRimTouch}
use Rattle.headline.proofs.Imports.{IsCorrect, IsInputName, IsPlainModule, IsRead, IsRight, IsVerdict, LineMeans, List}
use Rattle.headline.proofs.Imports.{Local, Meet, ModuleLines, No, Ok, Outcome, Pattern, Refusal, Refused, ReportLine}
use Rattle.headline.proofs.Imports.{Result, Satisfies, SaysBundle, SaysDesign, SaysNoWith, SaysPlainCertificate}
use Rattle.headline.proofs.Imports.{SaysReport, Setting, Some, StopHolds, TouchesRim, Valuation, Verdict, Yes, []}
use Rattle.headline.proofs.Imports.{all_in_modules, all_stops, ap, arith, bundle_of, cases_Bool, certificate_text}
use Rattle.headline.proofs.Imports.{circuit_of, common_steps, cut_name_in, cuts, edge_in, edges, flat_map, inl, inr}
use Rattle.headline.proofs.Imports.{is_haloless_version, length, map, meant_old, modules_in, modules_of, netlist_of}
use Rattle.headline.proofs.Imports.{option_map, read_layout-names, refl, report_text, setting_of, sha256, slice_get}
use Rattle.headline.proofs.Imports.{slice_get-map, stop_in, stops_meant, subst, sym, verdict_outcome, with_halo_lines}
use Rattle.headline.proofs.Imports.{ℕ, ◌∙◌, ◌∷◌, ◌≡◌}
use Rattle.lemmas.proofs.Common.{Global, Vec}
use Rattle.certificate_lines.specs.Entries.{stops}
use Rattle.certificate_lines.specs.Versions.{edge_lines_beside, sorted_border_lines, modules_by_version}
use Rattle.certificate.proofs.FullModules.{meant_new, other_lines, stop_lines}
use Rattle.soundness.proofs.EarliestLines.{earliest_is_real}
use Rattle.headline.specs.Plain.{IsWrongIfPlain, IsWrongText}
use Rattle.headline.specs.ReportLines.{IsEarliestReportLineReal, LinesHaveMeaningIfPlain, LinesHaveMeaning}
use Rattle.headline.specs.PlainLaws.{LinesOfNoHaveMeaning, PlainNoMeansWrongOrRimLive, PlainTextIsDecided}
use Rattle.headline.specs.PlainLaws.{YesKeepsOffRim}
use Rattle.core_book.specs.declared.verdict.ReportLine.TheVariants.{Keep, Delay}
use Rattle.soundness.specs.FirstFaults.{IsModuleAssignmentOf, IsEarliestLine, IsRealFault}
use Rattle.soundness.specs.HeadlineLaws.{HasInputNames}
use Rattle.soundness.specs.PlainCertificates.{IsWrongDesign}
use Rattle.soundness.specs.OnTime.{AreStopsTrueAndOnTime}
use Rattle.soundness.proofs.PlainCertificates.{plain_no, plain_report_lines}
use Rattle.soundness.proofs.WholeRuns.{off_rim}
use Rattle.soundness.proofs.YesMeansCorrect.{bundle_read}
use Rattle.headline.proofs.Designs.{one_certificate, one_design}
use Rattle.headline.proofs.YesIsRight.{bundle_good, by_outcome, certificate_faultless, known, yes_has_right_stops}
use Rattle.headline.proofs.Printed.{printed_is_read}
use Rattle.headline.proofs.YesIsPrinted.{yes_is_right}
use Rattle.meaning.specs.Design.{text_limits}
use Rattle.core_book.specs.declared.verdict.Verdict.TheVariants as verdict

-- ---- a plain module is plain in either version

full_plain : (g : Setting) (ms : List ModuleLines) (lines : List CircuitLine) (p : Pattern) (m : ModuleLines) →
    IsPlainModule lines p m → IsPlainModule lines p (with_halo_lines g ms m)
unfolding with_halo_lines
full_plain g ms lines p m plain = record {
  box = plain.box;
  inputs = subst (All (IsInputName lines))
      (sym (other_lines cut_name_in (record { halo = λ e. refl; stop = λ s. refl }) m.lines
      (sorted_border_lines (edge_lines_beside g ms m.area))))
      plain.inputs;
  inverses = grind (arith, common_steps, other_lines);
  no_edge = other_lines edge_in (record { halo = λ e. refl; stop = λ s. refl }) m.lines
      (sorted_border_lines (edge_lines_beside g ms m.area)) ∙ plain.no_edge;
}

-- ---- what a module says, and what it means

-- both have the same cuts, edge lines and stops
record HaveSameLines (full m : ModuleLines) : Type 0 where
  cuts_same : cuts full ≡ cuts m
  edges_same : edges full ≡ edges m
  stops_same : stops full ≡ stops m

with_halos_same : (g : Setting) (ms : List ModuleLines) (m : ModuleLines) → HaveSameLines (with_halo_lines g ms m) m
unfolding with_halo_lines
with_halos_same g ms m = grind (arith, common_steps, other_lines, stop_lines)

-- the module that module i means
record MeansModule (version : ℕ) (g : Setting) (ms : List ModuleLines) (i : ℕ) (m : ModuleLines) : Type 0 where
  full : ModuleLines
  numbered : slice_get (modules_by_version version g ms) i ≡ Some full
  same : HaveSameLines full m

means_module : (version : ℕ) (g : Setting) (ms : List ModuleLines) (i : ℕ) (m : ModuleLines) →
    slice_get ms i ≡ Some m → MeansModule version g ms i m
means_module version g ms i m at = elim (cases_Bool (is_haloless_version version)) [
  | inl new ↦ record {
    full = with_halo_lines g ms m;
    numbered = ap (λ ns. slice_get ns i) (meant_new version g ms new) ∙ slice_get-map (with_halo_lines g ms) ms i
        ∙ ap (option_map (with_halo_lines g ms)) at;
    same = with_halos_same g ms m;
  }
  | inr old ↦ record {
    full = m;
    numbered = ap (λ ns. slice_get ns i) (meant_old version g ms old) ∙ at;
    same = record { cuts_same = refl; edges_same = refl; stops_same = refl };
  }
]

real_same : (lines : List CircuitLine) (p : Pattern) (full m : ModuleLines) (inputs v : Valuation) (f : Fault) →
    HaveSameLines full m → IsRealFault lines p full inputs v f → IsRealFault lines p m inputs v f
real_same lines p full m inputs v f same real = grind (arith, common_steps)

assignment_same : (c : Circuit) (full m : ModuleLines) (v : Valuation) (a : ℕ) → HaveSameLines full m →
    IsModuleAssignmentOf c m v a → IsModuleAssignmentOf c full v a
assignment_same c full m v a same has k name at = has k name (sym (ap (λ ns. slice_get ns k) same.cuts_same) ∙ at)

assignment_back : (c : Circuit) (full m : ModuleLines) (v : Valuation) (a : ℕ) → HaveSameLines full m →
    IsModuleAssignmentOf c full v a → IsModuleAssignmentOf c m v a
assignment_back c full m v a same has k name at = has k name (ap (λ ns. slice_get ns k) same.cuts_same ∙ at)

line_same : (lines : List CircuitLine) (p : Pattern) (full m : ModuleLines) (l : ReportLine) → HaveSameLines full m →
    LineMeans lines p full l → LineMeans lines p m l
line_same lines p full m (Local i f) same shown = record {
  inputs = shown.inputs;
  under = assignment_back (circuit_of lines) full m shown.inputs f.assignment same shown.under;
  values = shown.values;
  satisfied = shown.satisfied;
  real = real_same lines p full m shown.inputs shown.values f same shown.real;
  on_rim = shown.on_rim;
  wrong_stop = λ e held. shown.wrong_stop e (subst (All (StopHolds (circuit_of lines) p)) (sym same.stops_same) held);
}
line_same lines p full m (Keep i f) same lacks = grind (arith, common_steps, assignment_back)
line_same lines p full m (Delay gate wanted gap) same h = grind (arith, common_steps)
line_same lines p full m (Meet gate at) same h = grind (arith, common_steps)
line_same lines p full m _ same h = h

all_same : (lines : List CircuitLine) (p : Pattern) (full m : ModuleLines) (ls : List ReportLine) →
    HaveSameLines full m → All (LineMeans lines p full) ls → All (LineMeans lines p m) ls
all_same lines p full m ls same all k d lt = line_same lines p full m _ same (all k d lt)

-- the one module that the lines mean
record MeansPlain (version : ℕ) (g : Setting) (ms : List ModuleLines) (lines : List CircuitLine) (p : Pattern)
    (m : ModuleLines) : Type 0 where
  one : ModuleLines
  alone : modules_by_version version g ms ≡ one ∷ []
  plain : IsPlainModule lines p one
  same : HaveSameLines one m

means_plain : (version : ℕ) (g : Setting) (ms : List ModuleLines) (lines : List CircuitLine) (p : Pattern)
    (m : ModuleLines) → ms ≡ m ∷ [] → IsPlainModule lines p m → MeansPlain version g ms lines p m
means_plain version g ms lines p m is plain = elim (cases_Bool (is_haloless_version version)) [
  | inl new ↦ record {
    one = with_halo_lines g ms m;
    alone = meant_new version g ms new ∙ ap (map (with_halo_lines g ms)) is;
    plain = full_plain g ms lines p m plain;
    same = with_halos_same g ms m;
  }
  | inr old ↦ grind (arith, common_steps, meant_old)
]

-- ---- a report of a bundle

record IsNo (v : Verdict) : Type 0 where
  lines : Vec ReportLine Global
  is : v ≡ verdict.No lines

is_no : (v : Verdict) → No ≡ verdict_outcome v → IsNo v
is_no verdict.Yes e = absurd cc
is_no (verdict.No lines) e = record { lines = lines; is = refl }

module _ (text : List ℕ) (b : Bundle) (output : List ℕ) (outcome : Outcome) (reads : bundle_of text ≡ Ok b)
    (says : SaysReport b output outcome) where
  abbrev c : CertView
  c = says.certificate

  read : IsRead c c.layout.size
  read = known text b output outcome reads says

  together : BelongTogether c.circuit c.layout (modules_in c) says.is_verdict.jobs
  together = bundle_read c c.layout.size says.is_verdict.jobs read says.is_verdict.are_jobs

  named : HasInputNames c.circuit c.layout
  named = read_layout-names c.circuit c.layout read.inputs read.named

  -- the text says the circuit and the layout of the certificate
  said : SaysBundle text c.circuit c.layout b.entries
  said = grind (arith, common_steps, (bundle_good text b reads))

  same_design : (circuit : List CircuitLine) (layout : Pattern) → SaysDesign text circuit layout →
      (circuit ≡ c.circuit) × (layout ≡ c.layout)
  same_design circuit layout d = one_design text circuit c.circuit layout c.layout d said.design

  right_correct : IsRight text → IsCorrect c.circuit c.layout
  right_correct r =
      grind (arith, common_steps, (same_design r.circuit r.layout (printed_is_read text r.circuit r.layout r.begins)))

  touch_of : HasRimTouch text → TouchesRim c.circuit c.layout
  touch_of r =
      let same = same_design r.circuit r.layout r.says in
      subst (λ cs. TouchesRim cs c.layout) same.0 (subst (λ p. TouchesRim r.circuit p) same.1 r.touches)

  own_stops : all_stops (modules_in c) ≡ flat_map stop_in b.entries
  own_stops =
      stops_meant c.version (setting_of c.circuit c.layout) (modules_of c.entries) ∙
      ap (λ (es : List CertificateLine). all_stops (modules_of es)) says.its_own.entries
      ∙ all_in_modules (text_limits text) (setting_of b.circuit c.layout) b.version b.entries
      (certificate_faultless text b c.layout reads says.its_own.layout)

  stops_on_time : HasRightStops text → AreStopsTrueAndOnTime (circuit_of c.circuit) c.layout (modules_in c)
  stops_on_time r =
      let same = same_design r.circuit r.layout r.says.design in
      let lines : r.certificate ≡ b.entries = one_certificate text r.circuit c.circuit r.layout c.layout r.certificate
      b.entries r.says said in
      let ss : flat_map stop_in r.certificate ≡ all_stops (modules_in c) = ap (flat_map stop_in) lines ∙
      sym own_stops in
      record {
        stops = grind (arith, common_steps);
        times = subst (AreOnTime (circuit_of c.circuit)) ss
            (subst (λ cs. AreOnTime (circuit_of cs) (flat_map stop_in r.certificate)) same.0 r.on_time);
      }

  -- ---- a yes

  accepts : says.verdict ≡ verdict.Yes → Accepts (setting_of c.circuit c.layout) (modules_in c) says.is_verdict.jobs
  unfolding IsVerdict
  accepts is = grind (arith, common_steps)

  no_touch : says.verdict ≡ verdict.Yes → ¬ HasRimTouch text
  no_touch is r = grind (arith, common_steps, off_rim, named, together, accepts, touch_of)

  -- ---- a no

  wrong_text : (m : ModuleLines) → modules_in c ≡ m ∷ [] → IsWrongDesign c.circuit c.layout m → IsWrongText text
  wrong_text m alone (inl incorrect) = inl (λ r. incorrect (right_correct r))
  wrong_text m alone (inr (inl late)) = grind (arith, common_steps, stops_on_time)
  wrong_text m alone (inr (inr touch)) = inr (inr (record {
    circuit = c.circuit;
    layout = c.layout;
    says = said.design;
    touches = touch;
  }))

  its_plain : (r : SaysPlainCertificate text) →
      MeansPlain c.version (setting_of c.circuit c.layout) (modules_of c.entries) c.circuit c.layout r.one
  its_plain r =
      let same = same_design r.circuit r.layout r.says.design in
      let lines : r.certificate ≡ b.entries = one_certificate text r.circuit c.circuit r.layout c.layout r.certificate
      b.entries r.says said in
      grind (arith, common_steps, means_plain)

  wrong : No ≡ outcome → IsWrongIfPlain text
  wrong is r =
      let no = is_no says.verdict (is ∙ says.ends) in
      let it = its_plain r in
      let jobs = says.is_verdict.jobs in
      let g = setting_of c.circuit c.layout in
      wrong_text it.one it.alone (plain_no c.circuit c.layout it.one jobs no.lines named
      (subst (λ ms. BelongTogether c.circuit c.layout ms jobs) it.alone together) it.plain
      (subst (λ ms. IsVerdict g ms jobs (verdict.No no.lines)) it.alone
      (subst (λ v. IsVerdict g (modules_in c) jobs v) no.is says.is_verdict.judged)))

  -- ---- its lines

  module _ (is : No ≡ outcome) where
    its_no : IsNo says.verdict
    its_no = is_no says.verdict (is ∙ says.ends)

    judged : IsVerdict (setting_of c.circuit c.layout) (modules_in c) says.is_verdict.jobs (verdict.No its_no.lines)
    judged = grind (arith, common_steps, its_no)

    spelled : SaysNoWith output its_no.lines.items
    unfolding report_text
    spelled = record {
      digest = sha256 (certificate_text c);
      modules = length (modules_of c.entries);
      spelled = says.says ∙ ap (report_text c) its_no.is;
    }

    -- what is said of the earliest line, of a design and the lines of a certificate
    abbrev Earliest : List CircuitLine → Pattern → List CertificateLine → Type 0
    Earliest circuit layout certificate = (i : ℕ) (m : ModuleLines) (f : Fault) (inputs v : Valuation) →
        IsEarliestLine its_no.lines.items i f → slice_get (modules_of certificate) i ≡ Some m →
        Satisfies (netlist_of circuit) inputs v → IsModuleAssignmentOf (circuit_of circuit) m v f.assignment →
        IsRealFault circuit layout m inputs v f

    own_earliest : Earliest c.circuit c.layout c.entries
    own_earliest i m f inputs v first at s has =
        let own : MeansModule c.version (setting_of c.circuit c.layout) (modules_of c.entries) i m =
        means_module c.version (setting_of c.circuit c.layout) (modules_of c.entries) i m at in
        real_same c.circuit c.layout own.full m inputs v f own.same
        (earliest_is_real c.circuit c.layout (modules_in c) says.is_verdict.jobs its_no.lines inputs v i own.full f
        named
        together judged first own.numbered s
        (assignment_same (circuit_of c.circuit) own.full m v f.assignment own.same has))

    earliest : IsEarliestReportLineReal text its_no.lines.items
    earliest circuit layout certificate r =
        let same = same_design circuit layout r.design in
        let lines : certificate ≡ b.entries =
        one_certificate text circuit c.circuit layout c.layout certificate b.entries r said in
        subst (λ cs. Earliest cs layout certificate) (sym same.0)
        (subst (λ p. Earliest c.circuit p certificate) (sym same.1)
        (subst (Earliest c.circuit c.layout) (says.its_own.entries ∙ sym lines) own_earliest))

    meant_lines : LinesHaveMeaningIfPlain text its_no.lines.items
    meant_lines r =
        let same = same_design r.circuit r.layout r.says.design in
        let it = its_plain r in
        let jobs = says.is_verdict.jobs in
        let g = setting_of c.circuit c.layout in
        let all : All (LineMeans c.circuit c.layout it.one) its_no.lines.items =
        plain_report_lines c.circuit c.layout it.one jobs its_no.lines named
        (subst (λ ms. BelongTogether c.circuit c.layout ms jobs) it.alone together) it.plain
        (subst (λ ms. IsVerdict g ms jobs (verdict.No its_no.lines)) it.alone judged) in
        subst (λ cs. All (LineMeans cs r.layout r.one) its_no.lines.items) (sym same.0)
        (subst (λ p. All (LineMeans c.circuit p r.one) its_no.lines.items) (sym same.1)
        (all_same c.circuit c.layout it.one r.one its_no.lines.items it.same all))

    tells : LinesHaveMeaning text output
    tells = record { lines = its_no.lines.items; says = spelled; earliest = earliest; plain = meant_lines }

-- ---- of texts

not_refused : No ≡ Refused → ⊥
not_refused e = cc

by_read : (text output : List ℕ) (read : Result Bundle Refusal) → bundle_of text ≡ read →
    AnswersOrRefuses SaysReport read output No → IsWrongIfPlain text
by_read text output (Ok b) e says = wrong text b output No e says refl
by_read text output (Err refusal) e told = absurd (not_refused told.1)

pub no_is_wrong : PlainNoMeansWrongOrRimLive
no_is_wrong text output says = by_read text output (bundle_of text) refl says

pub yes_off_rim : YesKeepsOffRim
yes_off_rim text output says = by_outcome (¬ HasRimTouch text) text output (λ b e says is.
    no_touch text b output Yes e says is) (bundle_of text) refl says

contradicts : (text : List ℕ) → IsWrongText text → IsRight text → HasRightStops text → ¬ HasRimTouch text → ⊥
contradicts text (inl incorrect) right stops off = incorrect right
contradicts text (inr (inl late)) right stops off = late stops
contradicts text (inr (inr touch)) right stops off = off touch

pub plain_is_decided : PlainTextIsDecided
plain_is_decided text output Yes plain says some =
    grind (arith, common_steps, yes_is_right, yes_has_right_stops, yes_off_rim)
plain_is_decided text output No plain says some =
    ((λ e. absurd cc), (λ is. absurd (contradicts text (no_is_wrong text output says plain) is.0 is.1 is.2)))
plain_is_decided text output Refused plain says some = absurd (some refl)

told : (text output : List ℕ) (read : Result Bundle Refusal) → bundle_of text ≡ read →
    AnswersOrRefuses SaysReport read output No → LinesHaveMeaning text output
told text output (Ok b) e says = tells text b output No e says refl
told text output (Err refusal) e answer = absurd (not_refused answer.1)

pub no_lines_tell : LinesOfNoHaveMeaning
no_lines_tell text output says = told text output (bundle_of text) refl says
