-- A text that is reported with a yes is right.
use Rattle.headline.proofs.Imports.{All, AnswersOrRefuses, AreFaultless, AreGoodAfter, AreGoodCircuitLines, AreOnTime}
use Rattle.headline.proofs.Imports.{Bundle, CertView, CertificateLine, CircuitLine, End, Err, FourthLineSaysYes}
use Rattle.headline.proofs.Imports.{HasRightStops, Header, IsCorrect, IsFaultless, IsGoodDesign, IsRead, IsReportOf}
use Rattle.headline.proofs.Imports.{IsVerdict, Item, JobView, LayoutHeader, LayoutLine, List, None, Ok, Option}
use Rattle.headline.proofs.Imports.{OutOfOrder, Outcome, Pattern, PortNameLists, Refusal, RefusalCode, Refused, Result}
use Rattle.headline.proofs.Imports.{SaysBundle, SaysDesign, SaysReport, Some, StopHolds, StopLine, Verdict, Yes, []}
use Rattle.headline.proofs.Imports.{all_in_modules, all_stops, ap, append-nil, append_assoc, ap₂, arith, bundle_of}
use Rattle.headline.proofs.Imports.{bundle_with_limits, bytes_after_last_line_feed, certificate_grammar}
use Rattle.headline.proofs.Imports.{circuit_grammar, circuit_of, circuit_text, common_steps, cond, consumed, defined}
use Rattle.headline.proofs.Imports.{drop, eqb, faultless_named, flat_map, flat_map-append, form_of, gates_are_ordered}
use Rattle.headline.proofs.Imports.{inputs_are_first, layout_grammar, layout_of, layout_section, layout_text, length}
use Rattle.headline.proofs.Imports.{limit_or_name_code, lines_of, modules_in, modules_of, nat_lt, netlist_of, or_else}
use Rattle.headline.proofs.Imports.{order_fault, parts_of, port_names_of, read_faultless, refl, report_text, section_of}
use Rattle.headline.proofs.Imports.{setting_of, stop_in, stops_meant, subst, sym, take, take-append-drop}
use Rattle.headline.proofs.Imports.{unconsumed_wire_code, verdict_outcome, with_line_feed, words_of, ℕ, ◌++◌, ◌+◌, ◌∙◌}
use Rattle.headline.proofs.Imports.{◌∷◌, ◌≡◌, ◌≢◌, ◌≤◌}
use Rattle.lemmas.proofs.Common.{ltb-false}
use Rattle.section_text.specs.Section.{refused_if_code, result_after_line, result_after_header, section_body_of}
use Rattle.circuit.specs.Text.{Line}
use Rattle.section_text.specs.Sections.{continue_after_section}
use Rattle.circuit.specs.Entries.{rank_of}
use Rattle.circuit.specs.Rules.{exceeds_text_limit, first_unconsumed, gate_count, last_rank}
use Rattle.circuit.proofs.Valuations.{at_most_one}
use Rattle.circuit.proofs.Bridging.{count_append}
use Rattle.circuit.proofs.Fitting.{entry_fits, no_gate_still, no_gate_yet}
use Rattle.circuit.proofs.Orders.{last_rank_push}
use Rattle.pattern.proofs.Added.{no_code}
use Rattle.soundness.proofs.YesMeansCorrect.{yes_means-correct, yes_means-on_time}
use Rattle.headline.specs.Laws.{FourthLineShowsOutcome, SaysCorrectDesign, UnrefusedDesignIsGood, YesHasOneValuation}
use Rattle.headline.specs.Laws.{YesMeansRightStops}
use Rattle.headline.proofs.OneAnswer.{layout_from}
use Rattle.headline.specs.RightInFull.{KeepsWireAndGateLimits}
use Rattle.headline.proofs.FewWires.{few_wires}
use Rattle.headline.proofs.Designs.{bundle_said, design_said, one_design}
use Rattle.headline.proofs.FourthLines.{refusal_says_none, says_yes, yes_says}
use Rattle.circuit.proofs.RoundTrip.{prints_what_is_read as circuit_printed}
use Rattle.pattern.proofs.RoundTrip.{prints_what_is_read as layout_printed}
use Rattle.section_text.specs.declared.limits.Limits.{Limits}
use Rattle.meaning.specs.Design.{front_text, section_lines, text_limits}
use Rattle.meaning.proofs.Fronts.{front_and_lines}
use Rattle.section_text.specs.Codes.{code_if}
use Rattle.section_text.specs.Limits.{limits_line_count}
use Rattle.section_text.specs.declared.code.RefusalCode.TheVariants.{PastLimit}
use Rattle.section_text.proofs.Codes.{both_none}
use Rattle.pattern.specs.Lines as lines
use Rattle.core_book.specs.declared.verdict.Verdict.TheVariants as verdict

-- ---- the lines of a circuit that is read are good

-- where the last line is an input, there is no gate
abbrev HasNoGateYet : List CircuitLine → Type 0
HasNoGateYet before = cond (eqb (last_rank before) 0) (gate_count before) 0 ≡ 0

record MoreGood (before rows : List CircuitLine) : Type 0 where
  pub more : List CircuitLine
  pub rows_are : rows ≡ before ++ more
  pub good : AreGoodAfter before more

still : (before : List CircuitLine) (r : CircuitLine) → last_rank before ≤ rank_of r.kind → HasNoGateYet before →
    HasNoGateYet (before ++ r ∷ [])
still before r h e = grind (arith, common_steps, count_append, last_rank_push, no_gate_still)

unless_ok : (n : ℕ) (o : Option RefusalCode) (r : Result (Unit {0} × List CircuitLine) Refusal)
    (y : Unit {0} × List CircuitLine) → refused_if_code n o r ≡ Ok y → (o ≡ None) × (r ≡ Ok y)
unless_ok n o r y h1 = grind (arith, common_steps)

line_good : (l : Limits) (words : List (List ℕ)) (ls : List (List ℕ)) (before : List CircuitLine) (n : ℕ)
    (rows : List CircuitLine) (o : Option Line) → form_of words ≡ o → HasNoGateYet before →
    result_after_line (circuit_grammar l) tt before n
    (λ i. section_body_of (circuit_grammar l) tt (before ++ i ∷ []) (n + 1) ls) o ≡ Ok (tt, rows) →
    ((i : CircuitLine) → HasNoGateYet (before ++ i ∷ []) →
    section_body_of (circuit_grammar l) tt (before ++ i ∷ []) (n + 1) ls ≡ Ok (tt, rows) →
    MoreGood (before ++ i ∷ []) rows) → MoreGood before rows
unfolding AreGoodAfter
line_good l words ls before n rows (Some (Item r)) f none e rec =
    let passed = unless_ok n (or_else (order_fault before r)
    (or_else (code_if (exceeds_text_limit l before r) PastLimit) (limit_or_name_code before r)))
    (section_body_of (circuit_grammar l) tt (before ++ r ∷ []) (n + 1) ls) (tt, rows) e in
    let codes = both_none (order_fault before r) _ passed.0 in
    let h : last_rank before ≤ rank_of r.kind =
    ltb-false (rank_of r.kind) (last_rank before)
    (no_code (nat_lt (rank_of r.kind) (last_rank before)) OutOfOrder codes.0) in
    let t = rec r (still before r h none) passed.1 in
    record {
      more = r ∷ t.more;
      rows_are = t.rows_are ∙ append_assoc before (r ∷ []) t.more;
      good = (
        record {
          adds = (both_none _ (limit_or_name_code before r) codes.1).1;
          fits = entry_fits words r f;
          inputs_first = no_gate_yet r.kind (last_rank before) (gate_count before) h none;
        },
        t.good,
      );
    }
line_good l words ls before n rows (Some End) f none e rec = grind (arith, common_steps, unless_ok, append-nil)
line_good l words ls before n rows _ f none e rec = absurd cc

body_good : (l : Limits) (ls : List (List ℕ)) (before : List CircuitLine) (n : ℕ) (rows : List CircuitLine) →
    HasNoGateYet before → section_body_of (circuit_grammar l) tt before n ls ≡ Ok (tt, rows) → MoreGood before rows
unfolding section_body_of
body_good l [] before n rows none e = absurd cc
body_good l (line ∷ ls) before n rows none e =
    line_good l (words_of line) ls before n rows (form_of (words_of line)) refl none e
    (λ i still e. body_good l ls (before ++ i ∷ []) (n + 1) rows still e)

header_good : (l : Limits) (ls : List (List ℕ)) (n : ℕ) (rows : List CircuitLine) (o : Option Line) →
    result_after_header (circuit_grammar l) n (λ k. section_body_of (circuit_grammar l) k [] (n + 1) ls) o
    ≡ Ok (tt, rows) → AreGoodCircuitLines rows
header_good l ls n rows (Some (Header k)) e =
    let t = body_good l ls [] (n + 1) rows refl
    (unless_ok n None (section_body_of (circuit_grammar l) tt [] (n + 1) ls) (tt, rows) e).1 in
    subst (AreGoodAfter []) (sym t.rows_are) t.good
header_good l ls n rows _ e = absurd cc

pub circuit_good : (l : Limits) (n : ℕ) (ls : List (List ℕ)) (h : Unit {0}) (rows : List CircuitLine) →
    section_of (circuit_grammar l) n ls ≡ Ok (h, rows) → AreGoodCircuitLines rows
unfolding section_of
circuit_good l n [] h rows e = absurd cc
circuit_good l n (line ∷ ls) h rows e = header_good l ls n rows (form_of (words_of line)) e

-- ---- the lines of a layout are good

pub laid_out : (l : Limits) (ports : Option PortNameLists) (s : LayoutHeader) (before parts : List LayoutLine) →
    AreFaultless (layout_grammar l ports) s before parts → lines.AreGoodAfter s before parts
unfolding lines.layout_line_fault lines.line_fault
laid_out l ports s before [] good = tt
laid_out l ports s before (part ∷ parts) good =
    grind (arith, common_steps, both_none, (laid_out l ports s (before ++ part ∷ []) parts good.1))

-- ---- the sections of a bundle

-- the circuit and the layout in their one spelling, and what follows
pub record BeginsWith (text : List ℕ) (circuit : List CircuitLine) (p : Pattern) : Type 0 where
  pub rest : List ℕ
  pub begins : text ≡ front_text (text_limits text) ++ (circuit_text circuit ++ (layout_text p ++ rest))

spelled : (l : Limits) (from : ℕ) (text : List ℕ) (circuit : List CircuitLine) (ports : Option PortNameLists) (n : ℕ)
    (p : Pattern) → section_of (circuit_grammar l) from (section_lines text) ≡ Ok (tt, circuit)
    → section_of (layout_grammar l ports) n (drop (length circuit + 2) (section_lines text)) ≡ Ok (layout_section p) →
    BeginsWith text circuit p
spelled l from text circuit ports n p first second =
    let k = length circuit + 2 in
    let later = drop k (section_lines text) in
    let m = length (parts_of p) + 2 in
    let after : List ℕ = flat_map with_line_feed (drop m later) in
    let split : flat_map with_line_feed (section_lines text) ≡ circuit_text circuit ++ (layout_text p ++ after) =
    ap (flat_map with_line_feed) (sym (take-append-drop k (section_lines text)))
    ∙ flat_map-append with_line_feed (take k (section_lines text)) later
    ∙ ap₂ (λ a b. a ++ b) (circuit_printed l from (section_lines text) circuit first)
    (ap (flat_map with_line_feed) (sym (take-append-drop m later))
    ∙ flat_map-append with_line_feed (take m later) (drop m later)
    ∙ ap (λ a. a ++ after) (layout_printed l ports n later p second)) in
    record {
      rest = after ++ bytes_after_last_line_feed text;
      begins = front_and_lines text
          ∙ ap (λ a. front_text (text_limits text) ++ (a ++ bytes_after_last_line_feed text)) split
          ∙ ap (λ a. front_text (text_limits text) ++ a)
          (append_assoc (circuit_text circuit) (layout_text p ++ after) (bytes_after_last_line_feed text)
          ∙ ap (λ a. circuit_text circuit ++ a) (append_assoc (layout_text p) after (bytes_after_last_line_feed text)));
    }

pub no_missing : (o : Option (List ℕ)) → unconsumed_wire_code o ≡ None → o ≡ None
no_missing o h1 = grind (arith, common_steps)

pub record IsReadBundle (text : List ℕ) (b : Bundle) : Type 0 where
  pub circuit : AreGoodCircuitLines b.circuit
  pub all_consumed : first_unconsumed (consumed b.circuit) (defined b.circuit) ≡ None
  pub few_wires : KeepsWireAndGateLimits (text_limits text) b.circuit
  pub layout : IsFaultless (layout_grammar (text_limits text) (Some (port_names_of b.circuit))) b.size b.parts
  pub says : (p : Pattern) → layout_section p ≡ (b.size, b.parts) → SaysDesign text b.circuit p
  pub begins : (p : Pattern) → layout_section p ≡ (b.size, b.parts) → BeginsWith text b.circuit p
  pub says_all : (p : Pattern) → layout_section p ≡ (b.size, b.parts) → SaysBundle text b.circuit p b.entries

-- what goes on with a value that was read, was read
pub record WentOn {H I : Type 0} {B : Type 0} (read : Result (H × List I) Refusal)
    (next : H → List I → Result B Refusal) (b : B) : Type 0 where
  pub header : H
  pub items : List I
  pub was : read ≡ Ok (header, items)
  pub then : next header items ≡ Ok b

pub went_on : {H I : Type 0} {B : Type 0} (read : Result (H × List I) Refusal) (next : H → List I → Result B Refusal)
    (b : B) → continue_after_section read next ≡ Ok b → WentOn read next b
went_on read next b h1 = grind (arith, common_steps)

abbrev pub past_circuit : List ℕ → Bundle → List (List ℕ)
past_circuit text b = drop (length b.circuit + 2) (section_lines text)

abbrev pub past_layout : List ℕ → Bundle → List (List ℕ)
past_layout text b = drop (length b.parts + 2) (past_circuit text b)

-- the three sections of a text are read one after the other, and no byte follows them
pub record AreSections (text : List ℕ) (b : Bundle) : Type 0 where
  pub circuit : section_of (circuit_grammar (text_limits text)) (limits_line_count (text_limits text))
      (section_lines text) ≡ Ok (tt, b.circuit)
  pub layout : section_of (layout_grammar (text_limits text) (Some (port_names_of b.circuit)))
      (limits_line_count (text_limits text) + (length b.circuit + 2)) (past_circuit text b) ≡ Ok (b.size, b.parts)
  pub certificate : section_of (certificate_grammar (text_limits text)
      (setting_of b.circuit (layout_of b.size b.parts)))
      (limits_line_count (text_limits text) + (length b.circuit + 2) + (length b.parts + 2)) (past_layout text b)
      ≡ Ok (b.version, b.entries)
  pub nothing_more : drop (length b.entries + 2) (past_layout text b) ≡ []
  pub ended : bytes_after_last_line_feed text ≡ []

pub in_sections : (text : List ℕ) (b : Bundle) → bundle_of text ≡ Ok b → AreSections text b
unfolding bundle_of bundle_with_limits
in_sections text b e = grind (arith, lines_of)

pub bundle_good : (text : List ℕ) (b : Bundle) → bundle_of text ≡ Ok b → IsReadBundle text b
bundle_good text b e =
    let r = in_sections text b e in
    let ports = Some (port_names_of b.circuit) in
    let l : Limits = text_limits text in
    let from : ℕ = limits_line_count l in
    let m : ℕ = from + (length b.circuit + 2) + (length b.parts + 2) in
    let setting = setting_of b.circuit (layout_of b.size b.parts) in
    record {
      circuit = circuit_good l from (section_lines text) tt b.circuit r.circuit;
      all_consumed = no_missing (first_unconsumed (consumed b.circuit) (defined b.circuit))
          (read_faultless (circuit_grammar l) from (section_lines text) tt b.circuit r.circuit).end;
      few_wires = few_wires l [] b.circuit (omega arith, omega arith)
          (read_faultless (circuit_grammar l) from (section_lines text) tt b.circuit r.circuit).each;
      layout = read_faultless (layout_grammar l ports) _ _ b.size b.parts r.layout;
      says = λ p same. design_said l from text b.circuit ports _ p r.circuit (r.layout ∙ ap Ok (sym same));
      begins = λ p same. spelled l from text b.circuit ports _ p r.circuit (r.layout ∙ ap Ok (sym same));
      says_all = λ p same. bundle_said l from text b.circuit ports _ p setting m b.version b.entries r.circuit
          (r.layout ∙ ap Ok (sym same))
          (subst (λ (q : LayoutHeader × List LayoutLine). section_of (certificate_grammar l setting) m
          (drop (length q.1 + 2) (past_circuit text b)) ≡ Ok (b.version, b.entries)) (sym same) r.certificate);
    }

-- and those of its certificate are good
pub certificate_faultless : (text : List ℕ) (b : Bundle) (p : Pattern) → bundle_of text ≡ Ok b →
    layout_section p ≡ (b.size, b.parts) →
    IsFaultless (certificate_grammar (text_limits text) (setting_of b.circuit p)) b.version b.entries
certificate_faultless text b p e same =
    subst (λ p. IsFaultless (certificate_grammar (text_limits text) (setting_of b.circuit p)) b.version b.entries)
    (layout_from p b.size b.parts same)
    (read_faultless (certificate_grammar (text_limits text) (setting_of b.circuit (layout_of b.size b.parts))) _ _
    b.version b.entries
    (in_sections text b e).certificate)

-- ---- the design of a text that is not refused

-- the one of a report is the one that the text says
own_design : (text : List ℕ) (b : Bundle) (output : List ℕ) (outcome : Outcome) (circuit : List CircuitLine)
    (layout : Pattern) → bundle_of text ≡ Ok b → SaysReport b output outcome →
    SaysDesign text circuit layout → IsGoodDesign text circuit layout
own_design text b output outcome circuit layout reads says said =
    let good = bundle_good text b reads in
    let c : CertView = says.certificate in
    let p : Pattern = c.layout in
    let same = says.its_own in
    let whole : IsFaultless (layout_grammar (text_limits text) (Some (port_names_of b.circuit))) p.size (parts_of p) =
    subst (λ (q : LayoutHeader × List LayoutLine).
    IsFaultless (layout_grammar (text_limits text) (Some (port_names_of b.circuit))) q.0 q.1)
    (sym same.layout) good.layout in
    let begins = good.begins p same.layout in
    let one = one_design text b.circuit circuit p layout (good.says p same.layout) said in
    grind (arith, common_steps, few_wires, both_none, laid_out)

by_read : (text output : List ℕ) (outcome : Outcome) (circuit : List CircuitLine) (layout : Pattern)
    (read : Result Bundle Refusal) → bundle_of text ≡ read → AnswersOrRefuses SaysReport read output outcome →
    outcome ≢ Refused → SaysDesign text circuit layout → IsGoodDesign text circuit layout
by_read text output outcome circuit layout (Ok b) e says some said =
    own_design text b output outcome circuit layout e says said
by_read text output outcome circuit layout (Err refusal) e told some said = absurd (some told.1)

pub good_designs : UnrefusedDesignIsGood
good_designs text output outcome circuit layout says some said =
    by_read text output outcome circuit layout (bundle_of text) refl says some said

-- ---- a yes

is_yes : (v : Verdict) → Yes ≡ verdict_outcome v → v ≡ verdict.Yes
is_yes v h1 = grind (arith, common_steps)

-- what is known of the certificate of a report
pub known : (text : List ℕ) (b : Bundle) (output : List ℕ) (outcome : Outcome) → bundle_of text ≡ Ok b →
    (says : SaysReport b output outcome) → IsRead says.certificate says.certificate.layout.size
known text b output outcome reads says =
    let good = bundle_good text b reads in
    let c : CertView = says.certificate in
    let same = says.its_own in
    let circuit : AreGoodCircuitLines c.circuit = subst AreGoodCircuitLines (sym same.circuit) good.circuit in
    let whole : IsFaultless (layout_grammar (text_limits text) (Some (port_names_of c.circuit))) c.layout.size
    (parts_of c.layout) =
    grind (arith, common_steps) in
    record {
      ordered = gates_are_ordered c.circuit circuit;
      same = refl;
      limits = (both_none _ _ whole.header).1;
      laid_out = laid_out (text_limits text) (Some (port_names_of c.circuit)) c.layout.size []
          (parts_of c.layout) whole.each;
      are_modules = says.is_verdict.good;
      inputs = inputs_are_first c.circuit circuit;
      named = faultless_named (text_limits text) (Some (port_names_of c.circuit)) c.layout.size
          (parts_of c.layout) whole;
    }

-- a text with the verdict yes is right
module _ (text : List ℕ) (b : Bundle) (output : List ℕ) (outcome : Outcome) (reads : bundle_of text ≡ Ok b)
    (says : SaysReport b output outcome) (is : says.verdict ≡ verdict.Yes) where
  abbrev c : CertView
  c = says.certificate

  abbrev p : Pattern
  p = c.layout

  abbrev jobs : List JobView
  jobs = says.is_verdict.jobs

  abbrev same_circuit : c.circuit ≡ b.circuit
  same_circuit = says.its_own.circuit

  accepted : IsVerdict (setting_of c.circuit p) (modules_in c) jobs verdict.Yes
  accepted = grind (arith, common_steps)

  judged_yes : SaysCorrectDesign text
  judged_yes = record {
    circuit = b.circuit;
    layout = p;
    says = (bundle_good text b reads).says p says.its_own.layout;
    correct = subst (λ (cs : List CircuitLine). IsCorrect cs p) same_circuit
        (yes_means-correct c p.size jobs (known text b output outcome reads says) says.is_verdict.are_jobs accepted);
  }

  -- the stops of the text are right
  judged_stops : HasRightStops text
  judged_stops =
      let right = yes_means-on_time c p.size jobs (known text b output outcome reads says) says.is_verdict.are_jobs
      accepted in
      let own : all_stops (modules_in c) ≡ flat_map stop_in b.entries =
      stops_meant c.version (setting_of c.circuit p) (modules_of c.entries)
      ∙ ap (λ (es : List CertificateLine). all_stops (modules_of es)) says.its_own.entries
      ∙ all_in_modules (text_limits text) (setting_of b.circuit p) b.version b.entries
      (certificate_faultless text b p reads says.its_own.layout) in
      record {
        circuit = b.circuit;
        layout = p;
        certificate = b.entries;
        says = (bundle_good text b reads).says_all p says.its_own.layout;
        stops = subst (λ (cs : List CircuitLine). All (StopHolds (circuit_of cs) p) (flat_map stop_in b.entries))
            same_circuit (subst (All (StopHolds (circuit_of c.circuit) p)) own right.stops);
        on_time = subst (λ (cs : List CircuitLine). AreOnTime (circuit_of cs) (flat_map stop_in b.entries)) same_circuit
            (subst (λ (ss : List StopLine). AreOnTime (circuit_of c.circuit) ss) own right.times);
      }

pub not_refused : Yes ≡ Refused → ⊥
not_refused e = cc

pub by_outcome : (P : Type 0) (text output : List ℕ) →
    ((b : Bundle) → bundle_of text ≡ Ok b → (says : SaysReport b output Yes) → says.verdict ≡ verdict.Yes → P) →
    (read : Result Bundle Refusal) → bundle_of text ≡ read → AnswersOrRefuses SaysReport read output Yes → P
by_outcome P text output judged (Ok b) e says = judged b e says (is_yes says.verdict says.ends)
by_outcome P text output judged (Err refusal) e told = absurd (not_refused told.1)

pub yes_is_right_as_read : (text output : List ℕ) → IsReportOf text output Yes → SaysCorrectDesign text
yes_is_right_as_read text output says =
    by_outcome (SaysCorrectDesign text) text output (λ b e. judged_yes text b output Yes e) (bundle_of text) refl says

pub yes_has_right_stops : YesMeansRightStops
yes_has_right_stops text output says =
    by_outcome (HasRightStops text) text output (λ b e. judged_stops text b output Yes e) (bundle_of text) refl says

-- ---- the fourth line

line_tells : (output : List ℕ) (outcome : Outcome) (read : Result Bundle Refusal) →
    AnswersOrRefuses SaysReport read output outcome →
    (FourthLineSaysYes output → outcome ≡ Yes) × (outcome ≡ Yes → FourthLineSaysYes output)
line_tells output outcome (Ok b) says = (
  λ line. says.ends ∙ ap verdict_outcome
      (says_yes says.certificate says.verdict (subst FourthLineSaysYes says.says line)),
  λ is.
      let v : says.verdict ≡ verdict.Yes = is_yes says.verdict (sym is ∙ says.ends) in
      subst FourthLineSaysYes (sym says.says)
      (subst (λ (w : Verdict). FourthLineSaysYes (report_text says.certificate w)) (sym v)
      (yes_says says.certificate)),
)
line_tells output outcome (Err refusal) told = grind (arith, common_steps, refusal_says_none, not_refused)

pub fourth_line-tells : FourthLineShowsOutcome
fourth_line-tells text output outcome says = line_tells output outcome (bundle_of text) says

pub by_line : (text output : List ℕ) (outcome : Outcome) → IsReportOf text output outcome → FourthLineSaysYes output →
    IsReportOf text output Yes
by_line text output outcome says line = grind (arith, common_steps, fourth_line-tells)

-- ---- there is one valuation

pub one_valuation : YesHasOneValuation
one_valuation text output circuit layout inputs u v says design fits fits' w below =
    let good = good_designs text output Yes circuit layout says not_refused design in
    at_most_one (netlist_of circuit) inputs u v (gates_are_ordered circuit good.circuit_lines) fits fits' w below
