-- Each small design has a plain text, and `check` decides the design by it
use Rattle.headline.proofs.Imports.{All, All-nil, AllByRecursion, AreFaultless, AreGoodAfter, AreLines, AreLinesInOrder}
use Rattle.headline.proofs.Imports.{AreOnTime, Bool, Bundle, CertificateLine, CircuitLine, Cut, End, HasNoDelay}
use Rattle.headline.proofs.Imports.{HasRightStops, HasRimTouch, Header, IsCorrect, IsDesign, IsFaultless, IsPlainText}
use Rattle.headline.proofs.Imports.{IsRight, IsSmallDesign, Item, Keep, List, Module, Pattern, SaysBundle, SaysDesign}
use Rattle.headline.proofs.Imports.{Some, StopHolds, TouchesRim, Use, [], and_parts, ap, append-nil, append_assoc, ap₂}
use Rattle.headline.proofs.Imports.{arith, box_of, bundle_text, certificate_section_text, certificate_text}
use Rattle.headline.proofs.Imports.{circuit_grammar, circuit_of, circuit_text, clean_both, codes, common_steps, cond}
use Rattle.headline.proofs.Imports.{corner_and_sides, decimal, defined, design_text, false, filter, flat_map}
use Rattle.headline.proofs.Imports.{flat_map-append, if_one_word, input_names, is_name, is_word_at, layout_grammar}
use Rattle.headline.proofs.Imports.{layout_section_text, layout_text, length, length-append, lines_again, list_all, map}
use Rattle.headline.proofs.Imports.{name_after_keyword, name_at, nat_tests, nothing_follows, number_after_keyword}
use Rattle.headline.proofs.Imports.{number_at, number_written, output_names, parts_of, plain_lines, port_names_of}
use Rattle.headline.proofs.Imports.{range_with_len, refl, stop_in, subst, suc, sym, true, with_line_feed, zero, ℕ, ◌++◌}
use Rattle.headline.proofs.Imports.{◌+◌, ◌<◌, ◌>>=◌, ◌^◌, ◌∙◌, ◌∷◌, ◌≡◌, ◌≤◌}
use Rattle.certificate_lines.specs.Forms.{form_of}
use Rattle.headline.specs.PlainLaws.{EachSmallDesignHasPlainText, EachSmallDesignIsDecided}
use Rattle.headline.proofs.Designs.{one_certificate, one_design}
use Rattle.headline.proofs.Migrations.{HasSections, text_is}
use Rattle.headline.proofs.PlainLines.{none_of}
use Rattle.headline.proofs.Printed.{are_names, printed_is_read}
use Rattle.headline.proofs.SmallDesigns.{its_given, read_alone, small_is_decided}
use Rattle.headline.proofs.WrittenNames.{input_named, outs_named}
use Rattle.headline.proofs.YesIsPrinted.{design_printed}
use Rattle.headline.proofs.Written.{HasLine, HasSection, has_section, line_by, name_word}
use Rattle.headline.proofs.WrittenCircuits.{AreNames, circuit_written, decimal_word, named}
use Rattle.headline.proofs.WrittenLayouts.{IsWithin, layout_faultless, layout_written}
use Rattle.circuit.specs.Forms.{form_of as circuit_form}
use Rattle.pattern.specs.Forms.{form_of as layout_form}
use Rattle.section_text.specs.declared.limits.Limits.TheVariants.{First}
use Rattle.section_text.specs.declared.code.RefusalCode.TheVariants.{PastLimit}
use Rattle.section_text.specs.Codes.{code_if, or_else}
use Rattle.meaning.specs.Design.{front_text, section_lines, text_limits}
use Rattle.meaning.proofs.Fronts.{first_limits, has_front}
use Rattle.circuit.specs.Bridge.{netlist_of}
use Rattle.circuit.specs.Gates.{defines}
use Rattle.circuit.specs.Meaning.{Gate, wires_after}
use Rattle.circuit.specs.Rules.{exceeds_text_limit, gate_count}
use Rattle.circuit.specs.declared.circuit_line.GateKind.{GateKind}
use Rattle.circuit.proofs.Bridging.{count_append}
use Rattle.circuit.proofs.Naming.{gates_counted, wires_are_named}
use Rattle.lemmas.proofs.Common.{◌*◌}

-- ---- the names of the ports

-- ---- the circuit has no fault

-- a circuit of few wires and few gates exceeds no limit
few_lines : (before : List CircuitLine) (r : CircuitLine) (rest : List CircuitLine) →
    length (defined (before ++ r ∷ rest)) ≤ 4096 → gate_count (before ++ r ∷ rest) ≤ 1024 →
    exceeds_text_limit First before r ≡ false
few_lines before r rest wires gates =
    grind (arith, common_steps, flat_map-append, length-append, count_append, nat_tests)

circuit_on : (before rest : List CircuitLine) → length (defined (before ++ rest)) ≤ 4096 →
    gate_count (before ++ rest) ≤ 1024 → AreLinesInOrder before rest → AreGoodAfter before rest →
    AreFaultless (circuit_grammar First) tt before rest
unfolding AreGoodAfter
circuit_on before [] wires gates order good = tt
circuit_on before (r ∷ rest) wires gates order good = (
  ap₂ or_else order.0 (ap₂ or_else (ap (λ b. code_if b PastLimit) (few_lines before r rest wires gates)) good.0.adds),
  circuit_on (before ++ r ∷ []) rest
      (subst (λ l. length (defined l) ≤ 4096) (sym (append_assoc before (r ∷ []) rest)) wires)
      (subst (λ l. gate_count l ≤ 1024) (sym (append_assoc before (r ∷ []) rest)) gates) order.1 good.1,
)

-- a gate defines at most four wires
few_wires : (n : ℕ) (gs : List Gate) → wires_after n gs ≤ n + 4 * length gs
unfolding wires_after
few_wires n [] = omega arith
few_wires n (g ∷ gs) =
    let more = few_wires (n + defines g.kind) gs in
    let four = at_most_four g.kind in
    omega (arith, more, four)
  where
    at_most_four : (kind : GateKind) → defines kind ≤ 4
    at_most_four kind = grind (arith, common_steps)

-- ---- the plain lines can be written

cut_line : (n : List ℕ) → is_name n ≡ true → HasLine form_of (Item (Cut n))
unfolding form_of is_word_at name_after_keyword name_at
cut_line n h = line_by form_of (Item (Cut n)) (codes "cut") (n ∷ []) refl (name_word n h, tt)
    (ap (λ o. o >>= λ m. Some (Item (Cut m))) (named n h))

use_line : (k : ℕ) → k < 10 ^ 9 → HasLine form_of (Item (Use k))
unfolding form_of is_word_at number_after_keyword number_at
use_line k h = line_by form_of (Item (Use k)) (codes "use") (decimal k ∷ []) refl (decimal_word k h, tt)
    (ap (λ o. o >>= λ m. Some (Item (Use m))) (number_written k h))

keep_line : (k : ℕ) → k < 10 ^ 9 → HasLine form_of (Item (Keep k))
unfolding form_of is_word_at number_after_keyword number_at
keep_line k h = line_by form_of (Item (Keep k)) (codes "keep") (decimal k ∷ []) refl (decimal_word k h, tt)
    (ap (λ o. o >>= λ m. Some (Item (Keep m))) (number_written k h))

module_line : (w h : ℕ) → w < 10 ^ 9 → h < 10 ^ 9 →
    HasLine form_of (Item (Module (record { x = 0; y = 0; w = w; h = h })))
unfolding form_of is_word_at box_of corner_and_sides number_at
module_line w h wide high =
    let none : 0 < 10 ^ 9 = omega arith in
    line_by form_of (Item (Module (record { x = 0; y = 0; w = w; h = h }))) (codes "module")
    (decimal 0 ∷ decimal 0 ∷ decimal w ∷ decimal h ∷ []) refl
    (decimal_word 0 none, (decimal_word 0 none, (decimal_word w wide, (decimal_word h high, tt))))
    (λ i. (number_written 0 none i >>= λ x. number_written 0 none i >>= λ y. number_written w wide i >>= λ w.
    number_written h high i >>= λ h. Some (record { x = x; y = y; w = w; h = h })) >>= λ b. Some (Item (Module b)))

header_line : HasLine form_of (Header 1)
unfolding form_of is_word_at number_after_keyword number_at
header_line =
    let one : 1 < 10 ^ 9 = omega arith in
    line_by form_of (Header 1) (codes "certificate") (decimal 1 ∷ []) refl (decimal_word 1 one, tt)
    (ap (λ o. o >>= λ m. Some (Header m)) (number_written 1 one))

end_line : HasLine form_of End
unfolding form_of if_one_word is_word_at
end_line = line_by form_of End (codes "end") [] refl tt refl

abbrev Lines : List CertificateLine → Type 0
Lines items = AllByRecursion (λ i. HasLine form_of (Item i)) items

lines_both : (xs ys : List CertificateLine) → Lines xs → Lines ys → Lines (xs ++ ys)
lines_both [] ys h k = k
lines_both (x ∷ xs) ys h k = (h.0, lines_both xs ys h.1 k)

cut_lines : (ns : List (List ℕ)) → AreNames ns → Lines (map Cut ns)
cut_lines [] h = tt
cut_lines (n ∷ ns) h = grind (arith, cut_line, (cut_lines ns (and_parts (is_name n) (list_all is_name ns) h).1))

AreBelow : ℕ → List ℕ → Type 0
AreBelow m ks = AllByRecursion (λ k. k < m) ks

range_below : (n a m : ℕ) → a + n ≤ m → AreBelow m (range_with_len a n)
unfolding AreBelow
range_below zero a m h = tt
range_below (suc n) a m h = (omega (arith, h), range_below n (a + 1) m (omega (arith, h)))

filter_below : (test : ℕ → Bool) (m : ℕ) (ks : List ℕ) → AreBelow m ks → AreBelow m (filter test ks)
unfolding AreBelow
filter_below test m [] h = tt
filter_below test m (k ∷ ks) h = one (test k) (filter_below test m ks h.1)
  where
    one : (b : Bool) → AllByRecursion (λ k. k < m) (filter test ks) →
        AllByRecursion (λ k. k < m) (cond b (k ∷ filter test ks) (filter test ks))
    one b h1 = grind (arith, common_steps)

number_lines : (mk : ℕ → CertificateLine) → ((k : ℕ) → k < 10 ^ 9 → HasLine form_of (Item (mk k))) → (ks : List ℕ) →
    AreBelow 64 ks → Lines (map mk ks)
unfolding AreBelow
number_lines mk line [] h = tt
number_lines mk line (k ∷ ks) h = grind (arith, common_steps, (number_lines mk line ks h.1))

-- ---- the text

module _ (circuit : List CircuitLine) (p : Pattern) (design : IsDesign circuit p)
    (small : IsSmallDesign circuit p) where
  names : AreNames (defined circuit)
  names = are_names (defined circuit) design.names

  ins : AreNames (input_names circuit)
  ins = input_named circuit names

  outs : AreNames (output_names circuit)
  outs = outs_named circuit design.circuit_lines names

  within : IsWithin First p.size
  within = grind (arith, common_steps)

  given : length (input_names circuit) ≡ (netlist_of circuit).given
  given = its_given First circuit p design.circuit_lines
      (layout_faultless circuit p design.size design.layout_lines design.ports ins outs First within) small

  wires : length (defined circuit) ≤ 4096
  wires = grind (arith, common_steps, wires_are_named, few_wires, given)

  gates : gate_count circuit ≤ 1024
  gates = grind (arith, common_steps, gates_counted)

  circuit_faultless : IsFaultless (circuit_grammar First) tt circuit
  circuit_faultless = grind (arith, common_steps, circuit_on, wires, gates)

  first : HasSection circuit_form tt circuit
  first = circuit_written circuit design.circuit_lines names

  second : HasSection layout_form p.size (parts_of p)
  second = layout_written circuit p design.size design.layout_lines design.ports ins outs

  all_lines : Lines (plain_lines circuit p)
  all_lines =
      grind (
        arith,
        range_below,
        module_line,
        lines_both,
        cut_lines,
        ins,
        number_lines,
        use_line,
        keep_line,
        filter_below,
      )

  third : HasSection form_of 1 (plain_lines circuit p)
  third = has_section form_of 1 (plain_lines circuit p) header_line end_line all_lines

  abbrev lines : List (List ℕ)
  lines = first.lines ++ (second.lines ++ third.lines)

  clean : AreLines lines
  clean = grind (arith, common_steps, clean_both)

  -- the text has the first limits
  its_limits : text_limits (flat_map with_line_feed lines) ≡ First
  its_limits = grind (arith, common_steps, lines_again, clean, first_limits, first, second, third)

  its_lines : section_lines (flat_map with_line_feed lines) ≡ lines
  its_lines = (has_front First (flat_map with_line_feed lines) its_limits).lines ∙ lines_again lines clean

  its_text : IsPlainText (flat_map with_line_feed lines) circuit p
  its_text = record {
    first = first.lines;
    second = second.lines;
    third = third.lines;
    lines = its_lines;
    ended = nothing_follows lines clean;
    circuit_is = first.is;
    circuit_read = read_alone (circuit_grammar (text_limits (flat_map with_line_feed lines))) first.lines tt circuit
        first.is (subst (λ l. IsFaultless (circuit_grammar l) tt circuit) (sym its_limits) circuit_faultless);
    layout_is = second.is;
    layout_read = read_alone
        (layout_grammar (text_limits (flat_map with_line_feed lines)) (Some (port_names_of circuit))) second.lines
        p.size
        (parts_of p) second.is
        (subst (λ l. IsFaultless (layout_grammar l (Some (port_names_of circuit))) p.size (parts_of p)) (sym its_limits)
        (layout_faultless circuit p design.size design.layout_lines design.ports ins outs First within));
    certificate_is = third.is;
  }

  spelled : flat_map with_line_feed lines ≡ design_text circuit p
  unfolding bundle_text layout_section_text certificate_section_text layout_text certificate_text
  spelled =
      let b : Bundle = record {
        circuit = circuit;
        size = p.size;
        parts = parts_of p;
        version = 1;
        entries = plain_lines circuit p;
      } in
      let sections : HasSections (flat_map with_line_feed lines) b =
      grind (arith, common_steps, first, second, third, its_lines, nothing_follows, clean) in
      text_is (flat_map with_line_feed lines) b sections
      ∙ ap (λ l. front_text l ++ bundle_text b) its_limits
      ∙ append_assoc (circuit_text circuit) (layout_text p) (certificate_text
      (record { circuit = circuit; layout = p; version = 1; entries = plain_lines circuit p }))

  pub has_text : IsPlainText (design_text circuit p) circuit p
  has_text = subst (λ text. IsPlainText text circuit p) spelled its_text

pub each_has_text : EachSmallDesignHasPlainText
each_has_text = has_text

-- ---- what is decided

module _ (text : List ℕ) (circuit : List CircuitLine) (p : Pattern) (t : IsPlainText text circuit p) where
  design_said : SaysDesign text circuit p
  design_said = grind (arith, common_steps)

  said : SaysBundle text circuit p (plain_lines circuit p)
  unfolding design_said
  said = record {
    design = design_said;
    version = 1;
    third = t.third;
    rest = [];
    lines = sym (append-nil t.third);
    certificate_is = t.certificate_is;
  }

  correct_of : IsRight text → IsCorrect circuit p
  correct_of r =
      let same = one_design text r.circuit circuit r.layout p (printed_is_read text r.circuit r.layout r.begins)
      design_said in
      subst (λ cs. IsCorrect cs p) same.0 (subst (IsCorrect r.circuit) same.1 r.correct)

  touch_of : HasRimTouch text → TouchesRim circuit p
  touch_of r =
      let same = one_design text r.circuit circuit r.layout p r.says design_said in
      subst (λ cs. TouchesRim cs p) same.0 (subst (TouchesRim r.circuit) same.1 r.touches)

  no_stops : flat_map stop_in (plain_lines circuit p) ≡ []
  no_stops = grind (arith, common_steps, flat_map-append, none_of)

  no_delay : HasRightStops text → HasNoDelay circuit
  no_delay r k steps a b is =
      let same = one_design text r.circuit circuit r.layout p r.says.design design_said in
      let own = one_certificate text r.circuit circuit r.layout p r.certificate (plain_lines circuit p) r.says said in
      let times : AreOnTime (circuit_of circuit) [] =
      subst (λ cs. AreOnTime (circuit_of cs) []) same.0
      (subst (AreOnTime (circuit_of r.circuit)) (ap (flat_map stop_in) own ∙ no_stops) r.on_time) in
      let lt = (times.delays k steps a b is).last.seen.1 in
      omega (arith, lt)

  stops_of : HasNoDelay circuit → HasRightStops text
  stops_of none = record {
    circuit = circuit;
    layout = p;
    certificate = plain_lines circuit p;
    says = said;
    stops = subst (All (StopHolds (circuit_of circuit) p)) (sym no_stops) (All-nil (StopHolds (circuit_of circuit) p));
    on_time = grind (arith, common_steps, no_stops);
  }

pub each_is_decided : EachSmallDesignIsDecided
each_is_decided circuit p output outcome design small reports =
    let text = design_text circuit p in
    let t = has_text circuit p design small in
    let d = small_is_decided text output outcome circuit p t small reports in (
      d.0,
      (
        (λ e. let all = d.1.0 e in (
          correct_of text circuit p t all.0,
          no_delay text circuit p t all.1,
          λ touch. all.2 (record {
            circuit = circuit;
            layout = p;
            says = design_said text circuit p t;
            touches = touch;
          }),
        )),
        (λ all. d.1.1 (
          record {
            circuit = circuit;
            layout = p;
            begins = design_printed First text (certificate_text (record {
              circuit = circuit;
              layout = p;
              version = 1;
              entries = plain_lines circuit p;
            })) circuit p design refl;
            correct = all.0;
          },
          stops_of text circuit p t all.1,
          λ touch. all.2 (touch_of text circuit p t touch),
        )),
      ),
    )
