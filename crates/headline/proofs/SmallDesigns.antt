-- The lines of the plain certificate of a small design are good
use Rattle.headline.proofs.Imports.{All, All-cons, All-head, All-nil, All-tail, AnswersOrRefuses, AreFaultless}
use Rattle.headline.proofs.Imports.{AreGatesOrdered, AreGoodAfter, AreGoodCircuitLines, Bool, Box2, Bundle}
use Rattle.headline.proofs.Imports.{CertificateLine}
use Rattle.headline.proofs.Imports.{Circuit, CircuitLine, Cut, Grammar, Have, IsFaultless, IsInputName, IsPlaced}
use Rattle.headline.proofs.Imports.{IsPlainText, IsSection, IsSmallDesign, Keep, LayoutHeader, LayoutLine, List, Module}
use Rattle.headline.proofs.Imports.{ModuleLines, None, Ok, OutOfOrder, Outcome, Pattern, Port, Refused, SaysBundle}
use Rattle.headline.proofs.Imports.{SaysReport, Setting, Some, SomethingMissing, Use, Verdict, [], add_line, any_at, ap}
use Rattle.headline.proofs.Imports.{append-nil, append_assoc, ap₂, arith, bundle_of, bytes_eq, bytes_eq-Decides}
use Rattle.headline.proofs.Imports.{bytes_same, cases_Bool, certificate_grammar, circuit_grammar, circuit_of, code_if}
use Rattle.headline.proofs.Imports.{common_steps, cut_name_in, cuts, defined, defines, drop, eqb, eqb-true, false}
use Rattle.headline.proofs.Imports.{faultless_named, filter, flat_map, flat_map-append, gate_numbers, gates_are_ordered}
use Rattle.headline.proofs.Imports.{has, inl, input_names, inputs_are_first, inr, is_among, is_inverse_gate}
use Rattle.headline.proofs.Imports.{is_layout_side, is_module_line, kept, known, layout_grammar, layout_section, length}
use Rattle.headline.proofs.Imports.{length-append, list_all, list_any, map, map-append, modules_of, names_pass}
use Rattle.headline.proofs.Imports.{netlist_of, no_code, not, number, option_map, or_else, output_names, parts_of}
use Rattle.headline.proofs.Imports.{placed, plain_lines, port_names_of, push_cons, range_with_len, read_faultless}
use Rattle.headline.proofs.Imports.{read_layout-is_named, read_layout-names, refl, same_Some, section_made, section_of}
use Rattle.headline.proofs.Imports.{setting_of, size_fault, slice_get, slice_get-map, slice_get_within, subst, suc, sym}
use Rattle.headline.proofs.Imports.{take, take-append-drop, true, true≢false, verdict_outcome, whole, zero, ℕ, ◌&&◌}
use Rattle.headline.proofs.Imports.{◌++◌, ◌+◌, ◌<◌, ◌||◌, ◌∙◌, ◌∷◌, ◌≡◌, ◌≢◌, ◌≤◌}
use Rattle.lemmas.proofs.Common.{All-append, and-false, is_lt, length-range_with_len, less_nat, list_all-append}
use Rattle.lemmas.proofs.Common.{list_any-append, not_le_test, option_to_list, or-true, ordering_then, take-length}
use Rattle.circuit.specs.Meaning.{Gate, place_of, wire_of, wires, wires_after}
use Rattle.circuit.specs.Rules.{define_fault}
use Rattle.circuit.proofs.Bridging.{define_first, defined_push, numbers_new}
use Rattle.circuit.proofs.Naming.{wires_are_named}
use Rattle.module_box.specs.Locals.{local_wires}
use Rattle.certificate_lines.specs.Entries.{gates, last_of, areas}
use Rattle.certificate_lines.specs.Orders.{is_cut_line, line_cmp, may_follow, may_precede, sort_number_of, rank_of}
use Rattle.certificate_lines.specs.Rules.{are_new_and_distinct, code_but_for_order, cut_line_code, end_fault}
use Rattle.certificate_lines.specs.Rules.{entry_fault, has_nonlocal_port, is_last_module_incomplete, is_local}
use Rattle.certificate_lines.specs.Rules.{is_local_wire, keep_line_code, leaves_gap, line_fault, module_box_code}
use Rattle.certificate_lines.specs.Rules.{module_limit_fault, module_line_code, use_line_code, used_gate_fault}
use Rattle.certificate_lines.proofs.LocalLemmas.{local_more}
use Rattle.pattern.specs.Lines.{ArePortsNamed}
use Rattle.certificate_lines.proofs.BoxPlaces.{cells_inside}
use Rattle.soundness.proofs.Trials.{range_at}
use Rattle.answers.proofs.Bundles.{same_setting}
use Rattle.headline.specs.PlainLaws.{RefusedIsNoSmallDesign, SmallDesignIsDecided}
use Rattle.headline.proofs.Migrations.{HasSections, IsGoodBundle, bundle_made, good_read, sections_read}
use Rattle.headline.proofs.WrittenNames.{outs_have}
use Rattle.headline.proofs.YesIsRight.{bundle_good, circuit_good}
use Rattle.headline.proofs.PlainLines.{all_inner, among_range, none_of, own_of, is_one, plain_lines_decide}
use Rattle.pattern.specs.Forms.{form_of as layout_form}
use Rattle.certificate_lines.specs.Forms.{form_of as certificate_form}
use Rattle.section_text.specs.declared.limits.Limits.{Limits}
use Rattle.meaning.specs.Design.{text_limits}
use Rattle.circuit.proofs.Undefined.{wires_grow}
use Rattle.core_book.specs.declared.verdict.Verdict.TheVariants as verdict

-- ---- numbers in a range

pub range_append : (n a d : ℕ) → range_with_len a n ++ range_with_len (a + n) d ≡ range_with_len a (n + d)
range_append zero a d = ap₂ range_with_len (omega arith) (omega arith)
range_append (suc n) a d =
    let e : a + suc n ≡ (a + 1) + n = omega arith in
    let f : suc (n + d) ≡ suc n + d = omega arith in
    ap (λ k. a ∷ (range_with_len (a + 1) n ++ range_with_len k d)) e
    ∙ ap (λ l. a ∷ l) (range_append n (a + 1) d) ∙ ap (range_with_len a) f

pub range_next : (n : ℕ) → range_with_len 0 n ++ n ∷ [] ≡ range_with_len 0 (n + 1)
range_next n = ap (λ k. range_with_len 0 n ++ k ∷ []) (omega arith) ∙ range_append n 0 1

not_among : (n a w : ℕ) → a + n ≤ w → is_among (range_with_len a n) w ≡ false
not_among zero a w h = refl
not_among (suc n) a w h = ap₂ (λ p q. p || q) (apart a w (omega (arith, h))) (not_among n (a + 1) w (omega (arith, h)))
  where
    apart : (a w : ℕ) → a < w → eqb a w ≡ false
    apart a w lt = grind (arith, lt, eqb-true a w)

-- ---- the names of a circuit are different

define_append : (d xs ys : List (List ℕ)) → define_fault d xs ≡ None → define_fault (d ++ xs) ys ≡ None →
    define_fault d (xs ++ ys) ≡ None
define_append d [] ys h k = subst (λ l. define_fault l ys ≡ None) (append-nil d) k
define_append d (x ∷ xs) ys h k =
    let first = define_first d x xs h in
    rw first.0 (define_append (d ++ x ∷ []) xs ys first.1
    (subst (λ l. define_fault l ys ≡ None) (sym (append_assoc d (x ∷ []) xs)) k))

define_all : (before rest : List CircuitLine) → AreGoodAfter before rest → define_fault [] (defined before) ≡ None →
    define_fault [] (defined (before ++ rest)) ≡ None
unfolding AreGoodAfter
define_all before [] good h = subst (λ l. define_fault [] (defined l) ≡ None) (sym (append-nil before)) h
define_all before (r ∷ rest) good h =
    let own = (names_pass before r good.0.adds).1 in
    let now : define_fault [] (defined (before ++ r ∷ [])) ≡ None =
    subst (λ l. define_fault [] l ≡ None) (sym (defined_push before r))
    (define_append [] (defined before) r.outs h own) in
    subst (λ l. define_fault [] (defined l) ≡ None) (push_cons before r rest)
    (define_all (before ++ r ∷ []) rest good.1 now)

module _ (circuit : List CircuitLine) (good : AreGoodCircuitLines circuit) where
  abbrev names : List (List ℕ)
  names = defined circuit

  numbers : map (number names) names ≡ range_with_len 0 (length names)
  numbers =
      ap (λ l. map (number l) names) (sym (append-nil names)) ∙
      numbers_new [] names [] (define_all [] circuit good refl)

  number_at : (k : ℕ) (n : List ℕ) → slice_get names k ≡ Some n → number names n ≡ k
  number_at k n at =
      let within = slice_get_within names k n at in
      same_Some (number names n) k
      (sym (slice_get-map (number names) names k ∙ ap (option_map (number names)) at)
      ∙ ap (λ l. slice_get l k) numbers ∙ range_at (length names) 0 k within ∙ ap Some (omega arith))

  pub wire_at : (k : ℕ) (n : List ℕ) → slice_get names k ≡ Some n → wire_of (circuit_of circuit) n ≡ Some k
  unfolding place_of
  wire_at k n at = grind (arith, common_steps, number, any_at, bytes_same, number_at)

  pub input_wire : (k : ℕ) (n : List ℕ) → slice_get (input_names circuit) k ≡ Some n →
      wire_of (circuit_of circuit) n ≡ Some k
  input_wire k n at =
      wire_at k n (ap (λ l. slice_get l k) (sym (take-append-drop (netlist_of circuit).given names))
      ∙ kept (take (netlist_of circuit).given names) (drop (netlist_of circuit).given names) k n
      (ap (λ l. slice_get l k) (inputs_are_first circuit good) ∙ at))

-- ---- the lines of one module

-- each of these lines may stand in the module after those before it
pub Inner : Setting → Box2 → List CertificateLine → List CertificateLine → Type 0
Inner g b ms [] = Unit {0}
Inner g b ms (i ∷ ls) =
    (is_module_line i ≡ false) × (line_fault g (record { area = b; lines = ms }) i ≡ None) × Inner g b (ms ++ i ∷ []) ls

inner_append : (g : Setting) (b : Box2) (ms xs ys : List CertificateLine) → Inner g b ms xs → Inner g b (ms ++ xs) ys →
    Inner g b ms (xs ++ ys)
unfolding Inner
inner_append g b ms [] ys h k = subst (λ l. Inner g b l ys) (append-nil ms) k
inner_append g b ms (x ∷ xs) ys h k =
    grind (
      arith,
      append_assoc,
      (inner_append g b (ms ++ x ∷ []) xs ys h.2 (subst (λ l. Inner g b l ys) (sym (append_assoc ms (x ∷ []) xs)) k)),
    )

in_module : (g : Setting) (before : List CertificateLine) (m : ModuleLines) (i : CertificateLine) →
    last_of (modules_of before) ≡ Some m →
    is_module_line i ≡ false → line_fault g m i ≡ None → entry_fault g before i ≡ None
unfolding entry_fault
in_module g before m i h1 h2 h3 = grind (arith, common_steps)

present_one : (b : Box2) (ms : List CertificateLine) → list_all (λ i. not (is_module_line i)) ms ≡ true →
    last_of (modules_of (Module b ∷ ms)) ≡ Some (record { area = b; lines = ms })
unfolding modules_of last_of add_line
present_one b ms inner = ap last_of (all_inner b [] ms inner)

all_push : (ms : List CertificateLine) (i : CertificateLine) → list_all (λ i. not (is_module_line i)) ms ≡ true →
    is_module_line i ≡ false → list_all (λ i. not (is_module_line i)) (ms ++ i ∷ []) ≡ true
all_push ms i h k = list_all-append (λ i. not (is_module_line i)) ms (i ∷ []) ∙ rw (h, k) refl

-- only a line of a module is one too many
no_module_more : (l : Limits) (g : Setting) (before : List CertificateLine) (i : CertificateLine) →
    is_module_line i ≡ false → module_limit_fault l g before i ≡ None
unfolding module_limit_fault
no_module_more l g before i h1 = grind (arith, common_steps)

first_module : (l : Limits) (g : Setting) (b : Box2) → module_limit_fault l g [] (Module b) ≡ None
unfolding module_limit_fault modules_of
first_module l g b = grind (arith, common_steps)

inner_faultless : (l : Limits) (g : Setting) (b : Box2) (ms ls : List CertificateLine) →
    list_all (λ i. not (is_module_line i)) ms ≡ true →
    Inner g b ms ls → AreFaultless (certificate_grammar l g) 1 (Module b ∷ ms) ls
unfolding Inner
inner_faultless l g b ms [] all h = tt
inner_faultless l g b ms (i ∷ ls) all h =
    grind (
      arith,
      common_steps,
      in_module,
      present_one,
      no_module_more,
      (inner_faultless l g b (ms ++ i ∷ []) ls (all_push ms i all h.0) h.2),
    )

-- ---- the order of lines

follow_mapped : {X : Type 0} (mk : X → CertificateLine) (j : CertificateLine) (P : X → Type 0) (xs : List X) →
    All P xs → ((x : X) → P x → may_precede (mk x) j ≡ true) → list_all (λ i. may_precede i j) (map mk xs) ≡ true
follow_mapped mk j P [] all h = refl
follow_mapped mk j P (x ∷ xs) all h =
    ap₂ (λ a b. a && b) (h x (All-head P x xs all)) (follow_mapped mk j P xs (All-tail P x xs all) h)

follow_both : (j : CertificateLine) (xs ys : List CertificateLine) → list_all (λ i. may_precede i j) xs ≡ true →
    list_all (λ i. may_precede i j) ys ≡ true → list_all (λ i. may_precede i j) (xs ++ ys) ≡ true
follow_both j xs ys h k = list_all-append (λ i. may_precede i j) xs ys ∙ rw (h, k) refl

cut_cut : (a b : List ℕ) → may_precede (Cut a) (Cut b) ≡ true
unfolding may_precede is_cut_line
cut_cut a b = or-true (is_lt (line_cmp (Cut a) (Cut b)))

cut_use : (a : List ℕ) (k : ℕ) → may_precede (Cut a) (Use k) ≡ true
unfolding may_precede is_cut_line line_cmp rank_of
cut_use a k = refl

cut_keep : (a : List ℕ) (k : ℕ) → may_precede (Cut a) (Keep k) ≡ true
unfolding may_precede is_cut_line line_cmp rank_of
cut_keep a k = refl

use_keep : (j k : ℕ) → may_precede (Use j) (Keep k) ≡ true
unfolding may_precede is_cut_line line_cmp rank_of
use_keep j k = refl

use_use : (j k : ℕ) → j < k → may_precede (Use j) (Use k) ≡ true
unfolding may_precede is_cut_line line_cmp rank_of sort_number_of
use_use j k lt = grind (arith, common_steps, ordering_then, less_nat)

keep_keep : (j k : ℕ) → j < k → may_precede (Keep j) (Keep k) ≡ true
unfolding may_precede is_cut_line line_cmp rank_of sort_number_of
keep_keep j k lt = grind (arith, common_steps, ordering_then, less_nat)

follow_by : (g : Setting) (m : ModuleLines) (i : CertificateLine) → may_follow m.lines i ≡ true →
    code_but_for_order g m i ≡ None → line_fault g m i ≡ None
follow_by g m i f w = ap₂ or_else (ap (λ b. code_if (not b) OutOfOrder) f) w

all_below : (n a b : ℕ) → a + n ≤ b → All (λ j. j < b) (range_with_len a n)
all_below zero a b h = All-nil (λ j. j < b)
all_below (suc n) a b h = grind (arith, common_steps, (all_below n (a + 1) b (omega (arith, h))))

-- ---- what a line asks

cut_ok : (c : Circuit) (count : ℕ) (local : List ℕ) (n : List ℕ) (w : ℕ) → count < 12 → wire_of c n ≡ Some w →
    is_among local w ≡ false → cut_line_code c count local n ≡ None
unfolding cut_line_code
cut_ok c count local n w few e fresh = grind (arith, common_steps, not_le_test)

use_ok : (c : Circuit) (count : ℕ) (local : List ℕ) (k : ℕ) (x : Gate) → count < 64 →
    slice_get c.netlist.gates k ≡ Some x → list_all (is_among local) x.ins ≡ true →
    are_new_and_distinct local x.outs ≡ true → use_line_code c count local k ≡ None
unfolding use_line_code used_gate_fault
use_ok c count local k x few at ins new = grind (arith, common_steps, not_le_test)

keep_ok : (c : Circuit) (used : List ℕ) (k : ℕ) → is_inverse_gate (slice_get c.netlist.gates k) ≡ true →
    is_among used k ≡ true → keep_line_code c used k ≡ None
unfolding keep_line_code
keep_ok c used k inverse among = grind (arith, common_steps)

all_among : (n : ℕ) (ws : List ℕ) → All (λ w. w < n) ws → list_all (is_among (range_with_len 0 n)) ws ≡ true
all_among n [] all = refl
all_among n (w ∷ ws) all =
    let lt = All-head (λ w. w < n) w ws all in
    ap₂ (λ a b. a && b) (among_range n 0 w (omega arith) (omega (arith, lt)))
    (all_among n ws (All-tail (λ w. w < n) w ws all))

new_range : (d n : ℕ) → are_new_and_distinct (range_with_len 0 n) (range_with_len n d) ≡ true
unfolding are_new_and_distinct
new_range zero n = refl
new_range (suc d) n = grind (arith, common_steps, not_among, range_next, (new_range d (n + 1)))

-- ---- the three kinds of lines

at_seam : {X : Type 0} (xs ys : List X) (y : X) → slice_get (xs ++ y ∷ ys) (length xs) ≡ Some y
at_seam [] ys y = refl
at_seam (x ∷ xs) ys y = at_seam xs ys y

wires_by : (c : Circuit) (a : ℕ) (ns : List (List ℕ)) →
    ((k : ℕ) (n : List ℕ) → slice_get ns k ≡ Some n → wire_of c n ≡ Some (a + k)) →
    flat_map (λ n. option_to_list (wire_of c n)) ns ≡ range_with_len a (length ns)
wires_by c a [] h = refl
wires_by c a (n ∷ ns) h =
    let here : wire_of c n ≡ Some a = h 0 n refl ∙ ap Some (omega arith) in
    ap₂ (λ o ws. option_to_list o ++ ws) here (wires_by c (a + 1) ns (λ k n at. h (suc k) n at ∙ ap Some (omega arith)))

module _ (circuit : List CircuitLine) (good : AreGoodCircuitLines circuit) (p : Pattern) (b : Box2)
    (few : length (input_names circuit) ≤ 12) (few_gates : length (netlist_of circuit).gates ≤ 64)
    (given : length (input_names circuit) ≡ (netlist_of circuit).given) where
  abbrev g : Setting
  g = setting_of circuit p

  abbrev c : Circuit
  c = circuit_of circuit

  abbrev ins : List (List ℕ)
  ins = input_names circuit

  abbrev all_gates : List Gate
  all_gates = (netlist_of circuit).gates

  abbrev module_of : List CertificateLine → ModuleLines
  module_of ls = record { area = b; lines = ls }

  cuts_known : (done todo : List (List ℕ)) → done ++ todo ≡ ins →
      flat_map (λ n. option_to_list (wire_of c n)) done ≡ range_with_len 0 (length done)
  cuts_known done todo e = wires_by c 0 done (λ k n at.
      input_wire circuit good k n (ap (λ l. slice_get l k) (sym e) ∙ kept done todo k n at) ∙ ap Some (omega arith))

  known_after_cuts : (done todo : List (List ℕ)) → done ++ todo ≡ ins →
      known c (module_of (map Cut done)) ≡ range_with_len 0 (length done)
  known_after_cuts done todo e = grind (arith, common_steps, own_of, none_of, cuts_known)

  cuts_run : (done todo : List (List ℕ)) → done ++ todo ≡ ins → Inner g b (map Cut done) (map Cut todo)
  unfolding Inner may_follow
  cuts_run done [] e = tt
  cuts_run done (n ∷ todo) e =
      let at : slice_get ins (length done) ≡ Some n =
      ap (λ l. slice_get l (length done)) (sym e) ∙ at_seam done todo n in
      let within = slice_get_within ins (length done) n at in
      let follows : may_follow (map Cut done) (Cut n) ≡ true =
      follow_mapped Cut (Cut n) (λ m. Unit {0}) done (λ k d lt. tt) (λ m u. cut_cut m n) in
      let counted : length (cuts (module_of (map Cut done))) ≡ length done = ap length
      (own_of Cut cut_name_in (λ n. refl) done) in
      let fresh : is_among (known c (module_of (map Cut done))) (length done) ≡ false =
      ap (λ l. is_among l (length done)) (known_after_cuts done (n ∷ todo) e) ∙ not_among (length done) 0 (length done)
      (omega arith) in (
        refl,
        follow_by g (module_of (map Cut done)) (Cut n) follows
            (cut_ok c _ _ n (length done) (omega (arith, within, few, counted))
            (input_wire circuit good (length done) n at) fresh),
        subst (λ l. Inner g b l (map Cut todo)) (map-append Cut done (n ∷ []))
            (cuts_run (done ++ n ∷ []) todo (append_assoc done (n ∷ []) todo ∙ e)),
      )

  -- the lines before a use
  abbrev front : List ℕ → List CertificateLine
  front ks = map Cut ins ++ map Use ks

  front_cuts : (ks : List ℕ) → cuts (module_of (front ks)) ≡ ins
  front_cuts ks = grind (arith, common_steps, flat_map-append, own_of, none_of)

  front_gates : (ks : List ℕ) → gates (module_of (front ks)) ≡ ks
  front_gates ks = grind (arith, common_steps, flat_map-append, none_of, own_of)

  front_known : (ks : List ℕ) →
      known c (module_of (front ks)) ≡ local_wires c.netlist (range_with_len 0 (length ins)) ks
  front_known ks = grind (arith, common_steps, (front_cuts ks), (front_gates ks), (cuts_known ins [] (append-nil ins)))

  -- the wires that are known after the first gates
  abbrev after_gates : ℕ → List ℕ
  after_gates k = local_wires c.netlist (range_with_len 0 (length ins)) (range_with_len 0 k)

  more_known : (k n : ℕ) (x : Gate) → slice_get all_gates k ≡ Some x → after_gates k ≡ range_with_len 0 n →
      x.outs ≡ range_with_len n (defines x.kind) → after_gates (k + 1) ≡ range_with_len 0 (n + defines x.kind)
  more_known k n x at now outs =
      let e : n ≡ 0 + n = omega arith in
      ap (local_wires c.netlist (range_with_len 0 (length ins))) (sym (range_next k))
      ∙ local_more c.netlist (range_with_len 0 (length ins)) (range_with_len 0 k) k x at
      ∙ ap₂ (λ a b. a ++ b) now outs
      ∙ ap (λ k. range_with_len 0 n ++ range_with_len k (defines x.kind)) e ∙ range_append n 0 (defines x.kind)

  uses_run : (n : ℕ) (done gs : List Gate) → done ++ gs ≡ all_gates → AreGatesOrdered n gs →
      after_gates (length done) ≡ range_with_len 0 n →
      Inner g b (front (range_with_len 0 (length done))) (map Use (range_with_len (length done) (length gs)))
  unfolding Inner may_follow AreGatesOrdered
  uses_run n done [] e ordered now = tt
  uses_run n done (x ∷ gs) e ordered now =
      let k = length done in
      let at : slice_get all_gates k ≡ Some x = ap (λ l. slice_get l k) (sym e) ∙ at_seam done gs x in
      let within = slice_get_within all_gates k x at in
      let follows : may_follow (front (range_with_len 0 k)) (Use k) ≡ true =
      follow_both (Use k) (map Cut ins) (map Use (range_with_len 0 k))
      (follow_mapped Cut (Use k) (λ m. Unit {0}) ins (λ k d lt. tt) (λ m u. cut_use m k))
      (follow_mapped Use (Use k) (λ j. j < k) (range_with_len 0 k) (all_below k 0 k (omega arith)) (λ j lt.
      use_use j k lt)) in
      let counted : length (gates (module_of (front (range_with_len 0 k)))) ≡ k =
      ap length (front_gates (range_with_len 0 k)) ∙ length-range_with_len 0 k in
      let local : known c (module_of (front (range_with_len 0 k))) ≡ range_with_len 0 n =
      front_known (range_with_len 0 k) ∙ now in
      let longer : length (done ++ x ∷ []) ≡ k + 1 = length-append done (x ∷ []) in (
        refl,
        follow_by g (module_of (front (range_with_len 0 k))) (Use k) follows
            (use_ok c _ _ k x (omega (arith, within, few_gates, counted)) at
            (ap (λ l. list_all (is_among l) x.ins) local ∙ all_among n x.ins ordered.0)
            (ap₂ are_new_and_distinct local ordered.2 ∙ new_range (defines x.kind) n)),
        subst (λ l. Inner g b l (map Use (range_with_len (k + 1) (length gs))))
            (ap (λ ks. map Cut ins ++ ks) (ap (map Use) (sym (range_next k)) ∙ map-append Use (range_with_len 0 k)
            (k ∷ []))
            ∙ sym (append_assoc (map Cut ins) (map Use (range_with_len 0 k)) (Use k ∷ [])))
            (subst (λ j. Inner g b (front (range_with_len 0 j)) (map Use (range_with_len j (length gs)))) longer
            (uses_run (n + defines x.kind) (done ++ x ∷ []) gs (append_assoc done (x ∷ []) gs ∙ e) ordered.3
            (ap after_gates longer ∙ more_known k n x at now ordered.2))),
      )

  abbrev uses : List CertificateLine
  uses = front (range_with_len 0 (length all_gates))

  abbrev is_inverse_number : ℕ → Bool
  is_inverse_number k = is_inverse_gate (slice_get all_gates k)

  all_more : (a : ℕ) (js : List ℕ) → All (λ j. j < a) js → All (λ j. j < a + 1) js
  all_more a js all k d lt = let below = all k d lt in omega (arith, below)

  all_pushed : (a : ℕ) (js : List ℕ) → All (λ j. j < a) js → All (λ j. j < a + 1) (js ++ a ∷ [])
  all_pushed a js all = grind (arith, common_steps, All-append, all_more, All-cons, All-nil)

  keep_gates : (done : List ℕ) → gates (module_of (uses ++ map Keep done)) ≡ range_with_len 0 (length all_gates)
  keep_gates done = grind (arith, common_steps, flat_map-append, front_gates, none_of)

  keeps_run : (n a : ℕ) (done : List ℕ) → a + n ≡ length all_gates → All (λ j. j < a) done →
      Inner g b (uses ++ map Keep done) (map Keep (filter is_inverse_number (range_with_len a n)))
  unfolding Inner may_follow
  keeps_run zero a done e all = tt
  keeps_run (suc n) a done e all =
      by_test (is_inverse_number a) refl (keeps_run n (a + 1) done (omega (arith, e)) (all_more a done all))
      (keeps_run n (a + 1) (done ++ a ∷ []) (omega (arith, e)) (all_pushed a done all))
    where
      follows : may_follow (uses ++ map Keep done) (Keep a) ≡ true
      follows =
          follow_both (Keep a) uses (map Keep done)
          (follow_both (Keep a) (map Cut ins) (map Use (range_with_len 0 (length all_gates)))
          (follow_mapped Cut (Keep a) (λ m. Unit {0}) ins (λ k d lt. tt) (λ m u. cut_keep m a))
          (follow_mapped Use (Keep a) (λ j. Unit {0}) _ (λ k d lt. tt) (λ j u.
          use_keep j a)))
          (follow_mapped Keep (Keep a) (λ j. j < a) done all (λ j lt. keep_keep j a lt))

      by_test : (t : Bool) → is_inverse_number a ≡ t →
          Inner g b (uses ++ map Keep done) (map Keep (filter is_inverse_number (range_with_len (a + 1) n))) →
          Inner g b (uses ++ map Keep (done ++ a ∷ [])) (map Keep (filter is_inverse_number (range_with_len (a + 1) n)))
          → Inner g b (uses ++ map Keep done) (map Keep (filter is_inverse_number (a ∷ range_with_len (a + 1) n)))
      by_test false t without with = rw t without
      by_test true t without with = rw t (
        refl,
        follow_by g (module_of (uses ++ map Keep done)) (Keep a) follows
            (keep_ok c _ a t (ap (λ l. is_among l a) (keep_gates done)
            ∙ among_range (length all_gates) 0 a (omega arith) (omega (arith, e)))),
        subst (λ l. Inner g b l (map Keep (filter is_inverse_number (range_with_len (a + 1) n))))
            (ap (λ ks. uses ++ ks) (map-append Keep done (a ∷ [])) ∙
            sym (append_assoc uses (map Keep done) (Keep a ∷ []))) with,
      )

  pub all_lines : Inner g b [] (map Cut ins ++ map Use (range_with_len 0 (length all_gates))
      ++ map Keep (filter is_inverse_number (range_with_len 0 (length all_gates))))
  all_lines =
      inner_append g b [] uses _
      (inner_append g b [] (map Cut ins) (map Use (range_with_len 0 (length all_gates))) (cuts_run [] ins refl)
      (subst (λ l. Inner g b l (map Use (range_with_len 0 (length all_gates)))) (append-nil (map Cut ins))
      (uses_run (netlist_of circuit).given [] all_gates refl (gates_are_ordered circuit good)
      (append-nil (range_with_len 0 (length ins)) ∙ ap (range_with_len 0) given))))
      (subst (λ l. Inner g b l (map Keep (filter is_inverse_number (range_with_len 0 (length all_gates)))))
      (append-nil uses)
      (keeps_run (length all_gates) 0 [] (omega arith) (All-nil (λ j. j < 0))))

  keep_cuts : (done : List ℕ) → cuts (module_of (uses ++ map Keep done)) ≡ ins
  keep_cuts done = grind (arith, common_steps, flat_map-append, front_cuts, none_of)

  final_known : (n : ℕ) (done gs : List Gate) → done ++ gs ≡ all_gates → AreGatesOrdered n gs →
      after_gates (length done) ≡ range_with_len 0 n →
      after_gates (length all_gates) ≡ range_with_len 0 (wires_after n gs)
  unfolding AreGatesOrdered wires_after
  final_known n done [] e ordered now = grind (arith, common_steps)
  final_known n done (x ∷ gs) e ordered now =
      let k = length done in
      let at : slice_get all_gates k ≡ Some x = ap (λ l. slice_get l k) (sym e) ∙ at_seam done gs x in
      let longer : length (done ++ x ∷ []) ≡ k + 1 = length-append done (x ∷ []) in
      final_known (n + defines x.kind) (done ++ x ∷ []) gs (append_assoc done (x ∷ []) gs ∙ e) ordered.3
      (ap after_gates longer ∙ more_known k n x at now ordered.2)

  -- at the end all wires are known
  pub all_known : (done : List ℕ) →
      known c (module_of (uses ++ map Keep done)) ≡ range_with_len 0 (wires (netlist_of circuit))
  all_known done =
      ap₂ (λ ns ks. local_wires c.netlist (flat_map (λ n. option_to_list (wire_of c n)) ns) ks)
      (keep_cuts done) (keep_gates done)
      ∙ ap (λ ws. local_wires c.netlist ws (range_with_len 0 (length all_gates))) (cuts_known ins [] (append-nil ins))
      ∙ final_known (netlist_of circuit).given [] all_gates refl (gates_are_ordered circuit good)
      (append-nil (range_with_len 0 (length ins)) ∙ ap (range_with_len 0) given)

-- ---- names that are defined

has_member : (d ns : List (List ℕ)) (n : List ℕ) → Have d ns → has ns n ≡ true → has d n ≡ true
has_member d [] n h e = absurd (true≢false (sym e))
has_member d (m ∷ ns) n h e = elim (cases_Bool (bytes_eq n m)) [
  | inl same ↦ subst (λ k. has d k ≡ true) (sym ((bytes_eq-Decides n m).0 same)) h.0
  | inr other ↦ has_member d ns n h.1 (sym (ap (λ b. b || has ns n) other) ∙ e)
]

-- ---- the end of the lines

none_any : {X : Type 0} (test : X → Bool) (xs : List X) → ((k : ℕ) (x : X) → slice_get xs k ≡ Some x → test x ≡ false) →
    list_any test xs ≡ false
none_any test [] h = refl
none_any test (x ∷ xs) h = ap₂ (λ a b. a || b) (h 0 x refl) (none_any test xs (λ k. h (suc k)))

all_pass : {X : Type 0} (test : X → Bool) (xs : List X) → ((k : ℕ) (x : X) → slice_get xs k ≡ Some x → test x ≡ true) →
    list_all test xs ≡ true
all_pass test [] h = refl
all_pass test (x ∷ xs) h = ap₂ (λ a b. a && b) (h 0 x refl) (all_pass test xs (λ k. h (suc k)))

module _ (k : Limits) (circuit : List CircuitLine) (p : Pattern) (good : AreGoodCircuitLines circuit)
    (layout_good : IsFaultless (layout_grammar k (Some (port_names_of circuit))) p.size (parts_of p))
    (small : IsSmallDesign circuit p) where
  abbrev its_setting : Setting
  its_setting = setting_of circuit p

  abbrev its_kept : List ℕ
  its_kept = filter (λ k. is_inverse_gate (slice_get (netlist_of circuit).gates k)) (gate_numbers circuit)

  abbrev its_module : ModuleLines
  its_module = record {
    area = whole p.size;
    lines = map Cut (input_names circuit) ++ map Use (gate_numbers circuit) ++ map Keep its_kept;
  }

  pub its_given : length (input_names circuit) ≡ (netlist_of circuit).given
  its_given = grind (arith, common_steps, wires_are_named, wires_grow, inputs_are_first)

  abbrev names_are : ArePortsNamed (Some (port_names_of circuit)) (parts_of p)
  names_are = faultless_named k (Some (port_names_of circuit)) p.size (parts_of p) layout_good

  local_by : (n : List ℕ) (w : ℕ) → wire_of (circuit_of circuit) n ≡ Some w → w < wires (netlist_of circuit) →
      is_local (circuit_of circuit) (known (circuit_of circuit) its_module) n ≡ true
  local_by n w e lt =
      ap (is_local_wire (known (circuit_of circuit) its_module)) e
      ∙ ap (λ ws. is_among ws w) (all_known circuit good p (whole p.size) small.inputs small.gates its_given its_kept)
      ∙ among_range (wires (netlist_of circuit)) 0 w (omega arith) (omega (arith, lt))

  in_local : (k : ℕ) (q : Port) → slice_get p.ins k ≡ Some q →
      is_local (circuit_of circuit) (known (circuit_of circuit) its_module) q.name ≡ true
  in_local k q at =
      let is : IsInputName circuit q.name = read_layout-names circuit p (inputs_are_first circuit good) names_are k q at
      in
      let low = is.is_given in
      let more = wires_grow (netlist_of circuit).given (netlist_of circuit).gates in
      local_by q.name is.wire is.named (omega (arith, low, more))

  out_local : (k : ℕ) (q : Port) → slice_get p.outs k ≡ Some q →
      is_local (circuit_of circuit) (known (circuit_of circuit) its_module) q.name ≡ true
  out_local k q at =
      let here : has (map (λ (q : Port). q.name) p.outs) q.name ≡ true =
      any_at _ (map (λ (q : Port). q.name) p.outs) k q.name
      (slice_get-map (λ (q : Port). q.name) p.outs k ∙ ap (option_map (λ (q : Port). q.name)) at)
      (bytes_same q.name) in
      let named : has (output_names circuit) q.name ≡ true =
      sym ((read_layout-is_named circuit p names_are).outs q.name) ∙ here in
      let stands : has (defined circuit) q.name ≡ true =
      has_member (defined circuit) (output_names circuit) q.name (outs_have [] circuit good) named in
      let is : IsPlaced q.name (defined circuit) (length (defined circuit)) =
      placed q.name (defined circuit) (length (defined circuit))
      (ap (λ l. has l q.name) (take-length (defined circuit)) ∙ stands) in
      let early = is.early in
      let all = wires_are_named circuit good in
      local_by q.name is.place is.is (omega (arith, early, all))

  lacks_none : has_nonlocal_port its_setting its_module ≡ false
  unfolding has_nonlocal_port
  lacks_none = grind (arith, common_steps, list_any-append, none_any, whole, in_local, and-false, out_local)

  no_gap : leaves_gap p.size (whole p.size ∷ []) ≡ false
  no_gap = grind (arith, common_steps, all_pass, whole, cells_inside)

  sides : (is_layout_side p.size.w ≡ true) × (is_layout_side p.size.h ≡ true)
  unfolding size_fault
  sides = grind (arith, common_steps, no_code)

  module_good : entry_fault its_setting [] (Module (whole p.size)) ≡ None
  unfolding entry_fault module_line_code module_box_code modules_of last_of
  module_good = grind (arith, common_steps, sides, none_any, whole)

  end_good : end_fault its_setting (plain_lines circuit p) ≡ None
  unfolding end_fault last_of
  end_good =
      ap (λ (ms : List ModuleLines).
      code_if (is_last_module_incomplete its_setting (last_of ms) || leaves_gap p.size (areas ms))
      SomethingMissing)
      (is_one circuit p good)
      ∙ ap₂ (λ a b. code_if (a || b) SomethingMissing) lacks_none no_gap

  pub plain_faultless : IsFaultless (certificate_grammar k its_setting) 1 (plain_lines circuit p)
  plain_faultless = record {
    header = refl;
    each = (
      ap₂ or_else (first_module k its_setting (whole p.size)) module_good,
      inner_faultless k its_setting (whole p.size) [] its_module.lines refl
          (all_lines circuit good p (whole p.size) small.inputs small.gates its_given),
    );
    end = ap (λ o. or_else o None) end_good;
  }

-- ---- the text

-- a section that is a whole text
pub read_alone : {H I : Type 0} (g : Grammar H I) (ls : List (List ℕ)) (h : H) (items : List I) →
    IsSection g.form ls h items → IsFaultless g h items → section_of g 0 ls ≡ Ok (h, items)
read_alone g ls h items is good = ap (section_of g 0) (sym (append-nil ls)) ∙ section_made g 0 ls [] h items is good

-- a text that is read and has the lines of the plain certificate
pub is_plain_text : (text : List ℕ) (b : Bundle) (layout : Pattern) → bundle_of text ≡ Ok b →
    layout_section layout ≡ (b.size, b.parts) → b.version ≡ 1 → b.entries ≡ plain_lines b.circuit layout →
    IsPlainText text b.circuit layout
is_plain_text text b layout e same version entries =
    let s = sections_read text b e in
    let good = good_read text b e in
    let k : Limits = text_limits text in
    let ports = Some (port_names_of b.circuit) in
    record {
      first = s.first;
      second = s.second;
      third = s.third;
      lines = s.lines;
      ended = s.rest;
      circuit_is = s.circuit_is;
      circuit_read = read_alone (circuit_grammar k) s.first tt b.circuit s.circuit_is good.circuit;
      layout_is = subst (λ (q : LayoutHeader × List LayoutLine). IsSection layout_form s.second q.0 q.1) (sym same)
          s.layout_is;
      layout_read = read_alone (layout_grammar k ports) s.second b.size b.parts s.layout_is good.layout
          ∙ ap Ok (sym same);
      certificate_is = subst (λ v. IsSection certificate_form s.third v (plain_lines b.circuit layout)) version
          (subst (IsSection certificate_form s.third b.version) entries s.certificate_is);
    }

not_refused : (v : Verdict) (outcome : Outcome) → outcome ≡ verdict_outcome v → outcome ≡ Refused → ⊥
not_refused v outcome h1 h2 = grind (arith, common_steps)

pub small_is_decided : SmallDesignIsDecided
small_is_decided text output outcome circuit layout t small reports =
    let k : Limits = text_limits text in
    let ports = Some (port_names_of circuit) in
    let b : Bundle = record {
      circuit = circuit;
      size = layout.size;
      parts = parts_of layout;
      version = 1;
      entries = plain_lines circuit layout;
    } in
    let good : AreGoodCircuitLines circuit = circuit_good k 0 t.first tt circuit t.circuit_read in
    let layout_good : IsFaultless (layout_grammar k ports) layout.size (parts_of layout) =
    read_faultless (layout_grammar k ports) 0 t.second layout.size (parts_of layout) t.layout_read in
    let sections : HasSections text b = grind (arith, common_steps) in
    let is_good : IsGoodBundle k b = record {
      circuit = read_faultless (circuit_grammar k) 0 t.first tt circuit t.circuit_read;
      layout = layout_good;
      certificate = subst (λ g. IsFaultless (certificate_grammar k g) 1 (plain_lines circuit layout))
          (sym (same_setting circuit layout)) (plain_faultless k circuit layout good layout_good small);
    } in
    let reads : bundle_of text ≡ Ok b = bundle_made text b sections is_good in
    let says : SaysReport b output outcome = subst (λ r. AnswersOrRefuses SaysReport r output outcome) reads reports in
    let some : outcome ≢ Refused = not_refused says.verdict outcome says.ends in
    let said : SaysBundle text circuit layout (plain_lines circuit layout) =
    (bundle_good text b reads).says_all layout refl in
    (some, (plain_lines_decide text output outcome circuit layout said reports some).1)

pub refused_is_none : RefusedIsNoSmallDesign
refused_is_none text output reports circuit layout plain small =
    (small_is_decided text output Refused circuit layout plain small reports).0 refl
