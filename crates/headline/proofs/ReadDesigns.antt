-- What a text says that is not refused keeps the rules of a design
use Rattle.headline.proofs.Imports.{All-from_recursion, AllByRecursion, AnswersOrRefuses, AreFaultless, AreLinesInOrder}
use Rattle.headline.proofs.Imports.{Bundle, CircuitLine, End, Err, Form, Header, IsDesign, IsFaultless, IsSection}
use Rattle.headline.proofs.Imports.{IsTrue, Item, LayoutHeader, LayoutLine, List, Ok, Pattern, Refusal, Result}
use Rattle.headline.proofs.Imports.{SaysReport, Some, [], and_parts, ap₂, arith, bundle_of, circuit_grammar}
use Rattle.headline.proofs.Imports.{common_steps, cond_some, consumed, defined, eqb, faultless_named, form_of}
use Rattle.headline.proofs.Imports.{gate_entry, gate_line_of_kind, if_one_word, is_name, layout_grammar, layout_section}
use Rattle.headline.proofs.Imports.{length, list_all, map, name_after_keyword, name_at, name_of, names_at}
use Rattle.headline.proofs.Imports.{no_code_first, one_line, parts_of, port_names_of, read_layout-is_named, refl}
use Rattle.headline.proofs.Imports.{same_Some, section_made, slice_get, subst, suc, sym, true, words_of, zero, ℕ, ◌&&◌}
use Rattle.headline.proofs.Imports.{◌++◌, ◌+◌, ◌>>=◌, ◌∷◌, ◌≡◌}
use Rattle.lemmas.proofs.Common.{option_and_then_some}
use Rattle.section_text.proofs.Spellings.{chosen, passed}
use Rattle.circuit.specs.Rules.{first_unconsumed}
use Rattle.headline.specs.PlainLaws.{UnrefusedKeepsDesignRules}
use Rattle.headline.proofs.Designs.{one_design}
use Rattle.headline.proofs.Migrations.{good_read, sections_read}
use Rattle.headline.proofs.WrittenCircuits.{AreNames, names_both}
use Rattle.headline.proofs.YesIsRight.{bundle_good, circuit_good, laid_out, no_missing}
use Rattle.section_text.specs.declared.limits.Limits.{Limits}
use Rattle.meaning.specs.Design.{text_limits}
use Rattle.section_text.proofs.Codes.{no_code_second}

-- ---- names that are read are names

name_is : (w n : List ℕ) → name_of w ≡ Some n → is_name n ≡ true
unfolding name_of
name_is w n e = let found = cond_some (is_name w) w n e in subst (λ k. is_name k ≡ true) found.1 found.0

named_at : (ws : List (List ℕ)) (i : ℕ) (n : List ℕ) → name_at ws i ≡ Some n → is_name n ≡ true
unfolding name_at
named_at ws i n e = option_and_then_some name_of (slice_get ws i) n e (λ w found named. name_is w n named)

lone_named : (ws : List (List ℕ)) (n : List ℕ) → name_after_keyword ws ≡ Some n → is_name n ≡ true
unfolding name_after_keyword
lone_named ws n e = named_at ws 1 n (passed (eqb (length ws) 2) (name_at ws 1) n e).1

are_named : (ws : List (List ℕ)) (i n : ℕ) (ns : List (List ℕ)) → names_at ws i n ≡ Some ns → AreNames ns
unfolding names_at
are_named ws i zero ns e = subst AreNames (same_Some [] ns e) refl
are_named ws i (suc n) ns e =
    option_and_then_some (λ first. names_at ws (i + 1) n >>= λ others. Some (first ∷ others)) (name_at ws i) ns e
    (λ first named rest.
    option_and_then_some (λ others. Some (first ∷ others)) (names_at ws (i + 1) n) ns rest (λ others more made.
    subst AreNames (same_Some (first ∷ others) ns made)
    (ap₂ (λ a b. a && b) (named_at ws i first named) (are_named ws (i + 1) n others more))))

-- ---- the wires that a line defines

Names : CircuitLine → Type 0
Names r = AreNames r.outs

gate_named : (ws : List (List ℕ)) (r : CircuitLine) → gate_entry ws ≡ Some r → Names r
unfolding gate_entry gate_line_of_kind Names
gate_named ws r e = grind (arith, common_steps, option_and_then_some, passed, same_Some, are_named)

-- the names of a form
IfItem : Form (Unit {0}) CircuitLine → Type 0
IfItem (Item r) = Names r
IfItem _ = Unit {0}

form_named : (ws : List (List ℕ)) (f : Form (Unit {0}) CircuitLine) → form_of ws ≡ Some f → IfItem f
unfolding form_of if_one_word IfItem Names
form_named ws f e = grind (arith, common_steps, chosen, lone_named, gate_named)

line_named : (l : List ℕ) (r : CircuitLine) → form_of (words_of l) ≡ Some (Item r) → AreNames r.outs
unfolding IfItem Names
line_named l r e = form_named (words_of l) (Item r) e

items_named : (items : List CircuitLine) (ls : List (List ℕ)) →
    map (λ l. form_of (words_of l)) ls ≡ map (λ i. Some (Item i)) items ++ Some End ∷ [] → AreNames (defined items)
items_named [] ls e = refl
items_named (r ∷ items) ls e =
    let one = one_line form_of (Some (Item r)) (map (λ i. Some (Item i)) items ++ Some End ∷ []) ls e in
    names_both r.outs (defined items) (line_named one.line r one.first_form)
    (items_named items one.rest one.other_forms)

wires_named : (circuit : List CircuitLine) (ls : List (List ℕ)) → IsSection form_of ls tt circuit →
    AreNames (defined circuit)
wires_named circuit ls is =
    let one = one_line form_of (Some (Header tt)) (map (λ i. Some (Item i)) circuit ++ Some End ∷ []) ls is in
    items_named circuit one.rest one.other_forms

-- ---- the rules

pub each_name : (ns : List (List ℕ)) → AreNames ns → AllByRecursion (λ n. IsTrue (is_name n)) ns
each_name [] h = tt
each_name (n ∷ ns) h = let both = and_parts (is_name n) (list_all is_name ns) h in (both.0, each_name ns both.1)

in_order : (l : Limits) (before rest : List CircuitLine) → AreFaultless (circuit_grammar l) tt before rest →
    AreLinesInOrder before rest
in_order l before [] good = tt
in_order l before (r ∷ rest) good =
    grind (arith, common_steps, no_code_first, (in_order l (before ++ r ∷ []) rest good.1))

pub design_by : (l : Limits) (circuit : List CircuitLine) (p : Pattern) (ls : List (List ℕ)) →
    IsSection form_of ls tt circuit → IsFaultless (circuit_grammar l) tt circuit →
    IsFaultless (layout_grammar l (Some (port_names_of circuit))) p.size (parts_of p) → IsDesign circuit p
design_by l circuit p ls is good layout =
    let ports = Some (port_names_of circuit) in
    record {
      circuit_lines = circuit_good l 0 (ls ++ []) tt circuit
          (section_made (circuit_grammar l) 0 ls [] tt circuit is good);
      in_order = in_order l [] circuit good.each;
      names = All-from_recursion (λ n. IsTrue (is_name n)) (defined circuit)
          (each_name (defined circuit) (wires_named circuit ls is));
      all_consumed = no_missing (first_unconsumed (consumed circuit) (defined circuit)) good.end;
      size = no_code_second _ _ layout.header;
      layout_lines = laid_out l ports p.size [] (parts_of p) layout.each;
      ports = read_layout-is_named circuit p (faultless_named l ports p.size (parts_of p) layout);
    }

-- what is read is a design
pub design_read : (text : List ℕ) (b : Bundle) (p : Pattern) → bundle_of text ≡ Ok b →
    layout_section p ≡ (b.size, b.parts) → IsDesign b.circuit p
design_read text b p e same =
    let s = sections_read text b e in
    let good = good_read text b e in
    design_by (text_limits text) b.circuit p s.first s.circuit_is good.circuit
    (subst (λ (q : LayoutHeader × List LayoutLine).
    IsFaultless (layout_grammar (text_limits text) (Some (port_names_of b.circuit))) q.0 q.1) (sym same) good.layout)

pub designs_are_read : UnrefusedKeepsDesignRules
designs_are_read text output outcome circuit layout reports some d = by (bundle_of text) refl reports
  where
    by : (read : Result Bundle Refusal) → bundle_of text ≡ read → AnswersOrRefuses SaysReport read output outcome →
        IsDesign circuit layout
    by (Err refusal) e told = absurd (some told.1)
    by (Ok b) e says =
        let p = says.certificate.layout in
        let own = design_read text b p e says.its_own.layout in
        let same = one_design text circuit b.circuit layout p d ((bundle_good text b e).says p says.its_own.layout) in
        subst (λ cs. IsDesign cs layout) (sym same.0) (subst (IsDesign b.circuit) (sym same.1) own)
