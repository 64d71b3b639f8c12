-- The ports of a layout that was read have the names that were given, and each of these has a port
use Rattle.soundness.proofs.Imports.{Ball, Bool, In, LayoutLine, List, Mirror, None, Out, Pattern, Port, PortNameLists}
use Rattle.soundness.proofs.Imports.{Some, UnknownName, Waste, [], and_parts, ap, ap₂, arith, bytes_eq}
use Rattle.soundness.proofs.Imports.{cases_Bool, common_steps, false, false≢true, has, inl, input_names, inr}
use Rattle.soundness.proofs.Imports.{kept, length, list_all, list_any, map, name_fault, option_map, or-false}
use Rattle.soundness.proofs.Imports.{output_names, parts_of, refl, same_truth, skipped, slice_get, slice_get-map, subst}
use Rattle.soundness.proofs.Imports.{suc, sym, true, ℕ, ◌++◌, ◌+◌, ◌||◌, ◌∙◌, ◌∷◌, ◌≡◌}
use Rattle.lemmas.proofs.Common.{bytes_eq-Decides, list_any-append}
use Rattle.pattern.specs.Lines.{is_input_cell_named, is_output_cell_named, missing_port_fault}
use Rattle.soundness.specs.HeadlineLaws.{ReadLayoutHasPortNames}
use Rattle.soundness.proofs.InputRuns.{at_place, in_known, in_stands}
use Rattle.section_text.proofs.Codes.{no_code}

-- ---- what all names have

all_have : (P : List ℕ → Bool) (names : List (List ℕ)) (n : List ℕ) → list_all P names ≡ true → has names n ≡ true →
    P n ≡ true
all_have P [] n all h = absurd (false≢true h)
all_have P (m ∷ names) n all h =
    let both = and_parts (P m) (list_all P names) all in
    elim (cases_Bool (bytes_eq n m)) [
      | inl e ↦ subst (λ k. P k ≡ true) (sym ((bytes_eq-Decides n m).0 e)) both.0
      | inr e ↦ all_have P names n both.1 (sym (ap (λ b. b || has names n) e) ∙ h)
    ]

-- where each port has one of the names, so has what names a port
ports_known : (names : List (List ℕ)) (ports : List Port) (n : List ℕ) →
    ((i : ℕ) (q : Port) → slice_get ports i ≡ Some q → has names q.name ≡ true) →
    has (map (λ q. q.name) ports) n ≡ true → has names n ≡ true
ports_known names [] n all h = absurd (false≢true h)
ports_known names (q ∷ ports) n all h = elim (cases_Bool (bytes_eq n q.name)) [
  | inl e ↦ subst (λ k. has names k ≡ true) (sym ((bytes_eq-Decides n q.name).0 e)) (all 0 q refl)
  | inr e ↦ ports_known names ports n (λ i r at. all (suc i) r at)
      (sym (ap (λ b. b || has (map (λ q. q.name) ports) n) e) ∙ h)
]

-- ---- the lines that have a name

none_in : {X : Type 0} (f : LayoutLine → Bool) (make : X → LayoutLine) → ((x : X) → f (make x) ≡ false) →
    (xs : List X) → list_any f (map make xs) ≡ false
none_in f make never [] = refl
none_in f make never (x ∷ xs) = ap₂ (λ a b. a || b) (never x) (none_in f make never xs)

all_in : (f : LayoutLine → Bool) (make : Port → LayoutLine) (n : List ℕ) →
    ((q : Port) → f (make q) ≡ bytes_eq n q.name) → (ports : List Port) →
    list_any f (map make ports) ≡ has (map (λ q. q.name) ports) n
all_in f make n same [] = refl
all_in f make n same (q ∷ ports) = ap₂ (λ a b. a || b) (same q) (all_in f make n same ports)

five_parts : (f : LayoutLine → Bool) (a b c d e : List LayoutLine) →
    list_any f (a ++ (b ++ (c ++ (d ++ e))))
    ≡ (list_any f a || (list_any f b || (list_any f c || (list_any f d || list_any f e))))
five_parts f a b c d e = grind (arith, common_steps, list_any-append)

pub in_lines : (p : Pattern) (n : List ℕ) →
    list_any (is_input_cell_named n) (parts_of p) ≡ has (map (λ q. q.name) p.ins) n
in_lines p n = grind (arith, common_steps, five_parts, none_in, all_in, or-false)

pub out_lines : (p : Pattern) (n : List ℕ) →
    list_any (is_output_cell_named n) (parts_of p) ≡ has (map (λ q. q.name) p.outs) n
out_lines p n = grind (arith, common_steps, five_parts, none_in, all_in, or-false)

-- ---- output cells

out_known : (names : PortNameLists) (q : Port) → name_fault (Some names) (Out q) ≡ None → has names.outs q.name ≡ true
unfolding name_fault
out_known names q e = no_code (has names.outs q.name) UnknownName e

-- an output cell among the lines of a layout
abbrev out_place : Pattern → ℕ → ℕ
out_place p i = length (map Mirror p.mirrors) + (length (map Ball p.balls) + (length (map In p.ins) + i))

out_stands : (p : Pattern) (i : ℕ) (q : Port) → slice_get p.outs i ≡ Some q →
    slice_get (parts_of p) (out_place p i) ≡ Some (Out q)
out_stands p i q e =
    skipped (map Mirror p.mirrors) (map Ball p.balls ++ (map In p.ins ++ (map Out p.outs ++ map Waste p.wastes)))
    (length (map Mirror p.mirrors)) (length (map Ball p.balls) + (length (map In p.ins) + i)) refl
    ∙ skipped (map Ball p.balls) (map In p.ins ++ (map Out p.outs ++ map Waste p.wastes)) (length (map Ball p.balls))
    (length (map In p.ins) + i) refl
    ∙ skipped (map In p.ins) (map Out p.outs ++ map Waste p.wastes) (length (map In p.ins)) i refl
    ∙ kept (map Out p.outs) (map Waste p.wastes) i (Out q) (slice_get-map Out p.outs i ∙ ap (option_map Out) e)

-- ---- the whole

all_stand : (names : PortNameLists) (parts : List LayoutLine) → missing_port_fault (Some names) parts ≡ None →
    (list_all (λ n. list_any (is_input_cell_named n) parts) names.ins ≡ true)
    × (list_all (λ n. list_any (is_output_cell_named n) parts) names.outs ≡ true)
unfolding missing_port_fault
all_stand names parts e = grind (arith, common_steps, and_parts, no_code)

pub read_layout-is_named : ReadLayoutHasPortNames
read_layout-is_named lines p named =
    let names : PortNameLists = record { ins = input_names lines; outs = output_names lines } in
    let all = all_stand names (parts_of p) named.whole in
    record {
      ins = λ n. same_truth _ _
          (ports_known names.ins p.ins n
          (λ i q e. in_known names.ins names.outs q
          (at_place (λ (part : LayoutLine). name_fault (Some names) part ≡ None) (parts_of p) _ (In q) named.good
          (in_stands p i q e))))
          (λ h. sym (in_lines p n) ∙ all_have (λ n. list_any (is_input_cell_named n) (parts_of p)) names.ins n all.0 h);
      outs = λ n. same_truth _ _
          (ports_known names.outs p.outs n
          (λ i q e. out_known names q (at_place (λ (part : LayoutLine). name_fault (Some names) part ≡ None)
          (parts_of p)
          (out_place p i) (Out q) named.good (out_stands p i q e))))
          (λ h. sym (out_lines p n) ∙ all_have
          (λ n. list_any (is_output_cell_named n) (parts_of p)) names.outs n all.1 h);
    }
