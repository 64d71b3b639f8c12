-- The run by the values of the inputs
use Rattle.soundness.proofs.Imports.{All, Ball, Bool, In, IsInputName, LayoutLine, List, Mirror, None, Option, Out}
use Rattle.soundness.proofs.Imports.{Pattern, Port, PortNameLists, Some, UnknownName, Valuation, Waste, [], ap, ap₂}
use Rattle.soundness.proofs.Imports.{arith, bytes_eq, cases_Bool, circuit_of, code_if, common_steps, cond, defined}
use Rattle.soundness.proofs.Imports.{false, false≢true, get_or_from_slice_get, has, in_cells, in_ports_on}
use Rattle.soundness.proofs.Imports.{in_rectangles, inl, input_names, inr, is_cell_at, kept, length, map, name_fault}
use Rattle.soundness.proofs.Imports.{netlist_of, not, number, option_map, option_map_or, output_names, parts_of}
use Rattle.soundness.proofs.Imports.{place_of, refl, run, skipped, slice_get, slice_get-map, slice_get_within, start}
use Rattle.soundness.proofs.Imports.{subst, suc, sym, take, true, wire_of, zero, ℕ, ℤ, ◌&&◌, ◌++◌, ◌+◌, ◌<◌, ◌||◌, ◌∙◌}
use Rattle.soundness.proofs.Imports.{◌∷◌, ◌≡◌}
use Rattle.bbm_rule.proofs.Steps.{step_same}
use Rattle.soundness.specs.HeadlineLaws.{InputsDecideTheRun, ReadLayoutHasInputNames}

-- ---- input cells have the names of inputs

-- a name that stands among the first k has its place there
pub record IsPlaced (name : List ℕ) (names : List (List ℕ)) (k : ℕ) : Type 0 where
  pub place : ℕ
  pub is : place_of name names ≡ Some place
  pub early : place < k

first_place : (name m : List ℕ) (names : List (List ℕ)) → bytes_eq name m ≡ true → place_of name (m ∷ names) ≡ Some 0
unfolding place_of number
first_place name m names e = rw e refl

later_place : (b : Bool) (k p : ℕ) → cond b (Some k) None ≡ Some p → cond b (Some (k + 1)) None ≡ Some (p + 1)
later_place b k p h1 = grind (arith, common_steps, option_map)

next_place : (name m : List ℕ) (names : List (List ℕ)) (p : ℕ) → bytes_eq name m ≡ false →
    place_of name names ≡ Some p → place_of name (m ∷ names) ≡ Some (p + 1)
unfolding place_of number
next_place name m names p e is = rw e (later_place (has names name) (number names name) p is)

pub placed : (name : List ℕ) (names : List (List ℕ)) (k : ℕ) → has (take k names) name ≡ true → IsPlaced name names k
placed name names zero h = absurd (false≢true h)
placed name [] (suc k) h = absurd (false≢true h)
placed name (m ∷ names) (suc k) h = elim (cases_Bool (bytes_eq name m)) [
  | inl e ↦ record { place = 0; is = first_place name m names e; early = omega arith }
  | inr e ↦
      let later : IsPlaced name names k = placed name names k (sym (ap (λ b. b || has (take k names) name) e) ∙ h) in
      let early = later.early in
      record {
        place = later.place + 1;
        is = next_place name m names later.place e later.is;
        early = omega (arith, early);
      }
]

no_code : (b : Bool) → code_if (not b) UnknownName ≡ None → b ≡ true
no_code b h1 = grind (arith, common_steps)

pub in_known : (ins outs : List (List ℕ)) (q : Port) →
    name_fault (Some (record { ins = ins; outs = outs })) (In q) ≡ None → has ins q.name ≡ true
unfolding name_fault
in_known ins outs q e = no_code (has ins q.name) e

-- an input cell among the lines of a layout
pub in_stands : (p : Pattern) (i : ℕ) (q : Port) → slice_get p.ins i ≡ Some q →
    slice_get (parts_of p) (length (map Mirror p.mirrors) + (length (map Ball p.balls) + i)) ≡ Some (In q)
in_stands p i q e =
    skipped (map Mirror p.mirrors) (map Ball p.balls ++ (map In p.ins ++ (map Out p.outs ++ map Waste p.wastes)))
    (length (map Mirror p.mirrors)) (length (map Ball p.balls) + i) refl
    ∙ skipped (map Ball p.balls) (map In p.ins ++ (map Out p.outs ++ map Waste p.wastes))
    (length (map Ball p.balls)) i refl
    ∙ kept (map In p.ins) (map Out p.outs ++ map Waste p.wastes) i (In q)
    (slice_get-map In p.ins i ∙ ap (option_map In) e)

pub at_place : {A : Type 0} (P : A → Type 0) (xs : List A) (k : ℕ) (a : A) → All P xs → slice_get xs k ≡ Some a → P a
at_place P xs k a all e = subst P (get_or_from_slice_get xs k a a e) (all k a (slice_get_within xs k a e))

pub read_layout-names : ReadLayoutHasInputNames
read_layout-names lines p first named i q e =
    let names : PortNameLists = record { ins = input_names lines; outs = output_names lines } in
    let known = in_known (input_names lines) (output_names lines) q
    (at_place (λ (part : LayoutLine). name_fault (Some names) part ≡ None) (parts_of p) _ (In q) named.good
    (in_stands p i q e)) in
    let is : IsPlaced q.name (defined lines) (netlist_of lines).given =
    placed q.name (defined lines) _ (ap (λ (ns : List (List ℕ)). has ns q.name) first ∙ known) in
    record { wire = is.place; named = is.is; is_given = is.early }

-- ---- the run by the inputs alone

same_value : (o : Option ℕ) (w : ℕ) (u v : Valuation) → o ≡ Some w → v w ≡ u w →
    option_map_or v o false ≡ option_map_or u o false
same_value o w u v e h = grind (arith, common_steps, option_map_or)

same_ports : (f g : List ℕ → Bool) (ports : List Port) (x y : ℤ) →
    ((i : ℕ) (q : Port) → slice_get ports i ≡ Some q → f q.name ≡ g q.name) →
    in_ports_on f ports x y ≡ in_ports_on g ports x y
same_ports f g [] x y same = refl
same_ports f g (q ∷ ports) x y same =
    ap₂ (λ a b. (a && is_cell_at q.cell x y) || b) (same 0 q refl)
    (same_ports f g ports x y (λ i r e. same (suc i) r e))

pub inputs_decide : InputsDecideTheRun
unfolding run start
inputs_decide lines p inputs v zero x y named s =
    ap (λ b. in_rectangles p.mirrors x y || in_cells p.balls x y || b)
    (same_ports _ _ p.ins x y (λ i q e. let is : IsInputName lines q.name = named i q e in
    same_value (wire_of (circuit_of lines) q.name) is.wire inputs v is.named (s.given is.wire is.is_given)))
inputs_decide lines p inputs v (suc t) x y named s =
    step_same t _ _ x y (inputs_decide lines p inputs v t _ _ named s) (inputs_decide lines p inputs v t _ _ named s)
    (inputs_decide lines p inputs v t _ _ named s) (inputs_decide lines p inputs v t _ _ named s)
