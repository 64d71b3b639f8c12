-- One gate after another
use Rattle.circuit.proofs.Imports.{Bool, EvaluatesUpTo, Gate, GateWires, List, None, Option, Some, [], ap, arith}
use Rattle.circuit.proofs.Imports.{as_values, common_steps, evaluate, gate_of, get_or, length, map, option_and_then}
use Rattle.circuit.proofs.Imports.{option_map, refl, row, slice_get-map, slice_get_read, subst, suc, sym, take}
use Rattle.circuit.proofs.Imports.{take_more, zero, ℕ, ◌++◌, ◌+◌, ◌<◌, ◌∙◌, ◌∷◌, ◌≡◌}
use Rattle.lemmas.proofs.Common.{map_push}

pub none_done : (vs given : List Bool) → vs ≡ given → evaluate given [] ≡ Some vs
unfolding evaluate
none_done vs given same = ap Some (sym same)

map_is : (f : List Bool → List Bool) (o : Option (List Bool)) → option_and_then (λ r. Some (f r)) o ≡ option_map f o
map_is f o = grind (arith, common_steps)

more_after : (o : Option (List Bool)) (f g : List Bool → Option (List Bool)) (x y : List Bool) →
    option_and_then f o ≡ Some x → ((r : List Bool) → f r ≡ Some x → g r ≡ Some y) → option_and_then g o ≡ Some y
more_after o f g x y h1 h2 = grind (arith, common_steps)

evaluate_more : (vs before after : List Bool) (gs : List Gate) (g : Gate) → evaluate vs gs ≡ Some before →
    option_map (λ (r : List Bool). before ++ r) (row g.kind (map (as_values before) g.ins)) ≡ Some after →
    evaluate vs (gs ++ g ∷ []) ≡ Some after
unfolding evaluate
evaluate_more vs before after [] g e h =
    let same : vs ≡ before = some_is vs before e in
    map_is (λ r. vs ++ r) (row g.kind (map (as_values vs) g.ins))
    ∙ ap (λ (l : List Bool). option_map (λ (r : List Bool). l ++ r) (row g.kind (map (as_values l) g.ins))) same ∙ h
  where
    some_is : (x y : List Bool) → Some x ≡ Some y → x ≡ y
    some_is x y e = cc
evaluate_more vs before after (f ∷ gs) g e h =
    more_after (row f.kind (map (as_values vs) f.ins)) (λ r. evaluate (vs ++ r) gs)
    (λ r. evaluate (vs ++ r) (gs ++ g ∷ [])) before after e
    (λ r later. evaluate_more (vs ++ r) before after gs g later h)

pub values_more : (given before after : List Bool) (gs : List GateWires) (k : ℕ) (g : GateWires) → k < length gs →
    g ≡ get_or gs k g → option_map (λ (r : List Bool). before ++ r)
    (row (gate_of g).kind (map (as_values before) (gate_of g).ins)) ≡ Some after →
    evaluate given (map gate_of (take k gs)) ≡ Some before → evaluate given (map gate_of (take (k + 1) gs)) ≡ Some after
values_more given before after gs k g h is here so_far =
    ap (λ (l : List GateWires). evaluate given (map gate_of l))
    (take_more gs k g h ∙ ap (λ (x : GateWires). take k gs ++ x ∷ []) (sym is))
    ∙ ap (evaluate given) (map_push gate_of (take k gs) g)
    ∙ evaluate_more given before after (map gate_of (take k gs)) (gate_of g) so_far here

map_take : (gs : List GateWires) (k : ℕ) → take k (map gate_of gs) ≡ map gate_of (take k gs)
map_take gs zero = refl
map_take [] (suc k) = refl
map_take (g ∷ gs) (suc k) = ap (λ (l : List Gate). gate_of g ∷ l) (map_take gs k)

-- a gate without a row
pub values_stop : (given vs new : List Bool) (gs : List GateWires) (k : ℕ) (g : GateWires) → k < length gs →
    g ≡ get_or gs k g → new ≡ vs → row (gate_of g).kind (map (as_values vs) (gate_of g).ins) ≡ None →
    evaluate given (map gate_of (take k gs)) ≡ Some vs → EvaluatesUpTo given (map gate_of gs) k new
values_stop given vs new gs k g h is same none so_far =
    subst (EvaluatesUpTo given (map gate_of gs) k) (sym same) (record {
      gate = gate_of g;
      numbered = slice_get-map gate_of gs k ∙ ap (option_map gate_of) (slice_get_read gs (length gs) k g refl h is);
      before = ap (evaluate given) (map_take gs k) ∙ so_far;
      none = none;
    })
