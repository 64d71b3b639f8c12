-- The inputs and the outputs of a good circuit have names, if its wires do
use Rattle.headline.proofs.Imports.{AreGoodAfter, Bool, CircuitLine, Have, List, [], arith, common_steps, consume_have}
use Rattle.headline.proofs.Imports.{consumed, defined, flat_map-append, if◌then◌else◌, input_names, names_pass}
use Rattle.headline.proofs.Imports.{output_names, push_cons, refl, subst, sym, ℕ, ◌++◌, ◌∷◌}
use Rattle.circuit.specs.Bridge.{is_output}
use Rattle.circuit.proofs.Places.{have_left}
use Rattle.headline.proofs.WrittenCircuits.{AreNames, have_names, names_both, names_left, names_right}

pub input_named : (circuit : List CircuitLine) → AreNames (defined circuit) → AreNames (input_names circuit)
input_named [] h = refl
input_named (r ∷ circuit) h =
    grind (arith, names_both, names_left, names_right, (input_named circuit (names_right r.outs (defined circuit) h)))

have_append : (d xs ys : List (List ℕ)) → Have d xs → Have d ys → Have d (xs ++ ys)
have_append d [] ys h k = k
have_append d (x ∷ xs) ys h k = (h.0, have_append d xs ys h.1 k)

have_if : (d ns : List (List ℕ)) (b : Bool) → Have d ns → Have d (if b then ns else [])
have_if d ns b h1 = grind (arith, common_steps)

pub outs_have : (before rest : List CircuitLine) → AreGoodAfter before rest → Have (defined (before ++ rest))
    (output_names rest)
unfolding AreGoodAfter
outs_have before [] good = tt
outs_have before (r ∷ rest) good =
    let D = defined (before ++ r ∷ rest) in
    let own : Have (defined before) r.ins =
    consume_have (defined before) (consumed before) r.ins (names_pass before r good.0.adds).0 in
    let here : Have D r.ins =
    subst (λ d. Have d r.ins) (sym (flat_map-append (λ (r : CircuitLine). r.outs) before (r ∷ rest)))
    (have_left (defined before) (defined (r ∷ rest)) r.ins own) in
    have_append D (if is_output r.kind then r.ins else []) (output_names rest) (have_if D r.ins (is_output r.kind) here)
    (subst (λ (es : List CircuitLine). Have (defined es) (output_names rest)) (push_cons before r rest)
    (outs_have (before ++ r ∷ []) rest good.1))

pub outs_named : (circuit : List CircuitLine) → AreGoodAfter [] circuit → AreNames (defined circuit) →
    AreNames (output_names circuit)
outs_named circuit good names = grind (arith, common_steps, have_names, outs_have)
