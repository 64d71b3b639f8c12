-- Gates keep the number of ones, and inverse gates undo others.
use Rattle.circuit.proofs.Imports.{Bool, Cswap, Delay, Fredkin, Interact, List, None, Option, Some, Source, Switch}
use Rattle.circuit.proofs.Imports.{Uninteract, Unswitch, [], arith, common_steps, false, refl, row, subst, true, ℕ, ◌∷◌}
use Rattle.circuit.proofs.Imports.{◌≡◌}
use Rattle.circuit.specs.Laws.{ones, GatesKeepOnes, InverseGatesUndo}

none : {outs : List Bool} → ◌≡◌ {A = Option (List Bool)} None (Some outs) → ⊥
none e = absurd cc

list_is : (x y : List Bool) → ◌≡◌ {A = Option (List Bool)} (Some x) (Some y) → x ≡ y
list_is x y e = cc

switch_undone : (ins outs : List Bool) → row Switch ins ≡ Some outs → row Unswitch outs ≡ Some ins
unfolding row
switch_undone ([]) outs e = absurd (none e)
switch_undone (b0 ∷ []) outs e = absurd (none e)
switch_undone (false ∷ false ∷ []) outs e = grind (arith, common_steps, list_is)
switch_undone (false ∷ true ∷ []) outs e = grind (arith, common_steps, list_is)
switch_undone (true ∷ false ∷ []) outs e = grind (arith, common_steps, list_is)
switch_undone (true ∷ true ∷ []) outs e =
    subst (λ (o : List Bool). row Unswitch o ≡ Some (true ∷ true ∷ [])) (list_is (true ∷ true ∷ false ∷ []) outs e) refl
switch_undone (b0 ∷ b1 ∷ b ∷ bs) outs e = absurd (none e)

unswitch_undone : (ins outs : List Bool) → row Unswitch ins ≡ Some outs → row Switch outs ≡ Some ins
unfolding row
unswitch_undone ([]) outs e = absurd (none e)
unswitch_undone (b0 ∷ []) outs e = absurd (none e)
unswitch_undone (b0 ∷ b1 ∷ []) outs e = absurd (none e)
unswitch_undone (false ∷ false ∷ false ∷ []) outs e = grind (arith, common_steps, list_is)
unswitch_undone (false ∷ false ∷ true ∷ []) outs e =
    subst (λ (o : List Bool). row Switch o ≡ Some (false ∷ false ∷ true ∷ [])) (list_is (false ∷ true ∷ []) outs e) refl
unswitch_undone (false ∷ true ∷ false ∷ []) outs e = absurd (none e)
unswitch_undone (false ∷ true ∷ true ∷ []) outs e = absurd (none e)
unswitch_undone (true ∷ false ∷ false ∷ []) outs e =
    subst (λ (o : List Bool). row Switch o ≡ Some (true ∷ false ∷ false ∷ [])) (list_is (true ∷ false ∷ []) outs e) refl
unswitch_undone (true ∷ false ∷ true ∷ []) outs e = absurd (none e)
unswitch_undone (true ∷ true ∷ false ∷ []) outs e =
    subst (λ (o : List Bool). row Switch o ≡ Some (true ∷ true ∷ false ∷ [])) (list_is (true ∷ true ∷ []) outs e) refl
unswitch_undone (true ∷ true ∷ true ∷ []) outs e = absurd (none e)
unswitch_undone (b0 ∷ b1 ∷ b2 ∷ b ∷ bs) outs e = absurd (none e)

interact_undone : (ins outs : List Bool) → row Interact ins ≡ Some outs → row Uninteract outs ≡ Some ins
unfolding row
interact_undone ([]) outs e = absurd (none e)
interact_undone (b0 ∷ []) outs e = absurd (none e)
interact_undone (false ∷ false ∷ []) outs e = grind (arith, common_steps, list_is)
interact_undone (false ∷ true ∷ []) outs e = grind (arith, common_steps, list_is)
interact_undone (true ∷ false ∷ []) outs e = grind (arith, common_steps, list_is)
interact_undone (true ∷ true ∷ []) outs e = grind (arith, common_steps, list_is)
interact_undone (b0 ∷ b1 ∷ b ∷ bs) outs e = absurd (none e)

uninteract_undone : (ins outs : List Bool) → row Uninteract ins ≡ Some outs → row Interact outs ≡ Some ins
unfolding row
uninteract_undone ([]) outs e = absurd (none e)
uninteract_undone (false ∷ []) outs e = absurd (none e)
uninteract_undone (true ∷ []) outs e = absurd (none e)
uninteract_undone (false ∷ false ∷ []) outs e = absurd (none e)
uninteract_undone (false ∷ true ∷ []) outs e = absurd (none e)
uninteract_undone (true ∷ false ∷ []) outs e = absurd (none e)
uninteract_undone (true ∷ true ∷ []) outs e = absurd (none e)
uninteract_undone (false ∷ false ∷ false ∷ []) outs e = absurd (none e)
uninteract_undone (false ∷ false ∷ true ∷ []) outs e = absurd (none e)
uninteract_undone (false ∷ true ∷ false ∷ []) outs e = absurd (none e)
uninteract_undone (false ∷ true ∷ true ∷ []) outs e = absurd (none e)
uninteract_undone (true ∷ false ∷ false ∷ []) outs e = absurd (none e)
uninteract_undone (true ∷ false ∷ true ∷ []) outs e = absurd (none e)
uninteract_undone (true ∷ true ∷ false ∷ []) outs e = absurd (none e)
uninteract_undone (true ∷ true ∷ true ∷ []) outs e = absurd (none e)
uninteract_undone (false ∷ false ∷ false ∷ false ∷ []) outs e = grind (arith, common_steps, list_is)
uninteract_undone (false ∷ false ∷ false ∷ true ∷ []) outs e = absurd (none e)
uninteract_undone (false ∷ false ∷ true ∷ false ∷ []) outs e = grind (arith, common_steps, list_is)
uninteract_undone (false ∷ false ∷ true ∷ true ∷ []) outs e = absurd (none e)
uninteract_undone (false ∷ true ∷ false ∷ false ∷ []) outs e = grind (arith, common_steps, list_is)
uninteract_undone (false ∷ true ∷ false ∷ true ∷ []) outs e = absurd (none e)
uninteract_undone (false ∷ true ∷ true ∷ false ∷ []) outs e = absurd (none e)
uninteract_undone (false ∷ true ∷ true ∷ true ∷ []) outs e = absurd (none e)
uninteract_undone (true ∷ false ∷ false ∷ false ∷ []) outs e = absurd (none e)
uninteract_undone (true ∷ false ∷ false ∷ true ∷ []) outs e = grind (arith, common_steps, list_is)
uninteract_undone (true ∷ false ∷ true ∷ false ∷ []) outs e = absurd (none e)
uninteract_undone (true ∷ false ∷ true ∷ true ∷ []) outs e = absurd (none e)
uninteract_undone (true ∷ true ∷ false ∷ false ∷ []) outs e = absurd (none e)
uninteract_undone (true ∷ true ∷ false ∷ true ∷ []) outs e = absurd (none e)
uninteract_undone (true ∷ true ∷ true ∷ false ∷ []) outs e = absurd (none e)
uninteract_undone (true ∷ true ∷ true ∷ true ∷ []) outs e = absurd (none e)
uninteract_undone (false ∷ false ∷ false ∷ false ∷ b ∷ bs) outs e = absurd (none e)
uninteract_undone (false ∷ false ∷ false ∷ true ∷ b ∷ bs) outs e = absurd (none e)
uninteract_undone (false ∷ false ∷ true ∷ false ∷ b ∷ bs) outs e = absurd (none e)
uninteract_undone (false ∷ false ∷ true ∷ true ∷ b ∷ bs) outs e = absurd (none e)
uninteract_undone (false ∷ true ∷ false ∷ false ∷ b ∷ bs) outs e = absurd (none e)
uninteract_undone (false ∷ true ∷ false ∷ true ∷ b ∷ bs) outs e = absurd (none e)
uninteract_undone (false ∷ true ∷ true ∷ false ∷ b ∷ bs) outs e = absurd (none e)
uninteract_undone (false ∷ true ∷ true ∷ true ∷ b ∷ bs) outs e = absurd (none e)
uninteract_undone (true ∷ false ∷ false ∷ false ∷ b ∷ bs) outs e = absurd (none e)
uninteract_undone (true ∷ false ∷ false ∷ true ∷ b ∷ bs) outs e = absurd (none e)
uninteract_undone (true ∷ false ∷ true ∷ false ∷ b ∷ bs) outs e = absurd (none e)
uninteract_undone (true ∷ false ∷ true ∷ true ∷ b ∷ bs) outs e = absurd (none e)
uninteract_undone (true ∷ true ∷ false ∷ false ∷ b ∷ bs) outs e = absurd (none e)
uninteract_undone (true ∷ true ∷ false ∷ true ∷ b ∷ bs) outs e = absurd (none e)
uninteract_undone (true ∷ true ∷ true ∷ false ∷ b ∷ bs) outs e = absurd (none e)
uninteract_undone (true ∷ true ∷ true ∷ true ∷ b ∷ bs) outs e = absurd (none e)

pub inverse_gates_undo : InverseGatesUndo
inverse_gates_undo = grind (arith, common_steps, switch_undone, unswitch_undone, interact_undone, uninteract_undone)

fredkin_keeps : (ins outs : List Bool) → row Fredkin ins ≡ Some outs → ones outs ≡ ones ins
unfolding row
fredkin_keeps ins outs h1 = grind (arith, common_steps, none, list_is)

cswap_keeps : (ins outs : List Bool) → row Cswap ins ≡ Some outs → ones outs ≡ ones ins
unfolding row
cswap_keeps ins outs h1 = grind (arith, common_steps, none, list_is)

interact_keeps : (ins outs : List Bool) → row Interact ins ≡ Some outs → ones outs ≡ ones ins
unfolding row
interact_keeps ins outs h1 = grind (arith, common_steps, none, list_is)

switch_keeps : (ins outs : List Bool) → row Switch ins ≡ Some outs → ones outs ≡ ones ins
unfolding row
switch_keeps ins outs h1 = grind (arith, common_steps, none, list_is)

delay_keeps : (n : ℕ) (ins outs : List Bool) → row (Delay n) ins ≡ Some outs → ones outs ≡ ones ins
unfolding row
delay_keeps n ins outs h1 = grind (arith, common_steps, none, list_is)

unswitch_keeps : (ins outs : List Bool) → row Unswitch ins ≡ Some outs → ones outs ≡ ones ins
unfolding row
unswitch_keeps ins outs h1 = grind (arith, common_steps, none, list_is)

uninteract_keeps : (ins outs : List Bool) → row Uninteract ins ≡ Some outs → ones outs ≡ ones ins
unfolding row
uninteract_keeps ins outs h1 = grind (arith, common_steps, none, list_is)

pub gates_keep_ones : GatesKeepOnes
gates_keep_ones (Source b) ins outs no_source e = absurd (no_source b refl)
gates_keep_ones Fredkin ins outs no_source e = fredkin_keeps ins outs e
gates_keep_ones Cswap ins outs no_source e = cswap_keeps ins outs e
gates_keep_ones Interact ins outs no_source e = interact_keeps ins outs e
gates_keep_ones Switch ins outs no_source e = switch_keeps ins outs e
gates_keep_ones (Delay n) ins outs no_source e = delay_keeps n ins outs e
gates_keep_ones Unswitch ins outs no_source e = unswitch_keeps ins outs e
gates_keep_ones Uninteract ins outs no_source e = uninteract_keeps ins outs e
