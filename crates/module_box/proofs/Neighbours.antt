-- The eight neighbours of a cell, rings and halos
use Rattle.module_box.proofs.Imports.{Box2, List, SameInBox, Some, State, and_from, and_parts, ap, ap₂, arith}
use Rattle.module_box.proofs.Imports.{cases_Bool, common_steps, false, false≢true, has_neighbour_in_set, in_box}
use Rattle.module_box.proofs.Imports.{in_halo, in_ring, inl, inr, not, partner, pos, slice_get, step}
use Rattle.module_box.proofs.Imports.{step_same, sym, true, ℕ, ℤ, ◌+ℤ◌, ◌-ℤ◌, ◌∙◌, ◌≡◌, ◌⊎◌}
use Rattle.lemmas.proofs.Common.{not-true, not_from_false, or_left, or_right}
use Rattle.module_box.specs.Laws.{SameInHalo, HaloCellIsRingCellOfOwner}
use Rattle.bbm_rule.proofs.Spans.{partner_near}

pub some_neighbour_more : (p q : State) (x y : ℤ) → ((x' y' : ℤ) → p x' y' ≡ true → q x' y' ≡ true) →
    has_neighbour_in_set p x y ≡ true → has_neighbour_in_set q x y ≡ true
unfolding has_neighbour_in_set
some_neighbour_more p q x y f = grind (arith, common_steps)

-- the cell x y is one of the neighbours of a b
at_0 : (p : State) (a b x y : ℤ) → p x y ≡ true → a -ℤ pos 1 ≡ x → b -ℤ pos 1 ≡ y → has_neighbour_in_set p a b ≡ true
unfolding has_neighbour_in_set
at_0 p a b x y h e f = grind (arith, common_steps, or_left)

at_1 : (p : State) (a b x y : ℤ) → p x y ≡ true → a ≡ x → b -ℤ pos 1 ≡ y → has_neighbour_in_set p a b ≡ true
unfolding has_neighbour_in_set
at_1 p a b x y h e f = grind (arith, common_steps, or_left, or_right)

at_2 : (p : State) (a b x y : ℤ) → p x y ≡ true → a +ℤ pos 1 ≡ x → b -ℤ pos 1 ≡ y → has_neighbour_in_set p a b ≡ true
unfolding has_neighbour_in_set
at_2 p a b x y h e f = grind (arith, common_steps, or_left, or_right)

at_3 : (p : State) (a b x y : ℤ) → p x y ≡ true → a -ℤ pos 1 ≡ x → b ≡ y → has_neighbour_in_set p a b ≡ true
unfolding has_neighbour_in_set
at_3 p a b x y h e f = or_left _ _ (or_left _ _ (or_left _ _ (or_left _ _ (or_right _ _ (ap₂ p e f ∙ h)))))

at_4 : (p : State) (a b x y : ℤ) → p x y ≡ true → a +ℤ pos 1 ≡ x → b ≡ y → has_neighbour_in_set p a b ≡ true
unfolding has_neighbour_in_set
at_4 p a b x y h e f = or_left _ _ (or_left _ _ (or_left _ _ (or_right _ _ (ap₂ p e f ∙ h))))

at_5 : (p : State) (a b x y : ℤ) → p x y ≡ true → a -ℤ pos 1 ≡ x → b +ℤ pos 1 ≡ y → has_neighbour_in_set p a b ≡ true
unfolding has_neighbour_in_set
at_5 p a b x y h e f = or_left _ _ (or_left _ _ (or_right _ _ (ap₂ p e f ∙ h)))

at_6 : (p : State) (a b x y : ℤ) → p x y ≡ true → a ≡ x → b +ℤ pos 1 ≡ y → has_neighbour_in_set p a b ≡ true
unfolding has_neighbour_in_set
at_6 p a b x y h e f = or_left _ _ (or_right _ _ (ap₂ p e f ∙ h))

at_7 : (p : State) (a b x y : ℤ) → p x y ≡ true → a +ℤ pos 1 ≡ x → b +ℤ pos 1 ≡ y → has_neighbour_in_set p a b ≡ true
unfolding has_neighbour_in_set
at_7 p a b x y h e f = or_right _ _ (ap₂ p e f ∙ h)

-- the other coordinate is one more or one less
Beside : ℤ → ℤ → Type 0
Beside z' z = (z' -ℤ pos 1 ≡ z) ⊎ (z' +ℤ pos 1 ≡ z)

partner_beside : (t : ℕ) (z : ℤ) → Beside (partner t z) z
unfolding Beside
partner_beside t z = grind (arith, common_steps, partner_near)

-- each cell of a block is a neighbour of the three others
pub block_x : (p : State) (t : ℕ) (x y : ℤ) → p x y ≡ true → has_neighbour_in_set p (partner t x) y ≡ true
unfolding Beside
block_x p t x y h = grind (arith, common_steps, partner_beside, at_3, at_4)

pub block_y : (p : State) (t : ℕ) (x y : ℤ) → p x y ≡ true → has_neighbour_in_set p x (partner t y) ≡ true
unfolding Beside
block_y p t x y h = grind (arith, common_steps, partner_beside, at_1, at_6)

pub block_both : (p : State) (t : ℕ) (x y : ℤ) → p x y ≡ true →
    has_neighbour_in_set p (partner t x) (partner t y) ≡ true
unfolding Beside
block_both p t x y h = grind (arith, common_steps, partner_beside, at_0, at_5, at_2, at_7)

pub halo_from : (b : Box2) (x y : ℤ) → in_box b x y ≡ false → has_neighbour_in_set (in_box b) x y ≡ true →
    in_halo b x y ≡ true
unfolding in_halo
halo_from b x y out near = and_from _ _ (not_from_false _ out) near

pub halo_parts : (b : Box2) (x y : ℤ) → in_halo b x y ≡ true →
    (in_box b x y ≡ false) × (has_neighbour_in_set (in_box b) x y ≡ true)
unfolding in_halo
halo_parts b x y h = let p = and_parts (not (in_box b x y)) (has_neighbour_in_set (in_box b) x y) h in
    (not-true _ p.0, p.1)

pub ring_from : (b : Box2) (x y : ℤ) → in_box b x y ≡ true →
    has_neighbour_in_set (λ x' y'. not (in_box b x' y')) x y ≡ true → in_ring b x y ≡ true
unfolding in_ring
ring_from b x y h near = and_from _ _ h near

-- a cell of the box, or one of the halo
same_near : (b : Box2) (s s' : State) (x y : ℤ) → SameInBox b s s' → SameInHalo b s s' →
    has_neighbour_in_set (in_box b) x y ≡ true → s x y ≡ s' x y
same_near b s s' x y box halo near = grind (arith, common_steps, cases_Bool, halo_from)

pub near_step : (b : Box2) (t : ℕ) (s s' : State) → SameInBox b s s' → SameInHalo b s s' →
    SameInBox b (step t s) (step t s')
near_step b t s s' box halo x y h = step_same t s s' x y (box x y h)
    (same_near b s s' _ _ box halo (block_both (in_box b) t x y h))
    (same_near b s s' _ _ box halo (block_x (in_box b) t x y h))
    (same_near b s s' _ _ box halo (block_y (in_box b) t x y h))

not_in : (b : Box2) (x y : ℤ) → (in_box b x y ≡ true → ⊥) → not (in_box b x y) ≡ true
not_in b x y f = elim (cases_Bool (in_box b x y)) [ inl h ↦ absurd (f h) | inr h ↦ not_from_false _ h ]

same_number : (boxes : List Box2) (i j : ℕ) (b b' : Box2) → slice_get boxes i ≡ Some b → slice_get boxes j ≡ Some b' →
    i ≡ j → b ≡ b'
same_number boxes i j b b' e f h = cc

pub halo_in_ring : HaloCellIsRingCellOfOwner
halo_in_ring rectangle boxes tile i j b b' x y e f h g =
    let p = halo_parts b x y h in
    let apart : (x' y' : ℤ) → in_box b x' y' ≡ true → in_box b' x' y' ≡ true → ⊥ =
    λ x' y' m m'. false≢true (sym p.0
    ∙ ap (λ c. in_box c x y) (same_number boxes i j b b' e f (tile.once x' y' i j b b' e f m m')) ∙ g) in
    ring_from b' x y g (some_neighbour_more (in_box b) (λ x' y'. not (in_box b' x' y')) x y
    (λ x' y' m. not_in b' x' y' (apart x' y' m)) p.1)
