-- The four cells of a block after a step
use Rattle.bbm_rule.proofs.Imports.{State, false, partner, refl, step, turned, ℕ, ℤ, ◌∙◌, ◌≡◌}

-- the same four cells make the same cell
pub step_same : (t : ℕ) (s s' : State) (x y : ℤ) → s x y ≡ s' x y →
    s (partner t x) (partner t y) ≡ s' (partner t x) (partner t y) →
    s (partner t x) y ≡ s' (partner t x) y → s x (partner t y) ≡ s' x (partner t y) → step t s x y ≡ step t s' x y
unfolding step
step_same t s s' x y a b c d = cc

none_live : (t : ℕ) (x y : ℤ) → step t (λ x' y'. false) x y ≡ false
unfolding step turned
none_live t x y = refl

-- four dead cells stay dead
pub step_dead : (t : ℕ) (s : State) (x y : ℤ) → s x y ≡ false → s (partner t x) (partner t y) ≡ false →
    s (partner t x) y ≡ false → s x (partner t y) ≡ false → step t s x y ≡ false
step_dead t s x y a b c d = step_same t s (λ x' y'. false) x y a b c d ∙ none_live t x y
