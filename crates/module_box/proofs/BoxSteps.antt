-- The cells of a box after a step
use Rattle.module_box.proofs.Imports.{Box2, IsEvenBox, SameInBox, State, ap, arith, common_steps, in_box, in_span}
use Rattle.module_box.proofs.Imports.{partner, step, step_same, ℕ, ℤ, ◌%◌, ◌&&◌, ◌≡◌}
use Rattle.module_box.specs.Laws.{IsDeadOutsideBox, IsEvenStepLocalToBox}
use Rattle.bbm_rule.proofs.Spans.{even_span}
use Rattle.bbm_rule.proofs.Steps.{step_dead}

pub even_x : (b : Box2) (t : ℕ) (x y : ℤ) → IsEvenBox b → t % 2 ≡ 0 → in_box b (partner t x) y ≡ in_box b x y
unfolding in_box
even_x b t x y e pt = ap (λ p. p && in_span b.y b.h y) (even_span b.x b.w t x e.x e.w pt)

pub even_y : (b : Box2) (t : ℕ) (x y : ℤ) → IsEvenBox b → t % 2 ≡ 0 → in_box b x (partner t y) ≡ in_box b x y
unfolding in_box
even_y b t x y e pt = ap (λ p. in_span b.x b.w x && p) (even_span b.y b.h t y e.y e.h pt)

pub even_stays : (b : Box2) (t : ℕ) (s : State) → IsEvenBox b → t % 2 ≡ 0 → IsDeadOutsideBox b s →
    IsDeadOutsideBox b (step t s)
even_stays b t s e pt lies x y out = grind (arith, common_steps, step_dead, even_x, even_y)

pub even_local : (b : Box2) (t : ℕ) (s s' : State) → IsEvenBox b → t % 2 ≡ 0 → SameInBox b s s' →
    SameInBox b (step t s) (step t s')
even_local b t s s' e pt same x y h = grind (arith, common_steps, step_same, even_x, even_y)

pub even_step : (b : Box2) (t : ℕ) → IsEvenBox b → t % 2 ≡ 0 → IsEvenStepLocalToBox b t
even_step b t e pt = record { stays = λ s. even_stays b t s e pt; local = λ s s'. even_local b t s s' e pt }
