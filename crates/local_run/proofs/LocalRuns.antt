-- The run of a module: its two steps, that it stays in its box, and which wires it reads
use Rattle.local_run.proofs.Imports.{IsSignalWireBelow, JobView, NamesOnlyOwnWires, Signal, State, Valuation, ap, ap₂}
use Rattle.local_run.proofs.Imports.{arith, common_steps, cond-false, cond-true, eq-eqb, in_box, in_halo, inl, inr}
use Rattle.local_run.proofs.Imports.{is_live, local_run, ne_eqb, signal_at, step, suc, sym, wires, with_halo, zero, ℕ}
use Rattle.local_run.proofs.Imports.{ℤ, ◌%◌, ◌&&◌, ◌<◌, ◌||◌, ◌∙◌, ◌≡◌, ◌⊎◌}
use Rattle.lemmas.proofs.Common.{cases_eq}
use Rattle.bbm_rule.proofs.Steps.{step_same}
use Rattle.module_box.proofs.BoxSteps.{even_stays}
use Rattle.local_run.specs.Runs.{local_step}
use Rattle.local_run.specs.Laws.{LocalRunStaysInBox}
use Rattle.local_run.proofs.OwnWires.{start_below, start_outside}
use Rattle.module_job.proofs.OwnSignals.{halo_below}

pub even_or_odd : (t : ℕ) → (t % 2 ≡ 0) ⊎ (t % 2 ≡ 1)
even_or_odd t = elim (cases_eq (t % 2) 0) [ inl e ↦ inl e | inr n ↦ inr (omega arith) ]

pub local_even : (j : JobView) (u : Valuation) (t : ℕ) (s : State) (x y : ℤ) → t % 2 ≡ 0 →
    local_step j u t s x y ≡ step t s x y
unfolding local_step
local_even j u t s x y e = cond-true _ _ _ (eq-eqb (t % 2) 0 e)

pub local_odd : (j : JobView) (u : Valuation) (t : ℕ) (s : State) (x y : ℤ) → t % 2 ≡ 1 →
    local_step j u t s x y ≡ (in_box j.area x y && step t (with_halo j u t s) x y)
unfolding local_step
local_odd j u t s x y e = cond-false _ _ _ (ne_eqb (t % 2) 0 (λ h. omega arith))

-- ---- no cell outside the box is live
pub stays : LocalRunStaysInBox
unfolding local_run
stays j u zero is x y out = ap (is_live u) (start_outside j x y out)
stays j u (suc t) is x y out = elim (even_or_odd t) [
  | inl e ↦ local_even j u t _ x y e ∙ even_stays j.area t _ is.even e (stays j u t is) x y out
  | inr o ↦ local_odd j u t _ x y o ∙ ap (λ p. p && step t (with_halo j u t (local_run j u t)) x y) out
]

-- ---- which wires a run reads

-- valuations that agree on n wires
abbrev pub AgreeBelow : ℕ → Valuation → Valuation → Type 0
AgreeBelow n u u' = (w : ℕ) → w < n → u w ≡ u' w

pub live_same : (n : ℕ) (u u' : Valuation) (s : Signal) → AgreeBelow n u u' → IsSignalWireBelow n s →
    is_live u s ≡ is_live u' s
live_same n u u' s h1 h2 = grind (arith, common_steps)

pub step_all_same : (t : ℕ) (s s' : State) (x y : ℤ) → ((x' y' : ℤ) → s x' y' ≡ s' x' y') → step t s x y ≡ step t s' x y
step_all_same t s s' x y same = step_same t s s' x y (same _ _) (same _ _) (same _ _) (same _ _)

with_halo_same : (j : JobView) (n : ℕ) (u u' : Valuation) (t : ℕ) (s s' : State) (x y : ℤ) → AgreeBelow n u u' →
    IsSignalWireBelow n (signal_at j.halos t x y) → s x y ≡ s' x y → with_halo j u t s x y ≡ with_halo j u' t s' x y
unfolding with_halo
with_halo_same j n u u' t s s' x y same b e = ap₂ (λ p q. p || (in_halo j.area x y && q)) e (live_same n u u' _ same b)

pub run_same : (j : JobView) (u u' : Valuation) (t : ℕ) → NamesOnlyOwnWires j →
    AgreeBelow (wires j.locals.netlist) u u' → (x y : ℤ) → local_run j u t x y ≡ local_run j u' t x y
unfolding local_run
run_same j u u' zero own same x y = live_same (wires j.locals.netlist) u u' _ same (start_below j x y own)
run_same j u u' (suc t) own same x y =
    let before : (x' y' : ℤ) → local_run j u t x' y' ≡ local_run j u' t x' y' = run_same j u u' t own same in
    elim (even_or_odd t) [
      | inl e ↦ local_even j u t _ x y e ∙ step_all_same t _ _ x y before ∙ sym (local_even j u' t _ x y e)
      | inr o ↦ local_odd j u t _ x y o
          ∙ ap (λ p. in_box j.area x y && p)
          (step_all_same t _ _ x y (λ x' y'.
          with_halo_same j (wires j.locals.netlist) u u' t _ _ x' y' same (halo_below j t x' y' own) (before x' y')))
          ∙ sym (local_odd j u' t _ x y o)
    ]
