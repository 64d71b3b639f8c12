-- Jobs whose halos say the same at each odd time have the same faults
use Rattle.local_run.proofs.Imports.{All, Contains, Edge, End, HasFaultWitness, IsFaultUnderValues, JobView, Kind, List}
use Rattle.local_run.proofs.Imports.{Signals}
use Rattle.local_run.proofs.Imports.{State, Stop, Valuation, arith, cases_Bool, common_steps, job_demand, job_start}
use Rattle.local_run.proofs.Imports.{local_run, refl, subst, suc, with_halo, zero, ℕ, ℤ, ∥∥₁_map, ◌%◌, ◌<◌, ◌≡◌, ◌≤◌}
use Rattle.local_run.specs.Laws.{SameHalosMeanSameFaults, HasSameHaloSignals}
use Rattle.local_run.proofs.LocalRuns.{even_or_odd, local_even, local_odd, step_all_same}
use Rattle.module_job.specs.declared.job.Stop as listed

-- a stop that is listed is at a time up to the last one
stop_time : (j : JobView) (ss : List listed.Stop) (s : listed.Stop) → All (λ s. s.at.time ≤ j.steps) ss →
    Contains ss s → s.at.time ≤ j.steps
stop_time j ss s all (k, lt, is) = subst (λ (x : listed.Stop). x.at.time ≤ j.steps) is (all k s lt)

module _ (j : JobView) (halos : Signals) (same : HasSameHaloSignals j halos) where
  abbrev k : JobView
  k = record j { halos = halos }

  halo_same : (u : Valuation) (t : ℕ) (s s' : State) (x y : ℤ) → t % 2 ≡ 1 → t < j.steps → s x y ≡ s' x y →
      with_halo j u t s x y ≡ with_halo k u t s' x y
  unfolding with_halo
  halo_same u t s s' x y odd early e = grind (arith, common_steps, cases_Bool)

  run_same : (u : Valuation) (t : ℕ) → t ≤ j.steps → (x y : ℤ) → local_run j u t x y ≡ local_run k u t x y
  unfolding local_run job_start
  run_same u zero le x y = refl
  run_same u (suc t) le x y =
      let before : (x' y' : ℤ) → local_run j u t x' y' ≡ local_run k u t x' y' = run_same u t (omega (arith, le)) in
      grind (arith, common_steps, even_or_odd, local_even, step_all_same, local_odd, halo_same)

  early_is : (t n : ℕ) → t < n → t ≤ n
  early_is t n lt = omega (arith, lt)

  last_is : (t n : ℕ) → t ≡ n → t ≤ n
  last_is t n e = omega (arith, e)

  under_same : (u : Valuation) (t : ℕ) (kind : Kind) (x y : ℤ) → All (λ s. s.at.time ≤ j.steps) j.stops →
      IsFaultUnderValues j u t kind x y → IsFaultUnderValues k u t kind x y
  unfolding job_demand
  under_same u t Edge x y early f = grind (arith, common_steps, run_same, early_is)
  under_same u t Stop x y early f = grind (arith, common_steps, run_same, stop_time)
  under_same u t End x y early f = grind (arith, common_steps, run_same, last_is)

pub same_halos_agree : SameHalosMeanSameFaults
same_halos_agree j halos f early same is = record { in_range = is.in_range; shown = ∥∥₁_map is.shown moved }
  where
    moved : HasFaultWitness j f → HasFaultWitness (record j { halos = halos }) f
    moved h = record {
      values = h.values;
      local = h.local;
      differs = under_same j halos same h.values f.time f.kind f.cell.x f.cell.y early h.differs;
    }
