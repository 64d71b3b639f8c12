-- Each wire that a job names is one of its own, at each cell and time
use Rattle.local_run.proofs.Imports.{All, Bool, IsDemandWireBelow, IsSignalWireBelow, JobView, List, NamesOnlyOwnWires}
use Rattle.local_run.proofs.Imports.{Zero, [], arith, common_steps, cond-false, false, if◌then◌else◌, in_box}
use Rattle.local_run.proofs.Imports.{job_demand, job_start, place_in, slice_get, suc, unwrap_or, wires, zero, ℕ, ℤ, ◌∷◌}
use Rattle.local_run.proofs.Imports.{◌≡◌}
use Rattle.lemmas.proofs.Common.{All-head, All-tail}
use Rattle.module_job.specs.declared.job.Demand.TheVariants as Demanded

-- an element of a list, or another value
item : {A : Type 0} (P : A → Type 0) (xs : List A) (i : ℕ) (d : A) → All P xs → P d → P (unwrap_or (slice_get xs i) d)
item P [] i d all h = h
item P (x ∷ xs) zero d all h = All-head P x xs all
item P (x ∷ xs) (suc i) d all h = item P xs i d (All-tail P x xs all) h

-- either value of a choice
chosen : {A : Type 0} (P : A → Type 0) (b : Bool) (x y : A) → P x → P y → P (if b then x else y)
chosen P b x y h1 h2 = grind (arith, common_steps)

pub start_below : (j : JobView) (x y : ℤ) → NamesOnlyOwnWires j →
    IsSignalWireBelow (wires j.locals.netlist) (job_start j x y)
unfolding job_start
start_below j x y own = chosen (IsSignalWireBelow (wires j.locals.netlist)) (in_box j.area x y) _ Zero
    (item (IsSignalWireBelow (wires j.locals.netlist)) j.starts (place_in j.area x y) Zero own.starts tt) tt

pub demand_below : (j : JobView) (x y : ℤ) → NamesOnlyOwnWires j →
    IsDemandWireBelow (wires j.locals.netlist) (job_demand j x y)
unfolding job_demand
demand_below j x y own = chosen (IsDemandWireBelow (wires j.locals.netlist)) (in_box j.area x y) _ Demanded.Dead
    (item (IsDemandWireBelow (wires j.locals.netlist)) j.demands (place_in j.area x y) Demanded.Dead own.demands tt) tt

-- a cell outside the box is dead at time 0
pub start_outside : (j : JobView) (x y : ℤ) → in_box j.area x y ≡ false → job_start j x y ≡ Zero
unfolding job_start
start_outside j x y out = cond-false _ _ _ out

-- and nothing but that is asked of it
pub demand_outside : (j : JobView) (x y : ℤ) → in_box j.area x y ≡ false → job_demand j x y ≡ Demanded.Dead
unfolding job_demand
demand_outside j x y out = cond-false _ _ _ out
