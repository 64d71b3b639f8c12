-- Cells by their places in the box, row by row, and cells that are known to be dead
use Rattle.local_run.proofs.Imports.{Bool, Box2, End, IsRunReady, JobView, Planes, ShowsRunAt, Valuation, Values, Zero}
use Rattle.local_run.proofs.Imports.{ap, arith, assignments, box_coord, by_eq_or_not, by_lt_or_le, common_steps}
use Rattle.local_run.proofs.Imports.{cond-true, false, if◌then◌else◌, is_live, job_demand, job_start, lane, local_run}
use Rattle.local_run.proofs.Imports.{mul-le-mul_left, place_in, slice_get, sym, unwrap_or, ℕ, ℤ, ◌*◌, ◌+◌, ◌<◌, ◌∙◌}
use Rattle.local_run.proofs.Imports.{◌≡◌, ◌≤◌}
use Rattle.local_run.proofs.Firsts.{FreeAt, end_least, inner_in_box}
use Rattle.local_run.proofs.Stepping.{run_start}
use Rattle.module_job.specs.declared.job.Demand.TheVariants as Demanded

either : {A : Type 0} (b : Bool) (s t : A) → s ≡ t → (if b then s else t) ≡ t
either b s t h1 = grind (arith, common_steps)

-- the place of a cell, row by row
placed : (b : Box2) (x y : ℕ) → place_in b (box_coord b.x x) (box_coord b.y y) ≡ b.w * y + x
unfolding box_coord
placed b x y = grind (arith, common_steps)

-- what a cell of the box carries and must be, by its place
pub start_at : (j : JobView) (x y : ℕ) → x < j.area.w → y < j.area.h →
    unwrap_or (slice_get j.starts (j.area.w * y + x)) Zero ≡ job_start j (box_coord j.area.x x) (box_coord j.area.y y)
unfolding job_start
start_at j x y lx ly =
    ap (λ p. unwrap_or (slice_get j.starts p) Zero) (sym (placed j.area x y))
    ∙ sym (cond-true _ _ Zero (inner_in_box j.area x y lx ly))

pub demand_at : (j : JobView) (x y : ℕ) → x < j.area.w → y < j.area.h →
    unwrap_or (slice_get j.demands (j.area.w * y + x)) Demanded.Dead
    ≡ job_demand j (box_coord j.area.x x) (box_coord j.area.y y)
unfolding job_demand
demand_at j x y lx ly =
    ap (λ p. unwrap_or (slice_get j.demands p) Demanded.Dead) (sym (placed j.area x y))
    ∙ sym (cond-true _ _ Demanded.Dead (inner_in_box j.area x y lx ly))

-- a place is that of one cell
pub cell_of_place : (s column row x y : ℕ) → column < s → x < s → s * row + column ≡ s * y + x →
    (x ≡ column) × (y ≡ row)
cell_of_place s column row x y lc lx e = by_lt_or_le y row
    (λ less. let m : s * (y + 1) ≤ s * row = mul-le-mul_left s (omega (arith, less)) in
    absurd (omega (arith, m, e, lx)))
    (λ more. by_eq_or_not y row
    (λ same. let m : s * y ≡ s * row = ap (λ n. s * n) same in (omega (arith, m, e), same))
    (λ other. let m : s * (row + 1) ≤ s * y = mul-le-mul_left s (omega (arith, more, other)) in
    absurd (omega (arith, m, e, lc))))

-- and each cell of the box has a place among its cells
pub place_within : (w h x y : ℕ) → x < w → y < h → w * y + x < w * h
place_within w h x y lx ly = let m : w * (y + 1) ≤ w * h = mul-le-mul_left w (omega arith) in omega (arith, m, lx)

pub start_dead : (j : JobView) (x y : ℕ) → unwrap_or (slice_get j.starts (j.area.w * y + x)) Zero ≡ Zero →
    job_start j (box_coord j.area.x x) (box_coord j.area.y y) ≡ Zero
unfolding job_start
start_dead j x y none = grind (arith, common_steps, either, placed)

pub demand_dead : (j : JobView) (x y : ℕ) →
    unwrap_or (slice_get j.demands (j.area.w * y + x)) Demanded.Dead ≡ Demanded.Dead →
    job_demand j (box_coord j.area.x x) (box_coord j.area.y y) ≡ Demanded.Dead
unfolding job_demand
demand_dead j x y none = grind (arith, common_steps, either, placed)

-- a cell that starts as `Zero` is dead at time 0
pub dead_start : (j : JobView) (u : Valuation) (x y : ℤ) → job_start j x y ≡ Zero → false ≡ local_run j u 0 x y
dead_start j u x y none = sym (ap (is_live u) none) ∙ run_start j u x y

-- ---- cells at the last time

-- a dead cell that must be dead has no fault
pub end_free : (j : JobView) (vs : Values) (x y : ℕ) (p : Planes) → IsRunReady j vs → ShowsRunAt j vs j.steps p →
    x < j.area.w → y < j.area.h → job_demand j (box_coord j.area.x x) (box_coord j.area.y y) ≡ Demanded.Dead →
    ((a : ℕ) → a < 64 * p.words → lane p a (1 + x) (1 + y) ≡ false) →
    (a : ℕ) → a < assignments j → FreeAt j vs j.steps End x y a
end_free j vs x y p ready shows lx ly must dead = grind (arith, common_steps, end_least, inner_in_box)
