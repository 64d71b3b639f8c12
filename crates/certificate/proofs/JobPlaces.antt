-- A job whose lists have an element for each cell of its box
use Rattle.certificate.proofs.Imports.{Box2, Circuit, IsTrue, JobView, Pattern, Zero, arith, circuit_wire}
use Rattle.certificate.proofs.Imports.{common_steps, cond-true, end_demand, in_box, renumber_demand}
use Rattle.certificate.proofs.Imports.{renumber_signal, slice_get, start_signal, unwrap_or, ℤ, ◌≡◌}
use Rattle.module_job.specs.Jobs.{job_start, job_demand}
use Rattle.module_box.specs.Places.{place_in}
use Rattle.module_job.specs.declared.job.Demand.TheVariants as Demanded

pub start_found : (c : Circuit) (p : Pattern) (b : Box2) (j : JobView) → j.area ≡ b →
    ((x y : ℤ) → IsTrue (in_box b x y) →
    renumber_signal (circuit_wire j.locals) (unwrap_or (slice_get j.starts (place_in b x y)) Zero)
    ≡ start_signal c p x y) → (x y : ℤ) → IsTrue (in_box b x y) →
    renumber_signal (circuit_wire j.locals) (job_start j x y) ≡ start_signal c p x y
unfolding job_start
start_found c p b j is each x y h = grind (arith, common_steps, cond-true)

pub demand_found : (c : Circuit) (p : Pattern) (b : Box2) (j : JobView) → j.area ≡ b →
    ((x y : ℤ) → IsTrue (in_box b x y) →
    renumber_demand (circuit_wire j.locals) (unwrap_or (slice_get j.demands (place_in b x y)) Demanded.Dead)
    ≡ end_demand c p x y) → (x y : ℤ) → IsTrue (in_box b x y) →
    renumber_demand (circuit_wire j.locals) (job_demand j x y) ≡ end_demand c p x y
unfolding job_demand
demand_found c p b j is each x y h = grind (arith, common_steps, cond-true)
