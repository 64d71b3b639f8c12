-- The run of a module by itself
use Rattle.std.specs.Prelude.{ℕ, zero, suc, ◌%◌, ◌==◌, ◌&&◌, ◌||◌, if◌then◌else◌}
use Rattle.bbm_rule.specs.Plane.{State, step}
use Rattle.circuit.specs.Meaning.{Valuation}
use Rattle.bbm_rule.specs.Boxes.{in_box, in_halo}
use Rattle.module_box.specs.Schedules.{signal_at}
use Rattle.module_job.specs.Jobs.{JobView, job_start}
use Rattle.module_job.specs.Signals.{is_live}

-- a state of the box together with the halo cells whose signal at time t is true
unfoldable pub with_halo : JobView → Valuation → ℕ → State → State
with_halo j u t s x y = s x y || (in_halo j.area x y && is_live u (signal_at j.halos t x y))

-- An even step is made inside the box. An odd step is made on the box together with the halo, and cut back to the box
unfoldable pub local_step : JobView → Valuation → ℕ → State → State
local_step j u t s x y =
    if t % 2 == 0 then step t s x y
    else in_box j.area x y && step t (with_halo j u t s) x y

-- the module at time t, if its wires have these values
unfoldable pub local_run : JobView → Valuation → ℕ → State
local_run j u zero = λ x y. is_live u (job_start j x y)
local_run j u (suc t) = local_step j u t (local_run j u t)
