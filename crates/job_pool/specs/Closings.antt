-- A desk that was closed
use Rattle.std.specs.Prelude.{ℕ, List, map}
use Rattle.job_pool.specs.declared.close.Closed.{Closed}

-- what each seat drew
abbrev pub draws_of : Closed → List (List ℕ)
draws_of c = map (λ v. v.items) c.draws.items
