-- The first test that a line fails, from the tests of its order and of its names.
use Rattle.circuit.proofs.Imports.{CircuitLine, List, Option, RefusalCode, [], le-ltb, limit_or_name_code, or_else}
use Rattle.circuit.proofs.Imports.{rank_of, refl, ◌++◌, ◌∷◌, ◌≡◌, ◌≤◌}
use Rattle.circuit.specs.Rules.{order_fault, last_rank}

pub in_order : (entries : List CircuitLine) (r : CircuitLine) (code : Option RefusalCode) →
    last_rank entries ≤ rank_of r.kind →
    limit_or_name_code entries r ≡ code → or_else (order_fault entries r) (limit_or_name_code entries r) ≡ code
in_order entries r code h e = rw (le-ltb _ _ h) e

pub last_rank_push : (entries : List CircuitLine) (r : CircuitLine) → last_rank (entries ++ r ∷ []) ≡ rank_of r.kind
last_rank_push [] r = refl
last_rank_push (a ∷ []) r = refl
last_rank_push (a ∷ b ∷ entries) r = last_rank_push (b ∷ entries) r
