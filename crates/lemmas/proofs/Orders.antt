-- Orderings: two of them, one turned around, and one after the other.
use Rattle.std.proofs.Common.{Ordering, Less, Equal, Greater, ◌≡◌, ◌≢◌, ◌⊎◌, inl, inr, refl, arith}
use Rattle.std.specs.Ordering.{ordering_reverse, ordering_then}
use Rattle.std.proofs.lemmas.Grind.{common_steps}

pub both_ways : (o p : Ordering) → o ≡ ordering_reverse p → o ≢ Greater → p ≢ Greater → o ≡ Equal
both_ways Less Less e n m = grind (arith, common_steps)
both_ways Less Equal e n m = e
both_ways Less Greater e n m = absurd (m refl)
both_ways Equal p e n m = refl
both_ways Greater p e n m = absurd (n refl)

pub then_less : (o p : Ordering) → ordering_then o p ≡ Less → (o ≡ Less) ⊎ ((o ≡ Equal) × (p ≡ Less))
then_less Less p h = inl refl
then_less Equal p h = inr (refl, h)
then_less Greater p h = absurd cc
