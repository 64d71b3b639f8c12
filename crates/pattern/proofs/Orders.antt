-- Lines in the order of their kinds.
use Rattle.pattern.proofs.Imports.{Ball, Bool, Box2, Cell, In, LayoutLine, List, Mirror, Out, Pattern, Port, Waste, []}
use Rattle.pattern.proofs.Imports.{arith, common_steps, false, has_later_kind_before, length, list_any, list_any-append}
use Rattle.pattern.proofs.Imports.{map, nat_lt, not, parts_of, ℕ, ◌&&◌, ◌==◌, ◌||◌, ◌∷◌, ◌≡◌}
use Rattle.pattern.specs.Lines.{rank_of}

-- whether a list has an element
abbrev pub is_nonempty : {X : Type 0} → List X → Bool
is_nonempty xs = not (length xs == 0)

later : ℕ → LayoutLine → Bool
later k b = nat_lt k (rank_of b)

any_map : {X : Type 0} (k : ℕ) (f : X → LayoutLine) (v : Bool) → ((x : X) → nat_lt k (rank_of (f x)) ≡ v) →
    (xs : List X) → list_any (λ b. nat_lt k (rank_of b)) (map f xs) ≡ (v && is_nonempty xs)
any_map k f v same [] = grind arith
any_map k f v same (x ∷ xs) = rw (same x, any_map k f v same xs) (grind arith)

module _ (p : Pattern) (k : ℕ) where
  late_by : list_any (λ b. nat_lt k (rank_of b)) (parts_of p)
      ≡ ((nat_lt k 0 && is_nonempty p.mirrors)
      || ((nat_lt k 1 && is_nonempty p.balls)
      || ((nat_lt k 2 && is_nonempty p.ins)
      || ((nat_lt k 3 && is_nonempty p.outs) || (nat_lt k 4 && is_nonempty p.wastes)))))
  unfolding rank_of
  late_by = grind (arith, common_steps, list_any-append, any_map)

module _ (p : Pattern) where
  pub late_mirror : (r : Box2) →
      has_later_kind_before (parts_of p) (Mirror r)
      ≡ (is_nonempty p.balls || (is_nonempty p.ins || (is_nonempty p.outs || is_nonempty p.wastes)))
  unfolding has_later_kind_before rank_of
  late_mirror r = late_by p 0

  pub late_ball : (c : Cell) → has_later_kind_before (parts_of p) (Ball c)
      ≡ (is_nonempty p.ins || (is_nonempty p.outs || is_nonempty p.wastes))
  unfolding has_later_kind_before rank_of
  late_ball c = late_by p 1

  pub late_in : (q : Port) → has_later_kind_before (parts_of p) (In q) ≡ (is_nonempty p.outs || is_nonempty p.wastes)
  unfolding has_later_kind_before rank_of
  late_in q = late_by p 2

  pub late_out : (q : Port) → has_later_kind_before (parts_of p) (Out q) ≡ is_nonempty p.wastes
  unfolding has_later_kind_before rank_of
  late_out q = late_by p 3

  pub late_waste : (c : Cell) → has_later_kind_before (parts_of p) (Waste c) ≡ false
  unfolding has_later_kind_before rank_of
  late_waste c = late_by p 4
