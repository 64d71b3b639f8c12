-- The lists so far are empty.
use Rattle.certificate.proofs.Imports.{[], length, list_at_or_empty, map, ℕ, ◌≡◌}
use Rattle.certificate.proofs.neighbour_edges.empty_place_lists.Given as goal

abbrev pub invariant-loop-number : goal.invariant-loop-number
invariant-loop-number l = record {
  count : length l.lists.items ≡ l._number;
  empty : (i : ℕ) → list_at_or_empty (map (λ l. l.items) l.lists.items) i ≡ [];
}
