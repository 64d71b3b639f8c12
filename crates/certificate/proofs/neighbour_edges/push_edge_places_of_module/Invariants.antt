-- The lists have the places of the edge lines so far more.
use Rattle.certificate.proofs.Imports.{AddsEdgePlacesInHalo, AreOwnersAndListsReady, List, Some, StoredModule, length}
use Rattle.certificate.proofs.Imports.{map, slice_get, take, ◌≡◌}
use Rattle.certificate.proofs.neighbour_edges.push_edge_places_of_module.Given as goal

abbrev pub invariant-loop-line : goal.invariant-loop-line
invariant-loop-line l = record {
  table : AreOwnersAndListsReady l.boxes l.owners (map (λ l. l.items) l.lists.items);
  count : length l.lists.items ≡ length l.fn.lists.items;
  places : (ms : List StoredModule) (m : StoredModule) → slice_get ms l.number ≡ Some m → m.edges.items ≡ l.edges →
      AddsEdgePlacesInHalo ms l.boxes (take l.line l.edges) (map (λ l. l.items) l.fn.lists.items)
      (map (λ l. l.items) l.lists.items);
}
