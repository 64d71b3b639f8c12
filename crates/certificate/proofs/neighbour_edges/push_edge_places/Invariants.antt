-- The lists have the places of the edge lines of the modules so far more.
use Rattle.certificate.proofs.Imports.{AddsEdgePlacesInHalo, AreOwnersAndListsReady, flat_map, map, take}
use Rattle.certificate.proofs.neighbour_edges.push_edge_places.Given as goal

abbrev pub invariant-loop-number : goal.invariant-loop-number
invariant-loop-number l = record {
  table : AreOwnersAndListsReady l.boxes l.owners (map (λ l. l.items) l.lists.items);
  lists : AddsEdgePlacesInHalo l.modules l.boxes (flat_map (λ m. m.edges.items) (take l.number l.modules))
      (map (λ l. l.items) l.fn.lists.items) (map (λ l. l.items) l.lists.items);
}
