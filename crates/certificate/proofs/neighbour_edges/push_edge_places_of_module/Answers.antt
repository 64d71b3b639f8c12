use Rattle.certificate.proofs.Imports.{AddsEdgePlacesInHalo, Cell, EdgePlace, IsInnerCell, None, StoredBorder, [], ap}
use Rattle.certificate.proofs.Imports.{get_or, in_halo, length-map, line_cell, map, option_to_list, rectangle}
use Rattle.certificate.proofs.Imports.{slice_get, subst, sym, take, ◌∙◌, ◌∷◌}
use Rattle.certificate.specs.HaloPlaces.{AddsPlaceIfBoxPasses}
use Rattle.certificate.proofs.HaloLists.{edge_placed, edges_then, place_found, still_ready, taken_one}
use Rattle.certificate.proofs.JobsSoFar.{element_at}
use Rattle.certificate.proofs.StoredSignals.{all_at, item_is}
use Rattle.certificate.proofs.neighbour_edges.push_edge_places_of_module.Goals as goal

pub push_place_for_halo_boxes-requires-clause-inner : goal.push_place_for_halo_boxes-requires-clause-inner
push_place_for_halo_boxes-requires-clause-inner c =
    let e = get_or c.args.edges.now c.loop-line.line (record { time = None; column = 0; row = 0; wire = None }) in
    let is = item_is c.args.edges.now c.loop-line.line _ c.loop-line-test.true in
    subst (IsInnerCell (rectangle c.args.owners.now)) (sym c.cell.ensures)
    (all_at (λ (e : StoredBorder). IsInnerCell (rectangle c.args.owners.now) (line_cell e)) c.args.edges.now
    c.requires.inner c.loop-line.line e c.loop-line-test.true is)

pub loop-line-preserved : goal.loop-line-preserved
loop-line-preserved c =
    let e = get_or c.args.edges.now c.loop-line.line (record { time = None; column = 0; row = 0; wire = None }) in
    let is = item_is c.args.edges.now c.loop-line.line _ c.loop-line-test.true in
    let place : EdgePlace = record { number = c.args.number; line = c.loop-line.line } in
    let boxes = c.args.boxes.now in
    let old = map (λ l. l.items) c.args.lists.now.items in
    let now = map (λ l. l.items) c.loop-line.lists.items in
    let new = map (λ l. l.items) c.push_place_for_halo_boxes.new.lists.items in
    let added = c.in_ok-push_place_for_halo_boxes.ensures in
    let here = element_at c.args.edges.now c.loop-line.line e c.loop-line-test.true is in
    record {
      table = still_ready boxes c.args.owners.now now new c.loop-line.invariant.table added.count;
      count = sym (length-map c.push_place_for_halo_boxes.new.lists.items (λ l. l.items)) ∙ added.count
          ∙ length-map c.loop-line.lists.items (λ l. l.items) ∙ c.loop-line.invariant.count;
      places = λ ms m at edges.
          subst (λ es. AddsEdgePlacesInHalo ms boxes es old new)
          (taken_one c.args.edges.now c.loop-line.line e c.loop-line-test.true is)
          (edges_then ms boxes (take c.loop-line.line c.args.edges.now) (e ∷ []) old now new
          (c.loop-line.invariant.places ms m at edges)
          (edge_placed ms boxes place e now new
          (place_found ms m place at
          ∙ ap option_to_list (ap (λ es. slice_get es c.loop-line.line) edges ∙ here))
          (subst (λ (d : Cell). AddsPlaceIfBoxPasses boxes (λ b. in_halo b d.x d.y) place now new) c.cell.ensures
          added)));
    }
