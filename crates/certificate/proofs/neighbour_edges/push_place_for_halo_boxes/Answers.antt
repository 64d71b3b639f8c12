use Rattle.certificate.proofs.Imports.{ap₂, arith, common_steps, in_box, map, rectangle, ◌∙◌}
use Rattle.certificate_lines.proofs.OddBlocks.{low_cell}
use Rattle.certificate.proofs.HaloLists.{above, beside_places, corner, inner_block, same_test, side}
use Rattle.certificate.proofs.neighbour_edges.push_place_for_halo_boxes.Goals as goal

pub other_cells_of_odd_block-requires : goal.other_cells_of_odd_block-requires
other_cells_of_odd_block-requires c = grind (arith, common_steps, low_cell)

pub push_place_if_owner_lacks_others-requires-clause-inside :
    goal.push_place_if_owner_lacks_others-requires-clause-inside
push_place_if_owner_lacks_others-requires-clause-inside c = grind (arith, common_steps, side, inner_block)

pub push_place_if_owner_lacks_others-requires-2-clause-inside :
    goal.push_place_if_owner_lacks_others-requires-2-clause-inside
push_place_if_owner_lacks_others-requires-2-clause-inside c = grind (arith, common_steps, above, inner_block)

pub push_place_if_owner_lacks_others-requires-3-clause-inside :
    goal.push_place_if_owner_lacks_others-requires-3-clause-inside
push_place_if_owner_lacks_others-requires-3-clause-inside c =
    let box = rectangle c.args.owners.now in
    ap₂ (in_box box) c.other_cells_of_odd_block.ensures.corner.0 c.other_cells_of_odd_block.ensures.corner.1
    ∙ (inner_block box c.args.cell c.requires.inner).2

pub returns : goal.returns
returns c =
    let x = c.args.cell.x in let y = c.args.cell.y in
    let boxes = c.args.boxes.now in let place = c.args.place in
    let old = map (λ l. l.items) c.args.lists.now.items in
    let one = map (λ l. l.items) c.push_place_if_owner_lacks_others.new.lists.items in
    let two = map (λ l. l.items) c.push_place_if_owner_lacks_others-2.new.lists.items in
    let new = map (λ l. l.items) c.push_place_if_owner_lacks_others-3.new.lists.items in
    let s = c.other_cells_of_odd_block.ensures.side in let a = c.other_cells_of_odd_block.ensures.above in let k =
    c.other_cells_of_odd_block.ensures.corner in
    beside_places x y boxes place old one two new c.requires.table.even
    (grind (arith, common_steps, same_test, side))
    (grind (arith, common_steps, same_test, above))
    (grind (arith, common_steps, same_test, corner))
