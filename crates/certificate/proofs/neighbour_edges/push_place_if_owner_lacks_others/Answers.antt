use Rattle.certificate.proofs.Imports.{arith, common_steps}
use Rattle.certificate.proofs.neighbour_edges.push_place_if_owner_lacks_others.Goals as goal

pub returns : goal.returns
returns c = grind (arith, common_steps)

pub returns-then-is_any_cell_in_box : goal.returns-then-is_any_cell_in_box
returns-then-is_any_cell_in_box c = grind (arith, common_steps)
