use Rattle.border_match.proofs.Cells.{owned_near}
use Rattle.border_match.proofs.borders.Borders.least_with_edge_event.Goals as goal

pub read_and_mark_halo_event-own-requires-clause-cell_in_shift_range :
    goal.read_and_mark_halo_event-own-requires-clause-cell_in_shift_range
read_and_mark_halo_event-own-requires-clause-cell_in_shift_range c =
    owned_near c.args.self.now c.args.event.at.cell c.args.owner.now c.requires.borders_ready c.requires.cell_inside
    c.requires.owner c.prove_valid.ensures
