use Rattle.border_match.proofs.Cells.{owned_near}
use Rattle.border_match.proofs.borders.Borders.edge_event_differs.Goals as goal

pub signal_at_event-requires-clause-cell_in_shift_range : goal.signal_at_event-requires-clause-cell_in_shift_range
signal_at_event-requires-clause-cell_in_shift_range c =
    owned_near c.args.self.now c.args.event.at.cell c.args.owner.now c.requires.borders_ready c.requires.cell_inside
    c.requires.owner c.prove_valid.ensures
