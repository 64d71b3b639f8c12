use Rattle.border_match.proofs.Cells.{owned_near}
use Rattle.border_match.proofs.borders.Borders.halo_event_differs.Goals as goal

pub signal_at_event-requires-clause-cell_in_shift_range : goal.signal_at_event-requires-clause-cell_in_shift_range
signal_at_event-requires-clause-cell_in_shift_range c =
    owned_near c.args.self.now c.args.event.at.cell c.owner-owner.result.now c.requires.borders_ready
    c.requires.cell_inside
    c.owner-owner.ensures c.prove_valid.ensures

pub signal_at-requires : goal.signal_at-requires
signal_at-requires c =
    owned_near c.args.self.now c.args.event.at.cell c.owner-owner.result.now c.requires.borders_ready
    c.requires.cell_inside
    c.owner-owner.ensures c.prove_valid.ensures
