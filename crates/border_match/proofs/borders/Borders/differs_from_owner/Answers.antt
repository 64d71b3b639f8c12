use Rattle.border_match.proofs.Cells.{owned_near}
use Rattle.border_match.proofs.borders.Borders.differs_from_owner.Goals as goal

pub signal_at-requires : goal.signal_at-requires
signal_at-requires c = owned_near c.args.self.now c.args.cell c.owner-owner.result.now c.requires.borders_ready
    c.requires.cell_inside c.owner-owner.ensures c.prove_valid.ensures

pub signal_at-requires-2 : goal.signal_at-requires-2
signal_at-requires-2 c = owned_near c.args.self.now c.args.cell c.owner-owner.result.now c.requires.borders_ready
    c.requires.cell_inside c.owner-owner.ensures c.prove_valid.ensures
