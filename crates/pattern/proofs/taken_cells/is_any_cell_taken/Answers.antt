use Rattle.pattern.proofs.Imports.{[], ap, cells_of, false, live, rectangle_cells, takes_cells_at_start, true, ◌∙◌, ◌∷◌}
use Rattle.pattern.proofs.TakenLemmas.{among_cells_of, mirror_lies_on, one_lies_on}
use Rattle.pattern.proofs.taken_cells.is_any_cell_taken.Goals as goal

pub is_any_live_in-requires-clause-columns : goal.is_any_live_in-requires-clause-columns
is_any_live_in-requires-clause-columns c =
    (mirror_lies_on c.args.at_start.now c.args.part.now c.in-Mirror.r c.in-Mirror.is c.requires.start_on_part).0

pub is_any_live_in-requires-clause-rows : goal.is_any_live_in-requires-clause-rows
is_any_live_in-requires-clause-rows c =
    (mirror_lies_on c.args.at_start.now c.args.part.now c.in-Mirror.r c.in-Mirror.is c.requires.start_on_part).1

pub is_any_live-requires : goal.is_any_live-requires
unfolding cells_of
is_any_live-requires c =
    one_lies_on c.args.at_start.now c.args.part.now c.in-Ball.cell (ap cells_of c.in-Ball.is) c.requires.start_on_part

pub is_any_live-requires-in-In : goal.is_any_live-requires-in-In
unfolding cells_of
is_any_live-requires-in-In c =
    one_lies_on c.args.at_start.now c.args.part.now c.in-In.port.cell (ap cells_of c.in-In.is) c.requires.start_on_part

pub is_any_live-requires-in-Out : goal.is_any_live-requires-in-Out
unfolding cells_of
is_any_live-requires-in-Out c =
    one_lies_on c.args.at_end.now c.args.part.now c.in-Out.port.cell (ap cells_of c.in-Out.is) c.requires.end_on_part

pub is_any_live-requires-in-Waste : goal.is_any_live-requires-in-Waste
unfolding cells_of
is_any_live-requires-in-Waste c =
    one_lies_on c.args.at_end.now c.args.part.now c.in-Waste.cell (ap cells_of c.in-Waste.is) c.requires.end_on_part

pub returns-in-Mirror : goal.returns-in-Mirror
unfolding takes_cells_at_start cells_of
returns-in-Mirror c = c.is_any_live_in.ensures
    ∙ among_cells_of (λ k. live c.args.at_start.now k.x k.y) (λ k. live c.args.at_end.now k.x k.y)
    c.args.part.now (rectangle_cells c.in-Mirror.r) true (ap takes_cells_at_start c.in-Mirror.is)
    (ap cells_of c.in-Mirror.is)

pub returns-in-Ball : goal.returns-in-Ball
unfolding takes_cells_at_start cells_of
returns-in-Ball c = c.is_any_live.ensures
    ∙ among_cells_of (λ k. live c.args.at_start.now k.x k.y) (λ k. live c.args.at_end.now k.x k.y)
    c.args.part.now (c.in-Ball.cell ∷ []) true (ap takes_cells_at_start c.in-Ball.is) (ap cells_of c.in-Ball.is)

pub returns-in-In : goal.returns-in-In
unfolding takes_cells_at_start cells_of
returns-in-In c = c.is_any_live-in-In.ensures
    ∙ among_cells_of (λ k. live c.args.at_start.now k.x k.y) (λ k. live c.args.at_end.now k.x k.y)
    c.args.part.now (c.in-In.port.cell ∷ []) true (ap takes_cells_at_start c.in-In.is) (ap cells_of c.in-In.is)

pub returns-in-Out : goal.returns-in-Out
unfolding takes_cells_at_start cells_of
returns-in-Out c = c.is_any_live-in-Out.ensures
    ∙ among_cells_of (λ k. live c.args.at_start.now k.x k.y) (λ k. live c.args.at_end.now k.x k.y)
    c.args.part.now (c.in-Out.port.cell ∷ []) false (ap takes_cells_at_start c.in-Out.is) (ap cells_of c.in-Out.is)

pub returns-in-Waste : goal.returns-in-Waste
unfolding takes_cells_at_start cells_of
returns-in-Waste c = c.is_any_live-in-Waste.ensures
    ∙ among_cells_of (λ k. live c.args.at_start.now k.x k.y) (λ k. live c.args.at_end.now k.x k.y)
    c.args.part.now (c.in-Waste.cell ∷ []) false (ap takes_cells_at_start c.in-Waste.is) (ap cells_of c.in-Waste.is)
