use Rattle.pattern.proofs.Imports.{ap, cells_of, in_cells, live, sym, ◌||◌, ◌∙◌}
use Rattle.bbm_rule.proofs.RectangleLemmas.{in_box_cells}
use Rattle.pattern.proofs.TakenLemmas.{mirror_lies_on, one_lies_on}
use Rattle.pattern.proofs.taken_cells.take_cells.Goals as goal

pub fill_rectangle-requires-clause-columns : goal.fill_rectangle-requires-clause-columns
fill_rectangle-requires-clause-columns c =
    (mirror_lies_on c.args.grid.now c.args.part.now c.in-Mirror.r c.in-Mirror.is c.requires).0

pub fill_rectangle-requires-clause-rows : goal.fill_rectangle-requires-clause-rows
fill_rectangle-requires-clause-rows c =
    (mirror_lies_on c.args.grid.now c.args.part.now c.in-Mirror.r c.in-Mirror.is c.requires).1

pub returns-in-Mirror-clause-cells_taken : goal.returns-in-Mirror-clause-cells_taken
unfolding cells_of
returns-in-Mirror-clause-cells_taken c x y = c.fill_rectangle.ensures.filled x y
    ∙ ap (λ b. live c.args.grid.now x y || b) (sym (in_box_cells c.in-Mirror.r x y))
    ∙ ap (λ cells. live c.args.grid.now x y || in_cells cells x y) (sym (ap cells_of c.in-Mirror.is))

pub make_live-requires : goal.make_live-requires
unfolding cells_of
make_live-requires c = one_lies_on c.args.grid.now c.args.part.now c.in-Ball.cell (ap cells_of c.in-Ball.is) c.requires

pub returns-in-Ball-clause-cells_taken : goal.returns-in-Ball-clause-cells_taken
unfolding cells_of
returns-in-Ball-clause-cells_taken c x y = c.make_live.ensures.cells_taken x y
    ∙ ap (λ cells. live c.args.grid.now x y || in_cells cells x y) (sym (ap cells_of c.in-Ball.is))

pub make_live-requires-in-In : goal.make_live-requires-in-In
unfolding cells_of
make_live-requires-in-In c =
    one_lies_on c.args.grid.now c.args.part.now c.in-In.port.cell (ap cells_of c.in-In.is) c.requires

pub returns-in-In-clause-cells_taken : goal.returns-in-In-clause-cells_taken
unfolding cells_of
returns-in-In-clause-cells_taken c x y = c.make_live-in-In.ensures.cells_taken x y
    ∙ ap (λ cells. live c.args.grid.now x y || in_cells cells x y) (sym (ap cells_of c.in-In.is))

pub make_live-requires-in-Out : goal.make_live-requires-in-Out
unfolding cells_of
make_live-requires-in-Out c =
    one_lies_on c.args.grid.now c.args.part.now c.in-Out.port.cell (ap cells_of c.in-Out.is) c.requires

pub returns-in-Out-clause-cells_taken : goal.returns-in-Out-clause-cells_taken
unfolding cells_of
returns-in-Out-clause-cells_taken c x y = c.make_live-in-Out.ensures.cells_taken x y
    ∙ ap (λ cells. live c.args.grid.now x y || in_cells cells x y) (sym (ap cells_of c.in-Out.is))

pub make_live-requires-in-Waste : goal.make_live-requires-in-Waste
unfolding cells_of
make_live-requires-in-Waste c =
    one_lies_on c.args.grid.now c.args.part.now c.in-Waste.cell (ap cells_of c.in-Waste.is) c.requires

pub returns-in-Waste-clause-cells_taken : goal.returns-in-Waste-clause-cells_taken
unfolding cells_of
returns-in-Waste-clause-cells_taken c x y = c.make_live-in-Waste.ensures.cells_taken x y
    ∙ ap (λ cells. live c.args.grid.now x y || in_cells cells x y) (sym (ap cells_of c.in-Waste.is))
