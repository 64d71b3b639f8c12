use Rattle.certificate.proofs.LayoutTableLemmas.{mirrors_on_grid}
use Rattle.certificate.proofs.layout_tables.grid_with_mirrors.Goals as goal

pub fill_mirrors-requires : goal.fill_mirrors-requires
fill_mirrors-requires c =
    mirrors_on_grid c.args.layout.now c.size-size.result c.in_ok-grid.grid c.mirrors.result.now c.size-size.ensures.size
    c.in_ok-grid.ensures.size c.size-size.ensures.limits c.size-size.ensures.parts_good c.mirrors.ensures
