-- The view of a shape, from the fields
use Rattle.module_job.specs.Shapes.{ShapeView}
use Rattle.module_job.specs.declared.shape.Shape.TheInside.{Inside}

-- the view of a shape, from its fields
abbrev pub shape_view : Inside → ShapeView
shape_view a = record {
  width = a.width;
  height = a.height;
  steps = a.steps;
  netlist = a.wiring;
  starts = a.starts;
  demands = a.demands;
  edges = a.edges;
  halos = a.halos;
  stops = a.stops.items;
  kept = a.kept.items;
}
