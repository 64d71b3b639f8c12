-- The summary of a shape: some of its numbers, by which most shapes that differ can be told apart at once
use Rattle.std.specs.Prelude.{ℕ, ◌-◌, ◌/◌, pos, List, ◌∷◌, ◌++◌, length, slice_get, unwrap_or}
use Rattle.module_box.specs.declared.schedules.TimedSignal.{TimedSignal}
use Rattle.module_box.specs.declared.schedules.AllTimesSignal.{AllTimesSignal}
use Rattle.module_box.specs.declared.schedules.Signal.TheVariants.{Zero}
use Rattle.module_job.specs.Keys.{all_times_numbers, event_numbers}
use Rattle.module_job.specs.Shapes.{ShapeView}

-- the event at a place, or that the cell (0, 0) is dead at time 0 if there is none
abbrev pub event_at_place : List TimedSignal → ℕ → TimedSignal
event_at_place events place = unwrap_or (slice_get events place)
    (record { at = record { time = 0; cell = record { x = pos 0; y = pos 0 } }; signal = Zero })

-- the last signal at all times, or that the cell (0, 0) is dead if there is none
abbrev pub last_all_times : List AllTimesSignal → AllTimesSignal
last_all_times all_times = unwrap_or (slice_get all_times (length all_times - 1))
    (record { cell = record { x = pos 0; y = pos 0 }; signal = Zero })

-- The sides, and the counts of gates, stops and signals. Then the last signal of the edges at all times, the last
-- events of both borders, and the event at a third of the halos' events. A summary is made of the shape alone, so two
-- shapes with different summaries differ.
unfoldable pub shape_summary : ShapeView → List ℕ
shape_summary s =
    s.width ∷ s.height ∷ length s.netlist.gates ∷ length s.stops
    ∷ length s.edges.all_times ∷ length s.edges.events ∷ length s.halos.all_times ∷ length s.halos.events
    ∷ all_times_numbers (last_all_times s.edges.all_times)
    ++ event_numbers (event_at_place s.edges.events (length s.edges.events - 1))
    ++ event_numbers (event_at_place s.halos.events (length s.halos.events - 1))
    ++ event_numbers (event_at_place s.halos.events (length s.halos.events / 3))
