-- Jobs and their shapes
use Rattle.module_job.proofs.Imports.{List, ShapeView, Stop, [], ap₂, arith, common_steps, ints, job_of_shape, map}
use Rattle.module_job.proofs.Imports.{moved_stop, pos, refl, shape_of, sym, ℕ, ℤ, ◌∙◌, ◌∷◌, ◌≡◌}
use Rattle.lemmas.proofs.Common.{◌+ℤ◌}
use Rattle.module_box.specs.Moves.{moved_signals}
use Rattle.module_box.specs.Schedules.{Signals, signal_at}
use Rattle.module_box.proofs.MovedBoxes.{cell_back, signals_back, signals_moved}
use Rattle.module_job.specs.Jobs.{JobView}
use Rattle.module_job.specs.Laws.{JobIsPlacedShape}
use Rattle.module_job.specs.Shapes.{shift_to_origin}

pub forth_back : (n : ℕ) → pos n +ℤ shift_to_origin n ≡ pos 0
forth_back n = omega (arith, ints)

pub back_forth : (n : ℕ) → shift_to_origin n +ℤ pos n ≡ pos 0
back_forth n = omega (arith, ints)

pub stops_back : (dx dy ex ey : ℤ) (ss : List Stop) → dx +ℤ ex ≡ pos 0 → dy +ℤ ey ≡ pos 0 →
    map (moved_stop ex ey) (map (moved_stop dx dy) ss) ≡ ss
stops_back dx dy ex ey [] p q = refl
stops_back dx dy ex ey (s ∷ ss) p q = grind (arith, common_steps, stops_back dx dy ex ey ss p q, cell_back)

pub placed_again : (x y : ℕ) (s : Signals) →
    moved_signals (pos x) (pos y) (moved_signals (shift_to_origin x) (shift_to_origin y) s) ≡ s
placed_again x y s = grind (arith, common_steps, signals_back, back_forth)

pub shape_placed : (x y : ℕ) (wires gates : List ℕ) (s : ShapeView) → shape_of (job_of_shape x y wires gates s) ≡ s
shape_placed x y wires gates s = grind (arith, common_steps, signals_back, forth_back, stops_back)

pub placed_shape : (j : JobView) →
    job_of_shape j.area.x j.area.y j.locals.circuit_wires j.locals.circuit_gates (shape_of j) ≡ j
placed_shape j = grind (arith, common_steps, placed_again, stops_back, back_forth)

pub job_is_placed_shape : JobIsPlacedShape
job_is_placed_shape = record { whole = placed_shape; part = shape_placed }

-- what a shape carries at a cell that is moved back is what the job carries at the cell
there_again : (z : ℤ) (n : ℕ) → (z +ℤ shift_to_origin n) +ℤ pos n ≡ z
there_again z n = omega (arith, ints)

pub carried : (x y : ℕ) (s : Signals) (t : ℕ) (cx cy : ℤ) →
    signal_at s t (cx +ℤ shift_to_origin x) (cy +ℤ shift_to_origin y)
    ≡ signal_at (moved_signals (pos x) (pos y) s) t cx cy
carried x y s t cx cy =
    sym (signals_moved (pos x) (pos y) s t (cx +ℤ shift_to_origin x) (cy +ℤ shift_to_origin y))
    ∙ ap₂ (λ u v. signal_at (moved_signals (pos x) (pos y) s) t u v) (there_again cx x) (there_again cy y)
