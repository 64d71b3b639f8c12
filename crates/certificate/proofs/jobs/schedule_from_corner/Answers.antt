use Rattle.certificate.proofs.Imports.{All, Box2, IsCellInShiftRange, IsSignalWireBelow, IsSmallShift, Signals}
use Rattle.certificate.proofs.Imports.{TimedSignal, ap, ap₂, arith, circuit_wire, common_steps, ints, of_z}
use Rattle.certificate.proofs.Imports.{renumber_signals, shift_to_origin, subst, sym, to_z, w32, wires, ℕ, ℤ, ◌∙◌, ◌≡◌}
use Rattle.module_box.specs.Moves.{moved_signals}
use Rattle.module_job.specs.Shapes.{signals_in_plane}
use Rattle.module_job.proofs.ShapeParts.{placed_again}
use Rattle.certificate.proofs.NearLines.{low_all_times, low_events, near_all_times, near_events, near_moved}
use Rattle.certificate.proofs.jobs.schedule_from_corner.Goals as goal

-- a small number is passed as it is
passed : (z r : ℤ) → r ≡ z → IsSmallShift r → to_z w32 (of_z w32 r) ≡ z
passed z r e small = omega (arith, ints, e, small)

pub moved-requires-clause-all_times : goal.moved-requires-clause-all_times
moved-requires-clause-all_times c =
    near_all_times c.in_ok-signals.signals.all_times
    (low_all_times (circuit_wire c.args.locals.now) c.args.lines.now c.in_ok-signals.signals
    c.in_ok-signals.ensures.same_signals c.requires.low)

pub moved-requires-clause-events : goal.moved-requires-clause-events
moved-requires-clause-events c =
    near_events c.in_ok-signals.signals.events
    (low_events (circuit_wire c.args.locals.now) c.args.lines.now c.in_ok-signals.signals
    c.in_ok-signals.ensures.same_signals c.requires.low)

-- what is moved back by these numbers
moved_back : (x y : ℕ) (dx dy : ℤ) (s own : Signals) → dx ≡ shift_to_origin x → IsSmallShift dx →
    dy ≡ shift_to_origin y → IsSmallShift dy → own ≡ moved_signals (to_z w32 (of_z w32 dx)) (to_z w32 (of_z w32 dy)) s →
    own ≡ moved_signals (shift_to_origin x) (shift_to_origin y) s
moved_back x y dx dy s own e p f q is =
    is ∙ ap₂ (λ u v. moved_signals u v s) (passed (shift_to_origin x) dx e p) (passed (shift_to_origin y) dy f q)

-- and so is counted from the corner of the box
there : (b : Box2) (s own : Signals) → own ≡ moved_signals (shift_to_origin b.x) (shift_to_origin b.y) s →
    signals_in_plane b own ≡ s
there b s own is = ap (signals_in_plane b) is ∙ placed_again b.x b.y s

pub returns-clause-same_signals : goal.returns-clause-same_signals
returns-clause-same_signals c =
    let s = c.in_ok-signals.signals in
    ap (renumber_signals (circuit_wire c.args.locals.now))
    (there c.args.area s c.moved.result (grind (arith, common_steps, moved_back)))
    ∙ c.in_ok-signals.ensures.same_signals

pub returns-clause-all_times : goal.returns-clause-all_times
returns-clause-all_times c =
    let s = c.in_ok-signals.signals in
    subst (λ (t : Signals). All (λ h. IsSignalWireBelow (wires c.args.locals.now.netlist) h.signal) t.all_times)
    (sym (there c.args.area s c.moved.result (grind (arith, common_steps, moved_back))))
    c.in_ok-signals.ensures.all_times

pub returns-clause-events : goal.returns-clause-events
returns-clause-events c =
    let s = c.in_ok-signals.signals in
    subst (λ (t : Signals). All (λ e. IsSignalWireBelow (wires c.args.locals.now.netlist) e.signal) t.events)
    (sym (there c.args.area s c.moved.result (grind (arith, common_steps, moved_back))))
    c.in_ok-signals.ensures.events

pub returns-clause-in_shift_range : goal.returns-clause-in_shift_range
returns-clause-in_shift_range c =
    let s = c.in_ok-signals.signals in
    let x = c.args.area.x in
    let y = c.args.area.y in
    let low = low_events (circuit_wire c.args.locals.now) c.args.lines.now s c.in_ok-signals.ensures.same_signals
    c.requires.low in
    subst (λ (t : Signals). All (λ (e : TimedSignal). IsCellInShiftRange e.at.cell) t.events)
    (sym (moved_back x y _ _ s c.moved.result c.shift_to_origin.ensures.distance_is_exact
    c.shift_to_origin.ensures.shift_small c.shift_to_origin-2.ensures.distance_is_exact
    c.shift_to_origin-2.ensures.shift_small c.moved.ensures))
    (near_moved x y s.events c.requires.corner.0 c.requires.corner.1 low)
