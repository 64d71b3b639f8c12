use Rattle.certificate.proofs.Imports.{All, Box2, IfOk-weaker, IsCellInShiftRange, IsSmallShift, List, ap, arith}
use Rattle.certificate.proofs.Imports.{circuit_wire, common_steps, ints, map, moved_stop, of_z, pos, shift_to_origin}
use Rattle.certificate.proofs.Imports.{stops_in_plane, subst, sym, to_z, w32, wires, ℕ, ℤ, ◌<◌, ◌∙◌, ◌≡◌}
use Rattle.module_job.specs.Signals.{renumber_stop}
use Rattle.module_job.specs.declared.job.Stop.{Stop}
use Rattle.module_job.proofs.ShapeParts.{back_forth, stops_back}
use Rattle.certificate.proofs.NearLines.{low_stops_of, near_stops, near_moved_stops}
use Rattle.certificate.proofs.jobs.stops_from_corner.Goals as goal

pub moved_stops-requires-clause-cells : goal.moved_stops-requires-clause-cells
moved_stops-requires-clause-cells c =
    subst (All (λ (s : Stop). IsCellInShiftRange s.at.cell)) (sym c.deref.ensures.value)
    (near_stops c.in_ok-placed.placed.items
    (low_stops_of (circuit_wire c.args.locals.now) c.args.stops.now c.in_ok-placed.placed.items
    c.in_ok-placed.ensures.same_stops c.requires.low))

-- a small number is passed as it is
passed : (z r : ℤ) → r ≡ z → IsSmallShift r → to_z w32 (of_z w32 r) ≡ z
passed z r e small = omega (arith, ints, e, small)

-- what is moved back by these numbers
moved_back : (x y : ℕ) (dx dy : ℤ) (ss given own : List Stop) → dx ≡ shift_to_origin x → IsSmallShift dx →
    dy ≡ shift_to_origin y → IsSmallShift dy → given ≡ ss →
    own ≡ map (moved_stop (to_z w32 (of_z w32 dx)) (to_z w32 (of_z w32 dy))) given →
    own ≡ map (moved_stop (shift_to_origin x) (shift_to_origin y)) ss
moved_back x y dx dy ss given own e p f q same is =
    is ∙ (λ i. map (moved_stop (passed (shift_to_origin x) dx e p i) (passed (shift_to_origin y) dy f q i)) (same i))

-- stops that were moved to the corner of the box are the given ones when they are counted in the plane
there : (b : Box2) (ss own : List Stop) → own ≡ map (moved_stop (shift_to_origin b.x) (shift_to_origin b.y)) ss →
    stops_in_plane b own ≡ ss
there b ss own is = ap (stops_in_plane b) is
    ∙ stops_back (shift_to_origin b.x) (shift_to_origin b.y) (pos b.x) (pos b.y) ss (back_forth b.x) (back_forth b.y)

pub returns-clause-same_stops : goal.returns-clause-same_stops
returns-clause-same_stops c =
    let ss = c.in_ok-placed.placed.items in
    IfOk-weaker c.moved_stops.result _ _ (λ own is.
    ap (map (renumber_stop (circuit_wire c.args.locals.now)))
    (there c.args.area ss own.items (grind (arith, common_steps, moved_back)))
    ∙ c.in_ok-placed.ensures.same_stops) c.moved_stops.ensures

pub returns-clause-own_wires : goal.returns-clause-own_wires
returns-clause-own_wires c =
    let ss = c.in_ok-placed.placed.items in
    IfOk-weaker c.moved_stops.result _ _ (λ own is.
    subst (All (λ (s : Stop). s.wire < wires c.args.locals.now.netlist))
    (sym (there c.args.area ss own.items (grind (arith, common_steps, moved_back))))
    c.in_ok-placed.ensures.own_wires) c.moved_stops.ensures

pub returns-clause-in_shift_range : goal.returns-clause-in_shift_range
returns-clause-in_shift_range c =
    let ss = c.in_ok-placed.placed.items in
    let area : Box2 = c.args.area in
    let low = low_stops_of (circuit_wire c.args.locals.now) c.args.stops.now ss
    c.in_ok-placed.ensures.same_stops c.requires.low in
    IfOk-weaker c.moved_stops.result _ _ (λ own is.
    subst (All (λ (s : Stop). IsCellInShiftRange s.at.cell))
    (grind (arith, common_steps, moved_back))
    (near_moved_stops area.x area.y ss c.requires.corner.0 c.requires.corner.1 low)) c.moved_stops.ensures
