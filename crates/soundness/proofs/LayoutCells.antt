-- The cells of a layout: their ports, the start, and the demand at the end
use Rattle.soundness.proofs.Imports.{AreGoodAfter, Ball, Bool, Box2, Cell, Circuit, In, IsEvenBox, LayoutHeader}
use Rattle.soundness.proofs.Imports.{LayoutLine, List, MeetsDemand, Mirror, None, Option, Out, Pattern, Port, Some}
use Rattle.soundness.proofs.Imports.{Valuation, Waste, [], and_from, and_parts, any_at, ap, arith, cell_fault}
use Rattle.soundness.proofs.Imports.{cell_same, cells_of, cells_taken_at_end, common_steps, end_demand, false}
use Rattle.soundness.proofs.Imports.{false≢true, has_taken_cell, in_box, in_cells, in_ports, in_ports_on, in_rectangles}
use Rattle.soundness.proofs.Imports.{is_cell_at, is_inside, is_live, kept, map, none_stands, option_map, option_map_or}
use Rattle.soundness.proofs.Imports.{parts_of, passed, port_at, port_stands, refl, same_Some, same_truth, size_fault}
use Rattle.soundness.proofs.Imports.{slice_get, slice_get-map, start, start_signal, suc, sym, takes_cells_at_end}
use Rattle.soundness.proofs.Imports.{takes_cells_at_start, true, true≢false, values_by_name, whole, wire_or_dead, zero}
use Rattle.soundness.proofs.Imports.{ℕ, ℤ, ◌&&◌, ◌++◌, ◌||◌, ◌∙◌, ◌∷◌, ◌≡◌}
use Rattle.lemmas.proofs.Common.{left_is_false}
use Rattle.bbm_rule.specs.Boxes.{in_box}
use Rattle.pattern.specs.Layout.{HaveDistinctCells, in_layout}
use Rattle.pattern.specs.Lines.{holds}
use Rattle.pattern.proofs.Added.{ended_push}
use Rattle.pattern.proofs.InsideLemmas.{begins_inside, start_inside}
use Rattle.pattern.proofs.OwnCells.{good_behind, ins_apart, outs_apart}
use Rattle.bbm_rule.proofs.RectangleLemmas.{in_box_cells}
use Rattle.pattern.proofs.TakenLemmas.{is_sized}
use Rattle.module_box.proofs.BoxCells.{same_some}
use Rattle.bbm_rule.proofs.SameCells.{cell_itself}

-- ---- the ports at a cell

same_cells : (c d : Cell) (x y : ℤ) → is_cell_at c x y ≡ true → is_cell_at d x y ≡ true → c ≡ d
same_cells c d x y h k = grind (arith, common_steps, cell_same)

only_port : (ports : List Port) (x y : ℤ) (name : List ℕ) → HaveDistinctCells ports → port_at ports x y ≡ Some name →
    (i : ℕ) (q : Port) → slice_get ports i ≡ Some q → is_cell_at q.cell x y ≡ true → q.name ≡ name
only_port ports x y name own e i q at h =
    let s = port_stands ports x y name e in
    let same : i ≡ s.number = own i s.number q s.port at s.numbered (same_cells q.cell s.port.cell x y h s.stands) in
    ap (λ (r : Port). r.name) (same_some (slice_get ports i) q s.port at (ap (slice_get ports) same ∙ s.numbered))
    ∙ s.named

-- the value of the port that is found
abbrev is_on : (List ℕ → Bool) → Option (List ℕ) → Bool
is_on on None = false
is_on on (Some n) = on n

on_by : (on : List ℕ → Bool) (ports : List Port) (x y : ℤ) (o : Option (List ℕ)) → HaveDistinctCells ports →
    port_at ports x y ≡ o → in_ports_on on ports x y ≡ is_on on o
on_by on ports x y None own e =
    let test : Port → Bool = λ q. on q.name && is_cell_at q.cell x y in
    same_truth _ _
    (λ h.
    let s = passed test ports h in
    absurd (none_stands ports x y e s.place s.element s.stands
    (and_parts (on s.element.name) (is_cell_at s.element.cell x y) s.passes).1))
    (λ h. absurd (false≢true h))
on_by on ports x y (Some n) own e =
    let test : Port → Bool = λ q. on q.name && is_cell_at q.cell x y in
    same_truth _ _
    (λ h.
    let s = passed test ports h in
    let both = and_parts (on s.element.name) (is_cell_at s.element.cell x y) s.passes in
    ap on (sym (only_port ports x y n own e s.place s.element s.stands both.1)) ∙ both.0)
    (λ h.
    let s = port_stands ports x y n e in
    any_at test ports s.number s.port s.numbered
    (and_from (on s.port.name) (is_cell_at s.port.cell x y) (ap on s.named ∙ h) s.stands))

port_is : (ports : List Port) (q : Port) (i : ℕ) (o : Option (List ℕ)) → HaveDistinctCells ports →
    slice_get ports i ≡ Some q → port_at ports q.cell.x q.cell.y ≡ o → o ≡ Some q.name
port_is ports q i None own at e = absurd (none_stands ports q.cell.x q.cell.y e i q at (cell_itself q.cell))
port_is ports q i (Some n) own at e =
    ap (λ (m : List ℕ). Some m) (sym (only_port ports q.cell.x q.cell.y n own e i q at (cell_itself q.cell)))

no_port : (ports : List Port) (x y : ℤ) (o : Option (List ℕ)) → in_ports ports x y ≡ false → port_at ports x y ≡ o →
    o ≡ None
no_port ports x y None none e = refl
no_port ports x y (Some n) none e =
    let s = port_stands ports x y n e in
    absurd (true≢false (sym (any_at (λ (q : Port). is_cell_at q.cell x y) ports s.number s.port s.numbered s.stands)
    ∙ none))

-- ---- the start

-- what the job's signals say of the start is the start
pub live_start : (c : Circuit) (p : Pattern) (v : Valuation) (x y : ℤ) → AreGoodAfter p.size [] (parts_of p) →
    is_live v (start_signal c p x y) ≡ start p (values_by_name c v) x y
unfolding start_signal start
live_start c p v x y good = grind (arith, common_steps, on_by, ins_apart)

pub whole_inside : (s : LayoutHeader) (x y : ℤ) → in_box (whole s) x y ≡ in_layout s x y
unfolding in_box
whole_inside s x y = refl

pub whole_even : (s : LayoutHeader) → size_fault s ≡ None → IsEvenBox (whole s)
whole_even s limits = let sized = is_sized s limits in
    record { x = refl; y = refl; w = sized.width.2; h = sized.height.2 }

-- nothing begins outside the rectangle
pub start_outside : (p : Pattern) (on : List ℕ → Bool) (x y : ℤ) → AreGoodAfter p.size [] (parts_of p) →
    in_box (whole p.size) x y ≡ false → start p on x y ≡ false
start_outside p on x y good out = grind (arith, common_steps, start_inside, begins_inside, whole_inside)

mirror_starts : (p : Pattern) (x y : ℤ) → in_rectangles p.mirrors x y ≡ true → start p (λ n. false) x y ≡ true
unfolding start
mirror_starts p x y h = ap (λ b. b || in_cells p.balls x y || in_ports_on (λ n. false) p.ins x y) h

-- mirrors are inside
pub mirror_inside : (p : Pattern) (x y : ℤ) → AreGoodAfter p.size [] (parts_of p) → in_rectangles p.mirrors x y ≡ true →
    in_box (whole p.size) x y ≡ true
mirror_inside p x y good h = whole_inside p.size x y
    ∙ start_inside p (λ n. false) (begins_inside p good) x y (mirror_starts p x y h)

-- ---- output cells are inside, and no mirror has them

record IsFree (s : LayoutHeader) (before : List LayoutLine) (q : Port) : Type 0 where
  inside : in_layout s q.cell.x q.cell.y ≡ true
  free : cells_taken_at_end before q.cell.x q.cell.y ≡ false

free_here : (s : LayoutHeader) (before : List LayoutLine) (q : Port) → cell_fault s before (Out q) ≡ None →
    IsFree s before q
unfolding cell_fault has_taken_cell cells_of takes_cells_at_start is_inside
free_here s before q e = grind (arith, common_steps)

all_free : (s : LayoutHeader) (before : List LayoutLine) (ports : List Port) (rest : List LayoutLine) →
    AreGoodAfter s before (map Out ports ++ rest) → (i : ℕ) (q : Port) → slice_get ports i ≡ Some q → IsFree s before q
all_free s before [] rest good i q e = absurd cc
all_free s before (p ∷ ports) rest good zero q e = grind (arith, common_steps, same_Some, free_here)
all_free s before (p ∷ ports) rest good (suc i) q e =
    grind (arith, common_steps, left_is_false, ended_push, (all_free s (before ++ Out p ∷ []) ports rest good.2 i q e))

before_outs : Pattern → List LayoutLine
before_outs p = (map Mirror p.mirrors ++ map Ball p.balls) ++ map In p.ins

output_free : (p : Pattern) → AreGoodAfter p.size [] (parts_of p) → (i : ℕ) (q : Port) → slice_get p.outs i ≡ Some q →
    IsFree p.size (before_outs p) q
unfolding before_outs
output_free p good i q e =
    let outs : List LayoutLine = map Out p.outs ++ map Waste p.wastes in
    let balls = good_behind p.size [] (map Mirror p.mirrors) (map Ball p.balls ++ (map In p.ins ++ outs)) good in
    let ins = good_behind p.size (map Mirror p.mirrors) (map Ball p.balls) (map In p.ins ++ outs) balls in
    all_free p.size _ p.outs (map Waste p.wastes)
    (good_behind p.size (map Mirror p.mirrors ++ map Ball p.balls) (map In p.ins) outs ins) i q e

mirror_ends : (r : Box2) (x y : ℤ) → in_box r x y ≡ true →
    (takes_cells_at_end (Mirror r) && holds (Mirror r) x y) ≡ true
unfolding takes_cells_at_end cells_of
mirror_ends r x y h = in_box_cells r x y ∙ h

mirror_ended : (p : Pattern) (x y : ℤ) → in_rectangles p.mirrors x y ≡ true →
    cells_taken_at_end (before_outs p) x y ≡ true
unfolding before_outs cells_taken_at_end
mirror_ended p x y h =
    let s = passed (λ (r : Box2). in_box r x y) p.mirrors h in
    let at : slice_get (map Mirror p.mirrors) s.place ≡ Some (Mirror s.element) =
    slice_get-map Mirror p.mirrors s.place ∙ ap (option_map Mirror) s.stands in
    grind (arith, common_steps, any_at, kept, mirror_ends)

-- an output cell is inside, no mirror has it, and it is the output's own
pub record IsOutput (p : Pattern) (q : Port) : Type 0 where
  pub inside : in_box (whole p.size) q.cell.x q.cell.y ≡ true
  pub no_mirror : in_rectangles p.mirrors q.cell.x q.cell.y ≡ false
  pub port : port_at p.outs q.cell.x q.cell.y ≡ Some q.name

pub is_output : (p : Pattern) → AreGoodAfter p.size [] (parts_of p) → (i : ℕ) (q : Port) → slice_get p.outs i ≡ Some q →
    IsOutput p q
is_output p good i q e =
    let f = output_free p good i q e in
    grind (arith, common_steps, whole_inside, mirror_ended, port_is, outs_apart)

-- ---- the end

pub met_mirror : (c : Circuit) (p : Pattern) (v : Valuation) (x y : ℤ) (live : Bool) →
    in_rectangles p.mirrors x y ≡ true → MeetsDemand v (end_demand c p x y) live → live ≡ true
unfolding end_demand
met_mirror c p v x y live e h = grind (arith, common_steps)

by_wire : (v : Valuation) (o : Option ℕ) (live : Bool) → MeetsDemand v (wire_or_dead o) live →
    live ≡ option_map_or v o false
by_wire v o live h1 = grind (arith, common_steps)

pub met_output : (c : Circuit) (p : Pattern) (v : Valuation) (x y : ℤ) (n : List ℕ) (live : Bool) →
    in_rectangles p.mirrors x y ≡ false →
    port_at p.outs x y ≡ Some n → MeetsDemand v (end_demand c p x y) live → live ≡ values_by_name c v n
unfolding end_demand
met_output c p v x y n live e port h = grind (arith, common_steps, by_wire)

pub met_other : (c : Circuit) (p : Pattern) (v : Valuation) (x y : ℤ) (live : Bool) →
    in_rectangles p.mirrors x y ≡ false →
    in_ports p.outs x y ≡ false → in_cells p.wastes x y ≡ false → MeetsDemand v (end_demand c p x y) live → live ≡ false
unfolding end_demand
met_other c p v x y live e none waste h = grind (arith, common_steps, no_port)
