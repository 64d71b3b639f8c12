-- The indexes of a layout's cells, and the ports in a module's box.
use Rattle.certificate.proofs.Imports.{All, All-append, Bool, Box2, Cell, Circuit, CircuitLine, HasLocalPortWires}
use Rattle.certificate.proofs.Imports.{IfSome, IsTrue, LayoutHeader, List, ModuleLines, None, One, Option, Pattern}
use Rattle.certificate.proofs.Imports.{Some, Zero, [], and_parts, ap, arith, balls_on_layout, cell_same, circuit_of}
use Rattle.certificate.proofs.Imports.{common_steps, demand_outside_mirrors, end_demand, false, if◌then◌else◌, in_box}
use Rattle.certificate.proofs.Imports.{in_cells, in_rectangles, is_among, is_cell_at, is_local, known, length, list_all}
use Rattle.certificate.proofs.Imports.{map, option_map, or_parts, port_at, refl, setting_of, size_fault, size_sides}
use Rattle.certificate.proofs.Imports.{slice_get, slice_get-get_or, some_is, start_signal, subst, suc, sym, true}
use Rattle.certificate.proofs.Imports.{wastes_on_layout, wire_of, wire_or_zero, zero, ℕ, ℤ, ◌++◌, ◌+◌, ◌||◌, ◌∙◌, ◌∷◌}
use Rattle.certificate.proofs.Imports.{◌≡◌, ◌≤◌}
use Rattle.lemmas.proofs.Common.{list_any-append, slice_get-map}
use Rattle.pattern.specs.Layout.{in_layout, parts_of}
use Rattle.pattern.specs.declared.layout_line.Port.{Port}
use Rattle.pattern.specs.Lines.{AreGoodAfter, is_inside}
use Rattle.pattern.proofs.InsideLemmas.{begins_inside}
use Rattle.pattern.proofs.TakenLemmas.{mirror_fits}
use Rattle.pattern.specs.declared.layout_line.LayoutLine.TheVariants.{Mirror}
use Rattle.certificate_lines.specs.PortTables.{ArePortsInLayout}
use Rattle.certificate.specs.Jobs.{wire_of_optional_name, wire_or_dead}
use Rattle.bbm_rule.specs.Board.{Board}
use Rattle.certificate.specs.LayoutTablesView.{ArePortWiresLocalIn, HasNothingAt, IsOnGrid, ball_waste_and_port_cells}
use Rattle.certificate_lines.proofs.BoxPlaces.{skipped}
use Rattle.certificate_lines.proofs.Lists.{kept}
use Rattle.certificate_lines.proofs.LayoutPorts.{AllInLayout, port_stands, ports_on_layout}
use Rattle.lemmas.specs.Bounds.{max_side}
use Rattle.module_job.specs.declared.job.Demand.TheVariants as Demanded

-- ---- the ports in the box of a module

module _ (lines : List CircuitLine) (p : Pattern) (m : ModuleLines)
    (has : HasLocalPortWires (setting_of lines p) m) where
  abbrev is_known : List ℕ → Type 0
  is_known name = IsTrue (is_local (circuit_of lines) (known (circuit_of lines) m) name)

  abbrev AreKnown : List Port → Type 0
  AreKnown ports = (i : ℕ) (q : Port) → slice_get ports i ≡ Some q → IsTrue (in_box m.area q.cell.x q.cell.y) →
      is_known q.name

  knows_port : (ports : List Port) → AreKnown ports → (x y : ℤ) → IsTrue (in_box m.area x y) → (o : Option (List ℕ)) →
      port_at ports x y ≡ o → IfSome o is_known
  knows_port ports each x y inside None e = tt
  knows_port ports each x y inside (Some name) e =
      let s = port_stands ports x y name e in
      let there : IsTrue (in_box m.area s.port.cell.x s.port.cell.y) =
      ap (λ (c : Cell). in_box m.area c.x c.y) (cell_same s.port.cell (record { x = x; y = y }) s.stands) ∙ inside in
      subst (λ (n : List ℕ). is_known n) s.named (each s.number s.port s.numbered there)

  pub cells_have_ports : ArePortWiresLocalIn (circuit_of lines) (known (circuit_of lines) m) p.ins m.area
      × ArePortWiresLocalIn (circuit_of lines) (known (circuit_of lines) m) p.outs m.area
  cells_have_ports = (
    λ x y inside. knows_port p.ins (λ i q e. has.local i q (kept p.ins p.outs i q e)) x y inside _ refl,
    λ x y inside. knows_port p.outs
        (λ i q e. has.local (length p.ins + i) q (skipped p.ins p.outs (length p.ins) i refl ∙ e)) x y inside _ refl,
  )

-- ---- what a cell carries at time 0

pub start_one : (c : Circuit) (p : Pattern) (x y : ℤ) (a b : Bool) → a ≡ in_rectangles p.mirrors x y →
    b ≡ in_cells p.balls x y → (a || b) ≡ true → One ≡ start_signal c p x y
unfolding start_signal
start_one c p x y a b mirror ball h = rw (sym mirror, sym ball, h) refl

pub start_port : (c : Circuit) (p : Pattern) (x y : ℤ) (a b : Bool) → a ≡ in_rectangles p.mirrors x y →
    b ≡ in_cells p.balls x y → (a || b) ≡ false → (o : Option (List ℕ)) → o ≡ port_at p.ins x y →
    wire_or_zero (wire_of_optional_name c o) ≡ start_signal c p x y
unfolding start_signal
start_port c p x y a b mirror ball h o port = rw (sym mirror, sym ball, h, sym port) refl

-- ---- what a cell is to be at the last time

pub end_live : (c : Circuit) (p : Pattern) (x y : ℤ) (a : Bool) → a ≡ in_rectangles p.mirrors x y → a ≡ true →
    Demanded.Live ≡ end_demand c p x y
unfolding end_demand
end_live c p x y a mirror h = rw (sym mirror, h) refl

pub end_port : (c : Circuit) (p : Pattern) (x y : ℤ) (a : Bool) → a ≡ in_rectangles p.mirrors x y → a ≡ false →
    (o : Option (List ℕ)) → o ≡ port_at p.outs x y →
    demand_outside_mirrors c o (in_cells p.wastes x y) ≡ end_demand c p x y
unfolding end_demand
end_port c p x y a mirror h o port = rw (sym mirror, h, sym port) refl

-- ---- the wire that a table has for a port, by the port's name

pub port_known : (c : Circuit) (local : List ℕ) (o : Option (List ℕ)) (w : ℕ) →
    IfSome o (λ n. IsTrue (is_local c local n)) → Some (Some w) ≡ option_map (wire_of c) o → IsTrue (is_among local w)
port_known c local o w h1 h2 = grind (arith, common_steps, some_is)

pub port_wire : (c : Circuit) (o : Option (List ℕ)) (w : Option ℕ) → Some w ≡ option_map (wire_of c) o →
    w ≡ wire_of_optional_name c o
port_wire c o w h1 = grind (arith, common_steps, some_is)

pub no_port_there : (c : Circuit) (o : Option (List ℕ)) → None ≡ option_map (wire_of c) o → None ≡ o
no_port_there c o h1 = grind (arith, common_steps)

pub demand_of_port : (c : Circuit) (o : Option (List ℕ)) (w : Option ℕ) (waste : Bool) →
    Some w ≡ option_map (wire_of c) o → wire_or_dead w ≡ demand_outside_mirrors c o waste
demand_of_port c o w waste h1 = grind (arith, common_steps, some_is)

-- ---- a cell without anything

pub start_dead : (c : Circuit) (p : Pattern) (x y : ℤ) → HasNothingAt p x y → start_signal c p x y ≡ Zero
start_dead c p x y h = sym (start_port c p x y false false (sym h.mirrors) (sym h.balls) refl None (sym h.ins))

pub end_dead : (c : Circuit) (p : Pattern) (x y : ℤ) → HasNothingAt p x y → end_demand c p x y ≡ Demanded.Dead
end_dead c p x y h = sym (ap (demand_outside_mirrors c None) (sym h.wastes)
    ∙ end_port c p x y false (sym h.mirrors) refl None (sym h.outs))

pub start_mirror : (c : Circuit) (p : Pattern) (x y : ℤ) → in_rectangles p.mirrors x y ≡ true →
    One ≡ start_signal c p x y
start_mirror c p x y mirror = start_one c p x y true (in_cells p.balls x y) (sym mirror) refl refl

-- ---- the cells of ports

no_port_here : (b rest : Bool) (name : List ℕ) (o : Option (List ℕ)) → (b || rest) ≡ false → (rest ≡ false → o ≡ None) →
    (if b then Some name else o) ≡ None
no_port_here b rest name o h1 h2 = grind (arith, common_steps)

pub no_port : (ports : List Port) (x y : ℤ) → in_cells (map (λ (q : Port). q.cell) ports) x y ≡ false →
    port_at ports x y ≡ None
unfolding port_at
no_port [] x y e = refl
no_port (q ∷ ports) x y e = no_port_here (is_cell_at q.cell x y)
    (in_cells (map (λ (q : Port). q.cell) ports) x y) q.name
    (port_at ports x y) e (no_port ports x y)

port_cells_inside : (s : LayoutHeader) (ports : List Port) → ArePortsInLayout s ports →
    AllInLayout s (map (λ (q : Port). q.cell) ports)
port_cells_inside s ports on k d lt = grind (arith, common_steps, slice_get-get_or, slice_get-map)

abbrev IsInLayout : LayoutHeader → Cell → Type 0
IsInLayout s c = in_layout s c.x c.y ≡ true

pub others_inside : (p : Pattern) (s : LayoutHeader) → s ≡ p.size → AreGoodAfter s [] (parts_of p) →
    (cells : List Cell) → cells ≡ ball_waste_and_port_cells p → AllInLayout s cells
others_inside p s is good cells are =
    let ports = ports_on_layout p s is good in
    subst (AllInLayout s) (sym are)
    (All-append (IsInLayout s) ((p.balls ++ p.wastes) ++ map (λ (q : Port). q.cell) p.ins)
    (map (λ (q : Port). q.cell) p.outs)
    (grind (arith, common_steps, balls_on_layout, wastes_on_layout, port_cells_inside))
    (port_cells_inside s p.outs ports.1))

apart : (xs ys : List Cell) (x y : ℤ) → in_cells (xs ++ ys) x y ≡ false →
    (in_cells xs x y ≡ false) × (in_cells ys x y ≡ false)
apart xs ys x y e = grind (arith, common_steps, or_parts, list_any-append)

pub nothing_here : (p : Pattern) (x y : ℤ) →
    (in_cells (ball_waste_and_port_cells p) x y || in_rectangles p.mirrors x y) ≡ false → HasNothingAt p x y
nothing_here p x y e = grind (arith, common_steps, or_parts, apart, no_port)

-- ---- the mirrors of a layout

all_on_grid : (s : LayoutHeader) (b : Board) → (b.width ≡ s.w) × (b.height ≡ s.h) → s.w ≤ max_side → s.h ≤ max_side →
    (rs : List Box2) → list_all (λ r. is_inside s (Mirror r)) rs ≡ true → All (IsOnGrid b) rs
all_on_grid s b size w h [] e k d lt = absurd (omega arith)
all_on_grid s b size w h (r ∷ rs) e zero d lt = grind (arith, common_steps, mirror_fits, and_parts)
all_on_grid s b size w h (r ∷ rs) e (suc k) d lt =
    all_on_grid s b size w h rs (and_parts (is_inside s (Mirror r)) (list_all (λ r. is_inside s (Mirror r)) rs) e).1
    k d (omega arith)

pub mirrors_on_grid : (p : Pattern) (s : LayoutHeader) (b : Board) (mirrors : List Box2) → s ≡ p.size →
    (b.width ≡ s.w) × (b.height ≡ s.h) → size_fault s ≡ None → AreGoodAfter s [] (parts_of p) →
    mirrors ≡ p.mirrors → All (IsOnGrid b) mirrors
mirrors_on_grid p s b mirrors is size limits good are =
    let sides = size_sides s limits in
    let all = begins_inside p (subst (λ (t : LayoutHeader). AreGoodAfter t [] (parts_of p)) is good) in
    subst (All (IsOnGrid b)) (sym are) (all_on_grid s b size sides.0.most sides.1.most p.mirrors
    (subst (λ (t : LayoutHeader). list_all (λ r. is_inside t (Mirror r)) p.mirrors ≡ true) (sym is) all.mirrors))

-- ---- the box of a module

-- the ports in the box, where the module's wires have these numbers in the circuit
pub locals_have_ports : (lines : List CircuitLine) (p : Pattern) (m : ModuleLines) →
    HasLocalPortWires (setting_of lines p) m → (local : List ℕ) → local ≡ known (circuit_of lines) m →
    ArePortWiresLocalIn (circuit_of lines) local p.ins m.area
    × ArePortWiresLocalIn (circuit_of lines) local p.outs m.area
locals_have_ports lines p m has local are =
    let both : List ℕ → Type 0 = λ ws.
    ArePortWiresLocalIn (circuit_of lines) ws p.ins m.area × ArePortWiresLocalIn (circuit_of lines) ws p.outs m.area in
    subst both (sym are) (cells_have_ports lines p m has)
