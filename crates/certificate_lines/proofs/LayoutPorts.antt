-- The ports of a layout by their cells, and its parts, which lie inside it
use Rattle.certificate_lines.proofs.Imports.{ArePortsInLayout, Bool, Cell, LayoutHeader, List, None, Option, Port, Some}
use Rattle.certificate_lines.proofs.Imports.{[], and_parts, ap, arith, common_steps, false, get_or, if◌then◌else◌}
use Rattle.certificate_lines.proofs.Imports.{is_cell_at, length, list_all, list_all-append, port_at, refl, slice_get}
use Rattle.certificate_lines.proofs.Imports.{subst, suc, sym, true, zero, ℕ, ℤ, ◌<◌, ◌∙◌, ◌∷◌, ◌≡◌}
use Rattle.lemmas.proofs.Common.{list_all-map}
use Rattle.pattern.specs.Layout.{Pattern, in_layout, parts_of}
use Rattle.pattern.specs.Lines.{AreGoodAfter, is_inside}
use Rattle.certificate_lines.proofs.Lists.{some_is}
use Rattle.pattern.proofs.InsideLemmas.{parts_inside}

-- ---- ports by their cells

-- the port at a cell is one of the ports
pub record StandsAt (ports : List Port) (x y : ℤ) (name : List ℕ) : Type 0 where
  pub number : ℕ
  pub port : Port
  pub numbered : slice_get ports number ≡ Some port
  pub stands : is_cell_at port.cell x y ≡ true
  pub named : port.name ≡ name

stands_later : (p : Port) (ports : List Port) (x y : ℤ) (name : List ℕ) → StandsAt ports x y name →
    StandsAt (p ∷ ports) x y name
stands_later p ports x y name s =
    record { number = suc s.number; port = s.port; numbered = s.numbered; stands = s.stands; named = s.named }

first_stands : (b : Bool) (p : Port) (ports : List Port) (x y : ℤ) (name : List ℕ) → is_cell_at p.cell x y ≡ b →
    (port_at ports x y ≡ Some name → StandsAt ports x y name)
    → (if b then Some p.name else port_at ports x y) ≡ Some name → StandsAt (p ∷ ports) x y name
first_stands true p ports x y name h more e =
    record { number = 0; port = p; numbered = refl; stands = h; named = some_is p.name name e }
first_stands false p ports x y name h more e = stands_later p ports x y name (more e)

pub port_stands : (ports : List Port) (x y : ℤ) (name : List ℕ) → port_at ports x y ≡ Some name →
    StandsAt ports x y name
unfolding port_at
port_stands [] x y name e = absurd cc
port_stands (p ∷ ports) x y name e =
    first_stands (is_cell_at p.cell x y) p ports x y name refl (port_stands ports x y name) e

absent_here : (b : Bool) (n : List ℕ) (o : Option (List ℕ)) → (if b then Some n else o) ≡ None →
    (b ≡ false) × (o ≡ None)
absent_here b n o h1 = grind (arith, common_steps)

-- where no port is found, none stands
pub none_stands : (ports : List Port) (x y : ℤ) → port_at ports x y ≡ None → (i : ℕ) (p : Port) →
    slice_get ports i ≡ Some p → is_cell_at p.cell x y ≡ true → ⊥
unfolding port_at
none_stands [] x y e i p at h = cc
none_stands (q ∷ ports) x y e zero p at h = grind (arith, common_steps, absent_here)
none_stands (q ∷ ports) x y e (suc i) p at h =
    none_stands ports x y (absent_here (is_cell_at q.cell x y) q.name (port_at ports x y) e).1 i p at h

-- those that are not rectangles
pub record LieInside (p : Pattern) : Type 0 where
  pub balls : list_all (λ c. in_layout p.size c.x c.y) p.balls ≡ true
  pub ins : list_all (λ q. in_layout p.size q.cell.x q.cell.y) p.ins ≡ true
  pub outs : list_all (λ q. in_layout p.size q.cell.x q.cell.y) p.outs ≡ true
  pub wastes : list_all (λ c. in_layout p.size c.x c.y) p.wastes ≡ true

pub lie_inside : (p : Pattern) → AreGoodAfter p.size [] (parts_of p) → LieInside p
unfolding is_inside
lie_inside p h = grind (arith, common_steps, and_parts, list_all-append, parts_inside, list_all-map)

ports_on_board : (s : LayoutHeader) (ports : List Port) → list_all (λ q. in_layout s q.cell.x q.cell.y) ports ≡ true →
    ArePortsInLayout s ports
ports_on_board s [] h i p e = absurd cc
ports_on_board s (q ∷ ports) h zero p e =
    ap (λ (r : Port). in_layout s r.cell.x r.cell.y) (sym (some_is q p e)) ∙ (and_parts _ _ h).0
ports_on_board s (q ∷ ports) h (suc i) p e = ports_on_board s ports (and_parts _ _ h).1 i p e

abbrev pub AllInLayout : LayoutHeader → List Cell → Type 0
AllInLayout s cells = (k : ℕ) (d : Cell) → k < length cells →
    in_layout s (get_or cells k d).x (get_or cells k d).y ≡ true

cells_on_board : (s : LayoutHeader) (cells : List Cell) → list_all (λ c. in_layout s c.x c.y) cells ≡ true →
    AllInLayout s cells
cells_on_board s [] h k d lt = absurd (omega arith)
cells_on_board s (c ∷ cells) h zero d lt = (and_parts _ _ h).0
cells_on_board s (c ∷ cells) h (suc k) d lt = cells_on_board s cells (and_parts _ _ h).1 k d (omega arith)

module _ (p : Pattern) (s : LayoutHeader) (is : s ≡ p.size) (good : AreGoodAfter s [] (parts_of p)) where
  all_inside : LieInside p
  all_inside = lie_inside p (subst (λ (t : LayoutHeader). AreGoodAfter t [] (parts_of p)) is good)

  pub ports_on_layout : ArePortsInLayout s p.ins × ArePortsInLayout s p.outs
  ports_on_layout = subst (λ (t : LayoutHeader). ArePortsInLayout t p.ins × ArePortsInLayout t p.outs) (sym is)
      (ports_on_board p.size p.ins all_inside.ins, ports_on_board p.size p.outs all_inside.outs)

  pub balls_on_layout : AllInLayout s p.balls
  balls_on_layout = grind (arith, common_steps, cells_on_board, all_inside)

  pub wastes_on_layout : AllInLayout s p.wastes
  wastes_on_layout = grind (arith, common_steps, cells_on_board, all_inside)
