-- The start as a list of cells.
use Rattle.pattern.proofs.Imports.{Bool, Box2, Cell, List, Pattern, Port, [], arith, common_steps, cond, flat_map}
use Rattle.pattern.proofs.Imports.{in_cells, in_ports_on, in_rectangles, is_cell_at, list_any-append, map}
use Rattle.pattern.proofs.Imports.{rectangle_cells}
use Rattle.pattern.proofs.Imports.{refl, start, start_cells_by_kind, ℕ, ℤ, ◌&&◌, ◌++◌, ◌||◌, ◌∙◌, ◌∷◌, ◌≡◌}
use Rattle.lemmas.proofs.Common.{filter}
use Rattle.bbm_rule.proofs.RectangleLemmas.{in_box_cells}

in_mirrors : (rs : List Box2) (x y : ℤ) → in_cells (flat_map rectangle_cells rs) x y ≡ in_rectangles rs x y
in_mirrors [] x y = refl
in_mirrors (r ∷ rs) x y = list_any-append (λ (c : Cell). is_cell_at c x y) (rectangle_cells r)
    (flat_map rectangle_cells rs)
    ∙ rw (in_box_cells r x y, in_mirrors rs x y) refl

in_port : (b : Bool) (q : Port) (qs : List Port) (x y : ℤ) (rest : Bool) → in_cells (map (λ q. q.cell) qs) x y ≡ rest →
    in_cells (map (λ q. q.cell) (cond b (q ∷ qs) qs)) x y ≡ (b && is_cell_at q.cell x y || rest)
in_port b q qs x y rest h1 = grind (arith, common_steps)

in_ports : (on : List ℕ → Bool) (qs : List Port) (x y : ℤ) →
    in_cells (map (λ q. q.cell) (filter (λ q. on q.name) qs)) x y ≡ in_ports_on on qs x y
in_ports on [] x y = refl
in_ports on (q ∷ qs) x y = in_port (on q.name) q (filter (λ (q : Port). on q.name) qs) x y (in_ports_on on qs x y)
    (in_ports on qs x y)

pub in_start_list : (p : Pattern) (on : List ℕ → Bool) (x y : ℤ) →
    in_cells (start_cells_by_kind p on) x y ≡ start p on x y
unfolding start_cells_by_kind start
in_start_list p on x y = grind (arith, common_steps, list_any-append, in_mirrors, in_ports)

pub start_list_made : (p : Pattern) (on : List ℕ → Bool) (a b c : List Cell) → a ≡ flat_map rectangle_cells p.mirrors →
    b ≡ a ++ p.balls → c ≡ b ++ map (λ q. q.cell) (filter (λ q. on q.name) p.ins) → c ≡ start_cells_by_kind p on
unfolding start_cells_by_kind
start_list_made p on a b c e f g = grind (arith, common_steps)
