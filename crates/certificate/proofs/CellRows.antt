-- Lists of what cells carry and must be, that grow row by row.
use Rattle.certificate.proofs.Imports.{AddsStartsAndDemands, All, Box2, Cell, Circuit, Demand, IsDemandWireBelow}
use Rattle.certificate.proofs.Imports.{IsSignalWireBelow, List, LocalNet, Pattern, Signal, [], ap, arith, circuit_wire}
use Rattle.certificate.proofs.Imports.{common_steps, end_demand, flat_map, in_box, map, map-append, pos, range_with_len}
use Rattle.certificate.proofs.Imports.{refl, renumber_demand, renumber_signal, replicate, row_cells, start_signal, suc}
use Rattle.certificate.proofs.Imports.{sym, to_z, true, w32, wires, zero, ℕ, ◌++◌, ◌+◌, ◌-◌, ◌<◌, ◌∙◌, ◌∷◌, ◌≡◌, ◌≤◌}
use Rattle.lemmas.proofs.Common.{get_or-replicate, length-replicate}
use Rattle.bbm_rule.specs.CellLists.{cell}
use Rattle.certificate.specs.declared.layout_tables.CellLists.{CellLists}
use Rattle.bbm_rule.proofs.CellLists.{cast_cell, flat_map_range_more, row_more}
use Rattle.lemmas.specs.Bounds.{max_side}
use Rattle.bbm_rule.proofs.RingTests.{area_from}

-- a row in two parts
row_parts : (x a b y : ℕ) → row_cells x (a + b) y ≡ row_cells x a y ++ row_cells (x + a) b y
row_parts x zero b y = grind (arith, common_steps)
row_parts x (suc a) b y =
    let e : x + suc a ≡ x + 1 + a = omega arith in
    let n : suc a + b ≡ suc (a + b) = omega arith in
    rw (e, n) (ap (λ (l : List Cell). cell x y ∷ l) (row_parts (x + 1) a b y))

-- equal values for the cells of a row
mapped_same : {A B : Type 0} (g : A → B) (f : Cell → B) (v : A) (x n y : ℕ) →
    ((j : ℕ) → x ≤ j → j < x + n → f (cell j y) ≡ g v) → map g (replicate n v) ≡ map f (row_cells x n y)
mapped_same g f v x zero y same = refl
mapped_same g f v x (suc n) y same =
    grind (arith, common_steps, mapped_same g f v (x + 1) n y (λ j low high. same j (omega arith) (omega arith)))

module _ {A B : Type 0} (g : A → B) (f : Cell → B) (first old new : List A) (x k y : ℕ) (from : x ≤ k)
    (was : map g old ≡ map g first ++ map f (row_cells x (k - x) y)) where
  grown : (cells : List Cell) (values : List A) → new ≡ old ++ values → map g values ≡ map f cells →
      map g new ≡ map g first ++ map f (row_cells x (k - x) y ++ cells)
  grown cells values pushed same = grind (arith, common_steps, map-append)

  -- the same value for the cells up to the column n
  pub grow_same : (v : A) (n : ℕ) → k ≤ n → new ≡ old ++ replicate (n - k) v →
      ((j : ℕ) → k ≤ j → j < n → f (cell j y) ≡ g v) → map g new ≡ map g first ++ map f (row_cells x (n - x) y)
  grow_same v n le pushed same =
      let start : x + (k - x) ≡ k = omega arith in
      let count : k - x + (n - k) ≡ n - x = omega arith in
      grind (arith, common_steps, grown, mapped_same, row_parts)

  -- and a value for one cell
  pub grow_cell : (a : A) → k < max_side → y < max_side → new ≡ old ++ a ∷ [] →
      g a ≡ f (record { x = to_z w32 k; y = to_z w32 y }) → map g new ≡ map g first ++ map f (row_cells x (k + 1 - x) y)
  grow_cell a low row pushed here =
      let count : k + 1 - x ≡ k - x + 1 = omega arith in
      grown (cell k y ∷ []) (a ∷ []) pushed (ap (λ (b : B). b ∷ []) (here ∙ ap f (cast_cell k y low row)))
      ∙ ap (λ (l : List Cell). map g first ++ map f l) (sym (row_more x (k - x) y k (omega arith)))
      ∙ ap (λ (m : ℕ). map g first ++ map f (row_cells x m y)) (sym count)

-- one row more
pub grow_row : {A B : Type 0} (g : A → B) (f : Cell → B) (old new : List A) (x w y k : ℕ) → y ≤ k →
    map g old ≡ map f (flat_map (row_cells x w) (range_with_len y (k - y))) →
    map g new ≡ map g old ++ map f (row_cells x w k) →
    map g new ≡ map f (flat_map (row_cells x w) (range_with_len y (k + 1 - y)))
grow_row g f old new x w y k from was now =
    let count : k + 1 - y ≡ k - y + 1 = omega arith in
    now ∙ ap (λ (l : List _). l ++ map f (row_cells x w k)) was
    ∙ sym (map-append f (flat_map (row_cells x w) (range_with_len y (k - y))) (row_cells x w k))
    ∙ ap (map f) (sym (flat_map_range_more (row_cells x w) y (k - y) k (omega arith)))
    ∙ ap (λ (m : ℕ). map f (flat_map (row_cells x w) (range_with_len y m))) (sym count)

-- ---- each element passes a test

pub all_same : {A : Type 0} (P : A → Type 0) (old new : List A) (n : ℕ) (v : A) → new ≡ old ++ replicate n v → P v →
    All P old → All P new
all_same P old new n v pushed own all = grind (arith, common_steps, get_or-replicate, length-replicate)

-- ---- the lists of a row

module _ (c : Circuit) (p : Pattern) (l : LocalNet) (first old new : CellLists) (x k y : ℕ) (from : x ≤ k)
    (was : AddsStartsAndDemands c p l (row_cells x (k - x) y) first old) where
  abbrev starts_at : Cell → Signal
  starts_at d = start_signal c p d.x d.y

  abbrev demands_at : Cell → Demand
  demands_at d = end_demand c p d.x d.y

  pub add_same : (start : Signal) (demand : Demand) (n : ℕ) → k ≤ n →
      new.starts ≡ old.starts ++ replicate (n - k) start → new.demands ≡ old.demands ++ replicate (n - k) demand →
      ((j : ℕ) → k ≤ j → j < n → start_signal c p (pos j) (pos y) ≡ renumber_signal (circuit_wire l) start) →
      ((j : ℕ) → k ≤ j → j < n → end_demand c p (pos j) (pos y) ≡ renumber_demand (circuit_wire l) demand) →
      IsSignalWireBelow (wires l.netlist) start → IsDemandWireBelow (wires l.netlist) demand →
      AddsStartsAndDemands c p l (row_cells x (n - x) y) first new
  add_same start demand n le starts demands starts_are demands_are start_below demand_below =
      grind (arith, common_steps, grow_same, starts_at, all_same, demands_at)

  pub add_cell : (start : Signal) (demand : Demand) → k < max_side → y < max_side →
      new.starts ≡ old.starts ++ start ∷ [] → new.demands ≡ old.demands ++ demand ∷ [] →
      renumber_signal (circuit_wire l) start ≡ start_signal c p (to_z w32 k) (to_z w32 y) →
      IsSignalWireBelow (wires l.netlist) start →
      renumber_demand (circuit_wire l) demand ≡ end_demand c p (to_z w32 k) (to_z w32 y) →
      IsDemandWireBelow (wires l.netlist) demand → AddsStartsAndDemands c p l (row_cells x (k + 1 - x) y) first new
  add_cell start demand low row starts demands own_start start_below own_demand demand_below =
      grind (arith, common_steps, grow_cell, starts_at, demands_at)

-- a cell of a box, whose numbers were cast
pub cast_inside : (b : Box2) (x y : ℕ) → x < max_side → y < max_side → b.x ≤ x → x < b.x + b.w → b.y ≤ y →
    y < b.y + b.h → in_box b (to_z w32 x) (to_z w32 y) ≡ true
cast_inside b x y low row left right top bottom = grind (arith, common_steps, cast_cell, area_from)
