-- The ports of a good layout have cells of their own.
use Rattle.pattern.proofs.Imports.{AreGoodAfter, Ball, Bool, Cell, HaveDistinctCells, In, LayoutHeader, LayoutLine}
use Rattle.pattern.proofs.Imports.{List, Mirror, None, Out, Pattern, Port, Some, State, TakenCell, Waste, [], ap}
use Rattle.pattern.proofs.Imports.{append-nil, arith, cell_fault, cells_of, cells_taken_at_end, cells_taken_at_start}
use Rattle.pattern.proofs.Imports.{code_if, common_steps, false, has_taken_cell, is_cell_at, is_inside, map, not}
use Rattle.pattern.proofs.Imports.{parts_of, refl, same_Some, slice_get, subst, suc, sym, takes_cells_at_end}
use Rattle.pattern.proofs.Imports.{takes_cells_at_start, true, zero, ℕ, ℤ, ◌++◌, ◌||◌, ◌∙◌, ◌∷◌, ◌≡◌}
use Rattle.lemmas.proofs.Common.{true≢false, left_is_false}
use Rattle.pattern.proofs.Added.{no_code, begun_push, ended_push}
use Rattle.bbm_rule.proofs.SameCells.{cell_itself}

-- the lines behind others are good after them
pub good_behind : (s : LayoutHeader) (before front back : List LayoutLine) → AreGoodAfter s before (front ++ back) →
    AreGoodAfter s (before ++ front) back
good_behind s before [] back good =
    subst (λ (l : List LayoutLine). AreGoodAfter s l back) (sym (append-nil before)) good
good_behind s before (part ∷ front) back good =
    grind (arith, common_steps, good_behind s (before ++ part ∷ []) front back good.2)

or_right : (a b : Bool) → (a || (b || false)) ≡ false → b ≡ false
or_right a b e = grind arith

not_taken : (a b : Bool) → code_if (not a || b) TakenCell ≡ None → b ≡ false
not_taken a b h1 = grind (arith, common_steps, no_code)

one_of : (b : Bool) → (b || false) ≡ false → b ≡ false
one_of b e = grind arith

-- ports of one kind, each good after those before it, where `taken` are the cells that lines of their kind may not have
module _ (make : Port → LayoutLine) (taken : List LayoutLine → State)
    (is_free : (s : LayoutHeader) (before : List LayoutLine) (p : Port) → cell_fault s before (make p) ≡ None →
    taken before p.cell.x p.cell.y ≡ false)
    (one_more : (before : List LayoutLine) (p : Port) (x y : ℤ) →
    taken (before ++ make p ∷ []) x y ≡ (taken before x y || (is_cell_at p.cell x y || false)))
    (s : LayoutHeader) (rest : List LayoutLine) where
  free : (before : List LayoutLine) (ports : List Port) → AreGoodAfter s before (map make ports ++ rest) →
      (i : ℕ) (q : Port) → slice_get ports i ≡ Some q → taken before q.cell.x q.cell.y ≡ false
  free before [] good i q e = absurd cc
  free before (p ∷ ports) good zero q e = grind (arith, common_steps, same_Some)
  free before (p ∷ ports) good (suc i) q e =
      grind (arith, common_steps, free (before ++ make p ∷ []) ports good.2 i q e, left_is_false)

  -- the first port and a later one
  not_one : (before : List LayoutLine) (p : Port) (ports : List Port) →
      AreGoodAfter s before (map make (p ∷ ports) ++ rest) →
      (i : ℕ) (q : Port) → slice_get ports i ≡ Some q → p.cell ≡ q.cell → ⊥
  not_one before p ports good i q e same =
      let none = or_right (taken before q.cell.x q.cell.y) (is_cell_at p.cell q.cell.x q.cell.y)
      (sym (one_more before p q.cell.x q.cell.y) ∙ free (before ++ make p ∷ []) ports good.2 i q e) in
      let all : is_cell_at p.cell q.cell.x q.cell.y ≡ true =
      subst (λ (c : Cell). is_cell_at p.cell c.x c.y ≡ true) same (cell_itself p.cell) in
      true≢false (sym all ∙ none)

  own : (before : List LayoutLine) (ports : List Port) → AreGoodAfter s before (map make ports ++ rest) →
      HaveDistinctCells ports
  own before [] good i j p q ei ej same = absurd cc
  own before (r ∷ ports) good zero zero p q ei ej same = refl
  own before (r ∷ ports) good zero (suc j) p q ei ej same =
      absurd (not_one before r ports good j q ej (ap (λ (k : Port). k.cell) (same_Some r p ei) ∙ same))
  own before (r ∷ ports) good (suc i) zero p q ei ej same =
      absurd (not_one before r ports good i p ei (ap (λ (k : Port). k.cell) (same_Some r q ej) ∙ sym same))
  own before (r ∷ ports) good (suc i) (suc j) p q ei ej same =
      ap (λ (n : ℕ). suc n) (own (before ++ make r ∷ []) ports good.2 i j p q ei ej same)

in_free : (s : LayoutHeader) (before : List LayoutLine) (p : Port) → cell_fault s before (In p) ≡ None →
    cells_taken_at_start before p.cell.x p.cell.y ≡ false
unfolding cell_fault has_taken_cell cells_of takes_cells_at_start
in_free s before p e = one_of (cells_taken_at_start before p.cell.x p.cell.y) (not_taken (is_inside s (In p)) _ e)

out_free : (s : LayoutHeader) (before : List LayoutLine) (p : Port) → cell_fault s before (Out p) ≡ None →
    cells_taken_at_end before p.cell.x p.cell.y ≡ false
unfolding cell_fault has_taken_cell cells_of takes_cells_at_start
out_free s before p e = one_of (cells_taken_at_end before p.cell.x p.cell.y) (not_taken (is_inside s (Out p)) _ e)

in_more : (before : List LayoutLine) (p : Port) (x y : ℤ) →
    cells_taken_at_start (before ++ In p ∷ []) x y
    ≡ (cells_taken_at_start before x y || (is_cell_at p.cell x y || false))
unfolding cells_of takes_cells_at_start
in_more before p x y = begun_push before (In p) x y

out_more : (before : List LayoutLine) (p : Port) (x y : ℤ) →
    cells_taken_at_end (before ++ Out p ∷ []) x y ≡ (cells_taken_at_end before x y || (is_cell_at p.cell x y || false))
unfolding cells_of takes_cells_at_end
out_more before p x y = ended_push before (Out p) x y

module _ (p : Pattern) (good : AreGoodAfter p.size [] (parts_of p)) where
  from_balls : AreGoodAfter p.size (map Mirror p.mirrors)
      (map Ball p.balls ++ (map In p.ins ++ (map Out p.outs ++ map Waste p.wastes)))
  from_balls = good_behind p.size [] (map Mirror p.mirrors) _ good

  from_ins : AreGoodAfter p.size (map Mirror p.mirrors ++ map Ball p.balls)
      (map In p.ins ++ (map Out p.outs ++ map Waste p.wastes))
  from_ins = good_behind p.size (map Mirror p.mirrors) (map Ball p.balls) _ from_balls

  from_outs : AreGoodAfter p.size ((map Mirror p.mirrors ++ map Ball p.balls) ++ map In p.ins)
      (map Out p.outs ++ map Waste p.wastes)
  from_outs = good_behind p.size (map Mirror p.mirrors ++ map Ball p.balls) (map In p.ins) _ from_ins

  -- no two input cells are one
  pub ins_apart : HaveDistinctCells p.ins
  ins_apart = own In cells_taken_at_start in_free in_more p.size (map Out p.outs ++ map Waste p.wastes)
      (map Mirror p.mirrors ++ map Ball p.balls) p.ins from_ins

  -- no two output cells are one
  pub outs_apart : HaveDistinctCells p.outs
  outs_apart = own Out cells_taken_at_end out_free out_more p.size (map Waste p.wastes)
      ((map Mirror p.mirrors ++ map Ball p.balls) ++ map In p.ins) p.outs from_outs
