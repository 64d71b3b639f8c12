-- A layout with one more line.
use Rattle.pattern.proofs.Imports.{AreGoodAfter, Ball, Bool, Box2, Cell, In, LayoutHeader, LayoutLine, List, Mirror}
use Rattle.pattern.proofs.Imports.{None, Out, Pattern, Port, RefusalCode, Waste, [], append-nil, append_assoc}
use Rattle.pattern.proofs.Imports.{arith, cell_fault, cells_taken_at_end, cells_taken_at_start, code_if, common_steps}
use Rattle.pattern.proofs.Imports.{false, has_later_kind_before, largest_limit_code, list_any-append}
use Rattle.pattern.proofs.Imports.{or_last, order_fault, parts_of, subst, sym, takes_cells_at_end, takes_cells_at_start}
use Rattle.pattern.proofs.Imports.{ℤ, ◌&&◌, ◌++◌, ◌||◌, ◌∙◌, ◌∷◌, ◌≡◌}
use Rattle.lemmas.proofs.Common.{map-append}
use Rattle.pattern.specs.Lines.{holds}
use Rattle.pattern.proofs.Orders.{is_nonempty, late_mirror, late_ball, late_in, late_out}

-- no code: the test was not failed
pub no_code : (b : Bool) (code : RefusalCode) → code_if b code ≡ None → b ≡ false
no_code b code h1 = grind (arith, common_steps)

none_of : {X : Type 0} (xs : List X) → is_nonempty xs ≡ false → xs ≡ []
none_of xs h1 = grind (arith, common_steps)

-- none of some lists has an element
module _ {A B C D : Type 0} (ks : List A) (ls : List B) (ms : List C) (ns : List D) where
  pub record AreEmpty : Type 0 where
    pub first : ks ≡ []
    pub second : ls ≡ []
    pub third : ms ≡ []
    pub fourth : ns ≡ []

  bits : (a b c d : Bool) → (a || (b || (c || d))) ≡ false → (a ≡ false) × (b ≡ false) × (c ≡ false) × (d ≡ false)
  bits a b c d h1 = grind (arith, common_steps)

  pub are_empty : (is_nonempty ks || (is_nonempty ls || (is_nonempty ms || is_nonempty ns))) ≡ false → AreEmpty
  are_empty e =
      let none = bits (is_nonempty ks) (is_nonempty ls) (is_nonempty ms) (is_nonempty ns) e in
      record {
        first = none_of ks none.0;
        second = none_of ls none.1;
        third = none_of ms none.2;
        fourth = none_of ns none.3;
      }

-- the line stands behind the others of its kind, and no line of a later kind stands
module _ (p v : Pattern) (same : v ≡ p) (part : LayoutLine) (follows : order_fault (parts_of v) part ≡ None) where
  not_late : has_later_kind_before (parts_of p) part ≡ false
  unfolding order_fault
  not_late = grind (arith, common_steps, no_code)

  pub with_mirror : (r : Box2) (ms : List Box2) → part ≡ Mirror r → ms ≡ p.mirrors ++ r ∷ [] →
      parts_of (record p { mirrors = ms }) ≡ parts_of v ++ part ∷ []
  with_mirror r ms is more = grind (arith, common_steps, are_empty, late_mirror, not_late, map-append)

  pub with_ball : (c : Cell) (bs : List Cell) → part ≡ Ball c → bs ≡ p.balls ++ c ∷ [] →
      parts_of (record p { balls = bs }) ≡ parts_of v ++ part ∷ []
  with_ball c bs is more = grind (arith, common_steps, are_empty, is_nonempty, late_ball, not_late, map-append)

  pub with_in : (q : Port) (is : List Port) → part ≡ In q → is ≡ p.ins ++ q ∷ [] →
      parts_of (record p { ins = is }) ≡ parts_of v ++ part ∷ []
  with_in q ins is more = grind (arith, common_steps, are_empty, is_nonempty, late_in, not_late, map-append)

  pub with_out : (q : Port) (os : List Port) → part ≡ Out q → os ≡ p.outs ++ q ∷ [] →
      parts_of (record p { outs = os }) ≡ parts_of v ++ part ∷ []
  with_out q os is more = grind (arith, common_steps, none_of, late_out, not_late, map-append)

  pub with_waste : (c : Cell) (ws : List Cell) → part ≡ Waste c → ws ≡ p.wastes ++ c ∷ [] →
      parts_of (record p { wastes = ws }) ≡ parts_of v ++ part ∷ []
  with_waste c ws is more = grind (arith, common_steps, map-append)

-- ---- one more good line

good_push : (s : LayoutHeader) (before parts : List LayoutLine) (part : LayoutLine) → AreGoodAfter s before parts →
    largest_limit_code part ≡ None → cell_fault s (before ++ parts) part ≡ None →
    AreGoodAfter s before (parts ++ part ∷ [])
good_push s before [] part good limit cells =
    (limit, subst (λ (l : List LayoutLine). cell_fault s l part ≡ None) (append-nil before) cells, tt)
good_push s before (q ∷ parts) part good limit cells = (
  good.0,
  good.1,
  good_push s (before ++ q ∷ []) parts part good.2 limit
      (subst (λ (l : List LayoutLine). cell_fault s l part ≡ None) (sym (append_assoc before (q ∷ []) parts)) cells),
)

pub good_more : (s : LayoutHeader) (p v : Pattern) (same : v ≡ p) (q : List LayoutLine) (part : LayoutLine) →
    AreGoodAfter s [] (parts_of p) → q ≡ parts_of v ++ part ∷ [] → largest_limit_code part ≡ None →
    cell_fault s (parts_of v) part ≡ None → AreGoodAfter s [] q
good_more s p v same q part good more limit cells = grind (arith, common_steps, good_push)

-- ---- the cells that are taken after one more line

pub begun_push : (parts : List LayoutLine) (part : LayoutLine) (x y : ℤ) →
    cells_taken_at_start (parts ++ part ∷ []) x y
    ≡ (cells_taken_at_start parts x y || (takes_cells_at_start part && holds part x y))
unfolding cells_taken_at_start
begun_push parts part x y = list_any-append (λ b. takes_cells_at_start b && holds b x y) parts (part ∷ []) ∙ or_last _ _

pub ended_push : (parts : List LayoutLine) (part : LayoutLine) (x y : ℤ) →
    cells_taken_at_end (parts ++ part ∷ []) x y
    ≡ (cells_taken_at_end parts x y || (takes_cells_at_end part && holds part x y))
unfolding cells_taken_at_end
ended_push parts part x y = list_any-append (λ b. takes_cells_at_end b && holds b x y) parts (part ∷ []) ∙ or_last _ _
