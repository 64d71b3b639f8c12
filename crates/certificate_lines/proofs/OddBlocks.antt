-- The modules beside the cell of an edge line, by the cells of its block at odd times
use Rattle.certificate_lines.proofs.Imports.{AreBoxesDisjoint, Bool, BorderLine, Box2, Cell, Circuit, IsEvenBox, List}
use Rattle.certificate_lines.proofs.Imports.{ModuleLines, None, Option, Some, [], and-false, ap, ap₂, areas, arith}
use Rattle.certificate_lines.proofs.Imports.{cases_Bool, common_steps, cond-false, cond-true, does_neighbour_lack_wire}
use Rattle.certificate_lines.proofs.Imports.{eqb-true, false, in_box, in_box_nats, in_halo, inl, inr, is_local_wire}
use Rattle.certificate_lines.proofs.Imports.{is_nonlocal_signal, is_outside_and_nonlocal, known}
use Rattle.certificate_lines.proofs.Imports.{lacks_wire_of_some_edge, length, list_any, mapped_from, ne_eqb, not}
use Rattle.certificate_lines.proofs.Imports.{or-false, partner, pos, rectangle_of, refl, slice_get, slice_get_within}
use Rattle.certificate_lines.proofs.Imports.{suc, sym, true, zero, ℕ, ℤ, ◌%◌, ◌&&◌, ◌<◌, ◌||◌, ◌∙◌, ◌∷◌, ◌≡◌, ◌≤◌, ◌⊎◌}
use Rattle.lemmas.proofs.Common.{eq-eqb, eqb-false, low_number, mapped_at, negsuc, ◌+ℤ◌, ◌-ℤ◌, ◌≤ℤ◌}
use Rattle.bbm_rule.specs.Plane.{parity}
use Rattle.bbm_rule.specs.Spans.{in_span}
use Rattle.bbm_rule.proofs.Spans.{even_span}
use Rattle.module_box.specs.Tiling.{BoxHoldsCell}
use Rattle.bbm_rule.proofs.RingTests.{halo_read}
use Rattle.certificate_lines.specs.BuilderView.{is_nonlocal_in_neighbour}
use Rattle.certificate_lines.proofs.AnyLines.{any_filter}
use Rattle.certificate_lines.proofs.LackedWires.{any_either, any_same, any_swap, none_any}
use Rattle.certificate_lines.proofs.Lists.{some_is}
use Rattle.lemmas.specs.Bounds.{last_column_or_row, max_side}

-- ---- columns and rows

parity_cases : (z : ℤ) → (parity z ≡ 0) ⊎ (parity z ≡ 1)
parity_cases (pos n) = grind (arith, common_steps, cases_Bool, eqb-true, eqb-false)
parity_cases (negsuc n) = grind (arith, common_steps, cases_Bool, eqb-true, eqb-false)

partner_up : (t : ℕ) (z : ℤ) → parity z ≡ t % 2 → partner t z ≡ z +ℤ pos 1
unfolding partner
partner_up t z e = cond-true _ _ _ (eq-eqb (parity z) (t % 2) e)

partner_down : (t : ℕ) (z : ℤ) → (parity z ≡ t % 2 → ⊥) → partner t z ≡ z -ℤ pos 1
unfolding partner
partner_down t z e = cond-false _ _ _ (ne_eqb (parity z) (t % 2) e)

above_is_here : (a b c : Bool) → c ≡ b → (a || b || c) ≡ (b || a)
above_is_here a b c e = grind arith

below_is_here : (a b c : Bool) → a ≡ b → (a || b || c) ≡ (b || c)
below_is_here a b c e = grind arith

not_odd : (n : ℕ) → n ≡ 0 → n ≡ 1 → ⊥
not_odd n e f = omega arith

not_even : (n : ℕ) → n ≡ 1 → n ≡ 0 → ⊥
not_even n e f = omega arith

-- of the three places beside each other, two are in one block at even times
near_either : (f n : ℕ) (z : ℤ) → f % 2 ≡ 0 → n % 2 ≡ 0 →
    (in_span f n (z -ℤ pos 1) || in_span f n z || in_span f n (z +ℤ pos 1))
    ≡ (in_span f n z || in_span f n (partner 1 z))
near_either f n z pf pn = elim (parity_cases z) [
  | inl even ↦
      above_is_here (in_span f n (z -ℤ pos 1)) (in_span f n z) (in_span f n (z +ℤ pos 1))
      (ap (in_span f n) (sym (partner_up 0 z even)) ∙ even_span f n 0 z pf pn refl)
      ∙ ap (λ p. in_span f n z || in_span f n p) (sym (partner_down 1 z (not_odd (parity z) even)))
  | inr odd ↦
      below_is_here (in_span f n (z -ℤ pos 1)) (in_span f n z) (in_span f n (z +ℤ pos 1))
      (ap (in_span f n) (sym (partner_down 0 z (not_even (parity z) odd))) ∙ even_span f n 0 z pf pn refl)
      ∙ ap (λ p. in_span f n z || in_span f n p) (sym (partner_up 1 z odd))
]

-- ---- halos

three_cells : (a a' b b' s : Bool) →
    (((a' && b) && (not (a && b) && s)) || ((a && b') && (not (a && b) && s)) || ((a' && b') && (not (a && b) && s)))
    ≡ ((not (a && b) && ((a || a') && (b || b'))) && s)
three_cells a a' b b' s = grind arith

pub halo_either : (b : Box2) (x y : ℤ) → IsEvenBox b →
    (not (in_box b x y) && ((in_span b.x b.w x || in_span b.x b.w (partner 1 x))
    && (in_span b.y b.h y || in_span b.y b.h (partner 1 y)))) ≡ in_halo b x y
halo_either b x y even = grind (arith, common_steps, halo_read, near_either)

-- a cell is in the halo of a box if it is outside, and the box has one of the other cells of its block
pub odd_halo : (b : Box2) (x y : ℤ) (s : Bool) → IsEvenBox b →
    ((in_box b (partner 1 x) y && (not (in_box b x y) && s)) || (in_box b x (partner 1 y) && (not (in_box b x y) && s))
    || (in_box b (partner 1 x) (partner 1 y) && (not (in_box b x y) && s)))
    ≡ (in_halo b x y && s)
unfolding in_box
odd_halo b x y s even = grind (arith, common_steps, three_cells, halo_either)

-- ---- one element at most passes a test

false_and : (p q : Bool) → (p ≡ true → ⊥) → (p && q) ≡ false
false_and p q h1 = grind (arith, common_steps)

true_and : (p q : Bool) → p ≡ true → (p && q) ≡ q
true_and p q h1 = grind (arith, common_steps)

pub none_passes : {X : Type 0} (p q : X → Bool) (xs : List X) →
    ((i : ℕ) (x : X) → slice_get xs i ≡ Some x → p x ≡ true → ⊥) → list_any (λ x. p x && q x) xs ≡ false
none_passes p q [] none = refl
none_passes p q (x ∷ xs) none =
    ap₂ (λ a b. a || b) (false_and (p x) (q x) (none 0 x refl)) (none_passes p q xs (λ i z at. none (suc i) z at))

zero_other : (k : ℕ) → zero ≡ suc k → ⊥
zero_other k e = omega arith

one_less : (i k : ℕ) → suc i ≡ suc k → i ≡ k
one_less i k e = omega arith

pub one_passes : {X : Type 0} (p q : X → Bool) (xs : List X) (k : ℕ) (x : X) → slice_get xs k ≡ Some x → p x ≡ true →
    ((i : ℕ) (z : X) → slice_get xs i ≡ Some z → p z ≡ true → i ≡ k) → list_any (λ z. p z && q z) xs ≡ q x
one_passes p q [] k x at here only = absurd cc
one_passes p q (y ∷ xs) zero x at here only =
    let same = some_is y x at in
    ap₂ (λ a b. a || b)
    (ap (λ z. p z && q z) same ∙ true_and (p x) (q x) here)
    (none_passes p q xs (λ i z there passes. zero_other i (sym (only (suc i) z there passes))))
    ∙ or-false (q x)
one_passes p q (y ∷ xs) (suc k) x at here only =
    ap₂ (λ a b. a || b) (false_and (p y) (q y) (λ passes. zero_other k (only 0 y refl passes)))
    (one_passes p q xs k x at here (λ i z there passes. one_less i k (only (suc i) z there passes)))

pub same_at : {X : Type 0} (f g : X → Bool) (xs : List X) →
    ((i : ℕ) (x : X) → slice_get xs i ≡ Some x → f x ≡ g x) → list_any f xs ≡ list_any g xs
same_at f g [] h = refl
same_at f g (x ∷ xs) h = ap₂ (λ a b. a || b) (h 0 x refl) (same_at f g xs (λ i z at. h (suc i) z at))

-- ---- the owner of a cell

pub area_of : (ms : List ModuleLines) (k : ℕ) (m : ModuleLines) → slice_get ms k ≡ Some m →
    slice_get (areas ms) k ≡ Some m.area
area_of ms k m at = mapped_at (λ (n : ModuleLines). n.area) ms k m at

module _ (ms : List ModuleLines) (apart : AreBoxesDisjoint (areas ms)) (c : Cell) (q : ModuleLines → Bool) where
  pub asked_owner : (k : ℕ) (r : Bool) → BoxHoldsCell (areas ms) c.x c.y k →
      ((m : ModuleLines) → slice_get ms k ≡ Some m → r ≡ q m) →
      r ≡ list_any (λ (m : ModuleLines). in_box m.area c.x c.y && q m) ms
  asked_owner k r h answer =
      let m = mapped_from (λ (m : ModuleLines). m.area) ms k h.area h.numbered in
      let here : in_box m.0.area c.x c.y ≡ true = ap (λ (b : Box2). in_box b c.x c.y) m.2 ∙ h.has in
      answer m.0 m.1
      ∙ sym (one_passes (λ (n : ModuleLines). in_box n.area c.x c.y) q ms k m.0 m.1 here
      (λ i n at there. apart.once c.x c.y i k n.area h.area (area_of ms i n at) h.numbered there h.has))

  pub asked_none : ((i : ℕ) → ¬ BoxHoldsCell (areas ms) c.x c.y i) →
      false ≡ list_any (λ (m : ModuleLines). in_box m.area c.x c.y && q m) ms
  asked_none none =
      sym (none_passes (λ (n : ModuleLines). in_box n.area c.x c.y) q ms
      (λ i n at here. none i (record { area = n.area; numbered = area_of ms i n at; has = here })))

-- the number of a box is that of a module
pub owner_within : (ms : List ModuleLines) (x y : ℤ) (k : ℕ) → BoxHoldsCell (areas ms) x y k → k < length ms
owner_within ms x y k h = grind (arith, common_steps, mapped_from, slice_get_within)

-- ---- the modules that lack the wire of an edge line

module _ (c : Circuit) (ms : List ModuleLines) where
  pub lacked_beside : (cell : Cell) (wire : Option ℕ) →
      ((k : ℕ) (m : ModuleLines) → slice_get ms k ≡ Some m → IsEvenBox m.area) →
      (list_any (λ (m : ModuleLines). in_box m.area (partner 1 cell.x) cell.y && is_outside_and_nonlocal c cell wire m)
      ms
      || list_any (λ (m : ModuleLines).
      in_box m.area cell.x (partner 1 cell.y) && is_outside_and_nonlocal c cell wire m) ms
      || list_any (λ (m : ModuleLines). in_box m.area (partner 1 cell.x) (partner 1 cell.y)
      && is_outside_and_nonlocal c cell wire m) ms)
      ≡ is_nonlocal_in_neighbour c ms cell wire
  lacked_beside cell wire even =
      let x = cell.x in let y = cell.y in
      let at : ℤ → ℤ → ModuleLines → Bool = λ u v m. in_box m.area u v && is_outside_and_nonlocal c cell wire m in
      ap (λ b. b || list_any (at (partner 1 x) (partner 1 y)) ms)
      (sym (any_either (at (partner 1 x) y) (at x (partner 1 y)) ms))
      ∙ sym (any_either (λ m. at (partner 1 x) y m || at x (partner 1 y) m) (at (partner 1 x) (partner 1 y)) ms)
      ∙ same_at (λ m. (at (partner 1 x) y m || at x (partner 1 y) m) || at (partner 1 x) (partner 1 y) m)
      (λ m. in_halo m.area x y && not (is_local_wire (known c m) wire)) ms
      (λ k m here. odd_halo m.area x y (not (is_local_wire (known c m) wire)) (even k m here))

  -- no module lacks `1`
  pub lacked_constant : (e : BorderLine) → e.signal ≡ None → false ≡ does_neighbour_lack_wire c ms e
  lacked_constant e is =
      sym (ap (λ s. list_any (λ (m : ModuleLines).
      in_halo m.area e.cell.x e.cell.y && is_nonlocal_signal c (known c m) s) ms)
      is ∙ any_same (λ (m : ModuleLines). in_halo m.area e.cell.x e.cell.y && false) (λ m. false) ms
      (λ m. and-false (in_halo m.area e.cell.x e.cell.y)) ∙ none_any ms)

  -- some line has a neighbour that lacks its wire, exactly if some module lacks the wire of a line
  pub lacked_by_lines : (es : List BorderLine) →
      list_any (does_neighbour_lack_wire c ms) es ≡ list_any (lacks_wire_of_some_edge c es) ms
  lacked_by_lines es =
      any_swap (λ (e : BorderLine) (m : ModuleLines).
      in_halo m.area e.cell.x e.cell.y && is_nonlocal_signal c (known c m) e.signal)
      es ms
      ∙ any_same (λ m. list_any
      (λ (e : BorderLine). in_halo m.area e.cell.x e.cell.y && is_nonlocal_signal c (known c m) e.signal) es)
      (lacks_wire_of_some_edge c es) ms
      (λ m. grind (arith, common_steps, any_filter))

-- ---- places in the rectangle

pub low_cell : (w h : ℕ) (x y : ℤ) → w ≤ max_side → h ≤ max_side → in_box (rectangle_of w h) x y ≡ true →
    ((pos 0 ≤ℤ x) × (x ≤ℤ pos last_column_or_row)) × ((pos 0 ≤ℤ y) × (y ≤ℤ pos last_column_or_row))
low_cell w h x y wide high inside = grind (arith, common_steps, in_box_nats, low_number)
