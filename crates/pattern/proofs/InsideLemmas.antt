-- The cells that are live at the start of a good layout lie inside it.
use Rattle.pattern.proofs.Imports.{AreGoodAfter, Ball, Bool, Box2, Cell, In, LayoutHeader, LayoutLine, List, Mirror}
use Rattle.pattern.proofs.Imports.{None, Pattern, Port, TakenCell, [], arith, code_if, common_steps, get_or, in_cells}
use Rattle.pattern.proofs.Imports.{in_layout, in_ports_on, in_rectangles, in_span, is_cell_at, is_inside}
use Rattle.pattern.proofs.Imports.{length, list_all, list_any, nat_tests, negsuc, not, parts_of, pos, refl, size_fault}
use Rattle.pattern.proofs.Imports.{start, suc, true, zero, ℕ, ℤ, ◌%◌, ◌&&◌, ◌++◌, ◌+◌, ◌<◌, ◌||◌, ◌∷◌, ◌≡◌, ◌≤◌}
use Rattle.lemmas.proofs.Common.{list_all-append, list_all-map, left_is_true, right_is_true}
use Rattle.bbm_rule.specs.Boxes.{in_box}
use Rattle.pattern.proofs.TakenLemmas.{faultless_is_inside, mirror_fits}
use Rattle.lemmas.specs.Bounds.{max_side}
use Rattle.section_text.proofs.Codes.{no_code}

-- ---- the size

pub record IsSideLength (n : ℕ) : Type 0 where
  pub least : 2 ≤ n
  pub most : n ≤ max_side
  pub even : n % 2 ≡ 0

pub size_sides : (s : LayoutHeader) → size_fault s ≡ None → IsSideLength s.w × IsSideLength s.h
unfolding size_fault
size_sides s e = grind (arith, common_steps, no_code, left_is_true, right_is_true)

-- ---- the parts

first_holds : (a b : Bool) → code_if (not a || b) TakenCell ≡ None → a ≡ true
first_holds a b h1 = grind (arith, common_steps)

pub parts_inside : (s : LayoutHeader) (before parts : List LayoutLine) → AreGoodAfter s before parts →
    list_all (is_inside s) parts ≡ true
parts_inside s before [] h = refl
parts_inside s before (part ∷ parts) h =
    rw (faultless_is_inside s before part h.1, parts_inside s (before ++ part ∷ []) parts h.2) refl

pub record BeginsInside (p : Pattern) : Type 0 where
  pub mirrors : list_all (λ r. is_inside p.size (Mirror r)) p.mirrors ≡ true
  pub balls : list_all (λ c. is_inside p.size (Ball c)) p.balls ≡ true
  pub ins : list_all (λ q. is_inside p.size (In q)) p.ins ≡ true

pub begins_inside : (p : Pattern) → AreGoodAfter p.size [] (parts_of p) → BeginsInside p
begins_inside p h =
    grind (arith, common_steps, parts_inside, list_all-append, right_is_true, list_all-map, left_is_true)

pub mirrors_fit : (s : LayoutHeader) (rs : List Box2) → list_all (λ r. is_inside s (Mirror r)) rs ≡ true →
    s.w ≤ max_side → s.h ≤ max_side → (k : ℕ) (d : Box2) → k < length rs →
    ((get_or rs k d).x + (get_or rs k d).w ≤ max_side) × ((get_or rs k d).y + (get_or rs k d).h ≤ max_side)
mirrors_fit s [] e w h k d lt = absurd (omega arith)
mirrors_fit s (r ∷ rs) e w h zero d lt = grind (arith, common_steps, mirror_fits, left_is_true)
mirrors_fit s (r ∷ rs) e w h (suc k) d lt = mirrors_fit s rs (right_is_true _ _ e) w h k d (omega arith)

-- ---- the start

one_or_rest : (here rest b : Bool) → (here ≡ true → b ≡ true) → (rest ≡ true → b ≡ true) → (here || rest) ≡ true →
    b ≡ true
one_or_rest here rest b h1 h2 h3 = grind (arith, common_steps)

any_among : {X : Type 0} (p q : X → Bool) (b : Bool) → ((x : X) → q x ≡ true → p x ≡ true → b ≡ true) → (xs : List X) →
    list_all q xs ≡ true → list_any p xs ≡ true → b ≡ true
any_among p q b f [] all some = cc
any_among p q b f (x ∷ xs) all some =
    one_or_rest (p x) (list_any p xs) b (f x (left_is_true _ _ all)) (any_among p q b f xs (right_is_true _ _ all)) some

span_within : (a n m : ℕ) (x : ℤ) → a + n ≤ m → in_span a n x ≡ true → in_span 0 m x ≡ true
unfolding in_span
span_within a n m (pos x) fits e = grind (arith, nat_tests)
span_within a n m (negsuc x) fits e = cc

rectangle_inside : (s : LayoutHeader) (r : Box2) (x y : ℤ) → is_inside s (Mirror r) ≡ true →
    in_box r x y ≡ true → in_layout s x y ≡ true
unfolding in_box
rectangle_inside s r x y e h = grind (arith, common_steps, mirror_fits, span_within, left_is_true, right_is_true)

at_inside : (s : LayoutHeader) (c : Cell) (x y : ℤ) → in_layout s c.x c.y ≡ true → is_cell_at c x y ≡ true →
    in_layout s x y ≡ true
at_inside s c x y e h = grind (arith, common_steps, left_is_true, right_is_true)

ball_inside : (s : LayoutHeader) (c : Cell) (x y : ℤ) → is_inside s (Ball c) ≡ true → is_cell_at c x y ≡ true →
    in_layout s x y ≡ true
unfolding is_inside
ball_inside s c x y e h = at_inside s c x y e h

port_inside : (s : LayoutHeader) (b : Bool) (q : Port) (x y : ℤ) → is_inside s (In q) ≡ true →
    (b && is_cell_at q.cell x y) ≡ true → in_layout s x y ≡ true
unfolding is_inside
port_inside s b q x y e h = at_inside s q.cell x y e (right_is_true _ _ h)

or_either : (a b c d : Bool) → (a || b || c) ≡ true → (a ≡ true → d ≡ true) → (b ≡ true → d ≡ true) →
    (c ≡ true → d ≡ true) → d ≡ true
or_either a b c d h1 h2 h3 h4 = grind (arith, common_steps, one_or_rest)

pub start_inside : (p : Pattern) (on : List ℕ → Bool) → BeginsInside p → (x y : ℤ) → start p on x y ≡ true →
    in_layout p.size x y ≡ true
unfolding start
start_inside p on all x y h =
    or_either (in_rectangles p.mirrors x y) (in_cells p.balls x y) (in_ports_on on p.ins x y) _ h
    (any_among _ (λ (r : Box2). is_inside p.size (Mirror r)) _
    (λ r e a. rectangle_inside p.size r x y e a) p.mirrors all.mirrors)
    (any_among _ (λ (c : Cell). is_inside p.size (Ball c)) _ (λ c e a. ball_inside p.size c x y e a) p.balls all.balls)
    (any_among _ (λ (q : Port). is_inside p.size (In q)) _
    (λ q e a. port_inside p.size (on q.name) q x y e a) p.ins all.ins)
