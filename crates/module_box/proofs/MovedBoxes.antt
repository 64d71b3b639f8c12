-- Boxes and signals that are moved
use Rattle.module_box.proofs.Imports.{AllTimesSignal, Box2, Cell, Equal, Greater, IsRising, Less, List, Ordering, Some}
use Rattle.module_box.proofs.Imports.{State, TimedSignal, [], all_times_at, ap, ap₂, arith, cell_cmp, cell_of}
use Rattle.module_box.proofs.Imports.{common_steps, event_at, in_box, in_halo, in_ring, in_span, ints, is_cell_at, map}
use Rattle.module_box.proofs.Imports.{moment_cmp, moment_of, moved_all_times, moved_event, nat_eq, pos, refl}
use Rattle.module_box.proofs.Imports.{has_neighbour_in_set, ℕ, ℤ, ◌&&◌, ◌+ℤ◌, ◌+◌, ◌∷◌, ◌≡◌}
use Rattle.lemmas.proofs.Common.{if◌then◌else◌, int_lt, ordering_then, down_moved, mapped_from, up_moved}
use Rattle.std.specs.Ordering.{int_eq, int_cmp, nat_cmp}
use Rattle.bbm_rule.specs.Moves.{IsStateMovedBy}
use Rattle.module_box.specs.Moves.{moved_cell, moved_signals, IsMovedBox, RingsAndHalosMoveAlong, SignalsMoveAlong}
use Rattle.module_box.specs.Schedules.{Signals, signal_at}

-- ---- comparisons of numbers that are moved alike
lt_moved : (a b d : ℤ) → int_lt (a +ℤ d) (b +ℤ d) ≡ int_lt a b
lt_moved a b d = grind (arith, ints)

eq_moved : (a b d : ℤ) → int_eq (a +ℤ d) (b +ℤ d) ≡ int_eq a b
eq_moved a b d = grind (arith, ints)

cmp_moved : (a b d : ℤ) → int_cmp (a +ℤ d) (b +ℤ d) ≡ int_cmp a b
cmp_moved a b d = λ i. if lt_moved a b d i then Less else (if lt_moved b a d i then Greater else Equal)

-- ---- boxes
pub span_moved : (f f' n n' : ℕ) (d x : ℤ) → pos f' ≡ pos f +ℤ d → n' ≡ n → in_span f' n' (x +ℤ d) ≡ in_span f n x
unfolding in_span
span_moved f f' n n' d x e same = grind (arith, common_steps, lt_moved)

pub box_moved : (dx dy : ℤ) (b b' : Box2) → IsMovedBox dx dy b b' → IsStateMovedBy dx dy (in_box b) (in_box b')
unfolding in_box
box_moved dx dy b b' m x y = grind (arith, common_steps, span_moved)

-- the neighbours of a cell move along
some_moved : (dx dy : ℤ) (s s' : State) → IsStateMovedBy dx dy s s' →
    IsStateMovedBy dx dy (has_neighbour_in_set s) (has_neighbour_in_set s')
unfolding has_neighbour_in_set
some_moved dx dy s s' m x y = grind (arith, common_steps, down_moved, up_moved)

pub boxes_moved : RingsAndHalosMoveAlong
unfolding in_ring in_halo
boxes_moved dx dy b b' m = grind (arith, common_steps, box_moved, some_moved)

-- ---- signals
at_moved : (dx dy : ℤ) (c : Cell) (x y : ℤ) → is_cell_at (moved_cell dx dy c) (x +ℤ dx) (y +ℤ dy) ≡ is_cell_at c x y
at_moved dx dy c x y = ap₂ (λ p q. p && q) (eq_moved c.x x dx) (eq_moved c.y y dy)

all_times_moved : (dx dy : ℤ) (hs : List AllTimesSignal) (x y : ℤ) →
    all_times_at (map (moved_all_times dx dy) hs) (x +ℤ dx) (y +ℤ dy) ≡ all_times_at hs x y
unfolding all_times_at
all_times_moved dx dy [] x y = refl
all_times_moved dx dy (h ∷ hs) x y =
    λ i. if at_moved dx dy h.cell x y i then Some h.signal else all_times_moved dx dy hs x y i

event_moved : (dx dy : ℤ) (es : List TimedSignal) (t : ℕ) (x y : ℤ) →
    event_at (map (moved_event dx dy) es) t (x +ℤ dx) (y +ℤ dy) ≡ event_at es t x y
unfolding event_at
event_moved dx dy [] t x y = refl
event_moved dx dy (e ∷ es) t x y =
    λ i. if nat_eq e.at.time t && at_moved dx dy e.at.cell x y i then Some e.signal else event_moved dx dy es t x y i

pub signals_moved : SignalsMoveAlong
unfolding signal_at
signals_moved dx dy s t x y = grind (arith, common_steps, all_times_moved, event_moved)

-- ---- moved back
sum_back : (a d e : ℤ) → d +ℤ e ≡ pos 0 → (a +ℤ d) +ℤ e ≡ a
sum_back a d e none = omega (arith, ints, none)

pub cell_back : (dx dy ex ey : ℤ) (c : Cell) → dx +ℤ ex ≡ pos 0 → dy +ℤ ey ≡ pos 0 →
    moved_cell ex ey (moved_cell dx dy c) ≡ c
cell_back dx dy ex ey c p q = λ i. record { x = sum_back c.x dx ex p i; y = sum_back c.y dy ey q i }

map_back : {A : Type 0} (f g : A → A) → ((a : A) → g (f a) ≡ a) → (xs : List A) → map g (map f xs) ≡ xs
map_back f g back [] = refl
map_back f g back (x ∷ xs) = ap₂ (λ y ys. y ∷ ys) (back x) (map_back f g back xs)

pub signals_back : (dx dy ex ey : ℤ) (s : Signals) → dx +ℤ ex ≡ pos 0 → dy +ℤ ey ≡ pos 0 →
    moved_signals ex ey (moved_signals dx dy s) ≡ s
signals_back dx dy ex ey s p q = grind (arith, common_steps, map_back, cell_back)

-- ---- the order of cells and moments
pub cell_cmp_moved : (dx dy : ℤ) (a b : Cell) → cell_cmp (moved_cell dx dy a) (moved_cell dx dy b) ≡ cell_cmp a b
unfolding cell_cmp
cell_cmp_moved dx dy a b = ap₂ ordering_then (cmp_moved a.y b.y dy) (cmp_moved a.x b.x dx)

moment_cmp_moved : (dx dy : ℤ) (d e : TimedSignal) →
    moment_cmp (moved_event dx dy d).at (moved_event dx dy e).at ≡ moment_cmp d.at e.at
unfolding moment_cmp
moment_cmp_moved dx dy d e = ap (ordering_then (nat_cmp d.at.time e.at.time)) (cell_cmp_moved dx dy d.at.cell e.at.cell)

rising_mapped : {A K : Type 0} (cmp : K → K → Ordering) (key : A → K) (f : A → A) →
    ((a b : A) → cmp (key (f a)) (key (f b)) ≡ cmp (key a) (key b)) → (xs : List A) → IsRising cmp key xs →
    IsRising cmp key (map f xs)
rising_mapped cmp key f same xs rising = grind (arith, common_steps, mapped_from)

pub all_times_rising : (dx dy : ℤ) (hs : List AllTimesSignal) → IsRising cell_cmp cell_of hs →
    IsRising cell_cmp cell_of (map (moved_all_times dx dy) hs)
all_times_rising dx dy hs rising = grind (arith, common_steps, rising_mapped, cell_cmp_moved)

pub events_rising : (dx dy : ℤ) (es : List TimedSignal) → IsRising moment_cmp moment_of es →
    IsRising moment_cmp moment_of (map (moved_event dx dy) es)
events_rising dx dy es rising = grind (arith, common_steps, rising_mapped, moment_cmp_moved)
