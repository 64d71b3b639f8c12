-- The tests of equality answer whether two values are equal
use Rattle.module_box.proofs.Imports.{AllTimesSignal, Bool, Cell, Cswap, Delay, Fredkin, Gate, GateKind, Interact, List}
use Rattle.module_box.proofs.Imports.{LocalGate, Netlist, None, Option, Some, Source, Switch, TimedSignal, Uninteract}
use Rattle.module_box.proofs.Imports.{Unswitch, Zero, [], and_parts, ap, arith, common_steps, false, gate_kind_number}
use Rattle.module_box.proofs.Imports.{gate_of_local_gate, get_or, map, nat_eq, refl, true, ℕ, ◌&&◌, ◌∷◌, ◌≡◌}
use Rattle.lemmas.proofs.Common.{Decides, Decides-eqb, on, option_eq, pointwise, slice_eq-Decides}
use Rattle.module_box.specs.declared.schedules.Signal.{Signal}
use Rattle.module_box.specs.declared.schedules.Signal.TheVariants.{One, Wire}
use Rattle.module_box.specs.Laws.{LocalsEqualityDecides, ScheduleEqualityDecides}
use Rattle.module_box.specs.Equality.{is_one, signal_wire, same_signal, same_cell, same_all_times, same_event}
use Rattle.module_box.specs.Equality.{source_bit, delay_steps, same_gate, same_netlist}

-- two tests, of two parts
pub both : {P Q R : Type 0} (r s : Bool) → Decides r P → Decides s Q → (P → Q → R) → (R → P) → (R → Q) →
    Decides (r && s) R
both r s d e join left right = grind (arith, common_steps, and_parts)

pub lists : {A : Type 0} (E : A → A → Bool) → ((x y : A) → Decides (E x y) (x ≡ y)) → (xs ys : List A) →
    Decides (pointwise E xs ys) (xs ≡ ys)
lists E d xs ys = slice_eq-Decides d xs ys (pointwise E xs ys) refl

pub options : {A : Type 0} (E : A → A → Bool) → ((x y : A) → Decides (E x y) (x ≡ y)) → (p q : Option A) →
    Decides (option_eq E p q) (p ≡ q)
options E d None None = (λ e. refl, λ e. refl)
options E d None (Some y) = (λ e. absurd cc, λ e. absurd cc)
options E d (Some x) None = (λ e. absurd cc, λ e. absurd cc)
options {A} E d (Some x) (Some y) = grind (arith, common_steps)

-- ---- signals
signal_of : Bool → Option ℕ → Signal
signal_of true p = One
signal_of false None = Zero
signal_of false (Some w) = Wire w

signal_back : (a : Signal) → signal_of (is_one a) (signal_wire a) ≡ a
unfolding signal_of
signal_back a = grind (arith, common_steps)

pub signal_decides : (a b : Signal) → Decides (same_signal a b) (a ≡ b)
signal_decides a b = grind (arith, common_steps, both, options, signal_back, signal_of)

pub cell_decides : (a b : Cell) → Decides (same_cell a b) (a ≡ b)
cell_decides a b = grind (arith, common_steps, both)

pub all_times_decides : (a b : AllTimesSignal) → Decides (same_all_times a b) (a ≡ b)
all_times_decides a b =
    both _ _ (cell_decides a.cell b.cell) (signal_decides a.signal b.signal)
    (λ cell signal i. record { cell = cell i; signal = signal i }) (λ e. ap (λ h. h.cell) e) (λ e. ap (λ h. h.signal) e)

pub event_decides : (a b : TimedSignal) → Decides (same_event a b) (a ≡ b)
event_decides a b =
    both _ _ (Decides-eqb a.at.time b.at.time)
    (both {R = (a.at.cell ≡ b.at.cell) × (a.signal ≡ b.signal)} _ _ (cell_decides a.at.cell b.at.cell)
    (signal_decides a.signal b.signal) (λ cell signal. (cell, signal)) (λ p. p.0) (λ p. p.1))
    (λ time rest i. record { at = record { time = time i; cell = rest.0 i }; signal = rest.1 i })
    (λ e. ap (λ h. h.at.time) e) (λ e. (ap (λ h. h.at.cell) e, ap (λ h. h.signal) e))

pub signals_decides : ScheduleEqualityDecides
signals_decides s t = grind (arith, common_steps, both, lists, all_times_decides, event_decides)

-- ---- gates
source_of : Option Bool → GateKind
source_of None = Fredkin
source_of (Some b) = Source b

delay_of : Option ℕ → GateKind
delay_of None = Fredkin
delay_of (Some n) = Delay n

gate_kind_from : ℕ → Option Bool → Option ℕ → GateKind
gate_kind_from place source delay =
    get_or (source_of source ∷ Fredkin ∷ Cswap ∷ Interact ∷ Switch ∷ delay_of delay ∷ Unswitch ∷ []) place Uninteract

gate_kind_back : (r : GateKind) → gate_kind_from (gate_kind_number r) (source_bit r) (delay_steps r) ≡ r
unfolding gate_kind_from source_of delay_of
gate_kind_back r = grind (arith, common_steps)

pub gate_decides : (g h : Gate) → Decides (same_gate g h) (g ≡ h)
gate_decides g h = grind (arith, common_steps, both, lists)

-- ---- the wires and gates of modules
pub netlists_decide : (l m : Netlist) → Decides (same_netlist l m) (l ≡ m)
netlists_decide l m = grind (arith, common_steps, both, lists, gate_decides)

pub locals_decides : LocalsEqualityDecides
locals_decides l m =
    both _ _
    (both {R = (l.netlist ≡ m.netlist) × (l.circuit_wires ≡ m.circuit_wires)} _ _
    (grind (arith, common_steps, both, lists, gate_decides))
    (lists nat_eq Decides-eqb l.circuit_wires m.circuit_wires) (λ net wires. (net, wires)) (λ p. p.0) (λ p. p.1))
    (lists nat_eq Decides-eqb l.circuit_gates m.circuit_gates)
    (λ rest gates i. record { netlist = rest.0 i; circuit_wires = rest.1 i; circuit_gates = gates i })
    (λ e. (ap (λ l. l.netlist) e, ap (λ l. l.circuit_wires) e)) (λ e. ap (λ l. l.circuit_gates) e)

-- gates that are kept are compared by the gates that they stand for
pub same_gates : (gs hs : List LocalGate) →
    pointwise (on gate_of_local_gate same_gate) gs hs
    ≡ pointwise same_gate (map gate_of_local_gate gs) (map gate_of_local_gate hs)
same_gates [] [] = refl
same_gates [] (h ∷ hs) = refl
same_gates (g ∷ gs) [] = refl
same_gates (g ∷ gs) (h ∷ hs) = ap (λ b. same_gate (gate_of_local_gate g) (gate_of_local_gate h) && b) (same_gates gs hs)
