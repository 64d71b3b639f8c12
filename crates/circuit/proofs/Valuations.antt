-- Gates that are ordered have at most one valuation, and what `evaluate` finds is one.
use Rattle.circuit.proofs.Imports.{All, All-head, All-tail, AreGatesOrdered, AreWireValues, Bool, Cswap, Delay}
use Rattle.circuit.proofs.Imports.{FollowsRow, Fredkin, Gate, GateKind, Interact, List, Netlist, None, Option}
use Rattle.circuit.proofs.Imports.{Satisfies, Some, Source, Switch, Uninteract, Unswitch, Valuation, [], ap, ap₂, arith}
use Rattle.circuit.proofs.Imports.{as_values, cases_lt, common_steps, defines, evaluate, false, get_or}
use Rattle.circuit.proofs.Imports.{get_or-append-add, get_or-map-range_with_len, get_or_append_left, inl, inr}
use Rattle.circuit.proofs.Imports.{is_inverse, length, length-append, length-map, map, option_and_then, range_with_len}
use Rattle.circuit.proofs.Imports.{refl, row, subst, suc, sym, true, true≢false, uses, wires, wires_after, zero, ℕ}
use Rattle.circuit.proofs.Imports.{◌++◌, ◌+◌, ◌-◌, ◌<◌, ◌∙◌, ◌∷◌, ◌≡◌, ◌≤◌}
use Rattle.lemmas.proofs.Common.{◌⊎◌}
use Rattle.circuit.specs.Laws.{HasAtMostOneValuation}
use Rattle.circuit.proofs.Places.{all_cons}

-- ---- each gate has a row
len_0 : (xs : List Bool) → length xs ≡ 0 → xs ≡ []
len_0 xs h1 = grind (arith, common_steps)

len_1 : (xs : List Bool) → length xs ≡ 1 → (a : Bool) × (xs ≡ a ∷ [])
len_1 [] h = absurd (omega arith)
len_1 (a ∷ xs) h = (a, ap (λ l. a ∷ l) (len_0 xs (omega arith)))

len_2 : (xs : List Bool) → length xs ≡ 2 → (a b : Bool) × (xs ≡ a ∷ b ∷ [])
len_2 [] h = absurd (omega arith)
len_2 (a ∷ xs) h = let r = len_1 xs (omega arith) in (a, r.0, ap (λ l. a ∷ l) r.1)

len_3 : (xs : List Bool) → length xs ≡ 3 → (a b c : Bool) × (xs ≡ a ∷ b ∷ c ∷ [])
len_3 [] h = absurd (omega arith)
len_3 (a ∷ xs) h = let r = len_2 xs (omega arith) in (a, r.0, r.1, ap (λ l. a ∷ l) r.2)

len_4 : (xs : List Bool) → length xs ≡ 4 → (a b c d : Bool) × (xs ≡ a ∷ b ∷ c ∷ d ∷ [])
len_4 [] h = absurd (omega arith)
len_4 (a ∷ xs) h = let r = len_3 xs (omega arith) in (a, r.0, r.1, r.2, ap (λ l. a ∷ l) r.3)

abbrev pub RowOf : GateKind → List Bool → Type 0
RowOf kind xs = (r : List Bool) × (row kind xs ≡ Some r) × (length r ≡ defines kind)

pub row_of : (kind : GateKind) (xs : List Bool) → is_inverse kind ≡ false → length xs ≡ uses kind → RowOf kind xs
unfolding row
row_of (Source b) xs f h = (b ∷ [], ap (row (Source b)) (len_0 xs h), refl)
row_of Fredkin xs f h = let r = len_3 xs h in (_, ap (row Fredkin) r.3, refl)
row_of Cswap xs f h = let r = len_3 xs h in (_, ap (row Cswap) r.3, refl)
row_of Interact xs f h = let r = len_2 xs h in (_, ap (row Interact) r.2, refl)
row_of Switch xs f h = let r = len_2 xs h in (_, ap (row Switch) r.2, refl)
row_of (Delay n) xs f h = let r = len_1 xs h in (_, ap (row (Delay n)) r.1, refl)
row_of _ xs f h = absurd (true≢false f)

unswitch_cases : (c y z : Bool) → (row Unswitch (c ∷ y ∷ z ∷ []) ≡ None) ⊎ RowOf Unswitch (c ∷ y ∷ z ∷ [])
unfolding row
unswitch_cases c y z = grind (arith, common_steps)

uninteract_cases : (a b c d : Bool) →
    (row Uninteract (a ∷ b ∷ c ∷ d ∷ []) ≡ None) ⊎ RowOf Uninteract (a ∷ b ∷ c ∷ d ∷ [])
unfolding row
uninteract_cases a b c d = grind (arith, common_steps)

-- a gate has a row, or none
pub row_cases : (kind : GateKind) (xs : List Bool) → length xs ≡ uses kind → (row kind xs ≡ None) ⊎ RowOf kind xs
row_cases Unswitch xs h = grind (arith, common_steps, len_3, unswitch_cases)
row_cases Uninteract xs h = grind (arith, common_steps, len_4, uninteract_cases)
row_cases (Source b) xs h = inr (row_of (Source b) xs refl h)
row_cases Fredkin xs h = inr (row_of Fredkin xs refl h)
row_cases Cswap xs h = inr (row_of Cswap xs refl h)
row_cases Interact xs h = inr (row_of Interact xs refl h)
row_cases Switch xs h = inr (row_of Switch xs refl h)
row_cases (Delay n) xs h = inr (row_of (Delay n) xs refl h)

some_same : (x y : List Bool) (o : Option (List Bool)) → o ≡ Some x → o ≡ Some y → x ≡ y
some_same x y o e f = cc

-- ---- lists

pub map_below : (n : ℕ) (f g : Valuation) (ws : List ℕ) → All (λ w. w < n) ws → ((w : ℕ) → w < n → f w ≡ g w) →
    map f ws ≡ map g ws
map_below n f g [] all same = refl
map_below n f g (w ∷ ws) all same =
    grind (arith, common_steps, map_below n f g ws (All-tail (λ w. w < n) w ws all) same, All-head, All-tail)

pub map_range : (r : List Bool) (n k : ℕ) (f : Valuation) → length r ≡ k →
    ((i : ℕ) → i < k → f (n + i) ≡ get_or r i false) → map f (range_with_len n k) ≡ r
map_range [] n zero f e h = refl
map_range [] n (suc k) f e h = absurd (omega arith)
map_range (b ∷ r) n zero f e h = absurd (omega arith)
map_range (b ∷ r) n (suc k) f e h =
    ap₂ (λ b bs. b ∷ bs) (ap f (at_0 n) ∙ h 0 (omega arith))
    (map_range r (n + 1) k f (omega arith) (λ i l. ap f (next n i) ∙ h (suc i) (omega arith)))
  where
    at_0 : (n : ℕ) → n ≡ n + 0
    at_0 n = omega arith

    next : (n i : ℕ) → n + 1 + i ≡ n + suc i
    next n i = omega arith

-- ---- what is evaluated
-- the values found begin with those that were there, and each later gate has its row
record Found (vs : List Bool) (gs : List Gate) (out : List Bool) : Type 0 where
  all : length out ≡ wires_after (length vs) gs
  longer : length vs ≤ length out
  same : (w : ℕ) → w < length vs → as_values out w ≡ as_values vs w
  rows : All (FollowsRow (as_values out)) gs

-- one gate more in front
found_more : (vs out r : List Bool) (g : Gate) (gs : List Gate) → AreGatesOrdered (length vs) (g ∷ gs) →
    row g.kind (map (as_values vs) g.ins) ≡ Some r → length r ≡ defines g.kind → Found (vs ++ r) gs out →
    Found vs (g ∷ gs) out
unfolding AreGatesOrdered wires_after
found_more vs out r g gs ordered is many rest =
    let total : length (vs ++ r) ≡ length vs + defines g.kind = length-append vs r ∙ ap (λ n. length vs + n) many in
    let below : (w : ℕ) → w < length vs → as_values out w ≡ as_values vs w =
    λ w h. rest.same w (omega (arith, total)) ∙ get_or_append_left vs r false w h in
    let here : FollowsRow (as_values out) g =
    ap (row g.kind) (map_below (length vs) (as_values out) (as_values vs) g.ins ordered.0 below) ∙ is
    ∙ ap Some (sym (ap (map (as_values out)) ordered.2 ∙ map_range r (length vs) (defines g.kind) (as_values out) many
    (λ i h. rest.same (length vs + i) (omega (arith, total)) ∙ get_or-append-add vs r i false))) in
    grind (arith, common_steps, all_cons)

some_is : (x y : List Bool) → Some x ≡ Some y → x ≡ y
some_is x y e = cc

none_some : (x : List Bool) (o : Option (List Bool)) → o ≡ None → o ≡ Some x → ⊥
none_some x o e f = cc

-- what is evaluated was found gate after gate
found_from : (vs : List Bool) (gs : List Gate) (out : List Bool) → AreGatesOrdered (length vs) gs →
    evaluate vs gs ≡ Some out → Found vs gs out
unfolding evaluate AreGatesOrdered wires_after
found_from vs [] out ordered e = grind (arith, common_steps, some_is)
found_from vs (g ∷ gs) out ordered e =
    elim (row_cases g.kind (map (as_values vs) g.ins) (length-map g.ins (as_values vs) ∙ ordered.1)) [
      | inl none ↦ absurd (none_some out _ (ap (option_and_then (λ r. evaluate (vs ++ r) gs)) none) e)
      | inr s ↦
          let total : length (vs ++ s.0) ≡ length vs + defines g.kind =
          length-append vs s.0 ∙ ap (λ n. length vs + n) s.2 in
          found_more vs out s.0 g gs ordered s.1 s.2
          (found_from (vs ++ s.0) gs out (subst (λ n. AreGatesOrdered n gs) (sym total) ordered.3)
          (sym (ap (option_and_then (λ r. evaluate (vs ++ r) gs)) s.1) ∙ e))
    ]

-- ---- only one
unique_after : (n : ℕ) (gs : List Gate) (v v' : Valuation) → AreGatesOrdered n gs → All (FollowsRow v) gs →
    All (FollowsRow v') gs → ((w : ℕ) → w < n → v w ≡ v' w) → (w : ℕ) → w < wires_after n gs → v w ≡ v' w
unfolding AreGatesOrdered wires_after
unique_after n [] v v' ordered rows rows' same w h = same w h
unique_after n (g ∷ gs) v v' ordered rows rows' same w h =
    let ins : map v g.ins ≡ map v' g.ins = map_below n v v' g.ins ordered.0 same in
    let outs : map v g.outs ≡ map v' g.outs =
    some_same _ _ (row g.kind (map v g.ins)) (All-head (FollowsRow v) g gs rows)
    (ap (row g.kind) ins ∙ All-head (FollowsRow v') g gs rows') in
    let range : map v (range_with_len n (defines g.kind)) ≡ map v' (range_with_len n (defines g.kind)) =
    ap (map v) (sym ordered.2) ∙ outs ∙ ap (map v') ordered.2 in
    unique_after (n + defines g.kind) gs v v' ordered.3 (All-tail (FollowsRow v) g gs rows)
    (All-tail (FollowsRow v') g gs rows')
    (grind (arith, common_steps, cases_lt, get_or-map-range_with_len))
    w h

pub at_most_one : HasAtMostOneValuation
at_most_one n a v v' ordered s s' w h =
    unique_after n.given n.gates v v' ordered s.rows s'.rows (λ i l. s.given i l ∙ sym (s'.given i l)) w h

-- what is evaluated are the values
pub evaluated : (n : Netlist) (a : Valuation) (given vs : List Bool) → AreGatesOrdered n.given n.gates →
    length given ≡ n.given → ((i : ℕ) → i < n.given → as_values given i ≡ a i) →
    evaluate given n.gates ≡ Some vs → AreWireValues n a vs
evaluated n a given vs ordered len same e =
    let f : Found given n.gates vs =
    found_from given n.gates vs (subst (λ m. AreGatesOrdered m n.gates) (sym len) ordered) e in
    let all : length vs ≡ wires n = f.all ∙ ap (λ m. wires_after m n.gates) len in
    let s : Satisfies n a (as_values vs) =
    record { given = λ i h. f.same i (omega (arith, len)) ∙ same i h; rows = f.rows } in
    record {
      all = all;
      satisfies = s;
      only = λ v t w h. at_most_one n a v (as_values vs) ordered t s w (omega (arith, all));
    }
