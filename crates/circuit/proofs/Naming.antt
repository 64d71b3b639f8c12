-- The names of wires.
use Rattle.circuit.proofs.Imports.{AreGoodAfter, AreGoodCircuitLines, CircuitLine, CircuitLineKind}
use Rattle.circuit.proofs.Imports.{HasNameCountOfKind, List, None, Some, [], append-nil, append_assoc, arith, bytes_eq}
use Rattle.circuit.proofs.Imports.{cases_Bool, cases_lt, common_steps, cond, define_fault, defined, false, gate_count}
use Rattle.circuit.proofs.Imports.{gate_of_line_kind, gates_of, has, inl, input_count, input_names, inr}
use Rattle.circuit.proofs.Imports.{is_input, le-ltb, length, list_any-append, number, position, refl, slice_get, subst}
use Rattle.circuit.proofs.Imports.{suc, sum_by-cons, sym, take, true, wires_after, zero, ℕ, ◌++◌, ◌+◌, ◌<◌, ◌∙◌, ◌∷◌}
use Rattle.circuit.proofs.Imports.{◌≡◌, ◌≤◌}
use Rattle.lemmas.proofs.Common.{or-true}
use Rattle.circuit.specs.Meaning.{place_of}
use Rattle.circuit.specs.Laws.{WiresAreNamed, WireNamesAreDistinct, InputsAreFirst}
use Rattle.circuit.proofs.Places.{has_front, has_left, number_left, number_new, bytes_same, position_number, look_up}
use Rattle.circuit.proofs.Bridging.{names_pass, define_first, defined_push, push_cons, input_cons, count_append}
use Rattle.circuit.proofs.Bridging.{no_inputs}
use Rattle.circuit.specs.declared.circuit_line.CircuitLineKind.TheVariants.{Input}

-- ---- the place of a name, and its number

place_number : (d : List (List ℕ)) (n : List ℕ) → place_of n d ≡ cond (has d n) (Some (number d n)) None
unfolding place_of
place_number d n = refl

absent_length : (d : List (List ℕ)) (n : List ℕ) → has d n ≡ false → length d ≤ number d n
unfolding number
absent_length [] n h = omega arith
absent_length (m ∷ ms) n h = elim (cases_Bool (bytes_eq n m)) [
  | inl e ↦ absurd (clash m n ms e h)
  | inr e ↦ let i = absent_length ms n (sym (has_front m n ms e) ∙ h) in rw e (omega (arith, i))
]
  where
    clash : (m n : List ℕ) (ms : List (List ℕ)) → bytes_eq n m ≡ true → has (m ∷ ms) n ≡ false → ⊥
    clash m n ms t h = cc (rw t at h)

pub place_position : (d : List (List ℕ)) (n : List ℕ) → place_of n d ≡ position (bytes_eq n) d
place_position d n =
    grind (arith, common_steps, cases_Bool, place_number, position_number, look_up, le-ltb, absent_length)

-- ---- each wire has a name

wires_line : (names : List (List ℕ)) (n : ℕ) (kind : CircuitLineKind) (ins outs : List (List ℕ))
    (rest : List CircuitLine) →
    HasNameCountOfKind (record { kind = kind; ins = ins; outs = outs }) →
    ((m : ℕ) → wires_after m (gates_of names rest) + input_count rest ≡ m + length (defined rest)) →
    wires_after n (gate_of_line_kind names ins outs kind ++ gates_of names rest) + input_count
    (record { kind = kind; ins = ins; outs = outs } ∷ rest) ≡ n + length (outs ++ defined rest)
unfolding wires_after
wires_line names n Input ins outs rest fits more = grind (arith, common_steps, input_cons)
wires_line names n _ ins outs rest fits more = grind (arith, common_steps, input_cons)

wires_more : (names : List (List ℕ)) (n : ℕ) (before rest : List CircuitLine) → AreGoodAfter before rest →
    wires_after n (gates_of names rest) + input_count rest ≡ n + length (defined rest)
unfolding AreGoodAfter wires_after
wires_more names n before [] good = refl
wires_more names n before (r ∷ rest) good =
    wires_line names n r.kind r.ins r.outs rest good.0.fits (λ m. wires_more names m (before ++ r ∷ []) rest good.1)

pub wires_are_named : WiresAreNamed
wires_are_named entries good = grind (arith, common_steps, wires_more)

-- ---- each gate's line has a gate

pub gates_counted : (names : List (List ℕ)) (entries : List CircuitLine) →
    length (gates_of names entries) ≡ gate_count entries
gates_counted names [] = refl
gates_counted names (r ∷ entries) = grind (arith, common_steps, gates_counted names entries, sum_by-cons)

-- ---- the inputs are the first wires

no_names : (rest : List CircuitLine) → input_count rest ≡ 0 → input_names rest ≡ []
no_names [] e = refl
no_names (r ∷ rest) e =
    grind (arith, common_steps, no_names rest (omega (arith, sym (input_cons r rest) ∙ e)), cases_Bool, input_cons)

inputs_line : (before rest : List CircuitLine) (kind : CircuitLineKind) (ins outs : List (List ℕ)) →
    AreGoodAfter before (record { kind = kind; ins = ins; outs = outs } ∷ rest) →
    take (input_count rest) (defined rest) ≡ input_names rest →
    take (input_count (record { kind = kind; ins = ins; outs = outs } ∷ rest)) (outs ++ defined rest)
    ≡ cond (is_input kind) outs [] ++ input_names rest
unfolding AreGoodAfter
inputs_line before rest kind ins outs h1 h2 = grind (arith, common_steps, input_cons, count_append, no_inputs, no_names)

inputs_lead : (before rest : List CircuitLine) → AreGoodAfter before rest →
    take (input_count rest) (defined rest) ≡ input_names rest
unfolding AreGoodAfter
inputs_lead before [] good = refl
inputs_lead before (r ∷ rest) good =
    inputs_line before rest r.kind r.ins r.outs good (inputs_lead (before ++ r ∷ []) rest good.1)

pub inputs_are_first : InputsAreFirst
inputs_are_first entries good = inputs_lead [] entries good

-- ---- each wire has a name of its own

abbrev pub AreOwn : List (List ℕ) → Type 0
AreOwn d = (w : ℕ) (n : List ℕ) → slice_get d w ≡ Some n → (number d n ≡ w) × (has d n ≡ true)

slice_left : (d e : List (List ℕ)) (w : ℕ) → w < length d → slice_get (d ++ e) w ≡ slice_get d w
slice_left [] e w h = absurd (omega arith)
slice_left (m ∷ d) e zero h = refl
slice_left (m ∷ d) e (suc w) h = slice_left d e w (omega arith)

slice_last : (d : List (List ℕ)) (n m : List ℕ) (w : ℕ) → length d ≤ w → slice_get (d ++ n ∷ []) w ≡ Some m →
    (n ≡ m) × (length d ≡ w)
slice_last [] n m zero h at = grind (arith, common_steps)
slice_last [] n m (suc w) h at = absurd cc
slice_last (k ∷ d) n m zero h at = absurd (omega arith)
slice_last (k ∷ d) n m (suc w) h at = let r = slice_last d n m w (omega arith) at in (r.0, omega (arith, r.1))

own_push : (d : List (List ℕ)) (n : List ℕ) → AreOwn d → has d n ≡ false → AreOwn (d ++ n ∷ [])
own_push d n own new w m at = elim (cases_lt w (length d)) [
  | inl small ↦
      let o = own w m (sym (slice_left d (n ∷ []) w small) ∙ at) in
      (number_left d (n ∷ []) m o.1 ∙ o.0, has_left d (n ∷ []) m o.1)
  | inr large ↦ grind (arith, common_steps, slice_last, number_new, bytes_same, list_any-append, or-true)
]

own_all : (d ns : List (List ℕ)) → AreOwn d → define_fault d ns ≡ None → AreOwn (d ++ ns)
own_all d [] own h = subst AreOwn (sym (append-nil d)) own
own_all d (n ∷ ns) own h =
    let first = define_first d n ns h in
    subst AreOwn (append_assoc d (n ∷ []) ns) (own_all (d ++ n ∷ []) ns (own_push d n own first.0) first.1)

own_good : (before rest : List CircuitLine) → AreGoodAfter before rest → AreOwn (defined before) →
    AreOwn (defined (before ++ rest))
unfolding AreGoodAfter
own_good before [] good own = subst (λ (l : List CircuitLine). AreOwn (defined l)) (sym (append-nil before)) own
own_good before (r ∷ rest) good own =
    let pass = names_pass before r good.0.adds in
    let here : AreOwn (defined (before ++ r ∷ [])) =
    subst AreOwn (sym (defined_push before r)) (own_all (defined before) r.outs own pass.1) in
    subst (λ (l : List CircuitLine). AreOwn (defined l)) (push_cons before r rest)
    (own_good (before ++ r ∷ []) rest good.1 here)

pub wires_are_own : (entries : List CircuitLine) → AreGoodCircuitLines entries → AreOwn (defined entries)
wires_are_own entries good = own_good [] entries good (λ w n at. absurd cc)

pub names_are_own : WireNamesAreDistinct
names_are_own entries w name good at = grind (arith, common_steps, wires_are_own, place_number)
