-- The first gate that has no row, if there is one; else the gates have a valuation
use Rattle.circuit.proofs.Imports.{All, All-head, All-tail, AreGatesOrdered, Bool, EvaluatesUpTo, FollowsRow, Gate}
use Rattle.circuit.proofs.Imports.{IsGateEvaluationError, IsValuesFault, List, Netlist, None, Option, Satisfies, Some}
use Rattle.circuit.proofs.Imports.{Valuation, [], ap, arith, as_values, cases_Bool, cases_lt, common_steps, defines}
use Rattle.circuit.proofs.Imports.{evaluate, false, get_or-append-add, get_or-map-range_with_len, get_or_append_left}
use Rattle.circuit.proofs.Imports.{get_or_from_slice_get, inl, inr, is_inverse, length, length-append, length-map, map}
use Rattle.circuit.proofs.Imports.{option_and_then, option_map, range_with_len, refl, row, same_Some, slice_get, subst}
use Rattle.circuit.proofs.Imports.{suc, sym, take, true, uses, wires, wires_after, zero, ℕ, ◌++◌, ◌+◌, ◌-◌, ◌<◌, ◌∙◌}
use Rattle.circuit.proofs.Imports.{◌∷◌, ◌≡◌, ◌≤◌}
use Rattle.lemmas.proofs.Common.{length-range_with_len, slice_get_within}
use Rattle.circuit.specs.declared.netlist.ValuesFault.{ValuesFault}
use Rattle.circuit.specs.Meaning.{FirstGatesFollowRows, AreNonInverse, IsFirstGateWithoutRow, first_gates}
use Rattle.circuit.specs.Bridge.{ValuesStopAt}
use Rattle.circuit.specs.Evaluate.{first_undefined_gate, this_or_later_undefined}
use Rattle.circuit.specs.Laws.{HasValuationIfDefined, UndefinedHasNoValuation, OnlyInverseGatesAreUndefined}
use Rattle.circuit.specs.Laws.{AtMostOneGateIsUndefined, ValuesStopAtUndefinedGate}
use Rattle.circuit.proofs.Valuations.{row_of, row_cases, map_below, evaluated}

-- ---- what `first_undefined_gate` answers
clash : {A : Type 0} (x : A) → ◌≡◌ {A = Option A} None (Some x) → ⊥
clash x e = cc

this_or_later_undefined-cases : (o : Option ℕ) (k : ℕ) → option_map (λ k. k + 1) o ≡ Some k →
    (m : ℕ) × (o ≡ Some m) × (k ≡ suc m)
this_or_later_undefined-cases o k h1 = grind (arith, common_steps, clash, same_Some)

this_or_later_undefined-none : (o : Option ℕ) → option_map (λ k. k + 1) o ≡ None → o ≡ None
this_or_later_undefined-none o h1 = grind (arith, common_steps, clash)

total : (vs r : List Bool) (d : ℕ) → length r ≡ d → length vs + d ≡ length (vs ++ r)
total vs r d e = sym (length-append vs r ∙ ap (λ n. length vs + n) e)

-- no gate: all gates were evaluated
pub all_evaluated : (vs : List Bool) (gs : List Gate) → AreGatesOrdered (length vs) gs →
    first_undefined_gate vs gs ≡ None → (out : List Bool) × (evaluate vs gs ≡ Some out)
unfolding evaluate first_undefined_gate AreGatesOrdered
all_evaluated vs [] ordered e = (vs, refl)
all_evaluated vs (g ∷ gs) ordered e =
    elim (row_cases g.kind (map (as_values vs) g.ins) (length-map g.ins (as_values vs) ∙ ordered.1)) [
      | inl none ↦ absurd (clash 0 (sym e ∙ ap (this_or_later_undefined (λ r. first_undefined_gate (vs ++ r) gs)) none))
      | inr s ↦
          let rest = all_evaluated (vs ++ s.0) gs (subst (λ n. AreGatesOrdered n gs) (total vs s.0 _ s.2) ordered.3)
          (this_or_later_undefined-none _
          (sym (ap (this_or_later_undefined (λ r. first_undefined_gate (vs ++ r) gs)) s.1) ∙ e)) in
          (rest.0, ap (option_and_then (λ r. evaluate (vs ++ r) gs)) s.1 ∙ rest.1)
    ]

-- some gate: those before it were evaluated, and it has no row
pub up_to : (vs : List Bool) (gs : List Gate) (k : ℕ) → AreGatesOrdered (length vs) gs →
    first_undefined_gate vs gs ≡ Some k → (before : List Bool) × EvaluatesUpTo vs gs k before
unfolding evaluate first_undefined_gate AreGatesOrdered
up_to vs [] k ordered e = absurd (clash k e)
up_to vs (g ∷ gs) k ordered e =
    elim (row_cases g.kind (map (as_values vs) g.ins) (length-map g.ins (as_values vs) ∙ ordered.1)) [
      | inl none ↦ grind (arith, common_steps, same_Some)
      | inr s ↦
          let later = this_or_later_undefined-cases _ k
          (sym (ap (this_or_later_undefined (λ r. first_undefined_gate (vs ++ r) gs)) s.1) ∙ e) in
          let m : ℕ = later.0 in
          let rest = up_to (vs ++ s.0) gs m
          (subst (λ n. AreGatesOrdered n gs) (total vs s.0 _ s.2) ordered.3) later.1 in
          let is : EvaluatesUpTo (vs ++ s.0) gs m rest.0 = rest.1 in (grind (arith, common_steps, option_and_then))
    ]

-- ---- gates that have their rows under some values
-- the outputs of a gate are the next values
record IsNext (vs : List Bool) (g : Gate) (v : Valuation) : Type 0 where
  is : row g.kind (map (as_values vs) g.ins) ≡ Some (map v g.outs)
  long : length vs + defines g.kind ≡ length (vs ++ map v g.outs)
  agree : (w : ℕ) → w < length (vs ++ map v g.outs) → v w ≡ as_values (vs ++ map v g.outs) w

next : (vs : List Bool) (g : Gate) (gs : List Gate) (v : Valuation) → AreGatesOrdered (length vs) (g ∷ gs) →
    ((w : ℕ) → w < length vs → v w ≡ as_values vs w) → FollowsRow v g → IsNext vs g v
unfolding AreGatesOrdered
next vs g gs v ordered agree here =
    let r : List Bool = map v g.outs in
    let outs : r ≡ map v (range_with_len (length vs) (defines g.kind)) = ap (map v) ordered.2 in
    let many : length r ≡ defines g.kind =
    length-map g.outs v ∙ ap length ordered.2 ∙ length-range_with_len (length vs) (defines g.kind) in
    let long = total vs r (defines g.kind) many in
    record {
      is = ap (row g.kind) (sym (map_below (length vs) v (as_values vs) g.ins ordered.0 agree)) ∙ here;
      long = long;
      agree = grind (arith, common_steps, cases_lt, get_or_append_left, get_or-append-add, get_or-map-range_with_len);
    }

-- where they do up to a gate that has none, that is the first one
pub undefined_from : (vs : List Bool) (gs : List Gate) (v : Valuation) (k : ℕ) (g : Gate) →
    AreGatesOrdered (length vs) gs → ((w : ℕ) → w < length vs → v w ≡ as_values vs w) → FirstGatesFollowRows k gs v →
    slice_get gs k ≡ Some g → row g.kind (map v g.ins) ≡ None → first_undefined_gate vs gs ≡ Some k
unfolding first_undefined_gate AreGatesOrdered
undefined_from vs [] v k g ordered agree rows at none = absurd (clash g at)
undefined_from vs (h ∷ gs) v zero g ordered agree rows at none =
    let same : h ≡ g = same_Some h g at in
    let here : row h.kind (map v h.ins) ≡ None =
    subst (λ (f : Gate). row f.kind (map v f.ins) ≡ None) (sym same) none in
    ap (this_or_later_undefined (λ r. first_undefined_gate (vs ++ r) gs))
    (ap (row h.kind) (sym (map_below (length vs) v (as_values vs) h.ins ordered.0 agree)) ∙ here)
undefined_from vs (h ∷ gs) v (suc k) g ordered agree rows at none =
    let n : IsNext vs h v = next vs h gs v ordered agree (rows 0 h (omega arith) refl) in
    let rest = undefined_from (vs ++ map v h.outs) gs v k g (subst (λ n. AreGatesOrdered n gs) n.long ordered.3) n.agree
    (λ j f l e. rows (suc j) f (omega arith) e) at none in
    ap (this_or_later_undefined (λ r. first_undefined_gate (vs ++ r) gs)) n.is ∙ ap (option_map (λ k. k + 1)) rest
    ∙ ap Some (plus_one k)
  where
    plus_one : (k : ℕ) → k + 1 ≡ suc k
    plus_one k = omega arith

-- where they all do, there is none
pub defined_from : (vs : List Bool) (gs : List Gate) (v : Valuation) → AreGatesOrdered (length vs) gs →
    ((w : ℕ) → w < length vs → v w ≡ as_values vs w) → All (FollowsRow v) gs → first_undefined_gate vs gs ≡ None
unfolding first_undefined_gate AreGatesOrdered
defined_from vs [] v ordered agree rows = refl
defined_from vs (h ∷ gs) v ordered agree rows =
    let n : IsNext vs h v = next vs h gs v ordered agree (All-head (FollowsRow v) h gs rows) in
    let rest = defined_from (vs ++ map v h.outs) gs v (subst (λ n. AreGatesOrdered n gs) n.long ordered.3) n.agree
    (All-tail (FollowsRow v) h gs rows) in
    ap (this_or_later_undefined (λ r. first_undefined_gate (vs ++ r) gs)) n.is ∙ ap (option_map (λ k. k + 1)) rest

-- ---- a netlist
-- some values of the given wires
record IsGiven (n : Netlist) (a : Valuation) (given : List Bool) : Type 0 where
  pub long : length given ≡ n.given
  pub same : (i : ℕ) → i < n.given → as_values given i ≡ a i

given_of : (n : Netlist) (a : Valuation) → IsGiven n a (map a (range_with_len 0 n.given))
given_of n a = grind (arith, common_steps, length-map, length-range_with_len, get_or-map-range_with_len)

ordered_given : (n : Netlist) (given : List Bool) → length given ≡ n.given → AreGatesOrdered n.given n.gates →
    AreGatesOrdered (length given) n.gates
ordered_given n given long ordered = subst (λ m. AreGatesOrdered m n.gates) (sym long) ordered

pub undefined_at : (n : Netlist) (a : Valuation) (given : List Bool) (k : ℕ) → AreGatesOrdered n.given n.gates →
    length given ≡ n.given → ((i : ℕ) → i < n.given → as_values given i ≡ a i) → IsFirstGateWithoutRow n a k →
    first_undefined_gate given n.gates ≡ Some k
undefined_at n a given k ordered long same u = grind (arith, common_steps, undefined_from, ordered_given)

pub defined_at : (n : Netlist) (a v : Valuation) (given : List Bool) → AreGatesOrdered n.given n.gates →
    length given ≡ n.given → ((i : ℕ) → i < n.given → as_values given i ≡ a i) → Satisfies n a v →
    first_undefined_gate given n.gates ≡ None
defined_at n a v given ordered long same s =
    defined_from given n.gates v (ordered_given n given long ordered)
    (λ w h. s.given w (omega (arith, long)) ∙ sym (same w (omega (arith, long)))) s.rows

ordered_take : (m : ℕ) (gs : List Gate) (k : ℕ) → AreGatesOrdered m gs → AreGatesOrdered m (take k gs)
unfolding AreGatesOrdered
ordered_take m [] zero ordered = tt
ordered_take m [] (suc k) ordered = tt
ordered_take m (g ∷ gs) zero ordered = tt
ordered_take m (g ∷ gs) (suc k) ordered =
    (ordered.0, ordered.1, ordered.2, ordered_take (m + defines g.kind) gs k ordered.3)

slice_get_take : (gs : List Gate) (k j : ℕ) → j < k → slice_get (take k gs) j ≡ slice_get gs j
slice_get_take gs zero j h = absurd (omega arith)
slice_get_take [] (suc k) j h = refl
slice_get_take (g ∷ gs) (suc k) zero h = refl
slice_get_take (g ∷ gs) (suc k) (suc j) h = slice_get_take gs k j (omega arith)

pub row_at : (v : Valuation) (gates : List Gate) (k : ℕ) (g : Gate) → All (FollowsRow v) gates →
    slice_get gates k ≡ Some g → FollowsRow v g
row_at v gates k g all e = subst (FollowsRow v) (get_or_from_slice_get gates k g g e)
    (all k g (slice_get_within gates k g e))

pub stopped : ValuesStopAtUndefinedGate
stopped n a k vs s = grind (arith, common_steps, row_at, slice_get_take)

pub stops : (n : Netlist) (a : Valuation) (given : List Bool) (k : ℕ) (vs : List Bool) →
    AreGatesOrdered n.given n.gates → length given ≡ n.given → ((i : ℕ) → i < n.given → as_values given i ≡ a i) →
    EvaluatesUpTo given n.gates k vs → ValuesStopAt n a k vs
stops n a given k vs ordered long same e = record {
  gate = e.gate;
  numbered = e.numbered;
  before = evaluated (first_gates k n) a given vs (ordered_take n.given n.gates k ordered) long same e.before;
  none = e.none;
}

pub fault_stops : (n : Netlist) (a : Valuation) (given : List Bool) (e : ValuesFault) →
    AreGatesOrdered n.given n.gates → length given ≡ n.given → ((i : ℕ) → i < n.given → as_values given i ≡ a i) →
    IsGateEvaluationError given n.gates e → IsValuesFault n a e
fault_stops n a given e h1 h2 h3 h4 = grind (arith, common_steps, stops)

pub undefined_is : (n : Netlist) (a : Valuation) (given : List Bool) (k : ℕ) → AreGatesOrdered n.given n.gates →
    length given ≡ n.given → ((i : ℕ) → i < n.given → as_values given i ≡ a i) →
    first_undefined_gate given n.gates ≡ Some k → IsFirstGateWithoutRow n a k
undefined_is n a given k ordered long same e =
    let found = up_to given n.gates k (ordered_given n given long ordered) e in
    stopped n a k found.0 (stops n a given k found.0 ordered long same found.1)

by_answer : (n : Netlist) (a : Valuation) (given : List Bool) (o : Option ℕ) → first_undefined_gate given n.gates ≡ o →
    AreGatesOrdered n.given n.gates → IsGiven n a given → ((k : ℕ) → ¬ IsFirstGateWithoutRow n a k) →
    (v : Valuation) × Satisfies n a v
by_answer n a given None e ordered is none =
    let found = all_evaluated given n.gates (ordered_given n given is.long ordered) e in
    (as_values found.0, (evaluated n a given found.0 ordered is.long is.same found.1).satisfies)
by_answer n a given (Some k) e ordered is none = absurd (none k (undefined_is n a given k ordered is.long is.same e))

pub has_valuation : HasValuationIfDefined
has_valuation n a ordered none = by_answer n a (map a (range_with_len 0 n.given)) _ refl ordered (given_of n a) none

pub undefined_has_none : UndefinedHasNoValuation
undefined_has_none n a v k ordered u s =
    let is = given_of n a in
    clash k (sym (defined_at n a v _ ordered is.long is.same s) ∙ undefined_at n a _ k ordered is.long is.same u)

pub undefined_is_one : AtMostOneGateIsUndefined
undefined_is_one n a k m ordered u w =
    let is = given_of n a in
    same_Some k m (sym (undefined_at n a _ k ordered is.long is.same u)
    ∙ undefined_at n a _ m ordered is.long is.same w)

uses_as_many : (n : ℕ) (gs : List Gate) (k : ℕ) (g : Gate) → AreGatesOrdered n gs → slice_get gs k ≡ Some g →
    length g.ins ≡ uses g.kind
unfolding AreGatesOrdered
uses_as_many n [] k g ordered e = absurd (clash g e)
uses_as_many n (f ∷ gs) zero g ordered e = subst (λ (g : Gate). length g.ins ≡ uses g.kind) (same_Some f g e) ordered.1
uses_as_many n (f ∷ gs) (suc k) g ordered e = uses_as_many (n + defines f.kind) gs k g ordered.3 e

pub only_inverse : OnlyInverseGatesAreUndefined
only_inverse n a k ordered u = elim (cases_Bool (is_inverse u.gate.kind)) [
  | inl inverse ↦ inverse
  | inr forward ↦
      let r = row_of u.gate.kind (map u.values u.gate.ins) forward
      (length-map u.gate.ins u.values ∙ uses_as_many n.given n.gates k u.gate ordered u.numbered) in
      absurd (clash r.0 (sym u.none ∙ r.1))
]

-- gates without inverse gates have a valuation
pub forward_valuation : (n : Netlist) (a : Valuation) → AreGatesOrdered n.given n.gates → AreNonInverse n.gates →
    (v : Valuation) × Satisfies n a v
forward_valuation n a ordered forward =
    has_valuation n a ordered (λ k u. elim (cases_Bool (is_inverse u.gate.kind)) [
      | inl inverse ↦
          let is_not : is_inverse u.gate.kind ≡ false =
          subst (λ (g : Gate). is_inverse g.kind ≡ false) (get_or_from_slice_get n.gates k u.gate u.gate u.numbered)
          (forward k u.gate (slice_get_within n.gates k u.gate u.numbered)) in
          differ _ inverse is_not
      | inr is_not ↦ differ _ (only_inverse n a k ordered u) is_not
    ])
  where
    differ : (b : Bool) → b ≡ true → b ≡ false → ⊥
    differ b e f = cc

-- ---- how many values there are before a gate
pub wires_grow : (m : ℕ) (gs : List Gate) → m ≤ wires_after m gs
unfolding wires_after
wires_grow m [] = omega arith
wires_grow m (g ∷ gs) = omega (arith, wires_grow (m + defines g.kind) gs)

wires_take : (m : ℕ) (gs : List Gate) (k : ℕ) → wires_after m (take k gs) ≤ wires_after m gs
unfolding wires_after
wires_take m [] zero = omega arith
wires_take m [] (suc k) = omega arith
wires_take m (g ∷ gs) zero = omega (arith, wires_grow (m + defines g.kind) gs)
wires_take m (g ∷ gs) (suc k) = wires_take (m + defines g.kind) gs k

pub stops_short : (n : Netlist) (a : Valuation) (k : ℕ) (vs : List Bool) → ValuesStopAt n a k vs → length vs ≤ wires n
stops_short n a k vs s = (let all = s.before.all in let few = wires_take n.given n.gates k in omega (arith, all, few))
