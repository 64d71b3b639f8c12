-- The gates of good lines are ordered.
use Rattle.circuit.proofs.Imports.{AreGatesOrdered, AreGoodAfter, AreGoodCircuitLines, Bool, CircuitLine}
use Rattle.circuit.proofs.Imports.{CircuitLineKind, Gate, GateKind, List, None, [], ap, append-nil, append_assoc, ap₂}
use Rattle.circuit.proofs.Imports.{arith, cases_Bool, common_steps, cond, consume_fault, consumed, define_fault}
use Rattle.circuit.proofs.Imports.{defined, false, flat_map-append, gate_count, gate_of_line_kind, gate_with_outs_from}
use Rattle.circuit.proofs.Imports.{gates_of, has, input_count, is_gate, is_input, length, length-append, length-map}
use Rattle.circuit.proofs.Imports.{limit_or_name_code, map, number, range_with_len, refl, subst, sum_by-cons, sym, take}
use Rattle.circuit.proofs.Imports.{true≢false, ℕ, ◌++◌, ◌+◌, ◌<◌, ◌∙◌, ◌∷◌, ◌≡◌}
use Rattle.lemmas.proofs.Common.{count_by, sum_by-append}
use Rattle.circuit.specs.Rules.{largest_limit_code, name_fault}
use Rattle.circuit.specs.Bridge.{IsGoodAfter}
use Rattle.circuit.specs.Laws.{GatesAreOrdered}
use Rattle.circuit.proofs.Places.{Have, number_new, numbers_left, numbers_below, consume_have, bytes_same}
use Rattle.circuit.specs.declared.circuit_line.CircuitLineKind.TheVariants.{Input, Gate as GateLine}
use Rattle.section_text.proofs.Codes.{both_none}

-- ---- what the tests of a line say
pub names_pass : (before : List CircuitLine) (r : CircuitLine) → limit_or_name_code before r ≡ None →
    (consume_fault (defined before) (consumed before) r.ins ≡ None) × (define_fault (defined before) r.outs ≡ None)
unfolding limit_or_name_code
names_pass before r e = both_none _ _ (both_none (largest_limit_code before r) (name_fault before r) e).1

-- ---- names that are newly defined
pub define_first : (d : List (List ℕ)) (n : List ℕ) (ns : List (List ℕ)) → define_fault d (n ∷ ns) ≡ None →
    (has d n ≡ false) × (define_fault (d ++ n ∷ []) ns ≡ None)
define_first d n ns e = grind (arith, common_steps, cases_Bool)

pub numbers_new : (d ns e : List (List ℕ)) → define_fault d ns ≡ None →
    map (number (d ++ (ns ++ e))) ns ≡ range_with_len (length d) (length ns)
numbers_new d [] e h = refl
numbers_new d (n ∷ ns) e h =
    let first = define_first d n ns h in
    let rest = numbers_new (d ++ n ∷ []) ns e first.1 in
    let same : (d ++ n ∷ []) ++ (ns ++ e) ≡ d ++ (n ∷ (ns ++ e)) = append_assoc d (n ∷ []) (ns ++ e) in
    ap₂ (λ x xs. x ∷ xs) (number_new d (ns ++ e) n first.0 (bytes_same n)) (
    ap (λ (names : List (List ℕ)). map (number names) ns) (sym same) ∙ rest
    ∙ ap (λ k. range_with_len k (length ns)) (length-append d (n ∷ [])))

-- ---- defined, counts, one line at a time
pub defined_push : (before : List CircuitLine) (r : CircuitLine) → defined (before ++ r ∷ []) ≡ defined before ++ r.outs
defined_push before r = grind (arith, common_steps, flat_map-append, append-nil)

defined_cons : (before : List CircuitLine) (r : CircuitLine) (rest : List CircuitLine) →
    defined (before ++ r ∷ rest) ≡ defined before ++ (r.outs ++ defined rest)
defined_cons before r rest = flat_map-append (λ (r : CircuitLine). r.outs) before (r ∷ rest)

pub push_cons : (before : List CircuitLine) (r : CircuitLine) (rest : List CircuitLine) →
    (before ++ r ∷ []) ++ rest ≡ before ++ r ∷ rest
push_cons before r rest = append_assoc before (r ∷ []) rest

pub count_append : {X : Type 0} (p : X → Bool) (xs ys : List X) → count_by p (xs ++ ys) ≡ count_by p xs + count_by p ys
count_append p xs ys = sum_by-append (λ x. cond (p x) 1 0) xs ys

pub input_cons : (r : CircuitLine) (rest : List CircuitLine) →
    input_count (r ∷ rest) ≡ cond (is_input r.kind) 1 0 + input_count rest
input_cons r rest = sum_by-cons (λ (r : CircuitLine). cond (is_input r.kind) 1 0) r rest

-- after a gate there is no input
pub no_inputs : (before rest : List CircuitLine) → AreGoodAfter before rest → 0 < gate_count before →
    input_count rest ≡ 0
unfolding AreGoodAfter
no_inputs before [] good some = refl
no_inputs before (r ∷ rest) good some =
    let more : gate_count (before ++ r ∷ []) ≡ gate_count before + gate_count (r ∷ []) =
    count_append (λ (r : CircuitLine). is_gate r.kind) before (r ∷ []) in
    let later = no_inputs (before ++ r ∷ []) rest good.1 (omega arith) in
    grind (arith, common_steps, cases_Bool, input_cons)

-- lines without inputs
ordered_line : (names : List (List ℕ)) (before rest : List CircuitLine) (kind : CircuitLineKind)
    (ins outs : List (List ℕ)) →
    IsGoodAfter before (record { kind = kind; ins = ins; outs = outs }) →
    AreGatesOrdered (length (defined before ++ outs)) (gates_of names rest) →
    names ≡ defined before ++ (outs ++ defined rest) → is_input kind ≡ false →
    AreGatesOrdered (length (defined before)) (gate_of_line_kind names ins outs kind ++ gates_of names rest)
unfolding AreGatesOrdered
ordered_line names before rest Input ins outs good later e f = absurd (true≢false f)
ordered_line names before rest (GateLine k) ins outs good later e f =
    let pass = names_pass before _ good.adds in
    let have : Have (defined before) ins = consume_have (defined before) (consumed before) ins pass.0 in
    let numbers : map (number names) ins ≡ map (number (defined before)) ins =
    ap (λ (names : List (List ℕ)). map (number names) ins) e
    ∙ numbers_left (defined before) (outs ++ defined rest) ins have in
    grind (arith, common_steps, numbers_below, length-map, numbers_new, length-append)
ordered_line names before rest _ ins outs good later e f = grind (arith, common_steps, length-append)

not_input : (r : CircuitLine) (rest : List CircuitLine) → input_count (r ∷ rest) ≡ 0 →
    (is_input r.kind ≡ false) × (input_count rest ≡ 0)
not_input r rest e = grind (arith, common_steps, cases_Bool, input_cons)

ordered_gates : (names : List (List ℕ)) (before rest : List CircuitLine) → AreGoodAfter before rest →
    names ≡ defined (before ++ rest) → input_count rest ≡ 0 →
    AreGatesOrdered (length (defined before)) (gates_of names rest)
unfolding AreGatesOrdered AreGoodAfter
ordered_gates names before [] good e none = tt
ordered_gates names before (r ∷ rest) good e none =
    let n = not_input r rest none in
    let later = ordered_gates names (before ++ r ∷ []) rest good.1
    (e ∙ ap defined (sym (push_cons before r rest))) n.1 in
    ordered_line names before rest r.kind r.ins r.outs good.0
    (subst (λ (d : List (List ℕ)). AreGatesOrdered (length d) (gates_of names rest)) (defined_push before r) later)
    (e ∙ defined_cons before r rest) n.0

-- lines that begin with the inputs
record Far (names : List (List ℕ)) (before : List CircuitLine) (rest : List CircuitLine) : Type 0 where
  all : names ≡ defined (before ++ rest)
  no_gate : gate_count before ≡ 0
  only_inputs : length (defined before) ≡ input_count before

gate_first : (names : List (List ℕ)) (before rest : List CircuitLine) (k : GateKind) (ins outs : List (List ℕ)) →
    AreGoodAfter before (record { kind = GateLine k; ins = ins; outs = outs } ∷ rest) →
    Far names before (record { kind = GateLine k; ins = ins; outs = outs } ∷ rest) →
    AreGatesOrdered (input_count (before ++ record { kind = GateLine k; ins = ins; outs = outs } ∷ rest))
    (gates_of names (record { kind = GateLine k; ins = ins; outs = outs } ∷ rest))
unfolding AreGoodAfter
gate_first names before rest k ins outs good far =
    let r : CircuitLine = record { kind = GateLine k; ins = ins; outs = outs } in
    let here : gate_count (before ++ r ∷ []) ≡ gate_count before + 1 =
    count_append (λ (r : CircuitLine). is_gate r.kind) before (r ∷ []) in
    let none = no_inputs (before ++ r ∷ []) rest good.1 (omega arith) in
    let zero_inputs : input_count (r ∷ rest) ≡ 0 = input_cons r rest ∙ omega (arith, none) in
    let same : length (defined before) ≡ input_count (before ++ r ∷ rest) =
    far.only_inputs
    ∙ omega (arith, zero_inputs, count_append (λ (r : CircuitLine). is_input r.kind) before (r ∷ rest)) in
    subst (λ m. AreGatesOrdered m (gates_of names (r ∷ rest))) same
    (ordered_gates names before (r ∷ rest) good far.all zero_inputs)

ordered_rest : (names : List (List ℕ)) (before rest : List CircuitLine) (kind : CircuitLineKind)
    (ins outs : List (List ℕ)) →
    AreGoodAfter before (record { kind = kind; ins = ins; outs = outs } ∷ rest) →
    Far names before (record { kind = kind; ins = ins; outs = outs } ∷ rest) →
    (AreGoodAfter (before ++ record { kind = kind; ins = ins; outs = outs } ∷ []) rest →
    Far names (before ++ record { kind = kind; ins = ins; outs = outs } ∷ []) rest →
    AreGatesOrdered (input_count ((before ++ record { kind = kind; ins = ins; outs = outs } ∷ []) ++ rest))
    (gates_of names rest)) →
    AreGatesOrdered (input_count (before ++ record { kind = kind; ins = ins; outs = outs } ∷ rest))
    (gates_of names (record { kind = kind; ins = ins; outs = outs } ∷ rest))
unfolding AreGoodAfter
ordered_rest names before rest (GateLine k) ins outs good far later = gate_first names before rest k ins outs good far
ordered_rest names before rest _ ins outs good far later = grind (arith, common_steps, push_cons)

ordered_lines : (names : List (List ℕ)) (before rest : List CircuitLine) → AreGoodAfter before rest →
    Far names before rest → AreGatesOrdered (input_count (before ++ rest)) (gates_of names rest)
unfolding AreGatesOrdered
ordered_lines names before [] good far = tt
ordered_lines names before (r ∷ rest) good far =
    ordered_rest names before rest r.kind r.ins r.outs good far (ordered_lines names (before ++ r ∷ []) rest)

pub gates_are_ordered : GatesAreOrdered
gates_are_ordered entries good =
    ordered_lines (defined entries) [] entries good (record { all = refl; no_gate = refl; only_inputs = refl })

-- ---- one more line
pub good_push : (before rest : List CircuitLine) (r : CircuitLine) → AreGoodAfter before rest →
    IsGoodAfter (before ++ rest) r → AreGoodAfter before (rest ++ r ∷ [])
unfolding AreGoodAfter
good_push before [] r good next = (subst (λ (l : List CircuitLine). IsGoodAfter l r) (append-nil before) next, tt)
good_push before (a ∷ rest) r good next = (
  good.0,
  good_push (before ++ a ∷ []) rest r good.1
      (subst (λ (l : List CircuitLine). IsGoodAfter l r) (sym (push_cons before a rest)) next),
)

-- more names leave the gates as they are
line_keeps : (before rest : List CircuitLine) (e : List (List ℕ)) (kind : CircuitLineKind) (ins outs : List (List ℕ)) →
    IsGoodAfter before (record { kind = kind; ins = ins; outs = outs }) →
    gate_of_line_kind ((defined before ++ (outs ++ defined rest)) ++ e) ins outs kind
    ≡ gate_of_line_kind (defined before ++ (outs ++ defined rest)) ins outs kind
line_keeps before rest e (GateLine k) ins outs good =
    let pass = names_pass before _ good.adds in
    let have : Have (defined before) ins = consume_have (defined before) (consumed before) ins pass.0 in
    let d : List (List ℕ) = defined before in
    let later : List (List ℕ) = outs ++ defined rest in
    let long : (d ++ later) ++ e ≡ d ++ (later ++ e) = append_assoc d later e in
    let longer : (d ++ later) ++ e ≡ d ++ (outs ++ (defined rest ++ e)) =
    long ∙ ap (λ (l : List (List ℕ)). d ++ l) (append_assoc outs (defined rest) e) in
    let ins_same : map (number ((d ++ later) ++ e)) ins ≡ map (number (d ++ later)) ins =
    ap (λ (l : List (List ℕ)). map (number l) ins) long ∙ numbers_left d (later ++ e) ins have
    ∙ sym (numbers_left d later ins have) in
    let outs_same : map (number ((d ++ later) ++ e)) outs ≡ map (number (d ++ later)) outs =
    ap (λ (l : List (List ℕ)). map (number l) outs) longer ∙ numbers_new d outs (defined rest ++ e) pass.1
    ∙ sym (numbers_new d outs (defined rest) pass.1) in
    ap₂ (λ (i o : List ℕ). record { kind = k; ins = i; outs = o } ∷ []) ins_same outs_same
line_keeps before rest e _ ins outs good = refl

gates_keep : (names e : List (List ℕ)) (before rest : List CircuitLine) → AreGoodAfter before rest →
    names ≡ defined (before ++ rest) → gates_of (names ++ e) rest ≡ gates_of names rest
unfolding AreGoodAfter
gates_keep names e before [] good is = refl
gates_keep names e before (r ∷ rest) good is =
    let all : names ≡ defined before ++ (r.outs ++ defined rest) = is ∙ defined_cons before r rest in
    let line : gate_of_line_kind (names ++ e) r.ins r.outs r.kind ≡ gate_of_line_kind names r.ins r.outs r.kind =
    grind (arith, common_steps, line_keeps) in
    ap₂ (λ (g gs : List Gate). g ++ gs) line
    (gates_keep names e (before ++ r ∷ []) rest good.1 (is ∙ ap defined (sym (push_cons before r rest))))

-- the gate that is added
line_added : (entries : List CircuitLine) (numbers : List ℕ) (kind : CircuitLineKind) (ins outs : List (List ℕ)) →
    IsGoodAfter entries (record { kind = kind; ins = ins; outs = outs }) →
    take (length ins) numbers ≡ map (number (defined entries)) ins →
    gate_of_line_kind (defined entries ++ outs) ins outs kind
    ≡ gate_with_outs_from kind numbers (length (defined entries))
line_added entries numbers (GateLine k) ins outs good same =
    let pass = names_pass entries _ good.adds in
    let have : Have (defined entries) ins = consume_have (defined entries) (consumed entries) ins pass.0 in
    ap₂ (λ (i o : List ℕ). record { kind = k; ins = i; outs = o } ∷ [])
    (numbers_left (defined entries) outs ins have ∙ sym same ∙ ap (λ (n : ℕ). take n numbers) good.fits.0)
    (ap (λ (l : List (List ℕ)). map (number (defined entries ++ l)) outs) (sym (append-nil outs))
    ∙ numbers_new (defined entries) outs [] pass.1 ∙ ap (range_with_len (length (defined entries))) good.fits.1)
line_added entries numbers _ ins outs good same = refl

pub gates_push : (entries : List CircuitLine) (r : CircuitLine) (numbers : List ℕ) → AreGoodCircuitLines entries →
    IsGoodAfter entries r → take (length r.ins) numbers ≡ map (number (defined entries)) r.ins →
    gates_of (defined (entries ++ r ∷ [])) (entries ++ r ∷ [])
    ≡ gates_of (defined entries) entries ++ gate_with_outs_from r.kind numbers (length (defined entries))
gates_push entries r numbers good next same =
    grind (arith, common_steps, defined_push, flat_map-append, gates_keep, append-nil, line_added)
