-- The words of a gate's wires: at each bit they are the gate's row
use Rattle.module_box.proofs.Imports.{AreGateValuesAtBit, Bool, Cswap, Delay, Fredkin, Gate, GateKind, Interact, List}
use Rattle.module_box.proofs.Imports.{LocalGate, None, Option, Some, Source, Switch, Uninteract, Unswitch, [], ap, ap₂}
use Rattle.module_box.proofs.Imports.{arith, as_values, bit, bit-zero, cases_lt, common_steps, defines, drop, eq-eqb}
use Rattle.module_box.proofs.Imports.{false, gate_of_local_gate, gate_out_words, get_or, get_or-append-add}
use Rattle.module_box.proofs.Imports.{get_or_append_left, inl, inr, is_none, is_this_gate, lane, length, length-append}
use Rattle.module_box.proofs.Imports.{length-map, map, ne_eqb, not, refl, row, slice_index, slice_index_or, subst, sym}
use Rattle.module_box.proofs.Imports.{take, true, true≢false, uses, wires_after, word_of_input, ℕ, ◌&&◌, ◌++◌, ◌+◌, ◌<◌}
use Rattle.module_box.proofs.Imports.{◌∙◌, ◌∷◌, ◌≡◌, ◌≤◌}
use Rattle.lemmas.proofs.Common.{add-one, bit_and, bit_xor, cond, drop-cons, drop_of_length-le, option_and_then}
use Rattle.lemmas.proofs.Common.{option_map, map-append}
use Rattle.bbm_rule.proofs.BitLemmas.{bit-and, bit-or, bit-xor, xor}
use Rattle.circuit.specs.Evaluate.{evaluate, first_undefined_gate, this_or_later_undefined}
use Rattle.module_box.specs.LocalValues.{undefined_bits, row_unless_undefined, AddsOutWords}
use Rattle.std.proofs.Math.ListN as listn
use Rattle.bbm_rule.proofs.MarkLemmas.{bit_ones}

second_only : (x y : Bool) → xor y (x && y) ≡ (not x && y)
second_only x y = grind (arith, common_steps)

first_only : (x y : Bool) → xor x (x && y) ≡ (x && not y)
first_only x y = grind (arith, common_steps)

first_bit : (a x y b : ℕ) → bit (bit_xor y (bit_and a (bit_xor x y))) b ≡ cond (bit a b) (bit x b) (bit y b)
first_bit a x y b = grind (arith, common_steps, bit-xor, bit-and)

second_bit : (a x y b : ℕ) → bit (bit_xor x (bit_and a (bit_xor x y))) b ≡ cond (bit a b) (bit y b) (bit x b)
second_bit a x y b = grind (arith, common_steps, bit-xor, bit-and)

second_only_bit : (x y b : ℕ) → bit (bit_xor y (bit_and x y)) b ≡ (not (bit x b) && bit y b)
second_only_bit x y b = rw (bit-xor y (bit_and x y) b, bit-and x y b) (second_only (bit x b) (bit y b))

first_only_bit : (x y b : ℕ) → bit (bit_xor x (bit_and x y)) b ≡ (bit x b && not (bit y b))
first_only_bit x y b = rw (bit-xor x (bit_and x y) b, bit-and x y b) (first_only (bit x b) (bit y b))

-- a row that is always there
forward : (o : Option (List Bool)) (r : List Bool) (b : ℕ) → o ≡ Some r → o ≡ row_unless_undefined (bit 0 b) r
forward o r b e = e ∙ ap (λ (v : Bool). row_unless_undefined v r) (sym (bit-zero b))

words_row : (kind : GateKind) (a x y z b : ℕ) → b < 64 →
    row kind (take (uses kind) (bit a b ∷ bit x b ∷ bit y b ∷ bit z b ∷ []))
    ≡ row_unless_undefined (bit (undefined_bits kind a x y z) b) (lane b (gate_out_words kind a x y z))
unfolding row
words_row (Source true) a x y z b h = forward _ _ b (ap (λ (v : Bool). Some (v ∷ [])) (sym (bit_ones b h)))
words_row (Source false) a x y z b h = forward _ _ b (ap (λ (v : Bool). Some (v ∷ [])) (sym (bit-zero b)))
words_row Fredkin a x y z b h = grind (arith, common_steps, forward, first_bit, second_bit)
words_row Cswap a x y z b h = grind (arith, common_steps, forward, second_bit, first_bit)
words_row Interact a x y z b h = forward _ _ b (rw (second_only_bit a x b, first_only_bit a x b, bit-and a x b) refl)
words_row Switch a x y z b h = grind (arith, common_steps, forward, bit-and, second_only_bit)
words_row (Delay n) a x y z b h = forward _ _ b refl
words_row Unswitch a x y z b h = grind (arith, common_steps, second_bit, bit-or)
words_row Uninteract a x y z b h = grind (arith, common_steps, bit-or, xor, bit-xor, bit-and)

-- reading a lane
pub read_lane : (ws : List ℕ) (b w : ℕ) → as_values (lane b ws) w ≡ bit (slice_index_or ws w 0) b
read_lane ws b w = ap (λ (d : Bool). get_or (lane b ws) w d) (sym (bit-zero b)) ∙ listn.get_or-map (λ x. bit x b) ws w 0

-- ---- one gate
front_ins : (kind : GateKind) (f : ℕ → Bool) (ins : List ℕ) → length ins ≡ 4 →
    map f (take (uses kind) ins) ≡ take (uses kind)
    (f (get_or ins 0 0) ∷ f (get_or ins 1 0) ∷ f (get_or ins 2 0) ∷ f (get_or ins 3 0) ∷ [])
front_ins kind f ins h1 = grind (arith, common_steps)

-- the words of the wires that a gate uses
abbrev outs_of : GateKind → List ℕ → List ℕ → List ℕ
outs_of kind ws ins = gate_out_words kind (word_of_input ws ins 0) (word_of_input ws ins 1)
    (word_of_input ws ins 2) (word_of_input ws ins 3)

abbrev none_of : GateKind → List ℕ → List ℕ → ℕ
none_of kind ws ins = undefined_bits kind (word_of_input ws ins 0) (word_of_input ws ins 1)
    (word_of_input ws ins 2)
    (word_of_input ws ins 3)

lane_row : (kind : GateKind) (ins ws : List ℕ) (b : ℕ) → b < 64 → length ins ≡ 4 →
    row kind (map (as_values (lane b ws)) (take (uses kind) ins))
    ≡ row_unless_undefined (bit (none_of kind ws ins) b) (lane b (outs_of kind ws ins))
lane_row kind ins ws b h e =
    ap (row kind) (front_ins kind (as_values (lane b ws)) ins e
    ∙ ap (take (uses kind))
    (ap₂ (λ (p : Bool) (l : List Bool). p ∷ l) (read_lane ws b (get_or ins 0 0))
    (ap₂ (λ (p : Bool) (l : List Bool). p ∷ l) (read_lane ws b (get_or ins 1 0))
    (ap₂ (λ (q r : Bool). q ∷ r ∷ []) (read_lane ws b (get_or ins 2 0)) (read_lane ws b (get_or ins 3 0))))))
    ∙ words_row kind (word_of_input ws ins 0) (word_of_input ws ins 1) (word_of_input ws ins 2)
    (word_of_input ws ins 3) b h

many_outs : (kind : GateKind) (a x y z : ℕ) → length (gate_out_words kind a x y z) ≡ defines kind
many_outs kind a x y z = grind (arith, common_steps)

pub gate_done : (ws new : List ℕ) (g : LocalGate) (none : ℕ) → length g.ins ≡ 4 → new ≡ ws ++ outs_of g.kind ws g.ins →
    none ≡ none_of g.kind ws g.ins → AddsOutWords (gate_of_local_gate g) ws new none
unfolding evaluate
gate_done ws new g none long more is = record {
  long = ap length more ∙ length-append ws outs ∙ ap (λ n. length ws + n) (many_outs g.kind _ _ _ _);
  has = λ b small e.
      ap (option_and_then (λ (r : List Bool). Some (lane b ws ++ r)))
      (at b small ∙ ap (λ (v : Bool). row_unless_undefined v (lane b outs)) e)
      ∙ ap Some (sym (ap (lane b) more ∙ map-append (λ (x : ℕ). bit x b) ws outs));
  lacks = λ b small e. at b small ∙ ap (λ (v : Bool). row_unless_undefined v (lane b outs)) e;
}
  where
    outs : List ℕ
    outs = outs_of g.kind ws g.ins

    at : (b : ℕ) → b < 64 → row g.kind (map (as_values (lane b ws)) (take (uses g.kind) g.ins))
        ≡ row_unless_undefined (bit none b) (lane b outs)
    at b small = lane_row g.kind g.ins ws b small long
        ∙ ap (λ (n : ℕ). row_unless_undefined (bit n b) (lane b outs)) (sym is)

-- ---- one gate after another
-- a number of a gate, where k gates come before
shift : ℕ → Option ℕ → Option ℕ
shift k o = option_map (λ m. k + m) o

-- the first k gates are done
pub record InColumn (given : List ℕ) (gs : List LocalGate) (k : ℕ) (words lacking : List ℕ) (whole b : ℕ) : Type 0 where
  left : bit whole b ≡ true → evaluate (lane b words) (map gate_of_local_gate (drop k gs))
      ≡ evaluate (lane b given) (map gate_of_local_gate gs)
  later : bit whole b ≡ true → shift k (first_undefined_gate (lane b words) (map gate_of_local_gate (drop k gs)))
      ≡ first_undefined_gate (lane b given) (map gate_of_local_gate gs)
  earlier : bit whole b ≡ false →
      (m : ℕ) × (m < k) × (first_undefined_gate (lane b given) (map gate_of_local_gate gs) ≡ Some m)
  undefined : (j : ℕ) → j < k →
      bit (slice_index lacking j) b ≡ is_this_gate (first_undefined_gate (lane b given) (map gate_of_local_gate gs)) j

shift_none : (o : Option ℕ) → shift 0 o ≡ o
unfolding shift
shift_none None = refl
shift_none (Some m) = let e : 0 + m ≡ m = omega arith in ap Some e

shift_suc : (k : ℕ) (o : Option ℕ) → shift (k + 1) o ≡ shift k (option_map (λ m. m + 1) o)
unfolding shift
shift_suc k None = refl
shift_suc k (Some m) = let e : k + 1 + m ≡ k + (m + 1) = omega arith in ap Some e

not_shifted : (k : ℕ) (o : Option ℕ) → is_this_gate (shift (k + 1) o) k ≡ false
unfolding shift
not_shifted k o = grind (arith, common_steps, ne_eqb)

pub column_start : (given : List ℕ) (gs : List LocalGate) (undefined : List ℕ) (b : ℕ) → b < 64 →
    InColumn given gs 0 given undefined 18446744073709551615 b
column_start given gs undefined b small = grind (arith, common_steps, shift_none, true≢false, bit_ones)

-- the words after a gate
record IsAfter (g : LocalGate) (old new undefined undefined' : List ℕ) (defined defined' none first : ℕ) : Type 0 where
  pub adds : AddsOutWords (gate_of_local_gate g) old new none
  pub is_first : first ≡ bit_and defined none
  pub more : undefined' ≡ undefined ++ first ∷ []
  pub fewer : defined' ≡ bit_xor defined first

step_evaluate : (vs new : List Bool) (gs : List Gate) (o : Option (List Bool)) →
    option_and_then (λ (r : List Bool). Some (vs ++ r)) o ≡ Some new →
    option_and_then (λ r. evaluate (vs ++ r) gs) o ≡ evaluate new gs
step_evaluate vs new gs None e = cc
step_evaluate vs new gs (Some r) e = grind (arith, common_steps)

step_undefined : (vs new : List Bool) (gs : List Gate) (o : Option (List Bool)) →
    option_and_then (λ (r : List Bool). Some (vs ++ r)) o ≡ Some new →
    this_or_later_undefined (λ r. first_undefined_gate (vs ++ r) gs) o
    ≡ option_map (λ m. m + 1) (first_undefined_gate new gs)
step_undefined vs new gs None e = cc
step_undefined vs new gs (Some r) e = grind (arith, common_steps)

front : (gs : List LocalGate) (k : ℕ) (d : LocalGate) → k < length gs → drop k gs ≡ get_or gs k d ∷ drop (k + 1) gs
front gs k d h = drop-cons gs k d h ∙ ap (λ m. get_or gs k d ∷ drop m gs) (sym (add-one k))

-- one gate more, at a bit
one_more : (given : List ℕ) (gs : List LocalGate) (k : ℕ) (g : LocalGate) (old new undefined undefined' : List ℕ)
    (defined defined' none first b : ℕ) (x y : Bool) → b < 64 → k < length gs → length undefined ≡ k →
    drop k gs ≡ g ∷ drop (k + 1) gs → IsAfter g old new undefined undefined' defined defined' none first →
    bit defined b ≡ x → bit none b ≡ y →
    InColumn given gs k old undefined defined b → InColumn given gs (k + 1) new undefined' defined' b
unfolding evaluate first_undefined_gate shift
one_more given gs k g old new undefined undefined' defined defined' none first b x y small within many parts is ex ey
    so_far = go x y ex ey
  where
    all : Option ℕ
    all = first_undefined_gate (lane b given) (map gate_of_local_gate gs)

    first_bits : bit first b ≡ (bit defined b && bit none b)
    first_bits = ap (λ n. bit n b) is.is_first ∙ bit-and defined none b

    new_bits : bit defined' b ≡ xor (bit defined b) (bit first b)
    new_bits = ap (λ n. bit n b) is.fewer ∙ bit-xor defined first b

    told : bit first b ≡ is_this_gate all k → (j : ℕ) → j < k + 1 →
        bit (slice_index undefined' j) b ≡ is_this_gate all j
    told here j h = elim (cases_lt j k) [
      | inl less ↦ ap (λ (l : List ℕ). bit (slice_index l j) b) is.more
          ∙ ap (λ n. bit n b) (get_or_append_left undefined (first ∷ []) 0 j (omega (arith, many)))
          ∙ so_far.undefined j less
      | inr large ↦
          let same : k ≡ j = omega arith in
          let at : length undefined + 0 ≡ k = omega (arith, many) in
          subst (λ j. bit (slice_index undefined' j) b ≡ is_this_gate all j) same
          (ap (λ (l : List ℕ). bit (slice_index l k) b) is.more
          ∙ ap (λ n. bit (slice_index (undefined ++ first ∷ []) n) b) (sym at)
          ∙ ap (λ n. bit n b) (get_or-append-add undefined (first ∷ []) 0 0) ∙ here)
    ]

    go : (x y : Bool) → bit defined b ≡ x → bit none b ≡ y → InColumn given gs (k + 1) new undefined' defined' b
    go false y ex ey =
        let first_false : bit first b ≡ false = first_bits ∙ ap (λ (v : Bool). v && bit none b) ex in
        let still : bit defined' b ≡ false = new_bits ∙ ap₂ xor ex first_false in
        let done = so_far.earlier ex in
        record {
          left = λ e. absurd (true≢false (sym e ∙ still));
          later = λ e. absurd (true≢false (sym e ∙ still));
          earlier = λ e. (done.0, omega (arith, done.1), done.2);
          undefined = told (first_false
              ∙ sym (ap (λ (o : Option ℕ). is_this_gate o k) done.2 ∙ ne_eqb done.0 k (λ e. omega (arith, e, done.1))));
        }
    go true true ex ey =
        let first_true : bit first b ≡ true = first_bits ∙ ap₂ (λ (u v : Bool). u && v) ex ey in
        let now : bit defined' b ≡ false = new_bits ∙ ap₂ xor ex first_true in
        let here : all ≡ Some (k + 0) =
        sym (so_far.later ex) ∙ ap (λ (l : List LocalGate).
        option_map (λ m. k + m) (first_undefined_gate (lane b old) (map gate_of_local_gate l))) parts
        ∙ ap (λ (o : Option (List Bool)).
        option_map (λ m. k + m) (this_or_later_undefined
        (λ r. first_undefined_gate (lane b old ++ r) (map gate_of_local_gate (drop (k + 1) gs))) o))
        (is.adds.lacks b small ey) in
        record {
          left = λ e. absurd (true≢false (sym e ∙ now));
          later = λ e. absurd (true≢false (sym e ∙ now));
          earlier = λ e. (k + 0, omega arith, here);
          undefined = told (first_true ∙ sym
              (ap (λ (o : Option ℕ). is_this_gate o k) here ∙ eq-eqb (k + 0) k (omega arith)));
        }
    go true false ex ey =
        let first_false : bit first b ≡ false = first_bits ∙ ap₂ (λ (u v : Bool). u && v) ex ey in
        let has = is.adds.has b small ey in
        let later : option_map (λ m. k + 1 + m)
        (first_undefined_gate (lane b new) (map gate_of_local_gate (drop (k + 1) gs))) ≡ all =
        shift_suc k (first_undefined_gate (lane b new) (map gate_of_local_gate (drop (k + 1) gs)))
        ∙ ap (λ (o : Option ℕ). option_map (λ m. k + m) o)
        (sym (step_undefined (lane b old) (lane b new) (map gate_of_local_gate (drop (k + 1) gs)) _ has))
        ∙ sym (ap (λ (l : List LocalGate).
        option_map (λ m. k + m) (first_undefined_gate (lane b old) (map gate_of_local_gate l)))
        parts) ∙ so_far.later ex in
        record {
          left = λ e. sym (step_evaluate (lane b old) (lane b new) (map gate_of_local_gate (drop (k + 1) gs)) _ has)
              ∙ sym (ap (λ (l : List LocalGate). evaluate (lane b old) (map gate_of_local_gate l)) parts)
              ∙ so_far.left ex;
          later = λ e. later;
          earlier = λ e. absurd (true≢false (sym (new_bits ∙ ap₂ xor ex first_false) ∙ e));
          undefined = told (first_false ∙ sym (ap (λ (o : Option ℕ). is_this_gate o k) (sym later) ∙ not_shifted k _));
        }

-- the first k gates are done at all bits
pub record AreInColumn (given : List ℕ) (gs : List LocalGate) (k : ℕ) (words undefined : List ℕ)
    (defined : ℕ) : Type 0 where
  pub long : wires_after (length words) (map gate_of_local_gate (drop k gs))
      ≡ wires_after (length given) (map gate_of_local_gate gs)
  pub count : length undefined ≡ k
  pub each : (b : ℕ) → b < 64 → InColumn given gs k words undefined defined b

pub column_none : (given : List ℕ) (gs : List LocalGate) (words undefined : List ℕ) → words ≡ given → undefined ≡ [] →
    AreInColumn given gs 0 words undefined 18446744073709551615
column_none given gs words undefined same none = grind (arith, common_steps, column_start)

pub column_more : (given : List ℕ) (gs : List LocalGate) (k : ℕ) (d : LocalGate) (old new undefined undefined' : List ℕ)
    (defined defined' none first : ℕ) → k < length gs → AddsOutWords (gate_of_local_gate (get_or gs k d)) old new none →
    first ≡ bit_and defined none → undefined' ≡ undefined ++ first ∷ [] → defined' ≡ bit_xor defined first →
    AreInColumn given gs k old undefined defined → AreInColumn given gs (k + 1) new undefined' defined'
unfolding wires_after
column_more given gs k d old new undefined undefined' defined defined' none first within adds is_first more fewer
    so_far =
    let parts = front gs k d within in
    record {
      long = ap (λ n. wires_after n (map gate_of_local_gate (drop (k + 1) gs))) adds.long
          ∙ sym (ap (λ (l : List LocalGate). wires_after (length old) (map gate_of_local_gate l)) parts) ∙ so_far.long;
      count = ap length more ∙ length-append undefined (first ∷ []) ∙ ap (λ n. n + 1) so_far.count;
      each = λ b small. one_more given gs k
          (get_or gs k d) old new undefined undefined' defined defined' none first b _ _ small within so_far.count parts
          (record { adds = adds; is_first = is_first; more = more; fewer = fewer }) refl refl (so_far.each b small);
    }

-- all gates are done
pub column_says : (given : List ℕ) (gs : List LocalGate) (k : ℕ) (words undefined : List ℕ) (defined b : ℕ) → b < 64 →
    length gs ≤ k → k ≤ length gs → AreInColumn given gs k words undefined defined →
    AreGateValuesAtBit given (map gate_of_local_gate gs) words undefined defined b
unfolding evaluate first_undefined_gate shift
column_says given gs k words undefined defined b small past within all =
    let is : InColumn given gs k words undefined defined b = all.each b small in
    let none : drop k gs ≡ [] = drop_of_length-le gs past in
    grind (arith, common_steps, length-map, told)
  where
    told : InColumn given gs k words undefined defined b → drop k gs ≡ [] → (v : Bool) → bit defined b ≡ v →
        bit defined b ≡ is_none (first_undefined_gate (lane b given) (map gate_of_local_gate gs))
    told h1 h2 v h3 = grind (arith, common_steps, option_map)

pub column_long : (given : List ℕ) (gs : List LocalGate) (k : ℕ) (words undefined : List ℕ) (defined : ℕ) →
    length gs ≤ k → AreInColumn given gs k words undefined defined →
    length words ≡ wires_after (length given) (map gate_of_local_gate gs)
unfolding wires_after
column_long given gs k words undefined defined past all = grind (arith, common_steps)
