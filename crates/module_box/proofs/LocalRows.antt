-- The values of all wires of a module, and its gates without a row: one assignment, and rows of assignments
use Rattle.module_box.proofs.Imports.{All, All-head, All-tail, AreGateValuesAtBit, AreGatesOrdered}
use Rattle.module_box.proofs.Imports.{AreModuleValuesAtBit, Bool, FollowsRow, Gate, List, Netlist, None, Option}
use Rattle.module_box.proofs.Imports.{Satisfies, Some, Valuation, [], ap, arith, as_values, bit, cases_Bool, cases_lt}
use Rattle.module_box.proofs.Imports.{common_steps, defines, eq-eqb, eqb-true, false, get_or, get_or-append-add}
use Rattle.module_box.proofs.Imports.{get_or_append_left, inl, inr, is_none, is_this_gate, lane, length, length-map}
use Rattle.module_box.proofs.Imports.{length-range_with_len, length_push, map, mul-le-mul_left, range_with_len, refl}
use Rattle.module_box.proofs.Imports.{row, slice_get_within, slice_index, slice_index_or, subst, sym, true, true≢false}
use Rattle.module_box.proofs.Imports.{wires, wires_after, ℕ, ◌%◌, ◌*◌, ◌++◌, ◌+◌, ◌/◌, ◌<◌, ◌∙◌, ◌∷◌, ◌≡◌, ◌≢◌, ◌≤◌}
use Rattle.lemmas.proofs.Common.{All-cons, All-nil, get_or-set_other, get_or-set_same, length-set, place_within, set}
use Rattle.lemmas.proofs.Common.{get_or-range_with_len}
use Rattle.circuit.proofs.Undefined.{undefined_at, undefined_is, wires_grow}
use Rattle.circuit.proofs.Valuations.{evaluated, map_below}
use Rattle.module_box.specs.LocalValues.{AreValueRowsAt, bit_of_row, value_of}
use Rattle.module_box.proofs.WordRows.{read_lane}

-- ---- what satisfies a netlist does so by its values of the netlist's wires
pub range_below : (n k m : ℕ) → n + k ≤ m → All (λ w. w < m) (range_with_len n k)
range_below n k m h = grind (arith, common_steps, length-range_with_len, get_or-range_with_len)

pub all_below : (n m : ℕ) (ws : List ℕ) → n ≤ m → All (λ w. w < n) ws → All (λ w. w < m) ws
all_below n m ws h all = λ i d l. let small = all i d l in omega (arith, small)

rows_same : (n : ℕ) (gs : List Gate) (u v : Valuation) → AreGatesOrdered n gs →
    ((w : ℕ) → w < wires_after n gs → u w ≡ v w) → All (FollowsRow u) gs → All (FollowsRow v) gs
unfolding AreGatesOrdered wires_after
rows_same n [] u v ordered same rows = All-nil (FollowsRow v)
rows_same n (g ∷ gs) u v ordered same rows =
    let all : ℕ = wires_after (n + defines g.kind) gs in
    let grow : n + defines g.kind ≤ all = wires_grow (n + defines g.kind) gs in
    let ins : map u g.ins ≡ map v g.ins =
    map_below all u v g.ins (all_below n all g.ins (omega (arith, grow)) ordered.0) same in
    let below : All (λ w. w < all) g.outs =
    subst (λ (ws : List ℕ). All (λ w. w < all) ws) (sym ordered.2) (range_below n (defines g.kind) all grow) in
    let outs : map u g.outs ≡ map v g.outs = map_below all u v g.outs below same in
    All-cons (FollowsRow v) g gs (ap (row g.kind) (sym ins) ∙ All-head (FollowsRow u) g gs rows ∙ ap Some outs)
    (rows_same (n + defines g.kind) gs u v ordered.3 same (All-tail (FollowsRow u) g gs rows))

pub satisfies_same : (n : Netlist) (a u v : Valuation) → AreGatesOrdered n.given n.gates →
    ((w : ℕ) → w < wires n → u w ≡ v w) → Satisfies n a u → Satisfies n a v
satisfies_same n a u v ordered same s =
    let grow : n.given ≤ wires n = wires_grow n.given n.gates in
    record {
      given = λ i h. sym (same i (omega (arith, grow))) ∙ s.given i h;
      rows = rows_same n.given n.gates u v ordered same s.rows;
    }

-- ---- places in rows
next_row : (m v w : ℕ) → v < w → m * v + m ≤ m * w
next_row m v w h = grind (arith, common_steps, mul-le-mul_left)

-- the place of a word is in the rows
-- two words of one column have two places
pub rows_apart : (m v w k : ℕ) → v < w → k < m → m * v + k ≢ m * w + k
rows_apart m v w k h l e = let more = next_row m v w h in absurd (omega (arith, more, e))

-- as have two words of two columns
pub columns_apart : (m v w j k : ℕ) → j < m → k < m → j ≢ k → m * v + j ≢ m * w + k
columns_apart m v w j k lj lk other e = grind (arith, common_steps, cases_lt, next_row)

-- ---- a column is written
-- the first n words of the column are written, and no word of another column is changed
pub record IsPut (words place n : ℕ) (column old new : List ℕ) : Type 0 where
  pub long : length new ≡ length old
  pub put : (w : ℕ) → w < n → slice_index new (words * w + place) ≡ slice_index column w
  pub kept : (w k : ℕ) → k < words → k ≢ place → slice_index new (words * w + k) ≡ slice_index old (words * w + k)

pub put_more : (words place n : ℕ) (column old new : List ℕ) → IsPut words place n column old new → place < words →
    n < length column → length old ≡ words * length column →
    IsPut words place (n + 1) column old (set new (words * n + place) (get_or column n 0))
put_more words place n column old new is within below long =
    let here : ℕ = words * n + place in
    let word : ℕ = get_or column n 0 in
    let room : here < length new =
    (let fits = place_within words (length column) n place below within in omega (arith, fits, long, is.long)) in
    record {
      long = length-set new here word ∙ is.long;
      put = λ w h. elim (cases_lt w n) [
        | inl less ↦ get_or-set_other new here (words * w + place) word 0 (rows_apart words w n place less within)
            ∙ is.put w less
        | inr large ↦
            let same : n ≡ w = omega arith in
            subst (λ w. slice_index (set new here word) (words * w + place) ≡ slice_index column w) same
            (get_or-set_same new here word 0 room)
      ];
      kept = λ w k l other. get_or-set_other new here (words * w + k) word 0
          (columns_apart words w n k place l within other) ∙ is.kept w k l other;
    }

-- ---- a column more: 64 assignments more
-- a column is written into rows, and nothing else is changed
pub record IsWritten (words place n : ℕ) (column old new : List ℕ) : Type 0 where
  pub put : (w : ℕ) → w < n → slice_index new (words * w + place) ≡ slice_index column w
  pub kept : (w k : ℕ) → w < n → k < words → k ≢ place →
      slice_index new (words * w + k) ≡ slice_index old (words * w + k)

value_kept : (words place n : ℕ) (column old new : List ℕ) (a w : ℕ) → IsWritten words place n column old new →
    a < 64 * place → place < words → w < n → value_of words new a w ≡ value_of words old a w
unfolding value_of
value_kept words place n column old new a w is less within below = grind (arith, common_steps)

value_put : (words place n : ℕ) (column old new : List ℕ) (a w : ℕ) → IsWritten words place n column old new →
    a / 64 ≡ place → w < n → value_of words new a w ≡ bit (slice_index column w) (a % 64)
unfolding value_of
value_put words place n column old new a w is at below = grind (arith, common_steps)

-- the columns of the first `chunk` chunks are written
pub record AreRowsBelow (l : Netlist) (words chunk : ℕ) (values undefined defined : List ℕ) : Type 0 where
  pub long : length values ≡ words * wires l
  pub tall : length undefined ≡ words * length l.gates
  pub count : length defined ≡ chunk
  pub each : (a : ℕ) → a < 64 * chunk → AreValueRowsAt l words a values undefined defined

pub rows_more : (l : Netlist) (words chunk word : ℕ)
    (column gaps values values' undefined undefined' defined defined' : List ℕ) → AreGatesOrdered l.given l.gates →
    chunk < words → IsWritten words chunk (wires l) column values values' →
    IsWritten words chunk (length l.gates) gaps undefined undefined' → length values' ≡ length values →
    length undefined' ≡ length undefined → defined' ≡ defined ++ word ∷ [] →
    ((b : ℕ) → b < 64 → AreModuleValuesAtBit l (64 * chunk + b) column gaps word b) →
    AreRowsBelow l words chunk values undefined defined → AreRowsBelow l words (chunk + 1) values' undefined' defined'
unfolding bit_of_row
rows_more l words chunk word column gaps values values' undefined undefined' defined defined' ordered within written
    gaps_written long tall pushed columns before = record {
      long = long ∙ before.long;
      tall = tall ∙ before.tall;
      count = ap length pushed ∙ length_push defined word ∙ ap (λ n. n + 1) before.count;
      each = λ a h. elim (cases_lt a (64 * chunk)) [
        | inl less ↦
            let was : AreValueRowsAt l words a values undefined defined = before.each a less in
            let place : a / 64 < length defined = (let count = before.count in omega (arith, count)) in
            let same : bit_of_row defined' a ≡ bit_of_row defined a =
            ap (λ k. bit k (a % 64)) (ap (λ (ws : List ℕ). slice_index ws (a / 64)) pushed
            ∙ get_or_append_left defined (word ∷ []) 0 (a / 64) place) in
            record {
              local = λ e. satisfies_same l (bit a) (value_of words values a) (value_of words values' a) ordered
                  (λ w below. sym (value_kept words chunk
                  (wires l) column values values' a w written less within below)) (was.local (sym same ∙ e));
              undefined = λ k below.
                  let kept = value_kept words chunk
                  (length l.gates) gaps undefined undefined' a k gaps_written less within below in
                  ((λ e. (was.undefined k below).0 (sym kept ∙ e)), (λ u. kept ∙ (was.undefined k below).1 u));
              none = λ e. was.none (sym same ∙ e);
            }
        | inr large ↦
            let at : a / 64 ≡ chunk = omega arith in
            let b : ℕ = a % 64 in
            let sum : 64 * chunk + b ≡ a = omega arith in
            let is : AreModuleValuesAtBit l a column gaps word b =
            subst (λ x. AreModuleValuesAtBit l x column gaps word b) sum (columns b (omega arith)) in
            let place : length defined + 0 ≡ a / 64 = (let count = before.count in omega (arith, count, at)) in
            let same : bit_of_row defined' a ≡ bit word b =
            ap (λ k. bit k b) (ap (λ (ws : List ℕ). slice_index ws (a / 64)) pushed
            ∙ ap (λ n. slice_index (defined ++ word ∷ []) n) (sym place) ∙ get_or-append-add defined (word ∷ []) 0 0) in
            record {
              local = λ e. satisfies_same l (bit a) (as_values (lane b column)) (value_of words values' a) ordered
                  (λ w below. read_lane column b w
                  ∙ sym (value_put words chunk (wires l) column values values' a w written at below))
                  (is.values (sym same ∙ e)).satisfies;
              undefined = λ k below.
                  let put = value_put words chunk
                  (length l.gates) gaps undefined undefined' a k gaps_written at below in
                  ((λ e. (is.undefined k below).0 (sym put ∙ e)), (λ u. put ∙ (is.undefined k below).1 u));
              none = λ e. is.none (sym same ∙ e);
            }
      ];
    }

pub written : (words place n : ℕ) (column old new column' old' : List ℕ) → column' ≡ column → old' ≡ old →
    length column ≡ n → ((w : ℕ) → w < length column' → slice_index new (words * w + place) ≡ slice_index column' w) →
    ((w k : ℕ) → w < length column' → k < words → k ≢ place →
    slice_index new (words * w + k) ≡ slice_index old' (words * w + k)) → IsWritten words place n column old new
written words place n column old new column' old' same_column same_old long put kept = grind (arith, common_steps)

-- ---- a column of a module
none_is : (b : Bool) (o : Option ℕ) → b ≡ is_none o → b ≡ true → o ≡ None
none_is b o h1 h2 = grind (arith, common_steps)

some_is : (b : Bool) (o : Option ℕ) → b ≡ is_none o → b ≡ false → (m : ℕ) × (o ≡ Some m)
some_is b o h1 h2 = grind (arith, common_steps)

gate_is : (o : Option ℕ) (k : ℕ) → is_this_gate o k ≡ true → o ≡ Some k
gate_is o k h1 = grind (arith, common_steps, eqb-true)

is_gate_at : (o : Option ℕ) (k : ℕ) → o ≡ Some k → is_this_gate o k ≡ true
is_gate_at o k e = ap (λ (o : Option ℕ). is_this_gate o k) e ∙ eq-eqb k k refl

pub column_at : (l : Netlist) (given words undefined : List ℕ) (defined a b : ℕ) → AreGatesOrdered l.given l.gates →
    length given ≡ l.given → ((i : ℕ) → i < l.given → bit (slice_index_or given i 0) b ≡ bit a i) →
    AreGateValuesAtBit given l.gates words undefined defined b → AreModuleValuesAtBit l a words undefined defined b
column_at l given words undefined defined a b ordered long bits says =
    let vs : List Bool = lane b given in
    let len : length vs ≡ l.given = length-map given (λ x. bit x b) ∙ long in
    let same : (i : ℕ) → i < l.given → as_values vs i ≡ bit a i = λ i h. read_lane given b i ∙ bits i h in
    record {
      values = λ e. evaluated l (bit a) vs (lane b words) ordered len same (says.values e);
      undefined = λ k below. (
        (λ e. undefined_is l (bit a) vs k ordered len same (gate_is _ k (sym (says.undefined k below) ∙ e))),
        (λ u. says.undefined k below ∙ is_gate_at _ k (undefined_at l (bit a) vs k ordered len same u)),
      );
      none = λ e. let found = some_is _ _ says.defined e in
          (found.0, undefined_is l (bit a) vs found.0 ordered len same found.1);
    }

-- where no gate of a column is undefined, the values are there
pub column_defined : (l : Netlist) (a b defined : ℕ) (words undefined : List ℕ) →
    AreModuleValuesAtBit l a words undefined defined b →
    ((k : ℕ) → k < length l.gates → bit (slice_index undefined k) b ≡ false) → bit defined b ≡ true
column_defined l a b defined words undefined is clear =
    grind (arith, common_steps, cases_Bool, slice_get_within, true≢false)

pub clear_more : (words : List ℕ) (k b : ℕ) → ((j : ℕ) → j < k → bit (slice_index words j) b ≡ false) →
    bit (slice_index words k) b ≡ false → (j : ℕ) → j < k + 1 → bit (slice_index words j) b ≡ false
clear_more words k b before here j h = grind (arith, common_steps, cases_lt)
