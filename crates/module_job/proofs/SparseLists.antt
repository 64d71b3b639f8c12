-- A list of numbers from the entries of those that are not 0, and the search for an entry.
use Rattle.module_job.proofs.Imports.{Bool, List, [], ap, append_assoc, ap₂, arith, both, cases_Bool, cases_lt}
use Rattle.module_job.proofs.Imports.{common_steps, cond-false, cond-true, get_or, inl, inr, length, length-append}
use Rattle.module_job.proofs.Imports.{length-replicate, lists, nat_eq, nat_tests, pointwise, refl, replicate}
use Rattle.module_job.proofs.Imports.{same_from_decides, slice_get, sparse_entries_from, sparse_entry, subst, suc, sym}
use Rattle.module_job.proofs.Imports.{take, unwrap_or, unwrap_or-slice_get, zero, ℕ, ◌&&◌, ◌*◌, ◌++◌, ◌+◌, ◌-◌, ◌<◌}
use Rattle.module_job.proofs.Imports.{◌∙◌, ◌∷◌, ◌≡◌, ◌≢◌, ◌≤◌, ◌⊎◌}
use Rattle.lemmas.proofs.Common.{◌/◌, append-nil, drop, get_or-append-add, length-take-le, take-append-drop, drop_more}
use Rattle.lemmas.proofs.Common.{◌%◌, false, not, take_more}
use Rattle.lemmas.proofs.Common.{get_or-append_right, get_or_append_left, get_or_past, length-drop, length-take}
use Rattle.bbm_rule.proofs.BitLemmas.{bit-zero}
use Rattle.bbm_rule.specs.Bits.{bit}
use Rattle.bbm_rule.specs.Rows.{cell_at}
use Rattle.module_job.specs.SparseNumbers.{numbers_from_entries}
use Rattle.module_job.proofs.CellEntries.{entries_append, forms}

-- ---- the list of its own entries

-- all entries are of places from this one on
abbrev AreFrom : ℕ → List ℕ → Type 0
AreFrom place es = (n : ℕ) (r : List ℕ) → es ≡ n ∷ r → place < n

are_from : (place p : ℕ) (ns : List ℕ) → place ≤ p → AreFrom place (sparse_entries_from p ns)
unfolding sparse_entries_from
are_from place p [] le n r e = absurd cc
are_from place p (m ∷ ns) le n r e = elim (forms p m) [
  | inl none ↦ are_from place (p + 1) ns (omega (arith, le)) n r
      (sym (ap (λ (l : List ℕ). l ++ sparse_entries_from (p + 1) ns) none.1) ∙ e)
  | inr some ↦ grind (arith, common_steps)
]

-- a place before that of the first entry has the number 0
passed : (count place : ℕ) (es : List ℕ) → AreFrom (place + 1) es →
    numbers_from_entries (suc count) place es ≡ 0 ∷ numbers_from_entries count (place + 1) es
unfolding numbers_from_entries
passed count place [] from = refl
passed zero place (p ∷ []) from = refl
passed (suc count) place (p ∷ []) from = refl
passed count place (p ∷ n ∷ es) from = grind (arith, common_steps, nat_tests, cond-false)

found : (count place n : ℕ) (es : List ℕ) →
    numbers_from_entries (suc count) place ((place + 1) ∷ n ∷ es) ≡ n ∷ numbers_from_entries count (place + 1) es
unfolding numbers_from_entries
found count place n es = grind (arith, common_steps, nat_tests, cond-true)

pub numbers_back : (place : ℕ) (ns : List ℕ) →
    numbers_from_entries (length ns) place (sparse_entries_from place ns) ≡ ns
unfolding numbers_from_entries sparse_entries_from
numbers_back place [] = refl
numbers_back place (n ∷ ns) = elim (forms place n) [
  | inl none ↦
      ap (λ (l : List ℕ). numbers_from_entries (suc (length ns)) place (l ++ sparse_entries_from (place + 1) ns)) none.1
      ∙ passed (length ns) place (sparse_entries_from (place + 1) ns)
      (are_from (place + 1) (place + 1) ns (omega arith))
      ∙ ap₂ (λ x xs. x ∷ xs) (sym none.0) (numbers_back (place + 1) ns)
  | inr some ↦
      ap (λ (l : List ℕ). numbers_from_entries (suc (length ns)) place (l ++ sparse_entries_from (place + 1) ns)) some.1
      ∙ found (length ns) place n (sparse_entries_from (place + 1) ns)
      ∙ ap (λ (xs : List ℕ). n ∷ xs) (numbers_back (place + 1) ns)
]

pub count_numbers : (count place : ℕ) (es : List ℕ) → length (numbers_from_entries count place es) ≡ count
unfolding numbers_from_entries
count_numbers zero place es = refl
count_numbers (suc count) place [] = ap suc (count_numbers count (place + 1) [])
count_numbers (suc count) place (p ∷ []) = ap suc (count_numbers count (place + 1) [])
count_numbers (suc count) place (p ∷ n ∷ es) = elim (cases_Bool (nat_eq p (place + 1))) [
  | inl there ↦ ap length (cond-true _ _ _ there) ∙ ap suc (count_numbers count (place + 1) es)
  | inr other ↦ ap length (cond-false _ _ _ other) ∙ ap suc (count_numbers count (place + 1) (p ∷ n ∷ es))
]

pub no_numbers : (es : List ℕ) → numbers_from_entries 0 0 es ≡ []
unfolding numbers_from_entries
no_numbers es = refl

pub no_number : (es : List ℕ) (u : ℕ) → get_or (numbers_from_entries 0 0 es) u 0 ≡ 0
unfolding numbers_from_entries
no_number es u = refl

pub no_entries : sparse_entries_from 0 [] ≡ []
unfolding sparse_entries_from
no_entries = refl

-- ---- more numbers

pub entries_zeros : (place count : ℕ) → sparse_entries_from place (replicate count 0) ≡ []
unfolding sparse_entries_from
entries_zeros place zero = refl
entries_zeros place (suc count) = entries_zeros (place + 1) count

-- the entries are those of the list
abbrev pub AreEntries : ℕ → List ℕ → Type 0
AreEntries count es = es ≡ sparse_entries_from 0 (numbers_from_entries count 0 es)

-- the list and its entries, if there are more numbers, with these entries
abbrev Grown : ℕ → List ℕ → List ℕ → List ℕ → Type 0
Grown count es added ns = (numbers_from_entries (count + length ns) 0 (es ++ added)
    ≡ numbers_from_entries count 0 es ++ ns)
    × (es ++ added ≡ sparse_entries_from 0 (numbers_from_entries count 0 es ++ ns))

grown : (count : ℕ) (es added ns : List ℕ) → AreEntries count es → added ≡ sparse_entries_from count ns →
    Grown count es added ns
grown count es added ns are more =
    let v = numbers_from_entries count 0 es in
    let start : length v ≡ count = count_numbers count 0 es in
    let entries : es ++ added ≡ sparse_entries_from 0 (v ++ ns) =
    ap₂ (λ (xs ys : List ℕ). xs ++ ys) are (more ∙ ap (λ (p : ℕ). sparse_entries_from p ns) (omega (arith, start)))
    ∙ sym (entries_append 0 v ns) in
    let sum : count + length ns ≡ length (v ++ ns) = omega (arith, start, length-append v ns) in
    (ap₂ (λ (n : ℕ) (l : List ℕ). numbers_from_entries n 0 l) sum entries ∙ numbers_back 0 (v ++ ns), entries)

pub zeros_grow : (count n : ℕ) (es : List ℕ) → AreEntries count es →
    (numbers_from_entries (count + n) 0 es ≡ numbers_from_entries count 0 es ++ replicate n 0)
    × AreEntries (count + n) es
zeros_grow count n es are =
    let both = grown count es [] (replicate n 0) are (sym (entries_zeros count n)) in
    let list : numbers_from_entries (count + n) 0 es ≡ numbers_from_entries count 0 es ++ replicate n 0 =
    ap₂ (λ (m : ℕ) (l : List ℕ). numbers_from_entries m 0 l)
    (ap (λ (m : ℕ). count + m) (sym (length-replicate n 0))) (sym (append-nil es)) ∙ both.0 in
    (list, sym (append-nil es) ∙ both.1 ∙ ap (sparse_entries_from 0) (sym list))

one_entry : (place n : ℕ) → 0 < n → sparse_entries_from place (n ∷ []) ≡ (place + 1) ∷ n ∷ []
unfolding sparse_entries_from
one_entry place n more = grind (arith, common_steps, nat_tests, append-nil, cond-false)

pub number_grows : (count n : ℕ) (es : List ℕ) → 0 < n → AreEntries count es →
    (numbers_from_entries (count + 1) 0 (es ++ (count + 1) ∷ n ∷ []) ≡ numbers_from_entries count 0 es ++ n ∷ [])
    × AreEntries (count + 1) (es ++ (count + 1) ∷ n ∷ [])
number_grows count n es more are =
    let both = grown count es ((count + 1) ∷ n ∷ []) (n ∷ []) are (sym (one_entry count n more)) in
    (both.0, both.1 ∙ ap (sparse_entries_from 0) (sym both.0))

pub all_entered : (count : ℕ) (es old : List ℕ) → AreEntries count es →
    ((old ++ count ∷ []) ++ es) ++ 0 ∷ []
    ≡ old ++ (length (numbers_from_entries count 0 es) ∷ sparse_entries_from 0 (numbers_from_entries count 0 es) ++ 0
    ∷ [])
all_entered count es old are = grind (arith, common_steps, append_assoc, count_numbers)

-- ---- equal fields make equal lists

pub same_fields : (n m : ℕ) (es fs : List ℕ) → AreEntries n es → AreEntries m fs →
    (nat_eq n m && pointwise nat_eq es fs)
    ≡ pointwise nat_eq (numbers_from_entries n 0 es) (numbers_from_entries m 0 fs)
same_fields n m es fs are are' = grind (arith, common_steps, same_from_decides, both, lists, count_numbers)

-- ---- places with the number 0

zeros_only : (n i : ℕ) → ◌≡◌ {A = ℕ} (get_or (replicate n 0) i 0) 0
zeros_only zero i = refl
zeros_only (suc n) zero = refl
zeros_only (suc n) (suc i) = zeros_only n i

-- zeros as words of marks mark nothing
pub no_marks : (n u : ℕ) → cell_at (replicate n 0) u ≡ false
unfolding cell_at
no_marks n u = ap (λ w. bit w (u % 64)) (zeros_only n (u / 64)) ∙ bit-zero (u % 64)

zero_stays : (ns : List ℕ) (n u : ℕ) → get_or ns u 0 ≡ 0 → get_or (ns ++ replicate n 0) u 0 ≡ 0
zero_stays ns n u none = grind (arith, common_steps, cases_lt, get_or_append_left, get_or-append_right, zeros_only)

zero_elsewhere : (ns : List ℕ) (n u : ℕ) → u ≢ length ns → get_or ns u 0 ≡ 0 → get_or (ns ++ n ∷ []) u 0 ≡ 0
zero_elsewhere ns n u other none = grind (arith, common_steps, cases_lt, get_or_append_left, get_or_past, length-append)

pub zeros_unmarked : (count n u : ℕ) (es : List ℕ) → AreEntries count es →
    get_or (numbers_from_entries count 0 es) u 0 ≡ 0 → get_or (numbers_from_entries (count + n) 0 es) u 0 ≡ 0
zeros_unmarked count n u es are none = grind (arith, common_steps, zeros_grow, zero_stays)

-- and more zeros have no mark where the others have none
pub zeros_marked : (count n u : ℕ) (es : List ℕ) → AreEntries count es →
    get_or (numbers_from_entries (count + n) 0 es) u 0 ≡ 0 → get_or (numbers_from_entries count 0 es) u 0 ≡ 0
zeros_marked count n u es are none =
    let v = numbers_from_entries count 0 es in
    elim (cases_lt u (length v)) [
      | inl below ↦ sym (get_or_append_left v (replicate n 0) 0 u below)
          ∙ sym (ap (λ l. get_or l u 0) (zeros_grow count n es are).0) ∙ none
      | inr above ↦ get_or_past v u 0 above
    ]

pub number_unmarked : (count n u : ℕ) (es : List ℕ) → 0 < n → AreEntries count es → u ≢ count →
    get_or (numbers_from_entries count 0 es) u 0 ≡ 0 →
    get_or (numbers_from_entries (count + 1) 0 (es ++ (count + 1) ∷ n ∷ [])) u 0 ≡ 0
number_unmarked count n u es more are other none =
    grind (arith, common_steps, number_grows, zero_elsewhere, count_numbers)

pub past : (count place : ℕ) (es : List ℕ) → count ≤ place →
    0 ≡ unwrap_or (slice_get (numbers_from_entries count 0 es) place) 0
past count place es le = grind (arith, common_steps, unwrap_or-slice_get, get_or_past, count_numbers)

-- ---- the search for an entry

even : (place : ℕ) (ns : List ℕ) →
    length (sparse_entries_from place ns) ≡ 2 * (length (sparse_entries_from place ns) / 2)
unfolding sparse_entries_from
even place [] = refl
even place (n ∷ ns) = grind (arith, common_steps, even (place + 1) ns, forms)

-- at most one entry for each number
few : (place : ℕ) (ns : List ℕ) → length (sparse_entries_from place ns) ≤ 2 * length ns
unfolding sparse_entries_from
few place [] = omega arith
few place (n ∷ ns) = grind (arith, common_steps, few (place + 1) ns, forms)

-- the first number of each entry is greater than `place`, by at most `count`
abbrev AreWithin : ℕ → ℕ → List ℕ → Type 0
AreWithin place count es =
    (i : ℕ) → 2 * i < length es → (place < get_or es (2 * i) 0) × (get_or es (2 * i) 0 ≤ place + count)

one_within : (place count n : ℕ) (es : List ℕ) → AreWithin (place + 1) count es →
    AreWithin place (suc count) ((place + 1) ∷ n ∷ es)
one_within place count n es rest zero lt = (omega arith, omega arith)
one_within place count n es rest (suc j) lt =
    let index : 2 * suc j ≡ suc (suc (2 * j)) = omega arith in
    let shorter : 2 * j < length es = omega (arith, lt) in
    let both = rest j shorter in
    rw index (omega (arith, both), omega (arith, both))

none_within : (place count : ℕ) (es : List ℕ) → AreWithin (place + 1) count es → AreWithin place (suc count) es
none_within place count es rest i lt = let both = rest i lt in (omega (arith, both), omega (arith, both))

within : (place : ℕ) (ns : List ℕ) → AreWithin place (length ns) (sparse_entries_from place ns)
unfolding sparse_entries_from
within place [] = λ i lt. absurd (omega (arith, lt))
within place (n ∷ ns) = elim (forms place n) [
  | inl none ↦ subst (AreWithin place (suc (length ns)))
      (sym (ap (λ (l : List ℕ). l ++ sparse_entries_from (place + 1) ns) none.1))
      (none_within place (length ns) (sparse_entries_from (place + 1) ns) (within (place + 1) ns))
  | inr some ↦ subst (AreWithin place (suc (length ns)))
      (sym (ap (λ (l : List ℕ). l ++ sparse_entries_from (place + 1) ns) some.1))
      (one_within place (length ns) n (sparse_entries_from (place + 1) ns) (within (place + 1) ns))
]

-- how many numbers the entries of places before this one have
abbrev pub rank : ℕ → List ℕ → ℕ
rank place ns = length (sparse_entries_from 0 (take place ns))

split : (place : ℕ) (ns : List ℕ) →
    sparse_entries_from 0 ns ≡ sparse_entries_from 0 (take place ns)
    ++ sparse_entries_from (length (take place ns)) (drop place ns)
split place ns =
    ap (sparse_entries_from 0) (sym (take-append-drop place ns)) ∙ entries_append 0 (take place ns) (drop place ns)
    ∙ ap (λ (p : ℕ). sparse_entries_from 0 (take place ns) ++ sparse_entries_from p (drop place ns)) (omega arith)

pub rank_below : (place : ℕ) (ns : List ℕ) → rank place ns ≤ 2 * (length (sparse_entries_from 0 ns) / 2)
rank_below place ns =
    let parts = ap length (split place ns) in
    let sum = length-append (sparse_entries_from 0 (take place ns))
    (sparse_entries_from (length (take place ns)) (drop place ns)) in
    let whole = even 0 ns in
    omega (arith, parts, sum, whole)

pub low_moves : (place m : ℕ) (ns : List ℕ) → 2 * m < length (sparse_entries_from 0 ns) →
    get_or (sparse_entries_from 0 ns) (2 * m) 0 ≤ place → 2 * (m + 1) ≤ rank place ns
low_moves place m ns lt le = elim (cases_lt (2 * m) (rank place ns)) [
  | inl below ↦ let half = even 0 (take place ns) in omega (arith, below, half)
  | inr above ↦
      let first = sparse_entries_from 0 (take place ns) in
      let second = sparse_entries_from (length (take place ns)) (drop place ns) in
      let half = even 0 (take place ns) in
      let parts = split place ns in
      let sum = length-append first second in
      let k = m - rank place ns / 2 in
      let index : 2 * m ≡ length first + 2 * k = omega (arith, above, half) in
      let count = ap length parts in
      let inside : 2 * k < length second = omega (arith, lt, count, sum, index) in
      let bounds = within (length (take place ns)) (drop place ns) k inside in
      let few_left = few (length (take place ns)) (drop place ns) in
      let left = length-drop place ns in
      let taken = length-take place ns in
      let value : get_or (sparse_entries_from 0 ns) (2 * m) 0 ≡ get_or second (2 * k) 0 =
      ap₂ (λ (l : List ℕ) (i : ℕ). get_or l i 0) parts index ∙ get_or-append-add first second (2 * k) 0 in
      absurd (omega (arith, value, bounds, le, few_left, left, taken, inside))
]

pub high_moves : (place m : ℕ) (ns : List ℕ) → place < get_or (sparse_entries_from 0 ns) (2 * m) 0 →
    rank place ns ≤ 2 * m
high_moves place m ns above = elim (cases_lt (2 * m) (rank place ns)) [
  | inr under ↦ under
  | inl over ↦
      let first = sparse_entries_from 0 (take place ns) in
      let second = sparse_entries_from (length (take place ns)) (drop place ns) in
      let lt : 2 * m < length first = omega (arith, over) in
      let value : get_or (sparse_entries_from 0 ns) (2 * m) 0 ≡ get_or first (2 * m) 0 =
      ap (λ (l : List ℕ). get_or l (2 * m) 0) (split place ns) ∙ get_or_append_left first second 0 (2 * m) lt in
      let bounds = within 0 (take place ns) m lt in
      let taken = length-take place ns in
      absurd (omega (arith, value, bounds, above, taken))
]

-- ---- what is found

first_other : (place : ℕ) (es : List ℕ) → AreFrom (place + 1) es → get_or es 0 0 ≢ place + 1
first_other place [] from e = omega (arith, e)
first_other place (p ∷ es) from e = let above = from p es refl in omega (arith, above, e)

-- the number at a place is 0 and has no entry, or has one
abbrev Found : ℕ → List ℕ → List ℕ → Type 0
Found place ns es = ((get_or ns place 0 ≡ 0) × (get_or es (rank place ns) 0 ≢ place + 1))
    ⊎ ((rank place ns + 1 < length es) × (get_or es (rank place ns) 0 ≡ place + 1)
    × (get_or es (rank place ns + 1) 0 ≡ get_or ns place 0))

finds : (place : ℕ) (ns : List ℕ) → place < length ns → Found place ns (sparse_entries_from 0 ns)
unfolding sparse_entries_from
finds place ns lt =
    let n = get_or ns place 0 in
    let first = sparse_entries_from 0 (take place ns) in
    let rest = sparse_entries_from (place + 1) (drop (place + 1) ns) in
    let start : length (take place ns) ≡ place = length-take-le place ns (omega (arith, lt)) in
    let parts : sparse_entries_from 0 ns ≡ first ++ (sparse_entry place n ++ rest) =
    split place ns
    ∙ ap₂ (λ (p : ℕ) (l : List ℕ). first ++ sparse_entries_from p l) start (drop_more ns place 0 lt) in
    elim (forms place n) [
      | inl none ↦
          let same : sparse_entries_from 0 ns ≡ first ++ rest =
          parts ∙ ap (λ (l : List ℕ). first ++ (l ++ rest)) none.1 in
          let value : get_or (sparse_entries_from 0 ns) (length first) 0 ≡ get_or rest 0 0 =
          ap₂ (λ (l : List ℕ) (i : ℕ). get_or l i 0) same (omega arith) ∙ get_or-append-add first rest 0 0 in
          inl (
            none.0,
            λ e. first_other place rest
                (are_from (place + 1) (place + 1) (drop (place + 1) ns) (omega arith)) (sym value ∙ e),
          )
      | inr some ↦ grind (arith, common_steps, length-append, get_or-append-add)
    ]

module _ (place at : ℕ) (ns es : List ℕ) (lt : place < length ns) (are : es ≡ sparse_entries_from 0 ns)
    (start : at ≡ rank place ns) where
  found_there : Found place ns es
  found_there = subst (Found place ns) (sym are) (finds place ns lt)

  pub number_found : get_or es at 0 ≡ place + 1 → get_or es (at + 1) 0 ≡ unwrap_or (slice_get ns place) 0
  number_found here = grind (arith, common_steps, found_there, unwrap_or-slice_get)

  pub none_left : length es ≤ at + 1 → 0 ≡ unwrap_or (slice_get ns place) 0
  none_left le = grind (arith, common_steps, found_there, unwrap_or-slice_get)

  pub none_there : get_or es at 0 ≢ place + 1 → 0 ≡ unwrap_or (slice_get ns place) 0
  none_there other = grind (arith, common_steps, found_there, unwrap_or-slice_get)

-- ---- an entry at another place of the list

-- one more number has at most one more entry
rank_more : (place : ℕ) (ns : List ℕ) → place < length ns → rank (place + 1) ns ≤ rank place ns + 2
rank_more place ns lt =
    let one = get_or ns place 0 ∷ [] in
    let more : sparse_entries_from 0 (take (place + 1) ns)
    ≡ sparse_entries_from 0 (take place ns) ++ sparse_entries_from (length (take place ns)) one =
    ap (sparse_entries_from 0) (take_more ns place 0 lt) ∙ entries_append 0 (take place ns) one
    ∙ ap (λ (p : ℕ). sparse_entries_from 0 (take place ns) ++ sparse_entries_from p one) (omega arith) in
    let sum = length-append (sparse_entries_from 0 (take place ns))
    (sparse_entries_from (length (take place ns)) one) in
    let most = few (length (take place ns)) one in
    let long = ap length more in
    omega (arith, sum, most, long)

-- an entry of a place is the one that the search finds
pub number_near : (place near : ℕ) (ns es : List ℕ) → es ≡ sparse_entries_from 0 ns → 2 * near + 1 < length es →
    get_or es (2 * near) 0 ≡ place + 1 → get_or es (2 * near + 1) 0 ≡ unwrap_or (slice_get ns place) 0
number_near place near ns es are room here =
    let own : get_or (sparse_entries_from 0 ns) (2 * near) 0 ≡ place + 1 =
    sym (ap (λ l. get_or l (2 * near) 0) are) ∙ here in
    let long : 2 * near + 1 < length (sparse_entries_from 0 ns) = let size = ap length are in
    omega (arith, room, size) in
    let bounds = within 0 ns near (omega (arith, long)) in
    let lt : place < length ns = omega (arith, bounds, own) in
    let above = high_moves place near ns (omega (arith, own)) in
    let below = low_moves (place + 1) near ns (omega (arith, long)) (omega (arith, own)) in
    let more = rank_more place ns lt in
    let start : 2 * near ≡ rank place ns = omega (arith, above, below, more) in
    number_found place (2 * near) ns es lt are start here

-- ---- places with another number than 0

-- the place of one more number that is not 0 is the only one that no longer has the number 0
pub number_marked : (count n u : ℕ) (es : List ℕ) → 0 < n → AreEntries count es →
    get_or (numbers_from_entries (count + 1) 0 (es ++ (count + 1) ∷ n ∷ [])) u 0 ≡ 0 →
    (u ≢ count) × (get_or (numbers_from_entries count 0 es) u 0 ≡ 0)
number_marked count n u es more are none =
    let v = numbers_from_entries count 0 es in
    let start : length v ≡ count = count_numbers count 0 es in
    let value : get_or (v ++ n ∷ []) u 0 ≡ 0 =
    sym (ap (λ l. get_or l u 0) (number_grows count n es more are).0) ∙ none in
    elim (cases_lt u (length v)) [
      | inl below ↦ (omega (arith, below, start), sym (get_or_append_left v (n ∷ []) 0 u below) ∙ value)
      | inr above ↦ (
        λ same.
            let here : get_or (v ++ n ∷ []) u 0 ≡ n =
            ap (λ i. get_or (v ++ n ∷ []) i 0) (omega (arith, same, start)) ∙ get_or-append-add v (n ∷ []) 0 0 in
            omega (arith, more, here, value),
        get_or_past v u 0 above,
      )
    ]

-- a place with room for a mark has one exactly if its number is not 0
pub unmarked_is_zero : (marked : Bool) (ns : List ℕ) (place : ℕ) → (marked ≡ false → get_or ns place 0 ≡ 0) →
    (get_or ns place 0 ≡ 0 → marked ≡ false) → not marked ≡ nat_eq (unwrap_or (slice_get ns place) 0) 0
unmarked_is_zero marked ns place to from = grind (arith, common_steps, cases_Bool, nat_tests, unwrap_or-slice_get)
