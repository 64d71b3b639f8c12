-- Marks of wires, by the names that lines consume.
use Rattle.circuit.proofs.Imports.{All, AreGoodAfter, AreGoodCircuitLines, Bool, CircuitLine, ConsumedTwice, List, None}
use Rattle.circuit.proofs.Imports.{Some, [], ap, append-nil, append_assoc, ap₂, arith, bytes_eq}
use Rattle.circuit.proofs.Imports.{cases_Bool, common_steps, consume_fault, consumed, define_fault, defined, drop, eqb}
use Rattle.circuit.proofs.Imports.{eqb-true, false, flat_map-append, get_or, get_or_from_slice_get, has, inl, inr}
use Rattle.circuit.proofs.Imports.{length, list_any-append, map, number, refl, slice_get, subst, suc, sym, take}
use Rattle.circuit.proofs.Imports.{take_more, true, true≢false, with_marks_set, ℕ, ◌++◌, ◌+◌, ◌<◌, ◌∙◌, ◌∷◌, ◌≡◌, ◌≤◌}
use Rattle.lemmas.proofs.Common.{drop_more, eq-eqb, list_any, map-append, same_bytes, slice_set, take_more_set, ◌||◌}
use Rattle.circuit.proofs.Places.{Have, has_front, has_left, have_left, numbers_left, numbers_below, consume_have}
use Rattle.circuit.proofs.Places.{bytes_same}
use Rattle.circuit.proofs.Bridging.{names_pass, define_first, defined_push, push_cons}

-- ---- equal names

other_name : (n m : List ℕ) → bytes_eq n m ≡ false → bytes_eq m n ≡ false
other_name n m e = elim (cases_Bool (bytes_eq m n)) [
  | inl h ↦ absurd (true≢false (sym (bytes_same n) ∙ ap (bytes_eq n) (sym (same_bytes m n h)) ∙ e))
  | inr h ↦ h
]

has_other : (m n : List ℕ) (ms : List (List ℕ)) → has (m ∷ ms) n ≡ false → (bytes_eq n m ≡ false) × (has ms n ≡ false)
has_other m n ms h = grind (arith, common_steps, cases_Bool, has_front, true≢false)

has_last : (c : List (List ℕ)) (m n : List ℕ) → bytes_eq n m ≡ false → has (c ++ m ∷ []) n ≡ has c n
has_last c m n e = grind (arith, common_steps, list_any-append)

-- ---- a mark, by the number of a name

pub mark_at : (c d : List (List ℕ)) (n : List ℕ) → has d n ≡ true →
    slice_get (map (has c) d) (number d n) ≡ Some (has c n)
unfolding number
mark_at c [] n h = absurd (true≢false (sym h))
mark_at c (m ∷ d) n h = elim (cases_Bool (bytes_eq n m)) [
  | inl e ↦ rw e (ap (λ (k : List ℕ). Some (has c k)) (sym (same_bytes n m e)))
  | inr e ↦
      let next : number d n + 1 ≡ suc (number d n) = omega arith in
      rw e (ap (slice_get (map (has c) (m ∷ d))) next ∙ mark_at c d n (sym (has_front m n d e) ∙ h))
]

-- ---- names that are distinct

abbrev pub Distinct : List (List ℕ) → Type 0
Distinct [] = Unit {0}
Distinct (m ∷ d) = (has d m ≡ false) × Distinct d

distinct_push : (d : List (List ℕ)) (n : List ℕ) → Distinct d → has d n ≡ false → Distinct (d ++ n ∷ [])
distinct_push [] n is h = (refl, tt)
distinct_push (m ∷ d) n is h =
    let new = has_other m n d h in
    (has_last d n m (other_name n m new.0) ∙ is.0, distinct_push d n is.1 new.1)

distinct_all : (d ns : List (List ℕ)) → Distinct d → define_fault d ns ≡ None → Distinct (d ++ ns)
distinct_all d [] is h = subst Distinct (sym (append-nil d)) is
distinct_all d (n ∷ ns) is h =
    let first = define_first d n ns h in
    subst Distinct (append_assoc d (n ∷ []) ns) (distinct_all (d ++ n ∷ []) ns (distinct_push d n is first.0) first.1)

distinct_good : (before rest : List CircuitLine) → AreGoodAfter before rest → Distinct (defined before) →
    Distinct (defined (before ++ rest))
unfolding AreGoodAfter
distinct_good before [] good is = subst (λ (l : List CircuitLine). Distinct (defined l)) (sym (append-nil before)) is
distinct_good before (r ∷ rest) good is =
    let here : Distinct (defined (before ++ r ∷ [])) = subst Distinct (sym (defined_push before r))
    (distinct_all (defined before) r.outs is (names_pass before r good.0.adds).1) in
    subst (λ (l : List CircuitLine). Distinct (defined l)) (push_cons before r rest)
    (distinct_good (before ++ r ∷ []) rest good.1 here)

pub distinct : (entries : List CircuitLine) → AreGoodCircuitLines entries → Distinct (defined entries)
distinct entries good = distinct_good [] entries good tt

-- ---- the marks of names that are consumed are set

others : (c d : List (List ℕ)) (n : List ℕ) → has d n ≡ false → map (has c) d ≡ map (has (c ++ n ∷ [])) d
others c [] n h = refl
others c (m ∷ d) n h =
    let new = has_other m n d h in
    ap₂ (λ (b : Bool) bs. b ∷ bs) (sym (has_last c n m (other_name n m new.0))) (others c d n new.1)

mark_one : (c d : List (List ℕ)) (n : List ℕ) → Distinct d → has d n ≡ true →
    slice_set (map (has c) d) (number d n) true ≡ map (has (c ++ n ∷ [])) d
unfolding number
mark_one c [] n is h = absurd (true≢false (sym h))
mark_one c (m ∷ d) n is h = elim (cases_Bool (bytes_eq n m)) [
  | inl e ↦
      let same = same_bytes n m e in
      rw e (grind (arith, common_steps, others))
  | inr e ↦
      let next : number d n + 1 ≡ suc (number d n) = omega arith in
      rw e (ap (λ k. slice_set (map (has c) (m ∷ d)) k true) next
      ∙ ap₂ (λ (b : Bool) bs. b ∷ bs) (sym (has_last c n m (other_name n m e)))
      (mark_one c d n is.1 (sym (has_front m n d e) ∙ h)))
]

mark_names : (c d ns : List (List ℕ)) → Distinct d → Have d ns →
    with_marks_set (map (number d) ns) (map (has c) d) ≡ map (has (c ++ ns)) d
mark_names c d [] is h = ap (λ (l : List (List ℕ)). map (has l) d) (sym (append-nil c))
mark_names c d (n ∷ ns) is h = grind (arith, common_steps, mark_names (c ++ n ∷ []) d ns is h.1, mark_one)

-- ---- what is consumed is defined

abbrev Within : List (List ℕ) → List (List ℕ) → Type 0
Within c d = (n : List ℕ) → has c n ≡ true → has d n ≡ true

have_has : (d ns : List (List ℕ)) → Have d ns → Within ns d
have_has d [] have n h = absurd (true≢false (sym h))
have_has d (m ∷ ns) have n h = elim (cases_Bool (bytes_eq n m)) [
  | inl e ↦ ap (has d) (same_bytes n m e) ∙ have.0
  | inr e ↦ have_has d ns have.1 n (sym (has_front m n ns e) ∙ h)
]

within_push : (c d ins outs : List (List ℕ)) → Within c d → Have d ins → Within (c ++ ins) (d ++ outs)
within_push c d ins outs in_d have n h = grind (arith, common_steps, cases_Bool, has_left, have_has, list_any-append)

pub consumed_push : (before : List CircuitLine) (r : CircuitLine) →
    consumed (before ++ r ∷ []) ≡ consumed before ++ r.ins
consumed_push before r = grind (arith, common_steps, flat_map-append, append-nil)

within_good : (before rest : List CircuitLine) → AreGoodAfter before rest →
    Within (consumed before) (defined before) → Within (consumed (before ++ rest)) (defined (before ++ rest))
unfolding AreGoodAfter
within_good before [] good is =
    subst (λ (l : List CircuitLine). Within (consumed l) (defined l)) (sym (append-nil before)) is
within_good before (r ∷ rest) good is =
    let pass = (names_pass before r good.0.adds).0 in
    let more = within_push (consumed before) (defined before) r.ins r.outs is
    (consume_have (defined before) (consumed before) r.ins pass) in
    let here : Within (consumed (before ++ r ∷ [])) (defined (before ++ r ∷ [])) =
    subst (λ (c : List (List ℕ)). Within c (defined (before ++ r ∷ []))) (sym (consumed_push before r))
    (subst (Within (consumed before ++ r.ins)) (sym (defined_push before r)) more) in
    subst (λ (l : List CircuitLine). Within (consumed l) (defined l)) (push_cons before r rest)
    (within_good (before ++ r ∷ []) rest good.1 here)

-- ---- a name that is new has no mark

new_unmarked : (c d ns : List (List ℕ)) → Within c d → define_fault d ns ≡ None →
    map (λ (n : List ℕ). false) ns ≡ map (has c) ns
new_unmarked c d [] is h = refl
new_unmarked c d (n ∷ ns) is h =
    let first = define_first d n ns h in
    ap₂ (λ (b : Bool) bs. b ∷ bs) (sym (unmarked first.0))
    (new_unmarked c (d ++ n ∷ []) ns (λ m e. has_left d (n ∷ []) m (is m e)) first.1)
  where
    unmarked : has d n ≡ false → has c n ≡ false
    unmarked new = grind (arith, common_steps, cases_Bool)

-- the marks after one more line
pub marks_push : (before : List CircuitLine) (r : CircuitLine) → AreGoodCircuitLines before →
    AreGoodCircuitLines (before ++ r ∷ []) →
    consume_fault (defined before) (consumed before) r.ins ≡ None → define_fault (defined before) r.outs ≡ None →
    with_marks_set (map (number (defined before)) r.ins)
    (map (has (consumed before)) (defined before) ++ map (λ (n : List ℕ). false) r.outs)
    ≡ map (has (consumed (before ++ r ∷ []))) (defined (before ++ r ∷ []))
marks_push before r good more ins outs =
    let c : List (List ℕ) = consumed before in
    let d : List (List ℕ) = defined before in
    let have = consume_have d c r.ins ins in
    let in_d : Within c d = within_good [] before good (λ n h. absurd (true≢false (sym h))) in
    let unset : map (has c) d ++ map (λ (n : List ℕ). false) r.outs ≡ map (has c) (d ++ r.outs) =
    ap (λ bs. map (has c) d ++ bs) (new_unmarked c d r.outs in_d outs) ∙ sym (map-append (has c) d r.outs) in
    let own : Distinct (d ++ r.outs) = subst Distinct (defined_push before r) (distinct (before ++ r ∷ []) more) in
    ap₂ with_marks_set (sym (numbers_left d r.outs r.ins have)) unset
    ∙ mark_names c (d ++ r.outs) r.ins own (have_left d r.outs r.ins have)
    ∙ ap₂ (λ (c d : List (List ℕ)). map (has c) d) (sym (consumed_push before r)) (sym (defined_push before r))

-- ---- the numbers of a line's earlier names

number_name : (d : List (List ℕ)) (n m : List ℕ) → has d n ≡ true → number d m ≡ number d n → n ≡ m
unfolding number
number_name [] n m h e = absurd (true≢false (sym h))
number_name (x ∷ d) n m h e = elim (cases_Bool (bytes_eq n x)) [
  | inl p ↦ elim (cases_Bool (bytes_eq m x)) [
    | inl q ↦ same_bytes n x p ∙ sym (same_bytes m x q)
    | inr q ↦ absurd (omega (arith, rw (p, q) at e))
  ]
  | inr p ↦ elim (cases_Bool (bytes_eq m x)) [
    | inl q ↦ absurd (omega (arith, rw (p, q) at e))
    | inr q ↦ number_name d n m (sym (has_front x n d p) ∙ h) (omega (arith, rw (p, q) at e))
  ]
]

pub has_number : (d ns : List (List ℕ)) (n : List ℕ) → has d n ≡ true →
    list_any (λ k. eqb k (number d n)) (map (number d) ns) ≡ has ns n
has_number d [] n h = refl
has_number d (m ∷ ns) n h = ap₂ (λ (a b : Bool). a || b) (one m) (has_number d ns n h)
  where
    one : (m : List ℕ) → eqb (number d m) (number d n) ≡ bytes_eq n m
    one m = elim (cases_Bool (bytes_eq n m)) [
      | inl e ↦ ap (λ (k : List ℕ). eqb (number d k) (number d n)) (sym (same_bytes n m e))
          ∙ eq-eqb (number d n) (number d n) refl ∙ sym e
      | inr e ↦ grind (arith, common_steps, cases_Bool, bytes_same, number_name, eqb-true)
    ]

-- a line's next name, with the numbers of those before it
pub record Next (d c ns : List (List ℕ)) (p : ℕ) (n : List ℕ) (w : ℕ) (ws : List ℕ) : Type 0 where
  pub so_far : consume_fault d (c ++ take p ns) (drop p ns) ≡ consume_fault d c ns
  pub here : p < length ns
  pub name : n ≡ get_or ns p n
  pub known : has d n ≡ true
  pub wire : w ≡ number d n
  pub wires : ws ≡ map (number d) (take p ns)

earlier : (d c ns : List (List ℕ)) (p : ℕ) (n : List ℕ) (w : ℕ) (ws : List ℕ) → Next d c ns p n w ws →
    list_any (λ k. eqb k w) ws ≡ has (take p ns) n
earlier d c ns p n w ws next = grind (arith, common_steps, has_number)

front : (d c ns : List (List ℕ)) (p : ℕ) (n : List ℕ) (w : ℕ) (ws : List ℕ) → Next d c ns p n w ws →
    consume_fault d c ns ≡ consume_fault d (c ++ take p ns) (n ∷ drop (p + 1) ns)
front d c ns p n w ws next = grind (arith, common_steps, drop_more)

pub named_twice : (d c ns : List (List ℕ)) (p : ℕ) (n : List ℕ) (w : ℕ) (ws : List ℕ) → Next d c ns p n w ws →
    list_any (λ k. eqb k w) ws ≡ true → consume_fault d c ns ≡ Some ConsumedTwice
named_twice d c ns p n w ws next found = grind (arith, common_steps, earlier, front, list_any-append)

pub consumed_next : (d c ns : List (List ℕ)) (p : ℕ) (n : List ℕ) (w : ℕ) (ws : List ℕ) → Next d c ns p n w ws →
    has c n ≡ false → list_any (λ k. eqb k w) ws ≡ false →
    consume_fault d (c ++ take (p + 1) ns) (drop (p + 1) ns) ≡ consume_fault d c ns
consumed_next d c ns p n w ws next free new = grind (arith, common_steps, earlier, take_more, front, list_any-append)

pub wires_next : (d c ns : List (List ℕ)) (p : ℕ) (n : List ℕ) (w : ℕ) (ins : List ℕ) → Next d c ns p n w (take p ins) →
    p < length ins → take (p + 1) (slice_set ins p w) ≡ map (number d) (take (p + 1) ns)
wires_next d c ns p n w ins next short = grind (arith, common_steps, take_more_set, map-append, take_more)

-- each wire that is consumed has a mark
pub marks_reach : (d c ns : List (List ℕ)) (marks : List Bool) (ws : List ℕ) → consume_fault d c ns ≡ None →
    ws ≡ map (number d) ns → length d ≤ length marks → All (λ w. w < length marks) ws
marks_reach d c ns marks ws pass numbered long = grind (arith, common_steps, numbers_below, consume_have)

-- four unset marks, as many as there are names
pub four_unset : (names : List (List ℕ)) → length names ≤ 4 →
    take (length names) (false ∷ false ∷ false ∷ false ∷ []) ≡ map (λ (n : List ℕ). false) names
four_unset [] h = refl
four_unset (a ∷ []) h = refl
four_unset (a ∷ b ∷ []) h = refl
four_unset (a ∷ b ∷ c ∷ []) h = refl
four_unset (a ∷ b ∷ c ∷ d ∷ []) h = refl
four_unset (a ∷ b ∷ c ∷ d ∷ e ∷ names) h = absurd (omega arith)

-- a mark that is read by the number of a name
pub mark_read : (c d : List (List ℕ)) (marks : List Bool) (n : List ℕ) (i : ℕ) (b : Bool) →
    marks ≡ map (has c) d → has d n ≡ true → i ≡ number d n → b ≡ get_or marks i b → b ≡ has c n
mark_read c d marks n i b same h at is =
    is ∙ ap₂ (λ (l : List Bool) k. get_or l k b) same at
    ∙ get_or_from_slice_get (map (has c) d) (number d n) (has c n) b (mark_at c d n h)
