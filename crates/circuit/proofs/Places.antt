-- The places of names.
use Rattle.circuit.proofs.Imports.{All, ConsumedTwice, List, None, Option, RefusalCode, Some, [], ap, ap₂, arith}
use Rattle.circuit.proofs.Imports.{bytes_eq, bytes_eq-Decides, cases_Bool, common_steps, cond, consume_fault, false}
use Rattle.circuit.proofs.Imports.{has, inl, inr, length, list_any-append, map, number, position, refl, sym, true}
use Rattle.circuit.proofs.Imports.{true≢false, ℕ, ◌++◌, ◌+◌, ◌<◌, ◌∙◌, ◌∷◌, ◌≡◌}
use Rattle.lemmas.proofs.Common.{nat_lt, cond-true, lt-ltb, position_or_len}
use Rattle.std.proofs.lemmas.List.Recursion.{is_position_or_len}
use Rattle.section_text.specs.declared.code.RefusalCode.TheVariants.{UnknownName}

-- what has says at the front of a list
pub has_front : (m n : List ℕ) (ms : List (List ℕ)) → bytes_eq n m ≡ false → has (m ∷ ms) n ≡ has ms n
has_front m n ms e = rw e refl

pub has_left : (d e : List (List ℕ)) (n : List ℕ) → has d n ≡ true → has (d ++ e) n ≡ true
has_left d e n h = rw (list_any-append (bytes_eq n) d e, h) refl

pub number_below : (d : List (List ℕ)) (n : List ℕ) → has d n ≡ true → number d n < length d
unfolding number
number_below [] n h = absurd (true≢false (sym h))
number_below (m ∷ ms) n h = elim (cases_Bool (bytes_eq n m)) [
  | inl e ↦ rw e (omega arith)
  | inr e ↦ let i = number_below ms n (sym (has_front m n ms e) ∙ h) in rw e (omega arith)
]

pub number_left : (d e : List (List ℕ)) (n : List ℕ) → has d n ≡ true → number (d ++ e) n ≡ number d n
unfolding number
number_left [] e n h = absurd (true≢false (sym h))
number_left (m ∷ ms) e n h = elim (cases_Bool (bytes_eq n m)) [
  | inl q ↦ rw q refl
  | inr q ↦ rw q (ap (λ k. k + 1) (number_left ms e n (sym (has_front m n ms q) ∙ h)))
]

pub number_new : (d e : List (List ℕ)) (n : List ℕ) → has d n ≡ false → bytes_eq n n ≡ true →
    number (d ++ n ∷ e) n ≡ length d
unfolding number
number_new [] e n h q = rw q refl
number_new (m ∷ ms) e n h q = elim (cases_Bool (bytes_eq n m)) [
  | inl t ↦ absurd (clash m n ms t h)
  | inr t ↦ rw t (ap (λ k. k + 1) (number_new ms e n (sym (has_front m n ms t) ∙ h) q) ∙ omega arith)
]
  where
    clash : (m n : List ℕ) (ms : List (List ℕ)) → bytes_eq n m ≡ true → has (m ∷ ms) n ≡ false → ⊥
    clash m n ms t h = true≢false (sym (rw t refl) ∙ h)

-- position and number
number_position : (d : List (List ℕ)) (n : List ℕ) → number d n ≡ position_or_len (bytes_eq n) d
unfolding number
number_position d n = is_position_or_len (λ d. number d n) (bytes_eq n) (at_none n) (λ m ms. at_next m ms n) d
  where
    at_none : (n : List ℕ) → number [] n ≡ 0
    at_none n = refl

    at_next : (m : List ℕ) (ms : List (List ℕ)) (n : List ℕ) →
        number (m ∷ ms) n ≡ cond (bytes_eq n m) 0 (1 + number ms n)
    at_next m ms n = ap (λ k. cond (bytes_eq n m) 0 k) (omega arith)

pub bytes_same : (n : List ℕ) → bytes_eq n n ≡ true
bytes_same n = grind (arith, common_steps, bytes_eq-Decides)

pub position_number : (d : List (List ℕ)) (n : List ℕ) → has d n ≡ true → position (bytes_eq n) d ≡ Some (number d n)
position_number d n h = grind (arith, common_steps, number_position, cond-true, lt-ltb, number_below)

-- ---- names that are there
abbrev pub Have : List (List ℕ) → List (List ℕ) → Type 0
Have d [] = Unit {0}
Have d (n ∷ ns) = (has d n ≡ true) × Have d ns

pub have_left : (d e ns : List (List ℕ)) → Have d ns → Have (d ++ e) ns
have_left d e [] h = tt
have_left d e (n ∷ ns) h = (has_left d e n h.0, have_left d e ns h.1)

pub numbers_left : (d e ns : List (List ℕ)) → Have d ns → map (number (d ++ e)) ns ≡ map (number d) ns
numbers_left d e [] h = refl
numbers_left d e (n ∷ ns) h = ap₂ (λ x xs. x ∷ xs) (number_left d e n h.0) (numbers_left d e ns h.1)

pub all_cons : {A : Type 0} (P : A → Type 0) (x : A) (xs : List A) → P x → All P xs → All P (x ∷ xs)
all_cons P x xs h1 h2 = grind (arith, common_steps)

pub numbers_below : (d ns : List (List ℕ)) → Have d ns → All (λ w. w < length d) (map (number d) ns)
numbers_below d [] h = λ k e l. absurd (omega arith)
numbers_below d (n ∷ ns) h = all_cons (λ w. w < length d) (number d n) (map (number d) ns) (number_below d n h.0)
    (numbers_below d ns h.1)

pub consume_have : (d c ns : List (List ℕ)) → consume_fault d c ns ≡ None → Have d ns
consume_have d c [] e = tt
consume_have d c (n ∷ ns) e = elim (cases_Bool (has d n)) [
  | inl h ↦ elim (cases_Bool (has c n)) [
    | inl q ↦ absurd (used (rw (h, q) at e))
    | inr q ↦ (h, consume_have d (c ++ n ∷ []) ns (rw (h, q) at e))
  ]
  | inr h ↦ absurd (unknown (rw h at e))
]
  where
    used : ◌≡◌ {A = Option RefusalCode} (Some ConsumedTwice) None → ⊥
    used e = cc

    unknown : ◌≡◌ {A = Option RefusalCode} (Some UnknownName) None → ⊥
    unknown e = cc

-- ---- what a look-up finds

pub look_up : (d : List (List ℕ)) (n : List ℕ) →
    position (bytes_eq n) d ≡ cond (nat_lt (number d n) (length d)) (Some (number d n)) None
look_up d n = ap (λ k. cond (nat_lt k (length d)) (Some k) None) (sym (number_position d n))

pub found_number : (d : List (List ℕ)) (n : List ℕ) (i : ℕ) → Some i ≡ position (bytes_eq n) d → i ≡ number d n
found_number d n i e = grind (arith, common_steps, look_up)
