-- Lists of numbers that tell what they were made of
use Rattle.module_box.proofs.Imports.{Cswap, Delay, Fredkin, GateKind, Interact, List, Source, Switch, Uninteract}
use Rattle.module_box.proofs.Imports.{Unswitch, [], ap, append_assoc, ap₂, arith, common_steps, flat_map}
use Rattle.module_box.proofs.Imports.{gate_code_numbers, gate_kind_number, get_or, length, nat_eq, range_with_len, refl}
use Rattle.module_box.proofs.Imports.{suc, sym, zero, ℕ, ◌++◌, ◌+◌, ◌∙◌, ◌∷◌, ◌≡◌}
use Rattle.lemmas.proofs.Common.{same_head, same_tail}
use Rattle.module_box.specs.Numbers.{IsPrefixFree, NumbersDetermineNetlists, length_prefixed, netlist_numbers}
use Rattle.module_box.specs.Numbers.{gate_kind_parameter}

range_suc : (a n : ℕ) → range_with_len a (suc n) ≡ range_with_len a n ++ (a + n) ∷ []
range_suc a zero = ap (λ k. k ∷ []) (omega arith)
range_suc a (suc n) = ap (λ l. a ∷ l) (range_suc (a + 1) n ∙ ap (λ k. range_with_len (a + 1) n ++ k ∷ []) (omega arith))

pub range_more : (a n : ℕ) → range_with_len a (n + 1) ≡ range_with_len a n ++ (a + n) ∷ []
range_more a n = let one : n + 1 ≡ suc n = omega arith in ap (range_with_len a) one ∙ range_suc a n

-- ---- lists that begin alike

pub same_length : {A : Type 0} (xs ys r s : List A) → length xs ≡ length ys → xs ++ r ≡ ys ++ s → (xs ≡ ys) × (r ≡ s)
same_length [] [] r s n e = (refl, e)
same_length [] (y ∷ ys) r s n e = absurd (omega (arith, n))
same_length (x ∷ xs) [] r s n e = absurd (omega (arith, n))
same_length (x ∷ xs) (y ∷ ys) r s n e =
    let rest = same_length xs ys r s (omega (arith, n)) (same_tail x y (xs ++ r) (ys ++ s) e) in
    (ap₂ (λ z zs. z ∷ zs) (same_head x y (xs ++ r) (ys ++ s) e) rest.0, rest.1)

-- a list of numbers, after its length
abbrev pub listed : List ℕ → List ℕ
listed xs = length xs ∷ xs

pub lists_tell : IsPrefixFree listed
lists_tell xs ys r s e = grind (arith, common_steps, same_length, same_head, same_tail)

all_tell : {A : Type 0} (f : A → List ℕ) → IsPrefixFree f → (xs ys : List A) (r s : List ℕ) → length xs ≡ length ys →
    flat_map f xs ++ r ≡ flat_map f ys ++ s → (xs ≡ ys) × (r ≡ s)
all_tell f tell [] [] r s n e = (refl, e)
all_tell f tell [] (y ∷ ys) r s n e = absurd (omega (arith, n))
all_tell f tell (x ∷ xs) [] r s n e = absurd (omega (arith, n))
all_tell f tell (x ∷ xs) (y ∷ ys) r s n e =
    let first = tell x y (flat_map f xs ++ r) (flat_map f ys ++ s)
    (sym (append_assoc (f x) (flat_map f xs) r) ∙ e ∙ append_assoc (f y) (flat_map f ys) s) in
    let rest = all_tell f tell xs ys r s (omega (arith, n)) first.1 in
    (ap₂ (λ z zs. z ∷ zs) first.0 rest.0, rest.1)

pub counted_tell : {A : Type 0} (f : A → List ℕ) → IsPrefixFree f → IsPrefixFree (length_prefixed f)
counted_tell f tell xs ys r s e = grind (arith, common_steps, all_tell, same_head, same_tail)

-- ---- gates
gate_kind_from : ℕ → ℕ → GateKind
gate_kind_from place detail = get_or
    (Source (nat_eq detail 1) ∷ Fredkin ∷ Cswap ∷ Interact ∷ Switch ∷ Delay detail ∷ Unswitch ∷ []) place Uninteract

gate_kind_back : (r : GateKind) → gate_kind_from (gate_kind_number r) (gate_kind_parameter r) ≡ r
unfolding gate_kind_from
gate_kind_back r = grind (arith, common_steps)

gates_tell : IsPrefixFree gate_code_numbers
gates_tell g h r s e = grind (arith, common_steps, listed, lists_tell, append_assoc)

pub netlists_tell : NumbersDetermineNetlists
unfolding netlist_numbers
netlists_tell n m r s e = grind (arith, common_steps, same_head, counted_tell, gates_tell, same_tail)
