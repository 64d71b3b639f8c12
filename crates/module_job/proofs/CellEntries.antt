-- The entries of cells tell what the cells carry, and those of more cells follow them.
use Rattle.module_job.proofs.Imports.{IsPrefixFree, List, [], ap, append_assoc, ap₂, arith, cases_Bool, common_steps}
use Rattle.module_job.proofs.Imports.{cond-false, cond-true, inl, inr, length, length-map, map, nat_tests, refl}
use Rattle.module_job.proofs.Imports.{same_head, same_tail, sparse_entries_from, sparse_entry, sparse_list_numbers, sym}
use Rattle.module_job.proofs.Imports.{ℕ, ◌++◌, ◌+◌, ◌<◌, ◌∙◌, ◌∷◌, ◌≡◌, ◌≤◌, ◌⊎◌}

-- ---- one cell

-- a cell has the number 0 and no entry, or another number and an entry
abbrev pub Forms : ℕ → ℕ → Type 0
Forms place n = ((n ≡ 0) × (sparse_entry place n ≡ [])) ⊎ ((0 < n) × (sparse_entry place n ≡ (place + 1) ∷ n ∷ []))

pub forms : (place n : ℕ) → Forms place n
forms place n = grind (arith, common_steps, cases_Bool, nat_tests, cond-true, cond-false)

-- ---- what entries begin with

-- the list begins with 0, or with a number above the place
abbrev BeginsAbove : ℕ → List ℕ → Type 0
BeginsAbove place l = (n : ℕ) (r : List ℕ) → l ≡ n ∷ r → (n ≡ 0) ⊎ (place < n)

begins_above : (place p : ℕ) (ns r : List ℕ) → place ≤ p → BeginsAbove place (sparse_entries_from p ns ++ 0 ∷ r)
unfolding sparse_entries_from
begins_above place p [] r le n s e = inl (sym (same_head 0 n r s e))
begins_above place p (m ∷ ns) r le n s e = elim (forms p m) [
  | inl none ↦ begins_above place (p + 1) ns r (omega (arith, le)) n s
      (sym (ap (λ (l : List ℕ). (l ++ sparse_entries_from (p + 1) ns) ++ 0 ∷ r) none.1) ∙ e)
  | inr some ↦ grind (arith, common_steps, same_head)
]

-- ---- entries tell their numbers

entries_tell : (p : ℕ) (ns ms r s : List ℕ) → length ns ≡ length ms →
    sparse_entries_from p ns ++ 0 ∷ r ≡ sparse_entries_from p ms ++ 0 ∷ s → (ns ≡ ms) × (r ≡ s)
unfolding sparse_entries_from
entries_tell p [] [] r s same e = (refl, same_tail 0 0 r s e)
entries_tell p [] (m ∷ ms) r s same e = absurd (omega (arith, same))
entries_tell p (n ∷ ns) [] r s same e = absurd (omega (arith, same))
entries_tell p (n ∷ ns) (m ∷ ms) r s same e =
    let left : (l : List ℕ) → sparse_entry p n ≡ l →
    sparse_entries_from p (n ∷ ns) ++ 0 ∷ r ≡ (l ++ sparse_entries_from (p + 1) ns) ++ 0 ∷ r
    = λ l is. ap (λ (k : List ℕ). (k ++ sparse_entries_from (p + 1) ns) ++ 0 ∷ r) is in
    let right : (l : List ℕ) → sparse_entry p m ≡ l →
    sparse_entries_from p (m ∷ ms) ++ 0 ∷ s ≡ (l ++ sparse_entries_from (p + 1) ms) ++ 0 ∷ s
    = λ l is. ap (λ (k : List ℕ). (k ++ sparse_entries_from (p + 1) ms) ++ 0 ∷ s) is in
    let shorter : length ns ≡ length ms = omega (arith, same) in
    elim (forms p n) [
      | inl none ↦ elim (forms p m) [
        | inl none' ↦
            let rest = entries_tell (p + 1) ns ms r s shorter (sym (left [] none.1) ∙ e ∙ right [] none'.1) in
            (ap₂ (λ x xs. x ∷ xs) (none.0 ∙ sym none'.0) rest.0, rest.1)
        | inr some' ↦
            absurd (elim (begins_above (p + 1) (p + 1) ns r (omega arith) (p + 1) _
            (sym (left [] none.1) ∙ e ∙ right ((p + 1) ∷ m ∷ []) some'.1)) [
              | inl zero ↦ omega (arith, zero)
              | inr above ↦ omega (arith, above)
            ])
      ]
      | inr some ↦ elim (forms p m) [
        | inl none' ↦
            absurd (elim (begins_above (p + 1) (p + 1) ms s (omega arith) (p + 1) _
            (sym (right [] none'.1) ∙ sym e ∙ left ((p + 1) ∷ n ∷ []) some.1)) [
              | inl zero ↦ omega (arith, zero)
              | inr above ↦ omega (arith, above)
            ])
        | inr some' ↦
            let both = same_tail (p + 1) (p + 1) (n ∷ sparse_entries_from (p + 1) ns ++ 0 ∷ r)
            (m ∷ sparse_entries_from (p + 1) ms ++ 0 ∷ s)
            (sym (left ((p + 1) ∷ n ∷ []) some.1) ∙ e ∙ right ((p + 1) ∷ m ∷ []) some'.1) in
            let rest = entries_tell (p + 1) ns ms r s shorter
            (same_tail n m (sparse_entries_from (p + 1) ns ++ 0 ∷ r)
            (sparse_entries_from (p + 1) ms ++ 0 ∷ s) both) in (
              ap₂ (λ x xs. x ∷ xs) (same_head n m (sparse_entries_from (p + 1) ns ++ 0 ∷ r)
                  (sparse_entries_from (p + 1) ms ++ 0 ∷ s) both) rest.0,
              rest.1,
            )
      ]
    ]

numbers_told_by : {A : Type 0} (f : A → ℕ) → ((a b : A) → f a ≡ f b → a ≡ b) → (xs ys : List A) → map f xs ≡ map f ys →
    xs ≡ ys
numbers_told_by f tells [] [] e = refl
numbers_told_by f tells [] (y ∷ ys) e = absurd cc
numbers_told_by f tells (x ∷ xs) [] e = absurd cc
numbers_told_by f tells (x ∷ xs) (y ∷ ys) e =
    ap₂ (λ z zs. z ∷ zs) (tells x y (same_head (f x) (f y) (map f xs) (map f ys) e))
    (numbers_told_by f tells xs ys (same_tail (f x) (f y) (map f xs) (map f ys) e))

-- where a number tells what a cell carries, so do the numbers of the cells
pub cells_tell_all : {A : Type 0} (f : A → ℕ) → ((a b : A) → f a ≡ f b → a ≡ b) → IsPrefixFree (sparse_list_numbers f)
cells_tell_all f tells xs ys r s e =
    grind (arith, common_steps, same_head, same_tail, entries_tell, length-map, append_assoc, numbers_told_by)

-- ---- more cells

pub entries_append : (p : ℕ) (ns ms : List ℕ) →
    sparse_entries_from p (ns ++ ms) ≡ sparse_entries_from p ns ++ sparse_entries_from (p + length ns) ms
unfolding sparse_entries_from
entries_append p [] ms = ap (λ q. sparse_entries_from q ms) (omega arith)
entries_append p (n ∷ ns) ms = grind (arith, common_steps, entries_append (p + 1) ns ms, append_assoc)
