-- Links of the members of groups, made from the last number down, and followed from the first one up
use Rattle.std.proofs.lemmas.List.{get_or-set_other, get_or-set_same}
use Rattle.job_pool.proofs.Imports.{List, ap, arith, get_or, if◌then◌else◌, length, nat_tests, occurrences, refl, suc}
use Rattle.job_pool.proofs.Imports.{sym, take, zero, ℕ, ◌+◌, ◌-◌, ◌<◌, ◌==◌, ◌∙◌, ◌≡◌, ◌≢◌, ◌≤◌}
use Rattle.lemmas.proofs.Common.{cases_lt, inl, inr, length-set, set, slice_index, subst, ◌⊎◌}
use Rattle.module_job.specs.Groups.{AreGroups}
use Rattle.module_job.specs.Shapes.{ShapeView}
use Rattle.job_pool.specs.Links.{AreGroupLinks, IsNextOfGroup}
use Rattle.job_pool.proofs.Members.{read_any, times_step}

-- ---- one step of the loop that links

-- a number is the next member of its own group, from itself on
next_itself : (gs : List ℕ) (i : ℕ) → i < length gs → IsNextOfGroup gs (slice_index gs i) i i
next_itself gs i lt = record {
  low = omega arith;
  high = omega (arith, lt);
  own = λ _. refl;
  skips = λ k from before. absurd (omega (arith, from, before));
}

-- the next member of any other group stays
next_earlier : (gs : List ℕ) (g i n : ℕ) → slice_index gs i ≢ g → IsNextOfGroup gs g (i + 1) n → IsNextOfGroup gs g i n
next_earlier gs g i n other next = record {
  low = let l = next.low in omega (arith, l);
  high = next.high;
  own = next.own;
  skips = λ k from before e. elim (cases_lt i k) [
    | inl later ↦ next.skips k (omega (arith, later)) before e
    | inr not_later ↦
        let here : i ≡ k = omega (arith, from, not_later) in
        other (ap (slice_index gs) here ∙ e)
  ];
}

-- an entry that is written, and the others
written : (xs : List ℕ) (i y : ℕ) → i < length xs → slice_index (set xs i y) i ≡ y
written xs i y lt =
    sym (read_any (set xs i y) i 0 (subst (λ n. i < n) (sym (length-set xs i y)) lt)) ∙ get_or-set_same xs i y 0 lt

kept : (xs : List ℕ) (i j y : ℕ) → j ≢ i → j < length xs → slice_index (set xs i y) j ≡ slice_index xs j
kept xs i j y other lt =
    sym (read_any (set xs i y) j 0 (subst (λ n. j < n) (sym (length-set xs i y)) lt))
    ∙ get_or-set_other xs i j y 0 other ∙ read_any xs j 0 lt

-- what is known of the links when the numbers from `low` on are done
pub record AreLinkedFrom (gs links nearest : List ℕ) (low : ℕ) : Type 0 where
  pub count : length links ≡ length gs
  pub groups : length nearest ≡ length gs
  pub linked : (i : ℕ) → low ≤ i → i < length gs → IsNextOfGroup gs (slice_index gs i) (i + 1) (slice_index links i)
  pub near : (g : ℕ) → g < length gs → IsNextOfGroup gs g low (slice_index nearest g)

-- the number before them is done too
pub linked_one : (gs links nearest : List ℕ) (i low g n : ℕ) → low ≡ i + 1 → i < length gs → g ≡ slice_index gs i →
    g < length gs → n ≡ slice_index nearest g → AreLinkedFrom gs links nearest low →
    AreLinkedFrom gs (set links i n) (set nearest g i) i
linked_one gs links nearest i low g n from lt own within is are = record {
  count = length-set links i n ∙ are.count;
  groups = length-set nearest g i ∙ are.groups;
  linked = λ k after below. elim (cases_lt i k) [
    | inl later ↦
        let c = are.count in
        subst (λ z. IsNextOfGroup gs (slice_index gs k) (k + 1) z)
        (sym (kept links i k n (λ e. omega (arith, later, e)) (omega (arith, below, c))))
        (are.linked k (omega (arith, from, later)) below)
    | inr not_later ↦
        let here : i ≡ k = omega (arith, after, not_later) in
        let c = are.count in
        let next : IsNextOfGroup gs g (i + 1) (slice_index nearest g) =
        subst (λ z. IsNextOfGroup gs g z (slice_index nearest g)) from (are.near g within) in
        let linked : IsNextOfGroup gs (slice_index gs i) (i + 1) n =
        subst (λ z. IsNextOfGroup gs z (i + 1) n) own (subst (IsNextOfGroup gs g (i + 1)) (sym is) next) in
        subst (λ z. IsNextOfGroup gs (slice_index gs z) (z + 1) (slice_index (set links i n) z)) here
        (subst (IsNextOfGroup gs (slice_index gs i) (i + 1)) (sym (written links i n (omega (arith, lt, c)))) linked)
  ];
  near = λ h below. elim (same_or_not h g) [
    | inl same ↦
        let c = are.groups in
        let itself : IsNextOfGroup gs g i i = subst (λ z. IsNextOfGroup gs z i i) (sym own) (next_itself gs i lt) in
        subst (λ z. IsNextOfGroup gs z i (slice_index (set nearest g i) z)) (sym same)
        (subst (IsNextOfGroup gs g i) (sym (written nearest g i (omega (arith, within, c)))) itself)
    | inr other ↦
        let c = are.groups in
        let next : IsNextOfGroup gs h (i + 1) (slice_index nearest h) =
        subst (λ z. IsNextOfGroup gs h z (slice_index nearest h)) from (are.near h below) in
        subst (IsNextOfGroup gs h i) (sym (kept nearest g h i other (omega (arith, below, c))))
        (next_earlier gs h i (slice_index nearest h) (λ e. other (sym e ∙ sym own)) next)
  ];
}
  where
    same_or_not : (a b : ℕ) → (a ≡ b) ⊎ (a ≢ b)
    same_or_not a b = elim (cases_lt a b) [
      | inl less ↦ inr (λ e. omega (arith, less, e))
      | inr not_less ↦ elim (cases_lt b a) [
        | inl more ↦ inr (λ e. omega (arith, more, e))
        | inr not_more ↦ inl (omega (arith, not_less, not_more))
      ]
    ]

-- when none is done, no group has a member
pub none_linked : (gs links nearest : List ℕ) → length links ≡ length gs → length nearest ≡ length gs →
    ((g : ℕ) → g < length gs → slice_index nearest g ≡ length gs) → AreLinkedFrom gs links nearest (length gs)
none_linked gs links nearest count groups none = record {
  count = count;
  groups = groups;
  linked = λ i after below. absurd (omega (arith, after, below));
  near = λ g below.
      let n = none g below in
      record {
        low = omega (arith, n);
        high = omega (arith, n);
        own = λ less. absurd (omega (arith, n, less));
        skips = λ k from before. absurd (omega (arith, n, from, before));
      };
}

-- when all are done
pub all_linked : (gs links nearest : List ℕ) → AreLinkedFrom gs links nearest 0 → AreGroupLinks gs links
all_linked gs links nearest are = record {
  count = are.count;
  each = λ i below. are.linked i (omega arith) below;
}

-- ---- the loop that follows the links

none_if : (a x : ℕ) → a ≢ x → ◌≡◌ {A = ℕ} (if a == x then 1 else 0) 0
none_if a x e = grind (arith, nat_tests)

one_if : (a x : ℕ) → a ≡ x → ◌≡◌ {A = ℕ} (if a == x then 1 else 0) 1
one_if a x e = grind (arith, nat_tests)

-- what none of some numbers is in adds none of its occurrences
skipped : (x : ℕ) (gs : List ℕ) (a n : ℕ) → a + n ≤ length gs → ((k : ℕ) → a ≤ k → k < a + n → slice_index gs k ≢ x) →
    occurrences x (take (a + n) gs) ≡ occurrences x (take a gs)
skipped x gs a zero fits none = ap (λ z. occurrences x (take z gs)) (omega arith)
skipped x gs a (suc n) fits none =
    let before = skipped x gs a n (omega (arith, fits)) (λ k from less. none k from (omega (arith, less))) in
    let lt : a + n < length gs = omega (arith, fits) in
    let step = times_step x gs (a + n) 0 lt in
    let other = none_if (get_or gs (a + n) 0) x
    (λ e. none (a + n) (omega arith) (omega arith) (sym (read_any gs (a + n) 0 lt) ∙ e)) in
    let more : a + suc n ≡ a + n + 1 = omega arith in
    let same = ap (λ z. occurrences x (take z gs)) more in
    omega (arith, before, step, other, same)

-- before the first of a group there is no member
pub none_before_first : (x : ℕ) (gs : List ℕ) → x ≤ length gs → ((k : ℕ) → k < x → slice_index gs k ≢ x) →
    occurrences x (take x gs) ≡ 0
none_before_first x gs fits none =
    subst (λ n. occurrences x (take n gs) ≡ 0) (omega arith)
    (skipped x gs 0 x (omega (arith, fits)) (λ k _ less. none k (omega (arith, less))))

-- one member, and none up to the next one
pub to_next : (x : ℕ) (gs : List ℕ) (member n : ℕ) → member < length gs → slice_index gs member ≡ x →
    IsNextOfGroup gs x (member + 1) n → occurrences x (take n gs) ≡ occurrences x (take member gs) + 1
to_next x gs member n lt own next =
    let l = next.low in let h = next.high in
    let step = times_step x gs member 0 lt in
    let one = one_if (get_or gs member 0) x (read_any gs member 0 lt ∙ own) in
    let sum : member + 1 + (n - (member + 1)) ≡ n = omega (arith, l) in
    let skip = skipped x gs (member + 1) (n - (member + 1)) (omega (arith, sum, h))
    (λ k from less. next.skips k from (omega (arith, less, sum))) in
    let same = ap (λ z. occurrences x (take z gs)) sum in
    omega (arith, step, one, skip, same)

-- the group of a number is no later number
not_later : (shapes : List ShapeView) (gs : List ℕ) (k : ℕ) → AreGroups shapes gs → k < length shapes →
    slice_index gs k ≤ k
not_later shapes gs k groups lt = elim (cases_lt k (slice_index gs k)) [
  | inl later ↦ absurd ((groups.each k lt).first k later refl)
  | inr fine ↦ fine
]

-- so the first of a group has no member before it
pub first_has_none_before : (shapes : List ShapeView) (gs : List ℕ) (x : ℕ) → AreGroups shapes gs → x ≤ length gs →
    occurrences x (take x gs) ≡ 0
first_has_none_before shapes gs x groups fits =
    none_before_first x gs fits (λ k less e.
    let c = groups.count in
    let low = not_later shapes gs k groups (omega (arith, less, fits, c)) in
    omega (arith, low, less, e))
