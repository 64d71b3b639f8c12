-- The least of the elements of a list for which a fact holds that can be decided
use Rattle.soundness.proofs.Imports.{Bool, IsTotalOrder, List, None, Option, Some, [], ap, arith, cases_lt}
use Rattle.soundness.proofs.Imports.{common_steps, eqb, eqb-true, false, false≢true, inl, inr, is_among, map}
use Rattle.soundness.proofs.Imports.{range_with_len, refl, slice_get, subst, suc, sym, true, true≢false, zero, ℕ, ◌+◌}
use Rattle.soundness.proofs.Imports.{◌<◌, ◌||◌, ◌∙◌, ◌∷◌, ◌≡◌, ◌≢◌, ◌⊎◌}
use Rattle.lemmas.proofs.Common.{Greater, Ordering, is_gt, ordering_reverse, tied_itself, upto}
use Rattle.certificate_lines.proofs.LineOrder.{In}

-- ---- facts that can be decided

abbrev pub Decided : Type 0 → Type 0
Decided P = P ⊎ (¬ P)

pub decided_by : {P Q : Type 0} → (P → Q) → (Q → P) → Decided P → Decided Q
decided_by to back (inl so) = inl (to so)
decided_by to back (inr not_so) = inr (λ q. not_so (back q))

pub both_decided : {P Q : Type 0} → Decided P → (P → Decided Q) → Decided (P × Q)
both_decided (inr not_so) second = inr (λ h. not_so h.0)
both_decided (inl so) second = with_first so (second so)
  where
    with_first : {P Q : Type 0} → P → Decided Q → Decided (P × Q)
    with_first h1 h2 = grind (arith, common_steps)

pub not_decided : {P : Type 0} → Decided P → Decided (¬ P)
not_decided (inl so) = inr (λ not_so. not_so so)
not_decided (inr not_so) = inl not_so

pub true_decided : (b : Bool) → Decided (b ≡ true)
true_decided b = grind (arith, common_steps, false≢true)

pub bools_decided : (a b : Bool) → Decided (a ≡ b)
bools_decided a b = grind (arith, common_steps, true_decided, false≢true)

pub numbers_decided : (a b : ℕ) → Decided (a ≡ b)
numbers_decided zero zero = inl refl
numbers_decided zero (suc b) = inr (λ e. omega (arith, e))
numbers_decided (suc a) zero = inr (λ e. omega (arith, e))
numbers_decided (suc a) (suc b) = decided_by (λ e. ap suc e) (λ e. omega (arith, e)) (numbers_decided a b)

pub below_decided : (a b : ℕ) → Decided (a < b)
below_decided a b = grind (arith, common_steps, cases_lt)

-- an element of a list for which it holds
pub record HasOne {A : Type 0} (P : A → Type 0) (xs : List A) : Type 0 where
  pub number : ℕ
  pub one : A
  pub at : slice_get xs number ≡ Some one
  pub holds : P one

pub some_decided : {A : Type 0} (P : A → Type 0) → ((a : A) → Decided (P a)) → (xs : List A) → Decided (HasOne P xs)
some_decided P decide [] = inr nowhere
  where
    nowhere : HasOne P [] → ⊥
    nowhere h = let e = h.at in cc
some_decided {A = A} P decide (x ∷ xs) = elim (decide x) [
  | inl so ↦ inl (record { number = 0; one = x; at = refl; holds = so })
  | inr not_so ↦ elim (some_decided P decide xs) [
    | inl later ↦ inl (record { number = suc later.number; one = later.one; at = later.at; holds = later.holds })
    | inr none ↦ inr (λ h. neither h.number h.one h.at h.holds not_so none)
  ]
]
  where
    neither : (k : ℕ) (a : A) → slice_get (x ∷ xs) k ≡ Some a → P a → ¬ P x → ¬ HasOne P xs → ⊥
    neither k a h1 h2 h3 h4 = grind (arith, common_steps)

-- ---- the elements of lists

pub in_map : {A B : Type 0} (f : A → B) (a : A) (xs : List A) → In a xs → In (f a) (map f xs)
unfolding In
in_map f a [] i = absurd i
in_map f a (x ∷ xs) (inl same) = inl (ap f same)
in_map f a (x ∷ xs) (inr later) = inr (in_map f a xs later)

in_range_from : (n a k : ℕ) → k < n → In (a + k) (range_with_len a n)
unfolding In
in_range_from zero a k lt = absurd (omega (arith, lt))
in_range_from (suc n) a zero lt = inl (omega arith)
in_range_from (suc n) a (suc k) lt = grind (arith, common_steps, (in_range_from n (a + 1) k (omega (arith, lt))))

pub in_range : (n k : ℕ) → k < n → In k (range_with_len 0 n)
in_range n k lt = subst (λ m. In m (range_with_len 0 n)) (from_zero k) (in_range_from n 0 k lt)
  where
    from_zero : (k : ℕ) → 0 + k ≡ k
    from_zero k = omega arith

among_by : (v w : ℕ) (ws : List ℕ) (b : Bool) → eqb v w ≡ b → (b || is_among ws w) ≡ true →
    (is_among ws w ≡ true → In w ws) → In w (v ∷ ws)
unfolding In
among_by v w ws b h1 h2 h3 = grind (arith, common_steps, eqb-true)

pub among_in : (ws : List ℕ) (w : ℕ) → is_among ws w ≡ true → In w ws
unfolding In
among_in [] w e = absurd (false≢true e)
among_in (v ∷ ws) w e = among_by v w ws (eqb v w) refl e (among_in ws w)

-- ---- the least

module _ {A : Type 0} (cmp : A → A → Ordering) (total : IsTotalOrder cmp) (P : A → Type 0)
    (decide : (a : A) → Decided (P a)) where
  abbrev pub IsLeastIn : List A → Option A → Type 0
  IsLeastIn xs None = (a : A) → In a xs → ¬ P a
  IsLeastIn xs (Some f) = P f × ((a : A) → In a xs → P a → cmp f a ≢ Greater)

  -- not after
  abbrev NotAfter : A → A → Type 0
  NotAfter a b = cmp a b ≢ Greater

  below : (o : Ordering) → o ≢ Greater → is_gt o ≡ false
  below o h1 = grind (arith, common_steps)

  not_above : (o : Ordering) → is_gt o ≡ false → o ≢ Greater
  not_above o e h = true≢false (sym (ap is_gt h) ∙ e)

  itself : (a : A) → NotAfter a a
  itself a = not_above (cmp a a) (ap is_gt (tied_itself total a))

  along : (a b c : A) → NotAfter a b → NotAfter b c → NotAfter a c
  along a b c h k = not_above (cmp a c) (upto total a b c (below (cmp a b) h) (below (cmp b c) k))

  back : (a b : A) → cmp a b ≡ Greater → NotAfter b a
  back a b e = not_above (cmp b a) (ap is_gt (total.antisymm b a ∙ ap ordering_reverse e))

  pub record HasLeast (xs : List A) : Type 0 where
    pub least : Option A
    pub is : IsLeastIn xs least

  -- with one more element in front
  without : (x : A) (xs : List A) (o : Option A) → ¬ P x → IsLeastIn xs o → IsLeastIn (x ∷ xs) o
  unfolding In
  without x xs None not_so h = grind (arith, common_steps)
  without x xs (Some f) not_so h = grind (arith, common_steps)

  with_first : (x : A) (xs : List A) (o : Option A) → P x → IsLeastIn xs o → HasLeast (x ∷ xs)
  unfolding In
  with_first x xs None so h = record {
    least = Some x;
    is = (
      so,
      λ a i p. elim i [
        | inl same ↦ subst (NotAfter x) same (itself x)
        | inr later ↦ absurd (h a later p)
      ],
    );
  }
  with_first x xs (Some f) so h = by (cmp x f) refl
    where
      keep : cmp x f ≡ Greater → HasLeast (x ∷ xs)
      keep e = record {
        least = Some f;
        is = (
          h.0,
          λ a i p. elim i [
            | inl same ↦ subst (NotAfter f) same (back x f e)
            | inr later ↦ h.1 a later p
          ],
        );
      }

      take : NotAfter x f → HasLeast (x ∷ xs)
      take n = record {
        least = Some x;
        is = (
          so,
          λ a i p. elim i [
            | inl same ↦ subst (NotAfter x) same (itself x)
            | inr later ↦ along x f a n (h.1 a later p)
          ],
        );
      }

      by : (o : Ordering) → cmp x f ≡ o → HasLeast (x ∷ xs)
      by Greater e = keep e
      by _ e = take (not_above (cmp x f) (ap is_gt e))

  pub least_in : (xs : List A) → HasLeast xs
  unfolding In
  least_in [] = record { least = None; is = λ a i p. i }
  least_in (x ∷ xs) = elim (decide x) [
    | inl so ↦ with_first x xs (least_in xs).least so (least_in xs).is
    | inr not_so ↦ record { least = (least_in xs).least; is = without x xs (least_in xs).least not_so (least_in xs).is }
  ]

  -- the least of all that P holds of, where these are among the elements, and what follows from it
  pub least_of_all : (xs : List A) → ((a : A) → P a → In a xs) → (Q : Option A → Type 0) →
      (((a : A) → ¬ P a) → Q None) → ((f : A) → P f × ((a : A) → P a → NotAfter f a) → Q (Some f)) →
      (o : Option A) × Q o
  least_of_all xs placed Q none some = by (least_in xs).least (least_in xs).is
    where
      by : (o : Option A) → IsLeastIn xs o → (o : Option A) × Q o
      by None h = (None, none (λ a p. h a (placed a p) p))
      by (Some f) h = (Some f, some f (h.0, λ a p. h.1 a (placed a p) p))
