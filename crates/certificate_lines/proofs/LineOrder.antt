-- Lines in their order
use Rattle.certificate_lines.proofs.Imports.{Bool, BorderLine, Equal, Greater, IsTotalOrder, Less, List, Ordering, []}
use Rattle.certificate_lines.proofs.Imports.{ap, ap₂, arith, cases_Bool, cell_total, common_steps, cond-false}
use Rattle.certificate_lines.proofs.Imports.{cond-true, false, filter, flat_map, if◌then◌else◌, inl, inr, is_lt}
use Rattle.certificate_lines.proofs.Imports.{nat_cmp_total, on_total, refl, subst, sym, then_total, true, ◌++◌, ◌∙◌}
use Rattle.certificate_lines.proofs.Imports.{◌∷◌, ◌≡◌, ◌⊎◌}
use Rattle.lemmas.proofs.Common.{◌≢◌, ordering_reverse}
use Rattle.certificate_lines.specs.Orders.{time_rank}
use Rattle.certificate_lines.specs.Versions.{border_line_cmp, insert_border_line, sorted_border_lines}
use Rattle.certificate_lines.proofs.Pairs.{Each, Pairs, each_map}

-- ---- which elements a list has

unfoldable pub In : {A : Type 0} → A → List A → Type 0
In x [] = ⊥
In x (y ∷ ys) = (y ≡ x) ⊎ In x ys

pub each_in : {A : Type 0} (P : A → Type 0) (xs : List A) → Each P xs → (x : A) → In x xs → P x
unfolding Each In
each_in P [] e x i = absurd i
each_in P (y ∷ ys) e x (inl same) = subst P same e.0
each_in P (y ∷ ys) e x (inr later) = each_in P ys e.1 x later

pub in_each : {A : Type 0} (P : A → Type 0) (xs : List A) → ((x : A) → In x xs → P x) → Each P xs
unfolding Each In
in_each P [] h = tt
in_each P (y ∷ ys) h = (h y (inl refl), in_each P ys (λ x i. h x (inr i)))

pub in_left : {A : Type 0} (x : A) (xs ys : List A) → In x xs → In x (xs ++ ys)
unfolding In
in_left x [] ys i = absurd i
in_left x (y ∷ xs) ys (inl same) = inl same
in_left x (y ∷ xs) ys (inr later) = inr (in_left x xs ys later)

pub in_right : {A : Type 0} (x : A) (xs ys : List A) → In x ys → In x (xs ++ ys)
unfolding In
in_right x [] ys i = i
in_right x (y ∷ xs) ys i = inr (in_right x xs ys i)

pub in_append : {A : Type 0} (x : A) (xs ys : List A) → In x (xs ++ ys) → In x xs ⊎ In x ys
unfolding In
in_append x [] ys i = inr i
in_append x (y ∷ xs) ys (inl same) = inl (inl same)
in_append x (y ∷ xs) ys (inr later) = grind (arith, common_steps, in_append x xs ys later)

-- an element of a list that a function makes of each element
pub in_flat : {A B : Type 0} (f : A → List B) (b : B) (xs : List A) → In b (flat_map f xs) →
    (a : A) × In a xs × In b (f a)
unfolding In
in_flat f b [] i = absurd i
in_flat f b (x ∷ xs) i = elim (in_append b (f x) (flat_map f xs) i) [
  | inl first ↦ (x, inl refl, first)
  | inr second ↦ let r = in_flat f b xs second in (r.0, inr r.1, r.2)
]

pub flat_in : {A B : Type 0} (f : A → List B) (b : B) (xs : List A) (a : A) → In a xs → In b (f a) →
    In b (flat_map f xs)
unfolding In
flat_in f b [] a i j = absurd i
flat_in f b (x ∷ xs) a (inl same) j = in_left b (f x) (flat_map f xs) (subst (λ y. In b (f y)) (sym same) j)
flat_in f b (x ∷ xs) a (inr later) j = in_right b (f x) (flat_map f xs) (flat_in f b xs a later j)

-- ---- the elements that pass a test

pub in_filter : {A : Type 0} (test : A → Bool) (x : A) (xs : List A) → In x (filter test xs) → In x xs × (test x ≡ true)
unfolding In
in_filter test x [] i = absurd i
in_filter test x (y ∷ ys) i = grind (arith, common_steps, cases_Bool, cond-true, cond-false, in_filter test x ys)

pub filter_in : {A : Type 0} (test : A → Bool) (x : A) (xs : List A) → In x xs → test x ≡ true → In x (filter test xs)
unfolding In
filter_in test x [] i h = absurd i
filter_in test x (y ∷ ys) (inl same) h = subst (In x) (sym (cond-true _ _ _ (ap test same ∙ h))) (inl same)
filter_in test x (y ∷ ys) (inr later) h =
    grind (arith, common_steps, filter_in test x ys later h, cases_Bool, cond-true, cond-false)

pub each_filter : {A : Type 0} (P : A → Type 0) (test : A → Bool) (xs : List A) → Each P xs → Each P (filter test xs)
each_filter P test xs e = in_each P (filter test xs) (λ x i. each_in P xs e x (in_filter test x xs i).0)

pub pairs_filter : {A : Type 0} (R : A → A → Type 0) (test : A → Bool) (xs : List A) → Pairs R xs →
    Pairs R (filter test xs)
unfolding Pairs
pairs_filter R test [] p = p
pairs_filter R test (x ∷ xs) p =
    grind (arith, common_steps, pairs_filter R test xs p.1, cases_Bool, cond-true, each_filter, cond-false)

-- ---- the order

pub line_total : IsTotalOrder border_line_cmp
unfolding border_line_cmp
line_total = then_total (on_total (λ (e : BorderLine). time_rank e.time) nat_cmp_total)
    (on_total (λ (e : BorderLine). e.cell) cell_total)

abbrev pub Rises : List BorderLine → Type 0
Rises = Pairs (λ d e. border_line_cmp d e ≡ Less)

abbrev pub AreDistinct : List BorderLine → Type 0
AreDistinct = Pairs (λ d e. border_line_cmp d e ≢ Equal)

pub pairs_each : {A : Type 0} (R S : A → A → Type 0) → ((a b : A) → R a b → S a b) → (xs : List A) → Pairs R xs →
    Pairs S xs
unfolding Pairs
pairs_each R S h [] p = p
pairs_each R S h (x ∷ xs) p = (each_map (R x) (S x) (h x) xs p.0, pairs_each R S h xs p.1)

pub rising_distinct : (es : List BorderLine) → Rises es → AreDistinct es
rising_distinct es p = grind (arith, common_steps, pairs_each)

-- ---- a line more

after_line : (o : Ordering) → o ≢ Equal → is_lt o ≡ false → o ≡ Greater
after_line o h1 h2 = grind (arith, common_steps)

turned : (d e : BorderLine) → border_line_cmp d e ≡ Greater → border_line_cmp e d ≡ Less
turned d e h = line_total.antisymm e d ∙ ap ordering_reverse h

put_parts : (x d e : BorderLine) (es : List BorderLine) (b : Bool) →
    (In x (insert_border_line d es) → (d ≡ x) ⊎ In x es) →
    In x (if b then d ∷ e ∷ es else e ∷ insert_border_line d es) → (d ≡ x) ⊎ In x (e ∷ es)
unfolding In
put_parts x d e es true h i = i
put_parts x d e es false h (inl same) = inr (inl same)
put_parts x d e es false h (inr later) = grind (arith, common_steps)

put_back : (x d e : BorderLine) (es : List BorderLine) (b : Bool) →
    ((d ≡ x) ⊎ In x es → In x (insert_border_line d es)) →
    (d ≡ x) ⊎ In x (e ∷ es) → In x (if b then d ∷ e ∷ es else e ∷ insert_border_line d es)
unfolding In
put_back x d e es b h1 h2 = grind (arith, common_steps)

pub in_put : (x d : BorderLine) (es : List BorderLine) → In x (insert_border_line d es) → (d ≡ x) ⊎ In x es
unfolding insert_border_line In
in_put x d [] i = i
in_put x d (e ∷ es) i = put_parts x d e es (is_lt (border_line_cmp d e)) (in_put x d es) i

pub put_in : (x d : BorderLine) (es : List BorderLine) → (d ≡ x) ⊎ In x es → In x (insert_border_line d es)
unfolding insert_border_line In
put_in x d [] i = i
put_in x d (e ∷ es) i = put_back x d e es (is_lt (border_line_cmp d e)) (put_in x d es) i

pub put_rises : (d : BorderLine) (es : List BorderLine) → Rises es → Each (λ e. border_line_cmp d e ≢ Equal) es →
    Rises (insert_border_line d es)
unfolding insert_border_line Each Pairs
put_rises d [] p n = (tt, tt)
put_rises d (e ∷ es) p n = elim (cases_Bool (is_lt (border_line_cmp d e))) [
  | inl holds ↦ grind (arith, common_steps, cond-true, each_map, line_total)
  | inr fails ↦
      grind (arith, common_steps, put_rises d es p.1 n.1, turned, after_line, cond-false, in_each, in_put, each_in)
]

-- ---- lines in order

pub in_ordered : (x : BorderLine) (ds : List BorderLine) → In x (sorted_border_lines ds) → In x ds
unfolding sorted_border_lines In
in_ordered x [] i = i
in_ordered x (d ∷ ds) i = grind (arith, common_steps, in_put, in_ordered x ds)

pub ordered_in : (x : BorderLine) (ds : List BorderLine) → In x ds → In x (sorted_border_lines ds)
unfolding sorted_border_lines In
ordered_in x [] i = i
ordered_in x (d ∷ ds) (inl same) = put_in x d (sorted_border_lines ds) (inl same)
ordered_in x (d ∷ ds) (inr later) = put_in x d (sorted_border_lines ds) (inr (ordered_in x ds later))

pub ordered_rises : (ds : List BorderLine) → AreDistinct ds → Rises (sorted_border_lines ds)
unfolding sorted_border_lines Pairs
ordered_rises [] p = tt
ordered_rises (d ∷ ds) p =
    put_rises d (sorted_border_lines ds) (ordered_rises ds p.1)
    (in_each (λ e. border_line_cmp d e ≢ Equal) (sorted_border_lines ds)
    (λ e i. each_in (λ e. border_line_cmp d e ≢ Equal) ds p.0 e (in_ordered e ds i)))

-- ---- lists that rise and have the same elements are the same

never_before : (d e : BorderLine) → border_line_cmp d e ≡ Less → border_line_cmp e d ≡ Less → ⊥
never_before d e h k = let t = sym h ∙ line_total.antisymm d e ∙ ap ordering_reverse k in cc

pub not_itself : (d : BorderLine) → border_line_cmp d d ≡ Less → ⊥
not_itself d h = never_before d d h h

abbrev Among : List BorderLine → List BorderLine → Type 0
Among xs ys = (x : BorderLine) → In x xs → In x ys

first_same : (d e : BorderLine) (ds es : List BorderLine) → Rises (d ∷ ds) → Rises (e ∷ es) → Among (d ∷ ds) (e ∷ es) →
    Among (e ∷ es) (d ∷ ds) → d ≡ e
unfolding Pairs In
first_same d e ds es p q f g = elim (f d (inl refl)) [
  | inl same ↦ sym same
  | inr later ↦ elim (g e (inl refl)) [
    | inl same ↦ same
    | inr last ↦ absurd (never_before d e (each_in (λ x. border_line_cmp d x ≡ Less) ds p.0 e last)
        (each_in (λ x. border_line_cmp e x ≡ Less) es q.0 d later))
  ]
]

rest_among : (d : BorderLine) (ds es : List BorderLine) → Rises (d ∷ ds) → Among (d ∷ ds) (d ∷ es) → Among ds es
unfolding Pairs In
rest_among d ds es p f x i = grind (arith, common_steps, not_itself, each_in)

pub rising_same : (xs ys : List BorderLine) → Rises xs → Rises ys → Among xs ys → Among ys xs → xs ≡ ys
unfolding Pairs In
rising_same [] [] p q f g = refl
rising_same [] (y ∷ ys) p q f g = absurd (g y (inl refl))
rising_same (x ∷ xs) [] p q f g = absurd (f x (inl refl))
rising_same (x ∷ xs) (y ∷ ys) p q f g =
    let first : x ≡ y = first_same x y xs ys p q f g in
    let q' : Rises (x ∷ ys) = subst (λ z. Rises (z ∷ ys)) (sym first) q in
    let f' : Among (x ∷ xs) (x ∷ ys) = subst (λ z. Among (x ∷ xs) (z ∷ ys)) (sym first) f in
    let g' : Among (x ∷ ys) (x ∷ xs) = subst (λ z. Among (z ∷ ys) (x ∷ xs)) (sym first) g in
    ap₂ (λ a b. a ∷ b) first (rising_same xs ys p.1 q.1 (rest_among x xs ys p f') (rest_among x ys xs q' g'))
