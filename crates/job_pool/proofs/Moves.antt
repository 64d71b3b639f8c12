-- Each step keeps the rule.
use Rattle.std.proofs.lemmas.Grind.{common_steps}
use Rattle.job_pool.proofs.Imports.{AreNumbersDealt, HasAllPlaces, IsEachNumberDrawnOnce, List, View, [], ap, arith}
use Rattle.job_pool.proofs.Imports.{at_map, count_at_least}
use Rattle.job_pool.proofs.Imports.{get_or, length, map-append, nat_tests, occurrences, refl, set, subst, suc, sym}
use Rattle.job_pool.proofs.Imports.{total, seat_view, ℕ, ◌++◌, ◌+◌, ◌-◌, ◌<◌, ◌∙◌, ◌∷◌, ◌≡◌, ◌≢◌, ◌≤◌}
use Rattle.lemmas.proofs.Common.{◌%◌, ◌^◌, get_or-set_same, ⊎_elim, map-set, mod-eq_of_lt}
use Rattle.std.proofs.Math.ListN.{length-set}
use Rattle.atomic_table.specs.Table.{State, Me, keeps, step, Allows, Splits, Joins}
use Rattle.atomic_table.proofs.Lists.{at_set, at_snoc, set_else, set_again}
use Rattle.job_pool.specs.declared.rule.DeskSize.{DeskSize}
use Rattle.job_pool.specs.Rule.{FitsDeskRule, IsAfterClaim, IsAfterLook, MeetsDeskRule, joined_view, lists_of}
use Rattle.job_pool.specs.Rule.{spent_view, split_off_view, view_after_claim, view_after_look, view_after_split}
use Rattle.job_pool.proofs.Sums.{total_set, total_snoc, total-map, total_le, at_le, count_at_least-append}
use Rattle.job_pool.proofs.Sums.{past_greatest-append, front-snoc, late_in_all, draw_keeps, merge_keeps, empty_keeps}
use mathlib.Core.Option.{some, none}
use lib.ListN.{get_elem?}

-- the word is at most the numbers and the seats together
pub bound : (n seats word : ℕ) (views : List View) → AreNumbersDealt n seats word views → word ≤ n + seats
bound n seats word views r =
    let a = total_le (λ (v : View). count_at_least n v.draws) (λ v. v.places) views
    (λ i v at. (r.each i v at).late_within) in
    let b = late_in_all word (lists_of views) r.drawn n in
    let c = total-map (count_at_least n) (λ (v : View). v.draws) views in
    let p = r.places in
    omega arith

-- one view changed: the others still fit, since the word never falls
fits_set : (n word now id : ℕ) (views : List View) (w : View) → word ≤ now →
    ((j : ℕ) (v : View) → get_elem? views j ≡ some v → FitsDeskRule n word v) → FitsDeskRule n now w →
    (j : ℕ) (v : View) → get_elem? (set views id w) j ≡ some v → FitsDeskRule n now v
fits_set n word now id views w le others mine j v at =
    ⊎_elim
    (λ (x : (j ≡ id) × (w ≡ v)). subst (FitsDeskRule n now) x.1 mine)
    (λ (x : (j ≢ id) × (get_elem? views j ≡ some v)). let f = others j v x.1 in let s = f.seen_within in record {
      late_within = f.late_within;
      only_last = f.only_last;
      seen_within = omega arith;
      seen_above = f.seen_above;
      spent = f.spent;
    })
    (at_set views id j w v at)

fits_drew : (n word : ℕ) (v : View) → v.places ≡ 1 → count_at_least n v.draws ≡ 0 → FitsDeskRule n word v →
    FitsDeskRule n (suc word) (view_after_claim v word)
fits_drew n word v one clear f = record {
  late_within = let a = count_at_least-append n v.draws (word ∷ []) in grind (arith, nat_tests);
  only_last = λ _. ap (count_at_least n) (front-snoc v.draws word) ∙ clear;
  seen_within = omega arith;
  seen_above = let a = past_greatest-append v.draws (word ∷ []) in let s = f.seen_within in let t = f.seen_above in
      omega arith;
  spent = λ z. absurd (omega arith);
}

-- the lists after a change of one view
lists_set : (views : List View) (id : ℕ) (w : View) → lists_of (set views id w) ≡ set (lists_of views) id w.draws
lists_set views id w = map-set (λ (v : View). v.draws) views id w

at_lists : (views : List View) (id : ℕ) (v : View) → get_elem? views id ≡ some v →
    get_elem? (lists_of views) id ≡ some v.draws
at_lists views id v at = at_map (λ (v : View). v.draws) views id v at

-- a change that leaves the seat's list
same_lists : (views : List View) (id : ℕ) (v w : View) → get_elem? views id ≡ some v → w.draws ≡ v.draws →
    lists_of (set views id w) ≡ lists_of views
same_lists views id v w at same = grind (arith, common_steps, lists_set, set, set_again, at_lists)

pub claim_keeps : (n seats word id : ℕ) (views : List View) (v : View) → get_elem? views id ≡ some v → v.places ≡ 1 →
    count_at_least n v.draws ≡ 0 → AreNumbersDealt n seats word views →
    AreNumbersDealt n seats (suc word) (set views id (view_after_claim v word))
claim_keeps n seats word id views v at one clear r = let w = view_after_claim v word in record {
  drawn = subst (IsEachNumberDrawnOnce (suc word)) (sym (lists_set views id w))
      (draw_keeps word (lists_of views) id v.draws (at_lists views id v at) r.drawn);
  places = let t = total_set (λ (u : View). u.places) views id v w at in let p = r.places in omega arith;
  each = fits_set n word (suc word) id views w (omega arith) r.each (fits_drew n word v one clear (r.each id v at));
}

module _ {S : Type 0} where
  pub claims : (size : DeskSize) (slots id : ℕ) (me : Me S View) → size.numbers + size.seats < 2 ^ 63 →
      me.0.places ≡ 1 →
      count_at_least size.numbers me.0.draws ≡ 0
      → Allows {S = S} (MeetsDeskRule size) slots id me 0 (λ n. (n + 1) % 2 ^ 64)
      (IsAfterClaim (step slots 0 1 0 none) me)
  claims size slots id me small one clear s r wide at fits =
      let word : ℕ = get_or s.words 0 0 in
      let w : View = view_after_claim me.0 word in
      let f = (r.1.each id me.0 at).seen_within in
      let b = bound size.numbers size.seats word s.views r.1 in
      let next : (word + 1) % 2 ^ 64 ≡ suc word = mod-eq_of_lt (omega arith) ∙ omega arith in
      let long = r.0 in
      let here : get_or (set s.words 0 ((word + 1) % 2 ^ 64)) 0 0 ≡ suc word =
      get_or-set_same s.words 0 ((word + 1) % 2 ^ 64) 0 (omega arith) ∙ next in (
        w,
        keeps,
        tt,
        (
          length-set s.words 0 ((word + 1) % 2 ^ 64) ∙ r.0,
          subst (λ k. AreNumbersDealt size.numbers size.seats k (set s.views id w)) (sym here)
              (claim_keeps size.numbers size.seats word id s.views me.0 at one clear r.1),
        ),
        (f, refl, refl),
      )

  unmoved : (size : DeskSize) (s : State S View) (views : List View) → MeetsDeskRule size s →
      ((word : ℕ) → word ≡ get_or s.words 0 0 → AreNumbersDealt size.numbers size.seats word s.views →
      AreNumbersDealt size.numbers size.seats word views) →
      (length s.words ≡ 1) × AreNumbersDealt size.numbers size.seats (get_or s.words 0 0) views
  unmoved size s views r step = (r.0, step (get_or s.words 0 0) refl r.1)

  pub looks : (size : DeskSize) (slots id : ℕ) (me : Me S View) → me.0.places ≡ 1 →
      Allows {S = S} (MeetsDeskRule size) slots id me 0 (λ n. n) (IsAfterLook (step slots 0 0 0 none) me)
  looks size slots id me one s r wide at fits =
      let word : ℕ = get_or s.words 0 0 in
      let w : View = view_after_look me.0 word in
      let f = (r.1.each id me.0 at).seen_within in
      let long = r.0 in
      let here : get_or (set s.words 0 word) 0 0 ≡ word = get_or-set_same s.words 0 word 0 (omega arith) in (
        w,
        keeps,
        tt,
        (
          length-set s.words 0 word ∙ r.0,
          subst (λ k. AreNumbersDealt size.numbers size.seats k (set s.views id w)) (sym here)
              (look_keeps size.numbers size.seats word id s.views me.0 at one r.1),
        ),
        (f, refl, refl),
      )
    where
      fits_saw : (n word : ℕ) (v : View) → v.places ≡ 1 → FitsDeskRule n word v →
          FitsDeskRule n word (view_after_look v word)
      fits_saw n word v one f = record {
        late_within = f.late_within;
        only_last = f.only_last;
        seen_within = omega arith;
        seen_above = let s = f.seen_within in let t = f.seen_above in omega arith;
        spent = λ z. absurd (omega arith);
      }

      look_keeps : (n seats word id : ℕ) (views : List View) (v : View) → get_elem? views id ≡ some v → v.places ≡ 1 →
          AreNumbersDealt n seats word views → AreNumbersDealt n seats word (set views id (view_after_look v word))
      look_keeps n seats word id views v at one r = let w = view_after_look v word in record {
        drawn = subst (IsEachNumberDrawnOnce word) (sym (same_lists views id v w at refl)) r.drawn;
        places = let t = total_set (λ (u : View). u.places) views id v w at in let p = r.places in omega arith;
        each = fits_set n word word id views w (omega arith) r.each (fits_saw n word v one (r.each id v at));
      }

fits_new : (n word places : ℕ) → FitsDeskRule n word (seat_view [] 0 places)
fits_new n word places = record {
  late_within = omega arith;
  only_last = λ _. refl;
  seen_within = omega arith;
  seen_above = omega arith;
  spent = λ _. (refl, refl);
}

fits_more : (n word : ℕ) (views : List View) (w : View) →
    ((j : ℕ) (v : View) → get_elem? views j ≡ some v → FitsDeskRule n word v) → FitsDeskRule n word w →
    (j : ℕ) (v : View) → get_elem? (views ++ w ∷ []) j ≡ some v → FitsDeskRule n word v
fits_more n word views w others mine j v at =
    ⊎_elim (λ (x : get_elem? views j ≡ some v). others j v x) (λ (x : w ≡ v). subst (FitsDeskRule n word) x mine)
    (at_snoc views w v j at)

split_keeps : (n seats word id p : ℕ) (views : List View) → get_elem? views id ≡ some (seat_view [] 0 p) → 0 < p →
    AreNumbersDealt n seats word views →
    AreNumbersDealt n seats word (set views id (seat_view [] 0 (p - 1)) ++ seat_view [] 0 1 ∷ [])
split_keeps n seats word id p views at some_place r =
    let v = seat_view [] 0 p in
    let w = seat_view [] 0 (p - 1) in
    let u = seat_view [] 0 1 in record {
      drawn = subst (IsEachNumberDrawnOnce word) (sym
          (map-append (λ (v : View). v.draws) (set views id w) (u ∷ [])
          ∙ ap (λ l. l ++ [] ∷ []) (same_lists views id v w at refl))) (empty_keeps word (lists_of views) r.drawn);
      places = let t = total_set (λ (u : View). u.places) views id v w at in let a =
          total_snoc (λ (u : View). u.places) (set views id w) u in let p = r.places in omega arith;
      each = fits_more n word (set views id w) u
          (fits_set n word word id views w (omega arith) r.each (fits_new n word (p - 1))) (fits_new n word 1);
    }

fits_both : (n word : ℕ) (v w : View) → 0 < v.places → 0 < w.places → FitsDeskRule n word v → FitsDeskRule n word w →
    FitsDeskRule n word (joined_view v w)
fits_both n word v w some_place other_place f g = record {
  late_within = let a = count_at_least-append n v.draws w.draws in let x = f.late_within in let y = g.late_within in
      omega arith;
  only_last = λ one. absurd (omega arith);
  seen_within = let x = f.seen_within in let y = g.seen_within in omega arith;
  seen_above = let a = past_greatest-append v.draws w.draws in let x = f.seen_above in let y = g.seen_above in
      omega arith;
  spent = λ z. absurd (omega arith);
}

join_keeps : (n seats word id other : ℕ) (views : List View) (v w : View) → get_elem? views id ≡ some v →
    ¬ (other ≡ id) → get_elem? (set views id (joined_view v w)) other ≡ some w → 0 < v.places → 0 < w.places →
    AreNumbersDealt n seats word views
    → AreNumbersDealt n seats word (set (set views id (joined_view v w)) other spent_view)
join_keeps n seats word id other views v w at apart there some_place other_place r =
    let b = joined_view v w in
    let vs = set views id b in
    let at' : get_elem? views other ≡ some w = sym (set_else views id other b apart) ∙ there in record {
      drawn = subst (IsEachNumberDrawnOnce word) (sym
          (lists_set vs other spent_view ∙ ap (λ l. set l other []) (lists_set views id b)))
          (merge_keeps word (lists_of views) id other v.draws w.draws (at_lists views id v at)
          (subst (λ l. get_elem? l other ≡ some w.draws) (lists_set views id b) (at_lists vs other w there)) r.drawn);
      places = let t = total_set (λ (u : View). u.places) views id v b at in let a =
          total_set (λ (u : View). u.places) vs other w spent_view there in let p = r.places in omega arith;
      each = fits_set n word word other vs spent_view (omega arith)
          (fits_set n word word id views b (omega arith) r.each
          (fits_both n word v w some_place other_place (r.each id v at) (r.each other w at'))) (fits_new n word 0);
    }

module _ {S : Type 0} where
  pub splits : (size : DeskSize) (id p : ℕ) → 0 < p →
      Splits {S = S} (MeetsDeskRule size) id (seat_view [] 0 p) (view_after_split (seat_view [] 0 p))
      (split_off_view (seat_view [] 0 p))
  splits size id p some_place s r at =
      (r.0, split_keeps size.numbers size.seats (get_or s.words 0 0) id p s.views at some_place r.1)

  pub splits_as : (size : DeskSize) (id p : ℕ) (v : View) → v ≡ seat_view [] 0 p → 0 < p →
      Splits {S = S} (MeetsDeskRule size) id v (view_after_split v) (split_off_view v)
  splits_as size id p v is some_place =
      subst (λ u. Splits {S = S} (MeetsDeskRule size) id u (view_after_split u) (split_off_view u)) (sym is)
      (splits size id p some_place)

  pub joins : (size : DeskSize) (id : ℕ) (v : View) (other : ℕ) (w : View) → 0 < v.places → 0 < w.places →
      Joins {S = S} (MeetsDeskRule size) id v other w (joined_view v w) spent_view
  joins size id v other w some_place other_place s r at apart there = (
    r.0,
    join_keeps size.numbers size.seats
        (get_or s.words 0 0) id other s.views v w at apart there some_place other_place r.1,
  )

-- where one view has all places, the others have drawn nothing
nobody_else : (f g : View → ℕ) (views : List View) →
    ((i : ℕ) (v : View) → get_elem? views i ≡ some v → g v ≡ 0 → f v ≡ 0) → total g views ≡ 0 → total f views ≡ 0
nobody_else f g [] each z = refl
nobody_else f g (v ∷ vs) each z = let h = nobody_else f g vs (λ i u e. each (suc i) u e) (omega arith) in let e =
    each 0 v refl (omega arith) in omega arith

only_one : (f : View → ℕ) (views : List View) (id : ℕ) (v : View) → get_elem? views id ≡ some v → f spent_view ≡ 0 →
    ((i : ℕ) (u : View) → get_elem? views i ≡ some u → u.places ≡ 0 → f u ≡ 0) →
    total (λ u. u.places) views ≡ v.places → total f views ≡ f v
only_one f views id v at z each all =
    let t = total_set f views id v spent_view at in
    let p = total_set (λ (u : View). u.places) views id v spent_view at in
    let h = nobody_else f (λ (u : View). u.places) (set views id spent_view) still (omega arith) in
    omega arith
  where
    still : (i : ℕ) (u : View) → get_elem? (set views id spent_view) i ≡ some u → u.places ≡ 0 → f u ≡ 0
    still i u e p = ⊎_elim (λ (x : (i ≡ id) × (spent_view ≡ u)). ap f (sym x.1) ∙ z)
        (λ (x : (i ≢ id) × (get_elem? views i ≡ some u)). each i u x.1 p) (at_set views id i spent_view u e)

pub ends : (n seats word id : ℕ) (views : List View) (v : View) → AreNumbersDealt n seats word views →
    get_elem? views id ≡ some v → seats ≤ v.places → HasAllPlaces n seats word v
ends n seats word id views v r at enough =
    let p = r.places in
    let q = at_le (λ (u : View). u.places) views id v at in
    let all : total (λ (u : View). u.places) views ≡ v.places = omega arith in
    record {
      places = omega arith;
      drawn = record {
        whole = let o = only_one (λ u. length u.draws) views id v at refl
            (λ i u e z. ap length ((r.each i u e).spent z).0) all in let m =
            total-map length (λ (u : View). u.draws) views in let w = r.drawn.whole in omega arith;
        once = λ x. let o = only_one (λ u. occurrences x u.draws) views id v at refl
            (λ i u e z. ap (occurrences x) ((r.each i u e).spent z).0) all in let m =
            total-map (occurrences x) (λ (u : View). u.draws) views in let w = r.drawn.once x in omega arith;
      };
      bounded = bound n seats word views r;
    }
