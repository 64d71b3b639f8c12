-- The steps of the planes are those of the definition
use Rattle.local_run.proofs.Imports.{Bool, Box2, HasWordsStrideRows, IsOutsideBoxFromHalo, IsRunReady, JobView, Planes}
use Rattle.local_run.proofs.Imports.{ShowsRunAt, State, Valuation, Values, and_from, and_parts, ap, ap₂, arith}
use Rattle.local_run.proofs.Imports.{assignments, box_coord, by_eq_or_not, by_lt_or_le, cases_Bool, common_steps}
use Rattle.local_run.proofs.Imports.{cond-false, cond-true, eq-eqb, false, false≢true, halo_coord, in_box, in_halo}
use Rattle.local_run.proofs.Imports.{in_span, in_span-negsuc, ints, is_live, job_start, lane, local_run, ne_eqb, negsuc}
use Rattle.local_run.proofs.Imports.{partner, pos, refl, signal_at, span_from, span_parts, step, subst, suc, sym, true}
use Rattle.local_run.proofs.Imports.{valuation, with_halo, zero, ℕ, ℤ, ◌%◌, ◌&&◌, ◌*◌, ◌+ℤ◌, ◌+◌, ◌-ℤ◌, ◌-◌, ◌/◌, ◌<◌}
use Rattle.local_run.proofs.Imports.{◌||◌, ◌∙◌, ◌≡◌, ◌≢◌, ◌≤◌}
use Rattle.lemmas.proofs.Common.{add-one, not_from_false, or-false, pred_pos}
use Rattle.bbm_rule.specs.Rows.{paired_place}
use Rattle.bbm_rule.proofs.BlockRuns.{mate_lt}
use Rattle.bbm_rule.proofs.PairLemmas.{mate_even, mate_odd}
use Rattle.bbm_rule.specs.Plane.{turned}
use Rattle.bbm_rule.proofs.RingTests.{halo_read}
use Rattle.lanes.specs.Lanes.{AreSameInBox}
use Rattle.local_run.specs.Scans.{IsHaloAsSignals}
use Rattle.local_run.proofs.LocalRuns.{local_even, local_odd, stays}
use Rattle.local_run.proofs.Firsts.{inner_in_box}

-- ---- one block
block : (t : ℕ) (s : State) (x y x' y' : ℤ) (a b c d : Bool) → partner t x ≡ x' → partner t y ≡ y' → a ≡ s x y →
    b ≡ s x' y' → c ≡ s x' y → d ≡ s x y' → turned a b c d ≡ step t s x y
unfolding step
block t s x y x' y' a b c d ex ey ea eb ec ed = rw (ex, ey, ea, eb, ec, ed) refl

up_pos : (t n : ℕ) → n % 2 ≡ t % 2 → partner t (pos n) ≡ pos (1 + n)
unfolding partner
up_pos t n e = cond-true _ _ _ (eq-eqb (n % 2) (t % 2) e) ∙ omega (arith, ints)

down_pos : (t n : ℕ) → n % 2 ≢ t % 2 → partner t (pos n) ≡ pos n -ℤ pos 1
unfolding partner
down_pos t n e = cond-false _ _ _ (ne_eqb (n % 2) (t % 2) e)

up_last : (t : ℕ) → t % 2 ≡ 1 → partner t (negsuc 0) ≡ pos 0
unfolding partner
up_last t e = cond-true _ _ _ (eq-eqb 1 (t % 2) (sym e)) ∙ omega (arith, ints)

less_plus : (n : ℕ) → pos (1 + n) -ℤ pos 1 ≡ pos n
less_plus n = omega (arith, ints)

less_none : pos 0 -ℤ pos 1 ≡ negsuc 0
less_none = omega (arith, ints)

partner_inner : (c t x : ℕ) → c % 2 ≡ 0 → t % 2 ≡ 0 → partner t (box_coord c x) ≡ box_coord c (paired_place x)
unfolding box_coord
partner_inner c t x ec et = by_eq_or_not (x % 2) 0
    (λ e. grind (arith, common_steps, mate_even, up_pos))
    (λ o. let p : 1 + (x - 1) ≡ x = omega arith in
    let m : paired_place x ≡ x - 1 = ap paired_place (sym p) ∙ mate_odd (x - 1) (omega arith) in
    let q : c + x ≡ 1 + (c + paired_place x) = omega arith in
    down_pos t (c + x) (omega arith) ∙ ap (λ n. pos n -ℤ pos 1) q ∙ less_plus (c + paired_place x))

outer_up : (t n : ℕ) → t % 2 ≡ 1 → n % 2 ≡ 0 → partner t (pos n -ℤ pos 1) ≡ pos (1 + n) -ℤ pos 1
outer_up t zero et en = ap (partner t) less_none ∙ up_last t et ∙ sym (less_plus 0)
outer_up t (suc m) et en = grind (arith, common_steps, pred_pos, up_pos, less_plus)

outer_down : (t n : ℕ) → t % 2 ≡ 1 → n % 2 ≡ 0 → partner t (pos (1 + n) -ℤ pos 1) ≡ pos n -ℤ pos 1
outer_down t n et en = ap (partner t) (less_plus n) ∙ down_pos t n (omega arith)

partner_outer : (c t x : ℕ) → c % 2 ≡ 0 → t % 2 ≡ 1 → partner t (halo_coord c x) ≡ halo_coord c (paired_place x)
unfolding halo_coord
partner_outer c t x ec et = by_eq_or_not (x % 2) 0
    (λ e. grind (arith, common_steps, mate_even, outer_up))
    (λ o. let p : 1 + (x - 1) ≡ x = omega arith in
    let m : paired_place x ≡ x - 1 = ap paired_place (sym p) ∙ mate_odd (x - 1) (omega arith) in
    let q : c + x ≡ 1 + (c + paired_place x) = omega arith in
    ap (λ n. partner t (pos n -ℤ pos 1)) q ∙ outer_down t (c + paired_place x) et (omega arith))

pub outer_inner : (c x : ℕ) → halo_coord c (1 + x) ≡ box_coord c x
unfolding halo_coord box_coord
outer_inner c x = omega (arith, ints)

-- ---- the run of the definition
run_even : (j : JobView) (u : Valuation) (t : ℕ) (x y : ℤ) → t % 2 ≡ 0 →
    local_run j u (t + 1) x y ≡ step t (local_run j u t) x y
unfolding local_run
run_even j u t x y e = ap (λ n. local_run j u n x y) (add-one t) ∙ local_even j u t _ x y e

run_odd : (j : JobView) (u : Valuation) (t : ℕ) (x y : ℤ) → t % 2 ≡ 1 → in_box j.area x y ≡ true →
    local_run j u (t + 1) x y ≡ step t (with_halo j u t (local_run j u t)) x y
unfolding local_run
run_odd j u t x y e h = ap (λ n. local_run j u n x y) (add-one t) ∙ local_odd j u t _ x y e
    ∙ ap (λ p. p && step t (with_halo j u t (local_run j u t)) x y) h

-- ---- an even step
pub even_shows : (j : JobView) (vs : Values) (t : ℕ) (p q : Planes) → IsRunReady j vs → t % 2 ≡ 0 →
    ShowsRunAt j vs t p → HasWordsStrideRows p.words p.stride p.rows q →
    ((a x y : ℕ) → a < 64 * p.words → x + 2 < 2 * p.stride → y + 2 < 2 * p.rows →
    lane q a (1 + x) (1 + y) ≡ turned (lane p a (1 + x) (1 + y)) (lane p a (1 + paired_place x) (1 + paired_place y))
    (lane p a (1 + paired_place x) (1 + y)) (lane p a (1 + x) (1 + paired_place y))) → ShowsRunAt j vs (t + 1) q
even_shows j vs t p q ready even shows size turns = record {
  size = (size.0 ∙ shows.size.0, size.1 ∙ shows.size.1, size.2 ∙ shows.size.2);
  cells = λ a x y la lx ly.
      let u : Valuation = valuation vs a in
      let room = ready.room in
      let count = ready.count in
      let ew = ready.job.even.w in
      let eh = ready.job.even.h in
      let s0 = shows.size.0 in
      let s1 = shows.size.1 in
      let s2 = shows.size.2 in
      let mx : paired_place x < j.area.w = mate_lt x j.area.w ew lx in
      let my : paired_place y < j.area.h = mate_lt y j.area.h eh ly in
      turns a x y (omega arith) (omega arith) (omega arith)
      ∙ block t (local_run j u t) (box_coord j.area.x x) (box_coord j.area.y y) (box_coord j.area.x (paired_place x))
      (box_coord j.area.y (paired_place y)) _ _ _ _
      (partner_inner j.area.x t x ready.job.even.x even) (partner_inner j.area.y t y ready.job.even.y even)
      (shows.cells a x y la lx ly) (shows.cells a (paired_place x) (paired_place y) la mx my)
      (shows.cells a (paired_place x) y la mx ly)
      (shows.cells a x (paired_place y) la lx my)
      ∙ sym (run_even j u t _ _ even);
}

-- the cells of the box stayed
pub inside_shows : (j : JobView) (vs : Values) (t : ℕ) (p q : Planes) → IsRunReady j vs → ShowsRunAt j vs t p →
    HasWordsStrideRows p.words p.stride p.rows q → AreSameInBox p q → ShowsRunAt j vs t q
inside_shows j vs t p q ready shows size same = grind (arith, common_steps)

-- ---- an odd step
pub odd_shows : (j : JobView) (vs : Values) (t : ℕ) (p q : Planes) → IsRunReady j vs → t % 2 ≡ 1 →
    HasWordsStrideRows vs.words (j.area.w / 2 + 1) (j.area.h / 2 + 1) p →
    ((a x y : ℕ) → a < assignments j → x < j.area.w + 2 → y < j.area.h + 2 →
    lane p a x y ≡ with_halo j (valuation vs a) t (local_run j (valuation vs a) t) (halo_coord j.area.x x)
    (halo_coord j.area.y y)) → HasWordsStrideRows p.words p.stride p.rows q →
    ((a x y : ℕ) → a < 64 * p.words → x < 2 * p.stride → y < 2 * p.rows →
    lane q a x y ≡ turned (lane p a x y) (lane p a (paired_place x) (paired_place y)) (lane p a (paired_place x) y)
    (lane p a x (paired_place y))) → ShowsRunAt j vs (t + 1) q
odd_shows j vs t p q ready odd sized halo size turns = record {
  size = (size.0 ∙ sized.0, size.1 ∙ sized.1, size.2 ∙ sized.2);
  cells = λ a x y la lx ly.
      let u : Valuation = valuation vs a in
      let s : State = with_halo j u t (local_run j u t) in
      let room = ready.room in
      let count = ready.count in
      let ew = ready.job.even.w in
      let eh = ready.job.even.h in
      let s0 = sized.0 in
      let s1 = sized.1 in
      let s2 = sized.2 in
      let bx : 1 + x < j.area.w + 2 = omega arith in
      let by : 1 + y < j.area.h + 2 = omega arith in
      let mx : paired_place (1 + x) < j.area.w + 2 = mate_lt (1 + x) (j.area.w + 2) (omega arith) bx in
      let my : paired_place (1 + y) < j.area.h + 2 = mate_lt (1 + y) (j.area.h + 2) (omega arith) by in
      turns a (1 + x) (1 + y) (omega arith) (omega arith) (omega arith)
      ∙ block t s (halo_coord j.area.x (1 + x)) (halo_coord j.area.y (1 + y))
      (halo_coord j.area.x (paired_place (1 + x)))
      (halo_coord j.area.y (paired_place (1 + y))) _ _ _ _
      (partner_outer j.area.x t (1 + x) ready.job.even.x odd) (partner_outer j.area.y t (1 + y) ready.job.even.y odd)
      (halo a (1 + x) (1 + y) la bx by) (halo a (paired_place (1 + x)) (paired_place (1 + y)) la mx my)
      (halo a (paired_place (1 + x)) (1 + y) la mx by) (halo a (1 + x) (paired_place (1 + y)) la bx my)
      ∙ ap₂ (step t s) (outer_inner j.area.x x) (outer_inner j.area.y y)
      ∙ sym (run_odd j u t _ _ odd (inner_in_box j.area x y lx ly));
}

-- ---- the cells around the box
span_outer_parts : (c n x : ℕ) → in_span c n (halo_coord c x) ≡ true → (1 ≤ x) × (x ≤ n)
unfolding halo_coord
span_outer_parts c n x h = grind (arith, common_steps, false≢true, less_none, in_span-negsuc, span_parts, pred_pos)

pub box_out : (b : Box2) (x y : ℕ) → IsOutsideBoxFromHalo b x y → in_box b (halo_coord b.x x) (halo_coord b.y y) ≡ false
unfolding in_box
box_out b x y m = grind (arith, common_steps, cases_Bool, and_parts, span_outer_parts)

or_first : (a b c : Bool) → a ≡ true → (a || b || c) ≡ true
or_first a b c e = grind arith

or_second : (a b c : Bool) → b ≡ true → (a || b || c) ≡ true
or_second a b c e = grind arith

or_third : (a b c : Bool) → c ≡ true → (a || b || c) ≡ true
or_third a b c e = grind arith

less_two : (n : ℕ) → pos (2 + n) -ℤ pos 1 -ℤ pos 1 ≡ pos n
less_two n = omega (arith, ints)

less_more : (n : ℕ) → pos n -ℤ pos 1 +ℤ pos 1 ≡ pos n
less_more n = omega (arith, ints)

near_span : (c n x : ℕ) → x < n + 2 → 2 ≤ n →
    (in_span c n (halo_coord c x -ℤ pos 1) || in_span c n (halo_coord c x) || in_span c n (halo_coord c x +ℤ pos 1))
    ≡ true
unfolding halo_coord
near_span c n x l two = grind (
  arith,
  common_steps,
  by_lt_or_le,
  or_first,
  less_two,
  span_from,
  by_eq_or_not,
  or_third,
  less_more,
  or_second,
  less_plus,
)

margin_halo : (b : Box2) (x y : ℕ) → 2 ≤ b.w → 2 ≤ b.h → x < b.w + 2 → y < b.h + 2 → IsOutsideBoxFromHalo b x y →
    in_halo b (halo_coord b.x x) (halo_coord b.y y) ≡ true
margin_halo b x y tw th lx ly m =
    sym (halo_read b (halo_coord b.x x) (halo_coord b.y y) _ _ _ refl refl refl)
    ∙ and_from _ _ (not_from_false _ (box_out b x y m))
    (and_from _ _ (near_span b.x b.w x lx tw) (near_span b.y b.h y ly th))

pub with_halo_inside : (j : JobView) (u : Valuation) (t : ℕ) (s : State) (x y : ℤ) → in_box j.area x y ≡ true →
    with_halo j u t s x y ≡ s x y
unfolding with_halo in_halo
with_halo_inside j u t s x y h = grind (arith, common_steps, or-false)

pub with_halo_outside : (j : JobView) (u : Valuation) (t : ℕ) (s : State) (x y : ℤ) → s x y ≡ false →
    in_halo j.area x y ≡ true → with_halo j u t s x y ≡ is_live u (signal_at j.halos t x y)
unfolding with_halo
with_halo_outside j u t s x y dead h = grind (arith, common_steps)

pub halo_cells : (j : JobView) (vs : Values) (t : ℕ) (p : Planes) → IsRunReady j vs → ShowsRunAt j vs t p →
    IsHaloAsSignals j vs t p → (a x y : ℕ) → a < assignments j → x < j.area.w + 2 → y < j.area.h + 2 →
    lane p a x y ≡ with_halo j (valuation vs a) t (local_run j (valuation vs a) t) (halo_coord j.area.x x)
    (halo_coord j.area.y y)
halo_cells j vs t p ready shows halo a x y la lx ly =
    by_lt_or_le x 1 (λ l. margin (λ m. no_less l m.0)) (λ x1.
    by_lt_or_le j.area.w x (λ l. margin (λ m. no_less l m.1)) (λ xw.
    by_lt_or_le y 1 (λ l. margin (λ m. no_less l m.2)) (λ y1.
    by_lt_or_le j.area.h y (λ l. margin (λ m. no_less l m.3)) (λ yh.
    let ex : 1 + (x - 1) ≡ x = omega arith in
    let ey : 1 + (y - 1) ≡ y = omega arith in
    subst (λ (m : ℕ). lane p a m y ≡ s (halo_coord j.area.x m) (halo_coord j.area.y y)) ex
    (subst (λ (m : ℕ). lane p a (1 + (x - 1)) m ≡ s (halo_coord j.area.x (1 + (x - 1))) (halo_coord j.area.y m)) ey
    (inside (x - 1) (y - 1) (omega arith) (omega arith)))))))
  where
    u : Valuation
    u = valuation vs a

    s : State
    s = with_halo j u t (local_run j u t)

    no_less : {m n : ℕ} → m < n → n ≤ m → ⊥
    no_less l h = omega arith

    margin : IsOutsideBoxFromHalo j.area x y → lane p a x y ≡ s (halo_coord j.area.x x) (halo_coord j.area.y y)
    margin m = halo x y lx ly a la m
        ∙ sym (with_halo_outside j u t (local_run j u t) _ _ (stays j u t ready.job _ _ (box_out j.area x y m))
        (margin_halo j.area x y ready.job.width.0 ready.job.height.0 lx ly m))

    inside : (x0 y0 : ℕ) → x0 < j.area.w → y0 < j.area.h →
        lane p a (1 + x0) (1 + y0) ≡ s (halo_coord j.area.x (1 + x0)) (halo_coord j.area.y (1 + y0))
    inside x0 y0 l0 l1 = shows.cells a x0 y0 la l0 l1
        ∙ sym (with_halo_inside j u t (local_run j u t) _ _ (inner_in_box j.area x0 y0 l0 l1))
        ∙ sym (ap₂ s (outer_inner j.area.x x0) (outer_inner j.area.y y0))

pub run_start : (j : JobView) (u : Valuation) (x y : ℤ) → is_live u (job_start j x y) ≡ local_run j u 0 x y
unfolding local_run
run_start j u x y = refl
