-- The board that the rows of a grid stand for.
use Rattle.bbm_rule.proofs.Imports.{Board, List, TurnsRows, and-false, ap, arith, board, cell_at, common_steps}
use Rattle.bbm_rule.proofs.Imports.{div-add-mod, div-mul-add, false, inl, inr, is_board_cell, is_inside, live}
use Rattle.bbm_rule.proofs.Imports.{mod-mul-add, mul-le-mul_right, not_lt_test, paired_place, pos, refl, step, suc, sym}
use Rattle.bbm_rule.proofs.Imports.{true, turned, zero, ℕ, ◌%◌, ◌*◌, ◌+◌, ◌-◌, ◌/◌, ◌<◌, ◌∙◌, ◌≡◌, ◌≤◌}
use Rattle.lemmas.proofs.Common.{nat_le, div_below, get_or-map-range_with_len, mod_below, mul-le-mul_left, lt_test}
use Rattle.lemmas.proofs.Common.{not_le_test}
use Rattle.bbm_rule.specs.Rows.{HasLiveMargin, HasDeadMargin}
use Rattle.bbm_rule.specs.Board.{IsStep, LeavesBoard}
use Rattle.bbm_rule.proofs.BitLemmas.{by_lt_or_le, by_eq_or_not}
use Rattle.bbm_rule.proofs.PairLemmas.{mate_even, mate_odd}
use Rattle.bbm_rule.proofs.BlockRuns.{mate_lt}
use Rattle.bbm_rule.proofs.PlaneLemmas.{ext, partner-even_pos, partner-odd_ext, far_column, far_row, even_cases}
use Rattle.bbm_rule.proofs.PlaneLemmas.{odd_cases, turned_twice, mate_twice, mate_ge, column_dead, row_dead, dead_block}

-- what the fields of a grid keep, where rows are of s cells
pub record IsPlane (w h s : ℕ) (words : List ℕ) : Type 0 where
  pub width : w % 2 ≡ 0
  pub height : h % 2 ≡ 0
  pub row : s % 2 ≡ 0
  pub room : w + 2 ≤ s
  pub margin : (x y : ℕ) → x < s → is_board_cell w h x y ≡ false → cell_at words (s * y + x) ≡ false

pub not_inner_column : (w h x y : ℕ) → w < x → is_board_cell w h x y ≡ false
not_inner_column w h x y l = rw (not_le_test x w l, and-false (nat_le 1 x)) refl

pub not_inner_row : (w h x y : ℕ) → h < y → is_board_cell w h x y ≡ false
not_inner_row w h x y l = rw (not_le_test y h l) (and-false _)

pub not_inner_first_row : (w h x : ℕ) → is_board_cell w h x 0 ≡ false
not_inner_first_row w h x = grind (arith, common_steps)

pub live_inner : (w h s : ℕ) (words : List ℕ) (x y : ℕ) → x < w → y < h →
    live (board w h s words) (pos x) (pos y) ≡ cell_at words (s * (y + 1) + (x + 1))
live_inner w h s words x y lx ly =
    let within : y * w + x < w * h = below w h x y lx ly in
    let read = get_or-map-range_with_len (λ n. cell_at words (s * (n / w + 1) + (n % w + 1))) 0 (w * h) (y * w + x)
    (y * w + x) false within (omega arith) in
    rw (lt_test x w lx, lt_test y h ly) (read ∙ rw (div-mul-add y w x lx, mod-mul-add y w x lx) refl)
  where
    below : (w h x y : ℕ) → x < w → y < h → y * w + x < w * h
    below w h x y lx ly = let more : (y + 1) * w ≤ h * w = mul-le-mul_right w (omega arith) in omega arith

pub live_ext : (w h s : ℕ) (words : List ℕ) → IsPlane w h s words → (x y : ℕ) → x < s →
    live (board w h s words) (ext x) (ext y) ≡ cell_at words (s * y + x)
live_ext w h s words plane zero y l = sym (plane.margin zero y l refl)
live_ext w h s words plane (suc x) zero l = sym (plane.margin (suc x) zero l (not_inner_first_row w h (suc x)))
live_ext w h s words plane (suc x) (suc y) l =
    grind (arith, common_steps, by_lt_or_le, live_inner, not_inner_row, column_dead, not_inner_column)

-- one cell of the rows after the blocks from place p on are turned, where cells stand `at` their column and row
turned_cell : (p s r : ℕ) (at : ℕ → ℕ → ℕ) (old new : List ℕ) → ((x y : ℕ) → at x y ≡ p + s * y + x) →
    TurnsRows p s r old new → (x y : ℕ) → x < s → y < 2 * r →
    cell_at new (at x y) ≡ turned (cell_at old (at x y)) (cell_at old (at (paired_place x) (paired_place y)))
    (cell_at old (at (paired_place x) y)) (cell_at old (at x (paired_place y)))
turned_cell p s r at old new is rows x y lx ly =
    by_eq_or_not (y % 2) 0 (λ even. at_even (y / 2) (omega arith) (omega arith))
    (λ odd. at_odd (y / 2) (omega arith) (omega arith))
  where
    first : (i j : ℕ) → at j (2 * i) ≡ p + 2 * (i * s) + j
    first i j = is j (2 * i) ∙ omega arith

    second : (i j : ℕ) → at j (1 + 2 * i) ≡ p + 2 * (i * s) + s + j
    second i j = is j (1 + 2 * i) ∙ omega arith

    IsTurned : ℕ → Type 0
    IsTurned y = cell_at new (at x y)
        ≡ turned (cell_at old (at x y)) (cell_at old (at (paired_place x) (paired_place y)))
        (cell_at old (at (paired_place x) y)) (cell_at old (at x (paired_place y)))

    at_even : (i : ℕ) → y ≡ 2 * i → i < r → IsTurned y
    at_even i e l = grind (arith, common_steps, mate_even, first, second)

    at_odd : (i : ℕ) → y ≡ 1 + 2 * i → i < r → IsTurned y
    at_odd i e l = grind (arith, common_steps, mate_odd, first, second)

-- ---- the odd step
aligned_cell : (s r : ℕ) (old new : List ℕ) → TurnsRows 0 s r old new → (x y : ℕ) → x < s → y < 2 * r →
    cell_at new (s * y + x) ≡ turned (cell_at old (s * y + x)) (cell_at old (s * paired_place y + paired_place x))
    (cell_at old (s * y + paired_place x)) (cell_at old (s * paired_place y + x))
aligned_cell s r old new = turned_cell 0 s r (λ x y. s * y + x) old new (λ x y. omega arith)

pub odd_cell : (t w h s r : ℕ) (old new : List ℕ) → t % 2 ≡ 1 → IsPlane w h s old → TurnsRows 0 s r old new →
    2 * r ≡ h + 2 → (x y : ℕ) → x < w + 2 → y < h + 2 →
    step t (live (board w h s old)) (ext x) (ext y) ≡ cell_at new (s * y + x)
unfolding step
odd_cell t w h s r old new at_odd plane rows e x y lx ly =
    let wide : x < s = omega (arith, plane.room) in
    let mx : paired_place x < s = mate_lt x s plane.row wide in
    rw (
      partner-odd_ext t x at_odd,
      partner-odd_ext t y at_odd,
      live_ext w h s old plane x y wide,
      live_ext w h s old plane (paired_place x) y mx,
      live_ext w h s old plane x (paired_place y) wide,
      live_ext w h s old plane (paired_place x) (paired_place y) mx,
    ) (sym (aligned_cell s r old new rows x y wide (omega arith)))

pub odd_plane : (w h s r : ℕ) (old new : List ℕ) → IsPlane w h s old → TurnsRows 0 s r old new → 2 * r ≡ h + 2 →
    HasDeadMargin w h s new → IsPlane w h s new
odd_plane w h s r old new plane rows e dead =
    record { width = plane.width; height = plane.height; row = plane.row; room = plane.room; margin = margin }
  where
    beyond : (x y : ℕ) → x < s → h + 2 ≤ y → is_board_cell w h x y ≡ false → cell_at new (s * y + x) ≡ false
    beyond x y l le outer =
        let high : 2 * r * s ≤ y * s = mul-le-mul_right s (omega arith) in
        rows.after (s * y + x) (omega arith) ∙ plane.margin x y l outer

    right : (x y : ℕ) → x < s → w + 2 ≤ x → y < h + 2 → cell_at new (s * y + x) ≡ false
    right x y l le ly =
        let ge : w + 2 ≤ paired_place x = mate_ge x (w + 2) (omega (arith, plane.width)) le in
        let mx : paired_place x < s = mate_lt x s plane.row l in
        let none : (y : ℕ) → cell_at old (s * y + x) ≡ false =
        λ y. plane.margin x y l (not_inner_column w h x y (omega arith)) in
        let none' : (y : ℕ) → cell_at old (s * y + paired_place x) ≡ false =
        λ y. plane.margin (paired_place x) y mx (not_inner_column w h (paired_place x) y (omega arith)) in
        aligned_cell s r old new rows x y l (omega arith)
        ∙ rw (none y, none' y, none (paired_place y), none' (paired_place y)) dead_block

    margin : (x y : ℕ) → x < s → is_board_cell w h x y ≡ false → cell_at new (s * y + x) ≡ false
    margin x y l outer = grind (arith, common_steps, beyond, right)

pub odd_step : (t w h s r : ℕ) (old new : List ℕ) → t % 2 ≡ 1 → IsPlane w h s old → IsPlane w h s new →
    TurnsRows 0 s r old new → 2 * r ≡ h + 2 → IsStep t (board w h s old) (board w h s new)
odd_step t w h s r old new at_odd plane plane' rows e u v =
    elim (odd_cases t w u at_odd plane.width) [
      | inr far ↦ column_dead (board w h s new) u v far.own ∙ sym (far_column t (board w h s old) u v far)
      | inl near ↦ elim (odd_cases t h v at_odd plane.height) [
        | inr far ↦ row_dead (board w h s new) u v far.own ∙ sym (far_row t (board w h s old) u v far)
        | inl near' ↦ rw (near.1, near'.1)
            (live_ext w h s new plane' near.0 near'.0 (omega (arith, near.2, plane.room))
            ∙ sym (odd_cell t w h s r old new at_odd plane rows e near.0 near'.0 near.2 near'.2))
      ]
    ]

inner_test : (w h x y : ℕ) → x < w → y < h → is_board_cell w h (suc x) (suc y) ≡ true
inner_test w h x y lx ly = grind (arith, common_steps)

inside_ext : (b : Board) (x y : ℕ) → is_board_cell b.width b.height x y ≡ false → is_inside b (ext x) (ext y) ≡ false
inside_ext b zero y outer = refl
inside_ext b (suc x) zero outer = refl
inside_ext b (suc x) (suc y) outer = grind (arith, common_steps, by_lt_or_le, inner_test, not_lt_test, and-false)

pub odd_leaves : (t w h s r : ℕ) (old new : List ℕ) → t % 2 ≡ 1 → IsPlane w h s old → TurnsRows 0 s r old new →
    2 * r ≡ h + 2 → HasLiveMargin w h s new → LeavesBoard t (board w h s old)
odd_leaves t w h s r old new at_odd plane rows e m = record {
  x = ext m.x;
  y = ext m.y;
  outside = inside_ext (board w h s old) m.x m.y m.outer;
  becomes_live = odd_cell t w h s r old new at_odd plane rows e m.x m.y m.column m.row ∙ m.lives;
}

-- the second turn undoes the first
pub undone : (s r : ℕ) (first second third : List ℕ) → s % 2 ≡ 0 → 0 < s → TurnsRows 0 s r first second →
    TurnsRows 0 s r second third → (p : ℕ) → cell_at third p ≡ cell_at first p
undone s r first second third whole positive one two p =
    by_lt_or_le p (2 * (r * s)) (λ l. inside p l) (λ le. two.after p (omega arith) ∙ one.after p (omega arith))
  where
    at_place : (x y : ℕ) → x < s → y < 2 * r → cell_at third (s * y + x) ≡ cell_at first (s * y + x)
    at_place x y lx ly =
        let mx : paired_place x < s = mate_lt x s whole lx in
        let my : paired_place y < 2 * r = mate_lt y (2 * r) (omega arith) ly in
        let own = aligned_cell s r first second one x y lx ly in
        let across = aligned_cell s r first second one (paired_place x) y mx ly in
        let down = aligned_cell s r first second one x (paired_place y) lx my in
        let opposite = aligned_cell s r first second one (paired_place x) (paired_place y) mx my in
        let across = rw (mate_twice x) at across in
        let down = rw (mate_twice y) at down in
        let opposite = rw (mate_twice x, mate_twice y) at opposite in
        aligned_cell s r second third two x y lx ly
        ∙ rw (own, across, down, opposite)
        (turned_twice (cell_at first (s * y + x)) (cell_at first (s * y + paired_place x))
        (cell_at first (s * paired_place y + x))
        (cell_at first (s * paired_place y + paired_place x)))

    inside : (p : ℕ) → p < 2 * (r * s) → cell_at third p ≡ cell_at first p
    inside p l =
        let place : s * (p / s) + p % s ≡ p = div-add-mod p s in
        let row : p / s < 2 * r = div_below p s (2 * r) positive (omega arith) in
        let column : p % s < s = mod_below p s positive in
        rw place at (at_place (p % s) (p / s) column row)

pub board_same : (w h s : ℕ) (old new : List ℕ) → ((p : ℕ) → cell_at new p ≡ cell_at old p) →
    board w h s new ≡ board w h s old
board_same w h s old new same = grind (arith, common_steps)

pub plane_same : (w h s : ℕ) (old new : List ℕ) → ((p : ℕ) → cell_at new p ≡ cell_at old p) → IsPlane w h s old →
    IsPlane w h s new
plane_same w h s old new same plane = grind (arith, common_steps)

-- ---- the even step
shifted_cell : (s r : ℕ) (old new : List ℕ) → TurnsRows (s + 1) s r old new → (x y : ℕ) → x < s → y < 2 * r →
    cell_at new (s * (y + 1) + (x + 1))
    ≡ turned (cell_at old (s * (y + 1) + (x + 1))) (cell_at old (s * (paired_place y + 1) + (paired_place x + 1)))
    (cell_at old (s * (y + 1) + (paired_place x + 1))) (cell_at old (s * (paired_place y + 1) + (x + 1)))
shifted_cell s r old new = turned_cell (s + 1) s r (λ x y. s * (y + 1) + (x + 1)) old new (λ x y. omega arith)

even_cell : (t w h s r : ℕ) (old new : List ℕ) → t % 2 ≡ 0 → IsPlane w h s old → TurnsRows (s + 1) s r old new →
    2 * r ≡ h → (x y : ℕ) → x < w → y < h →
    step t (live (board w h s old)) (pos x) (pos y) ≡ cell_at new (s * (y + 1) + (x + 1))
unfolding step
even_cell t w h s r old new at_even plane rows e x y lx ly =
    let mx : paired_place x < w = mate_lt x w plane.width lx in
    let my : paired_place y < h = mate_lt y h plane.height ly in
    rw (
      partner-even_pos t x at_even,
      partner-even_pos t y at_even,
      live_inner w h s old x y lx ly,
      live_inner w h s old (paired_place x) y mx ly,
      live_inner w h s old x (paired_place y) lx my,
      live_inner w h s old (paired_place x) (paired_place y) mx my,
    ) (sym (shifted_cell s r old new rows x y (omega (arith, plane.room)) (omega arith)))

pub even_plane : (w h s r : ℕ) (old new : List ℕ) → IsPlane w h s old → TurnsRows (s + 1) s r old new → 2 * r ≡ h →
    IsPlane w h s new
even_plane w h s r old new plane rows e =
    record { width = plane.width; height = plane.height; row = plane.row; room = plane.room; margin = margin }
  where
    -- the columns beyond the board, the last of which is the first of the next row
    dead_from : (j y : ℕ) → w ≤ j → j < s → cell_at old (s * (y + 1) + (j + 1)) ≡ false
    dead_from j y le l =
        by_lt_or_le (j + 1) s
        (λ in_row. plane.margin (j + 1) (y + 1) in_row (not_inner_column w h (j + 1) (y + 1) (omega arith)))
        (λ last.
        let place : s * (y + 1) + (j + 1) ≡ s * (y + 2) + 0 = omega arith in
        rw place (plane.margin 0 (y + 2) (omega (arith, plane.room)) refl))

    still_dead : (j y : ℕ) → w ≤ j → j < s → y < h → cell_at new (s * (y + 1) + (j + 1)) ≡ false
    still_dead j y le l ly =
        let ge : w ≤ paired_place j = mate_ge j w plane.width le in
        let mj : paired_place j < s = mate_lt j s plane.row l in
        shifted_cell s r old new rows j y l (omega arith)
        ∙ rw (
          dead_from j y le l,
          dead_from (paired_place j) y ge mj,
          dead_from j (paired_place y) le l,
          dead_from (paired_place j) (paired_place y) ge mj,
        ) dead_block

    before : (x y : ℕ) → x < s → is_board_cell w h x y ≡ false → s * y + x < s + 1 → cell_at new (s * y + x) ≡ false
    before x y l outer low = rows.before (s * y + x) low ∙ plane.margin x y l outer

    after : (x y : ℕ) → x < s → is_board_cell w h x y ≡ false → s * (h + 1) + 1 ≤ s * y + x →
        cell_at new (s * y + x) ≡ false
    after x y l outer high = let size : s * (h + 1) ≡ s * (2 * r + 1) = ap (λ n. s * (n + 1)) (sym e) in
        rows.after (s * y + x) (omega arith) ∙ plane.margin x y l outer

    higher : (a b : ℕ) → a ≤ b → s * a ≤ s * b
    higher a b le = mul-le-mul_left s le

    first_column : (y : ℕ) → cell_at new (s * y + 0) ≡ false
    first_column zero = before zero zero (omega (arith, plane.room)) refl (omega arith)
    first_column (suc zero) = before zero (suc zero) (omega (arith, plane.room)) refl (omega arith)
    first_column (suc (suc y)) =
        by_lt_or_le y h
        (λ ly.
        let j : ℕ = s - 1 in
        let place : s * suc (suc y) + 0 ≡ s * (y + 1) + (j + 1) = omega (arith, plane.room) in
        rw place (still_dead j y (omega (arith, plane.room)) (omega (arith, plane.room)) ly))
        (λ gy. after zero (suc (suc y)) (omega (arith, plane.room)) refl
        (let more = higher (h + 2) (suc (suc y)) (omega arith) in omega (arith, plane.room)))

    margin : (x y : ℕ) → x < s → is_board_cell w h x y ≡ false → cell_at new (s * y + x) ≡ false
    margin zero y l outer = first_column y
    margin (suc x) zero l outer = before (suc x) zero l outer (omega arith)
    margin (suc x) (suc y) l outer =
        by_lt_or_le y h
        (λ ly. by_lt_or_le x w
        (λ lx. let inner : is_board_cell w h (suc x) (suc y) ≡ true = inner_test w h x y lx ly in cc)
        (λ gx.
        let place : s * suc y + suc x ≡ s * (y + 1) + (x + 1) = omega arith in
        rw place (still_dead x y gx (omega arith) ly)))
        (λ gy. after (suc x) (suc y) l outer (let more = higher (h + 1) (suc y) (omega arith) in omega arith))

pub even_step : (t w h s r : ℕ) (old new : List ℕ) → t % 2 ≡ 0 → IsPlane w h s old → TurnsRows (s + 1) s r old new →
    2 * r ≡ h → IsStep t (board w h s old) (board w h s new)
even_step t w h s r old new at_even plane rows e u v =
    elim (even_cases t w u at_even plane.width) [
      | inr far ↦ column_dead (board w h s new) u v far.own ∙ sym (far_column t (board w h s old) u v far)
      | inl near ↦ elim (even_cases t h v at_even plane.height) [
        | inr far ↦ row_dead (board w h s new) u v far.own ∙ sym (far_row t (board w h s old) u v far)
        | inl near' ↦ grind (arith, common_steps, live_inner, even_cell)
      ]
    ]
