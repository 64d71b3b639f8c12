-- Boards that run on the plane.
use Rattle.pattern.proofs.Imports.{Bool, Cell, EndsWithCells, IsDeadOutside, LayoutHeader, LeavesLayoutAt, List}
use Rattle.pattern.proofs.Imports.{Pattern, State}
use Rattle.pattern.proofs.Imports.{ap, arith, common_steps, false, get_or, in_cells, in_layout, inside_is_span, length}
use Rattle.pattern.proofs.Imports.{live, live_cells, refl, run, start, subst, sym, true, ℕ, ℤ, ◌+◌, ◌<◌, ◌∙◌, ◌≡◌, ◌≤◌}
use Rattle.lemmas.proofs.Common.{OnErr, OnOk, Result, add-one, cases_lt, is_err, list_any_at}
use Rattle.bbm_rule.specs.Plane.{step}
use Rattle.bbm_rule.specs.Board.{Board, is_inside, IsStep, LeavesBoard}
use Rattle.bbm_rule.proofs.Boards.{live_is_inside}
use Rattle.pattern.specs.Run.{RunsInside, RunFirstLeavesAt}

pub same_state : {s s' : State} → ((x y : ℤ) → s x y ≡ s' x y) → s ≡ s'
same_state e = λ i x y. e x y i

pub inside_is_layout : (b : Board) (s : LayoutHeader) → b.width ≡ s.w → b.height ≡ s.h → (x y : ℤ) →
    is_inside b x y ≡ in_layout s x y
inside_is_layout b s w h x y = inside_is_span b x y ∙ rw (w, h) refl

pub board_stays : (b : Board) (s : LayoutHeader) → b.width ≡ s.w → b.height ≡ s.h → IsDeadOutside s (live b)
board_stays b s w h = λ x y e. sym (inside_is_layout b s w h x y) ∙ live_is_inside b x y e

-- ---- steps

pub run_none : (s : State) → run s 0 ≡ s
unfolding run
run_none s = refl

run_more : (s : State) (t : ℕ) → run s (t + 1) ≡ step t (run s t)
unfolding run
run_more s t = rw (add-one) refl

pub stepped : (first : State) (t : ℕ) (old new : Board) → ((x y : ℤ) → live old x y ≡ run first t x y) →
    IsStep t old new → (x y : ℤ) → live new x y ≡ run first (t + 1) x y
stepped first t old new same made x y =
    made x y ∙ ap (λ (s : State). step t s x y) (same_state same) ∙ ap (λ (s : State). s x y) (sym (run_more first t))

pub stays_none : (b : Board) (s : LayoutHeader) → b.width ≡ s.w → b.height ≡ s.h → (k : ℕ) → k ≤ 0 →
    IsDeadOutside s (run (live b) k)
stays_none b s w h k le =
    let e : k ≡ 0 = omega arith in
    subst (λ (m : ℕ). IsDeadOutside s (run (live b) m)) (sym e)
    (subst (IsDeadOutside s) (sym (run_none (live b))) (board_stays b s w h))

pub stays_more : (first : State) (t : ℕ) (new : Board) (s : LayoutHeader) → new.width ≡ s.w → new.height ≡ s.h →
    ((x y : ℤ) → live new x y ≡ run first (t + 1) x y) → ((k : ℕ) → k ≤ t → IsDeadOutside s (run first k)) → (k : ℕ) →
    k ≤ t + 1 → IsDeadOutside s (run first k)
stays_more first t new s w h same stays k le = grind (arith, common_steps, cases_lt, same_state, board_stays)

pub run_leaves : (first : State) (t : ℕ) (old : Board) (s : LayoutHeader) → old.width ≡ s.w → old.height ≡ s.h →
    t + 1 ≤ s.steps → ((x y : ℤ) → live old x y ≡ run first t x y) → ((k : ℕ) → k ≤ t → IsDeadOutside s (run first k)) →
    LeavesBoard t old → RunFirstLeavesAt s first (t + 1)
run_leaves first t old s w h within same stays leaves =
    grind (arith, common_steps, run_more, same_state, inside_is_layout)

pub runs_inside : (first : State) (t : ℕ) (last : Board) (s : LayoutHeader) → t ≡ s.steps →
    ((x y : ℤ) → live last x y ≡ run first t x y) → ((k : ℕ) → k ≤ t → IsDeadOutside s (run first k)) →
    RunsInside s first (live last)
runs_inside first t last s e same stays = grind (arith, common_steps)

-- ---- the cells that are set

pub among : (cells : List Cell) (i : ℕ) (d : Cell) → i < length cells →
    in_cells cells (get_or cells i d).x (get_or cells i d).y ≡ true
among cells i d lt = grind (arith, common_steps, list_any_at)

-- ---- the end of the run

pub leaves_at : (p : Pattern) (on : List ℕ → Bool) (g : Board) (k : ℕ) → ((x y : ℤ) → live g x y ≡ start p on x y) →
    RunFirstLeavesAt p.size (live g) k → LeavesLayoutAt p on k
leaves_at p on g k same leaves = subst (λ (s : State). RunFirstLeavesAt p.size s k) (same_state same) leaves

pub ends_with : (p : Pattern) (on : List ℕ → Bool) (g g' : Board) (cells : List Cell) →
    ((x y : ℤ) → live g x y ≡ start p on x y) → RunsInside p.size (live g) (live g') →
    cells ≡ live_cells p.size (live g') → EndsWithCells p on cells
ends_with p on g g' cells same runs e = grind (arith, common_steps, same_state)

-- ---- results

pub at_err : {T E : Type 0} (r : Result T E) (P : Type 0) → OnErr r P → is_err r ≡ true → P
at_err r P h1 h2 = grind (arith, common_steps)

pub at_ok : {T E : Type 0} (r : Result T E) (P : Type 0) → OnOk r P → is_err r ≡ false → P
at_ok r P h1 h2 = grind (arith, common_steps)
