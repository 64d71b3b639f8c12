-- Moments and events that a search for the cells around a box passes over
use Rattle.border_match.proofs.Imports.{Box2, Cell, IsInWindow, IsRising, IsWindowAround, Less, List}
use Rattle.border_match.proofs.Imports.{Moment, Ordering, Some, TimedSignal, Window, arith, below_or_same, cell_cmp}
use Rattle.border_match.proofs.Imports.{common_steps, get_or, ints, length, moment_cmp, moment_of}
use Rattle.border_match.proofs.Imports.{moment_total, pos, same_some, slice_get, slice_get-get_or}
use Rattle.border_match.proofs.Imports.{slice_get_within, ℕ, ℤ, ◌%◌, ◌+ℤ◌, ◌+◌, ◌<◌, ◌∙◌, ◌≡◌, ◌≢◌, ◌≤◌, ◌⊎◌}
use Rattle.lemmas.proofs.Common.{int_equal, int_less, nat_equal, nat_less, same_or_higher, then_less, ◌<ℤ◌, ◌≤ℤ◌}
use Rattle.border_match.specs.Surroundings.{HasNoWindowMomentBetween, IsInOrAroundFromCorner}

-- ---- the order of moments by their parts

-- an earlier time, or at the same time an upper row, or in the same row a column further left
abbrev IsBefore : Moment → Moment → Type 0
IsBefore a b = (a.time < b.time) ⊎ ((a.time ≡ b.time)
    × ((a.cell.y <ℤ b.cell.y) ⊎ ((a.cell.y ≡ b.cell.y) × (a.cell.x <ℤ b.cell.x))))

before : (a b : Moment) → moment_cmp a b ≡ Less → IsBefore a b
unfolding moment_cmp cell_cmp
before a b h = grind (arith, common_steps, then_less, nat_less, nat_equal, int_less, int_equal)

-- ---- the next moment at a cell of a window

up_to_or_after : (a b : ℤ) → (a ≤ℤ b) ⊎ (b <ℤ a)
up_to_or_after a b = grind (arith, ints)

-- a far cell in the window's rows that is not before the first column is behind the last one
behind : (w : Window) (c : Cell) → ¬ IsInWindow w c → w.first.x ≤ℤ c.x → w.first.y ≤ℤ c.y → c.y ≤ℤ w.last.y →
    w.last.x <ℤ c.x
behind w c far left top bottom = grind (arith, common_steps, up_to_or_after)

-- what is to be shown of a moment between two others
abbrev NoneSeen : Window → Moment → Moment → Type 0
NoneSeen w at next = (m : Moment) → m.time % 2 ≡ 1 → IsBefore at m → IsBefore m next → IsInWindow w m.cell → ⊥

far_between : (w : Window) (at next : Moment) → NoneSeen w at next → HasNoWindowMomentBetween w at next
far_between w at next none m after less odd g = none m odd (before at m after) (before m next less) g

-- above the first row the next one is the first cell at the same time
pub above_rows : (w : Window) (at next : Moment) → at.cell.y <ℤ w.first.y → next.time ≡ at.time →
    next.cell.x ≡ w.first.x → next.cell.y ≡ w.first.y → HasNoWindowMomentBetween w at next
above_rows w at next up et ex ey = far_between w at next (λ m odd k h g. grind (arith, ints))

-- in a row before the first column it is the row's first cell
pub before_columns : (w : Window) (at next : Moment) → at.cell.x <ℤ w.first.x → next.time ≡ at.time →
    next.cell.x ≡ w.first.x → next.cell.y ≡ at.cell.y → HasNoWindowMomentBetween w at next
before_columns w at next left et ex ey = far_between w at next (λ m odd k h g. grind (arith, ints))

-- behind the last column it is the first cell of the next row
pub behind_columns : (w : Window) (at next : Moment) → ¬ IsInWindow w at.cell → w.first.x ≤ℤ at.cell.x →
    w.first.y ≤ℤ at.cell.y → at.cell.y ≤ℤ w.last.y → next.time ≡ at.time → next.cell.x ≡ w.first.x →
    next.cell.y ≡ at.cell.y +ℤ pos 1 → HasNoWindowMomentBetween w at next
behind_columns w at next far left top bottom et ex ey = grind (arith, common_steps, behind, far_between, ints)

-- below the last row it is the first cell at the next odd time
pub below_rows : (w : Window) (at next : Moment) → w.last.y <ℤ at.cell.y → next.time ≤ at.time + (1 + at.time % 2) →
    next.cell.x ≡ w.first.x → next.cell.y ≡ w.first.y → HasNoWindowMomentBetween w at next
below_rows w at next down et ex ey = far_between w at next (λ m odd k h g. grind (arith, ints))

-- and behind the last column of the last row too
pub behind_rows : (w : Window) (at next : Moment) → ¬ IsInWindow w at.cell → w.first.x ≤ℤ at.cell.x →
    w.first.y ≤ℤ at.cell.y → at.cell.y ≡ w.last.y → next.time ≤ at.time + (1 + at.time % 2) →
    next.cell.x ≡ w.first.x → next.cell.y ≡ w.first.y → HasNoWindowMomentBetween w at next
behind_rows w at next far left top last et ex ey = grind (arith, common_steps, behind, ints, far_between)

-- ---- places of events

-- the events from a place on and before another one are before the moment
abbrev pub ArePassed : List TimedSignal → ℕ → ℕ → Moment → Type 0
ArePassed events start place at = (i : ℕ) (e : TimedSignal) → start ≤ i → i < place → slice_get events i ≡ Some e →
    moment_cmp e.at at ≡ Less

-- those from a place on are not
abbrev pub AreFrom : List TimedSignal → ℕ → Moment → Type 0
AreFrom events place at = (i : ℕ) (e : TimedSignal) → place ≤ i → slice_get events i ≡ Some e →
    moment_cmp e.at at ≢ Less

-- up to an event that is before the moment all are
pub passed_to : (events : List TimedSignal) (start m : ℕ) (at : Moment) (d : TimedSignal) →
    IsRising moment_cmp moment_of events →
    m < length events → moment_cmp (get_or events m d).at at ≡ Less → ArePassed events start (m + 1) at
passed_to events start m at d rising within less i e from lt got =
    grind (arith, common_steps, slice_get-get_or, below_or_same, moment_total, same_some)

-- from an event on that is not before the moment none is
pub rest_from : (events : List TimedSignal) (m : ℕ) (at : Moment) (d : TimedSignal) →
    IsRising moment_cmp moment_of events →
    m < length events → moment_cmp (get_or events m d).at at ≢ Less → AreFrom events m at
rest_from events m at d rising within not_less i e from got less =
    grind (arith, common_steps, slice_get-get_or, not_less, same_or_higher, moment_total, same_some)

-- there is none behind the end
pub rest_none : (events : List TimedSignal) (m : ℕ) (at : Moment) → length events ≤ m → AreFrom events m at
rest_none events m at end i e from got = grind (arith, common_steps, slice_get_within)

pub not_less : (o p : Ordering) → o ≡ p → o ≢ Less → p ≢ Less
not_less o p same not e = not (same ∙ e)

-- ---- events at far cells

-- a cell around a box is seen in its window
pub seen : (area corner : Box2) (w : Window) (c : Cell) → IsWindowAround area corner w →
    IsInOrAroundFromCorner area corner c → IsInWindow w c
seen area corner w c is g = grind (arith, common_steps, ints)
