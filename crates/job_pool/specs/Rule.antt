-- The desk rule: the invariant of the desk's word and of the views of all its seats, whoever draws; and the effect of
-- each step on the word
use Rattle.std.specs.Prelude.{◌≡◌, ℕ, ◌+◌, ◌-◌, ◌≤◌, max, List, [], ◌∷◌, ◌++◌, map, length, slice_index}
use mathlib.Core.Option.{some}
use lib.ListN.{get_elem?}
use Rattle.atomic_table.specs.Table.{State, Me, Step}
use Rattle.core_book.specs.Draws.{total, IsEachNumberDrawnOnce}
use Rattle.job_pool.specs.Lists.{count_at_least, past_greatest, all_but_last}
use Rattle.job_pool.specs.declared.rule.DeskSize.{DeskSize}
use Rattle.job_pool.specs.declared.rule.View.{View}

-- ---- the rule

-- One view, if there are n numbers and as many were drawn as the word says. It has at most as many draws of n or more
-- as it has places. In a view with one place only the last draw is such a draw. The count that it has seen is above
-- each of its draws and at most the word. A view with no place has nothing
pub record FitsDeskRule (n word : ℕ) (v : View) : Type 0 where
  pub late_within : count_at_least n v.draws ≤ v.places
  pub only_last : v.places ≡ 1 → count_at_least n (all_but_last v.draws) ≡ 0
  pub seen_within : v.seen ≤ word
  pub seen_above : past_greatest v.draws ≤ v.seen
  pub spent : v.places ≡ 0 → (v.draws ≡ []) × (v.seen ≡ 0)

-- the draws of each view
abbrev pub lists_of : List View → List (List ℕ)
lists_of = map (λ v. v.draws)

-- each number below the word was drawn, once; and the places of all views add up to the seats opened
pub record AreNumbersDealt (n seats word : ℕ) (views : List View) : Type 0 where
  pub drawn : IsEachNumberDrawnOnce word (lists_of views)
  pub places : total (λ v. v.places) views ≡ seats
  pub each : (seat : ℕ) (v : View) → get_elem? views seat ≡ some v → FitsDeskRule n word v

-- a desk has one word
abbrev pub MeetsDeskRule : {S : Type 0} → DeskSize → State S View → Type 0
MeetsDeskRule size s = (length s.words ≡ 1) × AreNumbersDealt size.numbers size.seats (slice_index s.words 0) s.views

-- ---- views

-- the view of a seat that drew these numbers, saw the word reach this count, and has this many places
abbrev pub seat_view : List ℕ → ℕ → ℕ → View
seat_view draws seen places = record { draws = draws; seen = seen; places = places }

-- the first seat has all places
abbrev pub opening_view : DeskSize → View
opening_view size = seat_view [] 0 size.seats

-- ---- steps

-- a claim appends what it found
abbrev pub view_after_claim : View → ℕ → View
view_after_claim v found = seat_view (v.draws ++ found ∷ []) (found + 1) v.places

-- a look sees what it found
abbrev pub view_after_look : View → ℕ → View
view_after_look v found = seat_view v.draws found v.places

-- what is found is at least what was seen
abbrev pub IsAfterClaim : {S : Type 0} → Step S → Me S View → ℕ → Me S View → Type 0
IsAfterClaim step before found after =
    (before.0.seen ≤ found) × (after.0 ≡ view_after_claim before.0 found) × (after.1 ≡ before.1)

-- a look finds at least what was seen
abbrev pub IsAfterLook : {S : Type 0} → Step S → Me S View → ℕ → Me S View → Type 0
IsAfterLook step before found after =
    (before.0.seen ≤ found) × (after.0 ≡ view_after_look before.0 found) × (after.1 ≡ before.1)

-- a split gives one place away, to a seat that drew nothing
abbrev pub view_after_split : View → View
view_after_split v = seat_view v.draws v.seen (v.places - 1)

-- a view of no draws with the place that is given away
abbrev pub split_off_view : View → View
split_off_view v = seat_view [] 0 1

-- a join puts two lists in one, and the other seat is spent
abbrev pub joined_view : View → View → View
joined_view v w = seat_view (v.draws ++ w.draws) (max v.seen w.seen) (v.places + w.places)

-- the view without draws and places
abbrev pub spent_view : View
spent_view = seat_view [] 0 0

-- ---- the end

-- one view has all places, and so all draws
pub record HasAllPlaces (n seats word : ℕ) (v : View) : Type 0 where
  pub places : v.places ≡ seats
  pub drawn : IsEachNumberDrawnOnce word (v.draws ∷ [])
  pub bounded : word ≤ n + seats
