-- The numbers of the modules that have cells of a module's halo, noted box by box.
use Rattle.border_match.proofs.Imports.{AreHaloOwnersListed, AreModuleNumbers, AreOwnersListedInRows}
use Rattle.border_match.proofs.Imports.{AreOwnersListedToColumn, AreReadyBorders, Bool, Borders, Box2, JobView}
use Rattle.border_match.proofs.Imports.{KeepsAllModuleNumbers, List, Some, [], and_parts, ap₂, arith, below_or_from}
use Rattle.border_match.proofs.Imports.{cases_Bool, common_steps, cond-false, cond-true, false, false≢true, in_box}
use Rattle.border_match.proofs.Imports.{in_halo, is_among, jobs_of, length, nat_tests, owner_of, pos, same_some}
use Rattle.border_match.proofs.Imports.{slice_get, subst, sym, true, ℕ, ℤ, ◌++◌, ◌+◌, ◌-◌, ◌<◌, ◌==◌, ◌∙◌, ◌∷◌, ◌≡◌}
use Rattle.border_match.proofs.Imports.{◌≤◌, ◌⊎◌}
use Rattle.lemmas.proofs.Common.{list_any-append, or_cases, or_left, or_right}
use Rattle.border_match.specs.Boards.{AreOutsideOwnersListed, IsOwnerListedIfOutsideBox, with_number_once}
use Rattle.border_match.proofs.Cells.{area_at, cell_placed, halo_out, whole_parts}
use Rattle.bbm_rule.proofs.RingTests.{area_from}

-- ---- one number more

abbrev is_it : ℕ → ℕ → Bool
is_it w v = v == w

pub among_more : (ks : List ℕ) (k w : ℕ) → is_among (ks ++ k ∷ []) w ≡ true → (is_among ks w ≡ true) ⊎ (w ≡ k)
among_more ks k w h = grind (arith, common_steps, or_cases, list_any-append, is_it, nat_tests, false≢true)

keeps_more : (ks : List ℕ) (k : ℕ) → KeepsAllModuleNumbers ks (ks ++ k ∷ [])
keeps_more ks k w h = list_any-append (is_it w) ks (k ∷ []) ∙ or_left (is_among ks w) (is_among (k ∷ []) w) h

last_among : (ks : List ℕ) (k : ℕ) → is_among (ks ++ k ∷ []) k ≡ true
last_among ks k = grind (arith, common_steps, list_any-append, is_it, or_right, or_left, nat_tests)

-- what holds of the old numbers and of those with one more holds of the two by the test
with_either : (P : List ℕ → Type 0) (ks : List ℕ) (k : ℕ) → (is_among ks k ≡ true → P ks) → P (ks ++ k ∷ []) →
    P (with_number_once ks k)
with_either P ks k old more = grind (arith, common_steps, cases_Bool, cond-true, cond-false)

pub with_keeps : (ks new : List ℕ) (k : ℕ) → new ≡ with_number_once ks k → KeepsAllModuleNumbers ks new
with_keeps ks new k is = grind (arith, common_steps, with_either, keeps_more)

pub with_among : (ks new : List ℕ) (k : ℕ) → new ≡ with_number_once ks k → is_among new k ≡ true
with_among ks new k is = grind (arith, common_steps, with_either, last_among)

pub with_below : (b : Borders) (ks new : List ℕ) (k : ℕ) → new ≡ with_number_once ks k → AreModuleNumbers b ks →
    k < length b.jobs.now → AreModuleNumbers b new
with_below b ks new k is below lt = grind (arith, common_steps, with_either)

-- ---- columns and rows

noted_still : (b : Borders) (old new : List ℕ) (x y : ℤ) → KeepsAllModuleNumbers old new →
    IsOwnerListedIfOutsideBox b old x y → IsOwnerListedIfOutsideBox b new x y
noted_still b old new x y keeps noted inside out = keeps _ (noted inside out)

-- the cells of a module's box have that module as their owner
pub owner_noted : (b : Borders) (ks : List ℕ) (k : ℕ) (j : JobView) (a : Box2) → AreReadyBorders b → a ≡ j.area →
    slice_get (jobs_of b) k ≡ Some j → is_among ks k ≡ true → AreOutsideOwnersListed b ks a
owner_noted b ks k j a ready same got among x y inside there out = grind (arith, common_steps)

-- the owner of a cell has the cell in its box
pub owner_holds : (b : Borders) (x y : ℤ) (j : JobView) (a : Box2) → AreReadyBorders b → in_box b.whole x y ≡ true →
    a ≡ j.area → slice_get (jobs_of b) (owner_of b.owners.now x y) ≡ Some j → in_box a x y ≡ true
owner_holds b x y j a ready inside same got = grind (arith, common_steps, same_some)

pub no_column : (b : Borders) (ks : List ℕ) (y z x : ℕ) → x ≡ b.job.now.area.x - 1 → AreOwnersListedToColumn b ks y z x
no_column b ks y z x from c r left lt top under = absurd (omega (arith, lt, left, from))

-- the columns up to the last one of an area that has the cell (x, y), as far down as the area
pub columns_more : (b : Borders) (old new : List ℕ) (y z z' x : ℕ) (a : Box2) (cx cy : ℤ) → cx ≡ pos x → cy ≡ pos y →
    in_box a cx cy ≡ true → z' ≤ z → z' ≤ a.y + a.h → AreOwnersListedToColumn b old y z x →
    KeepsAllModuleNumbers old new → AreOutsideOwnersListed b new a → AreOwnersListedToColumn b new y z' (a.x + a.w)
columns_more b old new y z z' x a cx cy ex ey has le within before keeps here c r left lt top under =
    grind (arith, common_steps, area_at, below_or_from, noted_still, area_from)

-- the columns behind x are outside of the rectangle or of the halo
pub all_columns : (b : Borders) (ks : List ℕ) (y z x : ℕ) → AreReadyBorders b →
    ((c : ℕ) → x ≤ c → c < b.job.now.area.x + b.job.now.area.w + 1 → b.whole.w ≤ c) →
    AreOwnersListedToColumn b ks y z x → AreOwnersListedInRows b ks y z
all_columns b ks y z x ready end before c r left lt top under = grind (arith, common_steps, below_or_from, whole_parts)

pub no_row : (b : Borders) (ks : List ℕ) (y z : ℕ) → z ≡ y → AreOwnersListedInRows b ks y z
no_row b ks y z same c r left lt top under = absurd (omega (arith, top, under, same))

pub rows_more : (b : Borders) (old new : List ℕ) (x y z : ℕ) → AreOwnersListedInRows b old x y →
    KeepsAllModuleNumbers old new → AreOwnersListedInRows b new y z → AreOwnersListedInRows b new x z
rows_more b old new x y z above keeps here c r left lt top under =
    grind (arith, common_steps, below_or_from, noted_still)

-- the rows behind y are outside of the rectangle or of the halo
pub all_rows : (b : Borders) (ks : List ℕ) (y : ℕ) → AreReadyBorders b →
    ((r : ℕ) → y ≤ r → r < b.job.now.area.y + b.job.now.area.h + 1 → b.whole.h ≤ r) →
    AreOwnersListedInRows b ks (b.job.now.area.y - 1) y → AreHaloOwnersListed b ks
all_rows b ks y ready end above x z there =
    let area = b.job.now.area in
    let both = and_parts (in_box b.whole x z) (in_halo area x z) there in
    let p = cell_placed b x z both.0 both.1 in
    let inside : in_box b.whole (pos p.column) (pos p.row) ≡ true = sym (ap₂ (in_box b.whole) p.x p.y) ∙ both.0 in
    let out : in_box area (pos p.column) (pos p.row) ≡ false =
    sym (ap₂ (in_box area) p.x p.y) ∙ halo_out area x z both.1 in
    let noted : is_among ks (owner_of b.owners.now (pos p.column) (pos p.row)) ≡ true =
    grind (arith, common_steps, below_or_from, whole_parts) in
    let P : ℕ → Type 0 = λ n. is_among ks n ≡ true in
    subst P (sym (ap₂ (owner_of b.owners.now) p.x p.y)) noted
