-- Cells of a halo, and the modules that have them
use Rattle.border_match.proofs.Imports.{AreReadyBorders, BorderFault, Borders, Box2, Cell, IsFaultOfSearchedJob}
use Rattle.border_match.proofs.Imports.{IsInOrAroundBox, IsJob, JobView, List, Some, and_parts, ap, ap₂, arith}
use Rattle.border_match.proofs.Imports.{cases_Bool, common_steps, false, false≢true, get_or, in_box, in_halo, ints}
use Rattle.border_match.proofs.Imports.{jobs_of, length, length-map, map, option_map, owner_of, pos, same_some}
use Rattle.border_match.proofs.Imports.{slice_get, slice_get-get_or, slice_get-map, slice_get_within, sym, true, ℕ, ℤ}
use Rattle.border_match.proofs.Imports.{◌&&◌, ◌+ℤ◌, ◌+◌, ◌-◌, ◌<◌, ◌∙◌, ◌≡◌, ◌≤◌, ◌⊎◌}
use Rattle.lemmas.proofs.Common.{◌-ℤ◌, ◌||◌, and_from}
use Rattle.bbm_rule.specs.Spans.{in_span}
use Rattle.bbm_rule.proofs.Spans.{span_from, span_parts}
use Rattle.module_box.specs.Moves.{IsCellInShiftRange}
use Rattle.module_box.proofs.BoxCells.{in_box_nats, in_span_nat, small_number}
use Rattle.module_box.proofs.NearBoxes.{near_one, near_parts}

-- ---- jobs and owners

pub job_at : {A : Type 0} (v : A → JobView) (xs : List A) (k : ℕ) (d : A) (j : JobView) → k < length xs →
    j ≡ v (get_or xs k d) → slice_get (map v xs) k ≡ Some j
job_at v xs k d j lt same = slice_get-map v xs k ∙ ap (option_map v) (slice_get-get_or xs k d lt) ∙ ap Some (sym same)

pub owner_within : (b : Borders) (x y : ℤ) → AreReadyBorders b → in_box b.whole x y ≡ true →
    owner_of b.owners.now x y < length b.jobs.now
owner_within b x y ready h = grind (arith, common_steps, length-map, slice_get_within)

pub reached : (b : Borders) (f : BorderFault) → IsFaultOfSearchedJob b f →
    (in_box b.whole f.cell.x f.cell.y && in_halo b.job.now.area f.cell.x f.cell.y) ≡ true
reached b f g = and_from _ _ g.inside g.halo

-- ---- cells that have an owner

-- a cell of the rectangle is in the box of a job
pub owned_near : (b : Borders) (c : Cell) (owner : JobView) → AreReadyBorders b → in_box b.whole c.x c.y ≡ true →
    slice_get (jobs_of b) (owner_of b.owners.now c.x c.y) ≡ Some owner → IsJob owner → IsCellInShiftRange c
owned_near b c owner ready inside got is = grind (arith, common_steps, same_some, in_box_nats, small_number)

-- ---- columns and rows of a halo

near_bounds : (f n k j : ℕ) (x y : ℤ) → x ≡ pos k → y ≡ pos j → (y ≡ x -ℤ pos 1) ⊎ ((y ≡ x) ⊎ (y ≡ x +ℤ pos 1)) →
    f ≤ j → j < f + n → (f - 1 ≤ k) × (k < f + n + 1)
near_bounds f n k j x y h1 h2 h3 h4 h5 = grind (arith, common_steps, ints)

near_nat : (f n : ℕ) (x : ℤ) (k : ℕ) → x ≡ pos k →
    (in_span f n (x -ℤ pos 1) || in_span f n x || in_span f n (x +ℤ pos 1)) ≡ true → (f - 1 ≤ k) × (k < f + n + 1)
near_nat f n x k e h = grind (arith, common_steps, near_one, in_span_nat, near_bounds)

-- where a cell of the rectangle and the halo is, counted from the rectangle's corner
pub record IsPlaced (b : Borders) (cx cy : ℤ) : Type 0 where
  pub column : ℕ
  pub x : cx ≡ pos column
  pub left : b.job.now.area.x - 1 ≤ column
  pub right : column < b.job.now.area.x + b.job.now.area.w + 1
  pub row : ℕ
  pub y : cy ≡ pos row
  pub top : b.job.now.area.y - 1 ≤ row
  pub bottom : row < b.job.now.area.y + b.job.now.area.h + 1

pub cell_placed : (b : Borders) (x y : ℤ) → in_box b.whole x y ≡ true → in_halo b.job.now.area x y ≡ true →
    IsPlaced b x y
cell_placed b x y inside halo =
    let area = b.job.now.area in
    let near = near_parts area x y halo in
    let at = in_box_nats b.whole x y inside in
    let ax = at.0 in let ay = at.1 in
    let sx = near_nat area.x area.w x ax.0 ax.1 near.0 in
    let sy = near_nat area.y area.h y ay.0 ay.1 near.1 in
    record { column = ax.0; x = ax.1; left = sx.0; right = sx.1; row = ay.0; y = ay.1; top = sy.0; bottom = sy.1 }

-- ---- cells of the box

-- a cell of the box is not in its halo
pub box_no_halo : (a : Box2) (x y : ℤ) → in_box a x y ≡ true → in_halo a x y ≡ false
unfolding in_halo
box_no_halo a x y h = rw h

-- a cell of the halo is not in the box
pub halo_out : (a : Box2) (x y : ℤ) → in_halo a x y ≡ true → in_box a x y ≡ false
halo_out a x y halo = grind (arith, common_steps, cases_Bool, false≢true, box_no_halo)

-- a cell of the columns and rows of the rectangle is in it
pub in_whole : (b : Borders) (x y : ℕ) (cx cy : ℤ) → cx ≡ pos x → cy ≡ pos y → AreReadyBorders b → x < b.whole.w →
    y < b.whole.h → in_box b.whole cx cy ≡ true
unfolding in_box
in_whole b x y cx cy px py ready left top = grind (arith, common_steps, and_from, span_from)

-- and no other cell is
pub whole_parts : (b : Borders) (x y : ℕ) → AreReadyBorders b → in_box b.whole (pos x) (pos y) ≡ true →
    (x < b.whole.w) × (y < b.whole.h)
unfolding in_box
whole_parts b x y ready inside = grind (arith, common_steps, and_parts, span_parts)

-- what is known of a cell of an area
area_parts : (a : Box2) (x y : ℕ) → in_box a (pos x) (pos y) ≡ true →
    ((a.x ≤ x) × (x < a.x + a.w)) × ((a.y ≤ y) × (y < a.y + a.h))
unfolding in_box
area_parts a x y inside = grind (arith, common_steps, and_parts, span_parts)

pub area_at : (a : Box2) (x y : ℕ) (cx cy : ℤ) → cx ≡ pos x → cy ≡ pos y → in_box a cx cy ≡ true →
    ((a.x ≤ x) × (x < a.x + a.w)) × ((a.y ≤ y) × (y < a.y + a.h))
area_at a x y cx cy ex ey inside = area_parts a x y (sym (ap₂ (in_box a) ex ey) ∙ inside)

-- where a fault is
pub placed : (b : Borders) (f : BorderFault) → IsFaultOfSearchedJob b f → IsPlaced b f.cell.x f.cell.y
placed b f g = cell_placed b f.cell.x f.cell.y g.inside g.halo

-- a fault is around the module's box
pub fault_around : (b : Borders) (f : BorderFault) → IsFaultOfSearchedJob b f →
    IsInOrAroundBox b.job.now.area f.cell.x f.cell.y
fault_around b f g =
    let p = placed b f g in
    let px = p.x in let py = p.y in
    let left = p.left in let right = p.right in let top = p.top in let bottom = p.bottom in
    grind (arith, common_steps, ints)
