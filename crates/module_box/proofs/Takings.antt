-- Boxes that take the places of their blocks, row by row
use Rattle.module_box.proofs.Imports.{Box2, HasBlockAtPlace, IsEvenBox, List, TakesBox, TakesRow, and_from, and_parts}
use Rattle.module_box.proofs.Imports.{arith, below_or_from, common_steps, div-mul-add, in_box, inl, inr, length}
use Rattle.module_box.proofs.Imports.{mod-mul-add, mul-le-mul_right, slice_index, span_from, span_parts, ℕ, ◌%◌, ◌*◌}
use Rattle.module_box.proofs.Imports.{◌+◌, ◌/◌, ◌<◌, ◌∙◌, ◌≡◌, ◌≤◌}
use Rattle.lemmas.proofs.Common.{min, div-add-mod', mod-lt}
use Rattle.module_box.specs.Taking.{FitsBlockTable}

-- the rows and columns of blocks that a box has
pub record IsAmong (b : Box2) (row column : ℕ) : Type 0 where
  pub top : b.y / 2 ≤ row
  pub bottom : row < b.y / 2 + b.h / 2
  pub left : b.x / 2 ≤ column
  pub right : column < b.x / 2 + b.w / 2

pub among_from : (b : Box2) (columns k : ℕ) → IsEvenBox b → HasBlockAtPlace b columns k →
    IsAmong b (k / columns) (k % columns)
unfolding in_box
among_from b columns k even h = grind (arith, common_steps, and_parts, span_parts)

pub block_from : (b : Box2) (columns k : ℕ) → IsEvenBox b → IsAmong b (k / columns) (k % columns) →
    HasBlockAtPlace b columns k
unfolding in_box
block_from b columns k even a = grind (arith, common_steps, and_from, span_from)

-- the row and the column of a place in a row
pub record IsInRow (columns r k : ℕ) : Type 0 where
  pub row : k / columns ≡ r
  pub column : r * columns + k % columns ≡ k

pub in_row : (columns row k : ℕ) → row * columns ≤ k → k < row * columns + columns → IsInRow columns row k
in_row columns row k p q = grind (arith, common_steps, div-mul-add, mod-mul-add)

-- of the places before `upto`, those of the box's blocks were free and have the number now; all others are as before
pub record TakesRows (columns : ℕ) (b : Box2) (free number upto : ℕ) (old new : List ℕ) : Type 0 where
  pub sized : length new ≡ length old
  pub taken : (k : ℕ) → k < length old → k < upto → HasBlockAtPlace b columns k →
      (slice_index old k ≡ free) × (slice_index new k ≡ number)
  pub others : (k : ℕ) → k < length old → k < upto → ¬ HasBlockAtPlace b columns k →
      slice_index new k ≡ slice_index old k
  pub after : (k : ℕ) → upto ≤ k → slice_index new k ≡ slice_index old k

pub row_of : (columns row k : ℕ) → 0 < columns → k < row * columns → k / columns < row
row_of columns row k some p = grind (arith, common_steps, below_or_from, mul-le-mul_right, div-add-mod')

pub row_from : (columns row k : ℕ) → 0 < columns → row * columns ≤ k → row ≤ k / columns
row_from columns row k some p = grind (arith, common_steps, below_or_from, mul-le-mul_right, div-add-mod', mod-lt)

-- the places before `stop`, after a row of the box's blocks is taken up to there
row_part : (columns : ℕ) (b : Box2) (free number row end stop k : ℕ) (old mid new : List ℕ) → IsEvenBox b →
    b.y / 2 ≤ row → row < b.y / 2 + b.h / 2 → b.x + b.w ≤ 2 * columns →
    TakesRows columns b free number (row * columns) old mid → end ≤ row * columns + b.x / 2 + b.w / 2 →
    TakesRow free number (row * columns + b.x / 2) end stop mid new → k < length old → k < stop →
    (HasBlockAtPlace b columns k → (slice_index old k ≡ free) × (slice_index new k ≡ number))
    × (¬ HasBlockAtPlace b columns k → slice_index new k ≡ slice_index old k)
row_part columns b free number row end stop k old mid new even top bottom right rows le r within lt = (
  λ h. grind (arith, common_steps, below_or_from, among_from, in_row),
  λ h. grind (arith, common_steps, below_or_from, in_row, block_from),
)

-- the row ends at a place that is not free
pub row_stops : (columns : ℕ) (b : Box2) (free number row end stop : ℕ) (old mid new : List ℕ) → IsEvenBox b →
    FitsBlockTable columns b → b.y / 2 ≤ row → row < b.y / 2 + b.h / 2 →
    TakesRows columns b free number (row * columns) old mid → end ≤ row * columns + b.x / 2 + b.w / 2 →
    end ≤ length mid → TakesRow free number (row * columns + b.x / 2) end stop mid new →
    stop < end → TakesBox columns b free number stop old new
row_stops columns b free number row end stop old mid new even fits top bottom rows le within r lt =
    let long = rows.sized in
    let part = λ (k : ℕ) (p : k < stop). row_part columns b free number row end stop k old mid new even top bottom
    fits.right rows le r (omega (arith, long, within, lt, p)) p in
    record {
      sized = r.sized ∙ long;
      within = omega (arith, long, within, lt);
      taken = λ k p. (part k p).0;
      others = λ k p. (part k p).1;
      ends = grind (arith, common_steps, block_from, in_row);
    }

-- the whole row is taken, as far as the table goes
pub row_goes_on : (columns : ℕ) (b : Box2) (free number row end stop : ℕ) (old mid new : List ℕ) → IsEvenBox b →
    FitsBlockTable columns b → b.y / 2 ≤ row → row < b.y / 2 + b.h / 2 →
    TakesRows columns b free number (row * columns) old mid →
    end ≡ min (row * columns + b.x / 2 + b.w / 2) (length mid) →
    TakesRow free number (row * columns + b.x / 2) end stop mid new →
    end ≤ stop → TakesRows columns b free number ((row + 1) * columns) old new
row_goes_on columns b free number row end stop old mid new even fits top bottom rows is r ge =
    let le : end ≤ row * columns + b.x / 2 + b.w / 2 = omega (arith, is) in
    let next : (row + 1) * columns ≡ row * columns + columns = omega arith in
    let f = r.from_on in let w = r.within in let long = rows.sized in let right = fits.right in
    let part = λ (k : ℕ). row_part columns b free number row end stop k old mid new even top bottom right rows le r in
    record {
      sized = r.sized ∙ long;
      taken = λ k within p h. elim (below_or_from k stop) [
        | inl q ↦ (part k within q).0 h
        | inr q ↦ absurd (
            let a = (among_from b columns k even h).right in
            let c = (in_row columns row k (omega (arith, f, q)) (omega (arith, next, p))).column in
            omega (arith, a, c, q, ge, is, within, long))
      ];
      others = λ k within p h. elim (below_or_from k stop) [
        | inl q ↦ (part k within q).1 h
        | inr q ↦ r.after k q ∙ rows.after k (omega (arith, f, q))
      ];
      after = λ k p. r.after k (omega (arith, w, le, next, p, right)) ∙ rows.after k (omega (arith, next, p));
    }
