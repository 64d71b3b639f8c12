-- From the blocks of a rectangle to its cells
use Rattle.module_box.proofs.Imports.{AreFirstBoxesInside, Box2, Cell, HasBlockAtPlace, IsEvenBox, List, Some}
use Rattle.module_box.proofs.Imports.{TakesBox, [], and_from, and_parts, ap, get_or_from_slice_get, slice_get, take}
use Rattle.module_box.proofs.Imports.{take_more, arith, below_or_from, cases_Bool, common_steps}
use Rattle.module_box.proofs.Imports.{false≢true, in_box, in_span, inl, inr, length, length_push, mul-le-mul_left, pos}
use Rattle.module_box.proofs.Imports.{slice_get_within, slice_index, span_from, span_parts, subst, sym, true}
use Rattle.module_box.proofs.Imports.{ℕ, ℤ, ◌%◌, ◌*◌, ◌++◌, ◌+◌, ◌/◌, ◌<◌, ◌∙◌, ◌∷◌, ◌≡◌, ◌≤◌, ◌⊎◌}
use Rattle.lemmas.proofs.Common.{div-add-mod, get_or-replicate, get_or-take, length-replicate, length-take-le}
use Rattle.lemmas.proofs.Common.{replicate, take_all}
use Rattle.module_box.specs.Tiling.{BoxHoldsBlock, BoxHoldsCell, IsOwnerTableOf, block_corner_x, block_corner_y}
use Rattle.module_box.specs.Tiling.{IsCellHeldTwice, IsFirstBadBlock}
use Rattle.module_box.proofs.Rising.{at_end, kept, pushed}

span_down : (f n k : ℕ) → f % 2 ≡ 0 → n % 2 ≡ 0 → in_span f n (pos k) ≡ true → in_span f n (pos (2 * (k / 2))) ≡ true
span_down f n k ef en h = grind (arith, common_steps, span_parts, span_from)

span_up : (f n k : ℕ) → f % 2 ≡ 0 → n % 2 ≡ 0 → in_span f n (pos (2 * (k / 2))) ≡ true → in_span f n (pos k) ≡ true
span_up f n k ef en h = grind (arith, common_steps, span_parts, span_from)

-- a box with even corner and sides has a cell where it has the corner of the cell's block
pub box_down : (b : Box2) (i k : ℕ) → IsEvenBox b → in_box b (pos i) (pos k) ≡ true →
    in_box b (pos (2 * (i / 2))) (pos (2 * (k / 2))) ≡ true
unfolding in_box
box_down b i k e h = grind (arith, common_steps, and_parts, and_from, span_down)

pub box_up : (b : Box2) (i k : ℕ) → IsEvenBox b → in_box b (pos (2 * (i / 2))) (pos (2 * (k / 2))) ≡ true →
    in_box b (pos i) (pos k) ≡ true
unfolding in_box
box_up b i k e h = grind (arith, common_steps, and_parts, and_from, span_up)

-- The first boxes took the blocks of the table. It ends before the last block only at one that lies in two boxes.
pub record IsTakenBy (columns blocks free : ℕ) (boxes : List Box2) (table : List ℕ) : Type 0 where
  pub taken : IsOwnerTableOf columns free boxes table
  pub bound : length table ≤ blocks
  pub twice : length table < blocks →
      IsCellHeldTwice boxes (block_corner_x columns (length table)) (block_corner_y columns (length table))

pub decide_block : (columns : ℕ) (b : Box2) (k : ℕ) → HasBlockAtPlace b columns k ⊎ ¬ HasBlockAtPlace b columns k
decide_block columns b k = grind (arith, common_steps, cases_Bool, false≢true)

held_on : (boxes more : List Box2) (x y : ℤ) (i : ℕ) → BoxHoldsCell boxes x y i → BoxHoldsCell (boxes ++ more) x y i
held_on boxes more x y i h = grind (arith, common_steps, kept)

twice_on : (boxes more : List Box2) (x y : ℤ) → IsCellHeldTwice boxes x y → IsCellHeldTwice (boxes ++ more) x y
twice_on boxes more x y t = grind (arith, common_steps, held_on)

-- the next box takes its blocks, up to the first that an earlier one has
module _ (columns blocks free number stop : ℕ) (boxes : List Box2) (b : Box2) (table new : List ℕ)
    (t : IsTakenBy columns blocks free boxes table) (is : number ≡ length boxes) (less : number < free)
    (takes : TakesBox columns b free number stop table new) where
  within : (k : ℕ) → k < stop → k < length table
  within k lt = let w = takes.within in omega (arith, w, lt)

  owned_next : (k i : ℕ) → k < stop → BoxHoldsBlock (boxes ++ b ∷ []) columns k i → slice_index new k ≡ i
  owned_next k i lt h = elim (pushed boxes b i h.area h.numbered) [
    | inl old ↦ (
        let was = t.taken.owned k i (within k lt) (record { area = h.area; numbered = old; has = h.has }) in
        grind (arith, common_steps, decide_block, slice_get_within))
    | inr last ↦ grind (arith, common_steps)
  ]

  named_next : (k : ℕ) → k < stop → ¬ (slice_index new k ≡ free) →
      BoxHoldsBlock (boxes ++ b ∷ []) columns k (slice_index new k)
  named_next k lt taken = elim (decide_block columns b k) [
    | inl here ↦ rw ((takes.taken k lt here).1, is) (record { area = b; numbered = at_end boxes b; has = here })
    | inr out ↦ (
        let same = takes.others k lt out in
        rw same (held_on boxes (b ∷ []) _ _ _ (t.taken.named k (within k lt) (λ e. taken (same ∙ e)))))
  ]

  twice_next : stop < blocks → IsCellHeldTwice (boxes ++ b ∷ []) (block_corner_x columns stop)
      (block_corner_y columns stop)
  twice_next lt = elim (below_or_from stop (length table)) [
    | inl early ↦ (
        let e = takes.ends early in
        let h = t.taken.named stop early e.1 in
        record {
          one = slice_index table stop;
          other = length boxes;
          apart = slice_get_within boxes _ h.area h.numbered;
          first = held_on boxes (b ∷ []) _ _ _ h;
          second = record { area = b; numbered = at_end boxes b; has = e.0 };
        })
    | inr whole ↦ (
        let same : length table ≡ stop = let w = takes.within in omega (arith, w, whole) in
        twice_on boxes (b ∷ []) _ _ (subst
        (λ k. IsCellHeldTwice boxes (block_corner_x columns k) (block_corner_y columns k))
        same (t.twice (omega (arith, same, lt)))))
  ]

  pub taken_by_next : (after : List ℕ) → length after ≡ stop →
      ((k : ℕ) → k < stop → slice_index after k ≡ slice_index new k) →
      IsTakenBy columns blocks free (boxes ++ b ∷ []) after
  taken_by_next after long same = record {
    taken = record {
      few = (let n = length_push boxes b in omega (arith, n, is, less));
      owned = λ k i lt h. let q : k < stop = omega (arith, lt, long) in same k q ∙ owned_next k i q h;
      named = grind (arith, common_steps, named_next);
    };
    bound = (let w = takes.within in let b = t.bound in omega (arith, w, b, long));
    twice = λ lt. rw long (twice_next (omega (arith, lt, long)));
  }

pub none_taken : (columns blocks free : ℕ) (table : List ℕ) → table ≡ replicate blocks free →
    IsTakenBy columns blocks free [] table
none_taken columns blocks free table are = grind (arith, common_steps, length-replicate, get_or-replicate)

-- the same for the box at a place of a list, after those before it
pub taken_by_place : (columns blocks n stop : ℕ) (boxes : List Box2) (b : Box2) (table new after : List ℕ) →
    IsTakenBy columns blocks (length boxes) (take n boxes) table → n < length boxes → slice_get boxes n ≡ Some b →
    TakesBox columns b (length boxes) n stop table new → after ≡ take stop new →
    IsTakenBy columns blocks (length boxes) (take (n + 1) boxes) after
taken_by_place columns blocks n stop boxes b table new after t lt got takes e =
    let w = takes.within in let s = takes.sized in
    rw (take_more boxes n b lt ∙ ap (λ d. take n boxes ++ d ∷ []) (get_or_from_slice_get boxes n b b got))
    (taken_by_next columns blocks (length boxes) n stop (take n boxes) b table new t
    (sym (length-take-le n boxes (omega (arith, lt)))) lt takes after
    (ap length e ∙ length-take-le stop new (omega (arith, w, s)))
    (λ k q. ap (λ z. slice_index z k) e ∙ get_or-take stop new k 0 q))

pub taken_by_all : (columns blocks free n : ℕ) (boxes : List Box2) (table : List ℕ) →
    IsTakenBy columns blocks free (take n boxes) table → n ≡ length boxes → IsTakenBy columns blocks free boxes table
taken_by_all columns blocks free n boxes table t e = grind (arith, common_steps, take_all)

pub taken_gap : (columns blocks free place : ℕ) (boxes : List Box2) (table : List ℕ) (c : Cell) →
    IsTakenBy columns blocks free boxes table → place < length table → slice_index table place ≡ free →
    (c.x ≡ block_corner_x columns place) × (c.y ≡ block_corner_y columns place) → (i : ℕ) →
    ¬ BoxHoldsCell boxes c.x c.y i
taken_gap columns blocks free place boxes table c t lt e is i h =
    let before = slice_get_within boxes i h.area h.numbered in
    let own = t.taken.owned place i lt (rw (is.0, is.1) at h) in
    let few = t.taken.few in
    omega (arith, own, e, before, few)

pub taken_twice : (columns blocks free place : ℕ) (boxes : List Box2) (table : List ℕ) (c : Cell) →
    IsTakenBy columns blocks free boxes table → place ≡ length table → place < blocks →
    (c.x ≡ block_corner_x columns place) × (c.y ≡ block_corner_y columns place) → IsCellHeldTwice boxes c.x c.y
taken_twice columns blocks free place boxes table c t e lt is = grind (arith, common_steps)

pub div_small : (a c n : ℕ) → n < a * c → n / c < a
div_small a c n h = grind (arith, common_steps, below_or_from, div-add-mod, mul-le-mul_left)

pub all_inside : (w h n : ℕ) (boxes : List Box2) → AreFirstBoxesInside w h n boxes → length boxes ≤ n →
    AreFirstBoxesInside w h (length boxes) boxes
all_inside w h n boxes a le k b lt e = a k b (omega arith) e

pub bad_block : (w h place : ℕ) (boxes : List Box2) (table : List ℕ) (c : Cell) →
    AreFirstBoxesInside w h (length boxes) boxes → place < (h / 2) * (w / 2) →
    IsTakenBy (w / 2) ((h / 2) * (w / 2)) (length boxes) boxes table → place ≤ length table →
    ((k : ℕ) → k < place → ¬ (slice_index table k ≡ length boxes)) →
    (c.x ≡ block_corner_x (w / 2) place) × (c.y ≡ block_corner_y (w / 2) place) → IsFirstBadBlock w h boxes c
bad_block w h place boxes table c inside lt t le full is = record {
  inside = inside;
  place = place;
  within = lt;
  x = is.0;
  y = is.1;
  before = λ k p.
      let q : k < length table = omega (arith, le, p) in (
        slice_index table k,
        record { holds = t.taken.named k q (full k p); only = λ j h. sym (t.taken.owned k j q h) },
      );
}
