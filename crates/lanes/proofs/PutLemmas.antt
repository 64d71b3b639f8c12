-- A cell that is set, and its mark
use Rattle.lanes.proofs.Imports.{AreAllUnmarkedCellsDead, ArePlaneWordsInRange, Bool, IsDeadCell, IsNumberUnmarked}
use Rattle.lanes.proofs.Imports.{List, LiveMarks, Planes, ap, arith, bit, bit-zero, by_eq_or_not, common_steps}
use Rattle.lanes.proofs.Imports.{div-add-mod, false, get_or, lane, mod-lt, mul-le-mul_left, plane_of, refl, sym, ℕ, ◌%◌}
use Rattle.lanes.proofs.Imports.{◌*◌, ◌+◌, ◌/◌, ◌<◌, ◌^◌, ◌∙◌, ◌≡◌}
use Rattle.bbm_rule.specs.Rows.{SetsCellAtPlace}
use Rattle.lanes.specs.Lanes.{SetsCell, word_of_source}
use Rattle.lanes.specs.Live.{SetsCellMark}
unfoldable use Rattle.lanes.specs.Live.{plane_marks_at}
use Rattle.lanes.specs.declared.planes.WordSource.{WordSource}
use Rattle.lanes.proofs.MarkFlips.{zero_word}
use Rattle.lanes.proofs.PlaneWords.{lane_at, plane_down, plane_even, plane_odd, plane_right, quotient, remainder}
use Rattle.lanes.proofs.PlaneWords.{unique_place}

-- ---- the mark of one cell
marks_odd : (l : LiveMarks) (x y : ℕ) → x % 2 ≡ 0 → y % 2 ≡ 0 → plane_marks_at l x y ≡ l.odd.items
unfolding plane_marks_at
marks_odd l x y ex ey = rw (ex, ey) refl

marks_down : (l : LiveMarks) (x y : ℕ) → x % 2 ≡ 0 → y % 2 ≡ 1 → plane_marks_at l x y ≡ l.down.items
unfolding plane_marks_at
marks_down l x y ex ey = rw (ex, ey) refl

marks_right : (l : LiveMarks) (x y : ℕ) → x % 2 ≡ 1 → y % 2 ≡ 0 → plane_marks_at l x y ≡ l.right.items
unfolding plane_marks_at
marks_right l x y ex ey = rw (ex, ey) refl

marks_even : (l : LiveMarks) (x y : ℕ) → x % 2 ≡ 1 → y % 2 ≡ 1 → plane_marks_at l x y ≡ l.even.items
unfolding plane_marks_at
marks_even l x y ex ey = rw (ex, ey) refl

pub sets_odd_mark : (l l' : LiveMarks) (x y u : ℕ) (value : Bool) → x % 2 ≡ 0 → y % 2 ≡ 0 →
    SetsCellAtPlace u value l.odd.items l'.odd.items → l'.right.items ≡ l.right.items → l'.down.items ≡ l.down.items →
    l'.even.items ≡ l.even.items → SetsCellMark x y u value l l'
sets_odd_mark l l' x y u value px py sets right down even =
    grind (arith, common_steps, by_eq_or_not, marks_odd, marks_down, marks_right, marks_even)

pub sets_down_mark : (l l' : LiveMarks) (x y u : ℕ) (value : Bool) → x % 2 ≡ 0 → y % 2 ≡ 1 →
    SetsCellAtPlace u value l.down.items l'.down.items → l'.odd.items ≡ l.odd.items → l'.right.items ≡ l.right.items →
    l'.even.items ≡ l.even.items → SetsCellMark x y u value l l'
sets_down_mark l l' x y u value px py sets odd right even =
    grind (arith, common_steps, by_eq_or_not, marks_odd, marks_down, marks_right, marks_even)

pub sets_right_mark : (l l' : LiveMarks) (x y u : ℕ) (value : Bool) → x % 2 ≡ 1 → y % 2 ≡ 0 →
    SetsCellAtPlace u value l.right.items l'.right.items → l'.odd.items ≡ l.odd.items → l'.down.items ≡ l.down.items →
    l'.even.items ≡ l.even.items → SetsCellMark x y u value l l'
sets_right_mark l l' x y u value px py sets odd down even =
    grind (arith, common_steps, by_eq_or_not, marks_odd, marks_down, marks_right, marks_even)

pub sets_even_mark : (l l' : LiveMarks) (x y u : ℕ) (value : Bool) → x % 2 ≡ 1 → y % 2 ≡ 1 →
    SetsCellAtPlace u value l.even.items l'.even.items → l'.odd.items ≡ l.odd.items → l'.right.items ≡ l.right.items →
    l'.down.items ≡ l.down.items → SetsCellMark x y u value l l'
sets_even_mark l l' x y u value px py sets odd right down =
    grind (arith, common_steps, by_eq_or_not, marks_odd, marks_down, marks_right, marks_even)

-- ---- dead cells, by column and row
-- each cell without a mark is dead
abbrev AreCellsDead : ℕ → ℕ → ℕ → LiveMarks → Planes → Type 0
AreCellsDead w s r l p = (x y : ℕ) → x / 2 < s → y / 2 < r →
    IsNumberUnmarked (plane_marks_at l x y) (s * (y / 2) + x / 2) → IsDeadCell w (s * (y / 2) + x / 2) (plane_of p x y)

-- if the cells without a mark are dead by plane and number, they are by column and row
cells_of_planes : (l : LiveMarks) (p : Planes) → AreAllUnmarkedCellsDead l p → AreCellsDead p.words p.stride p.rows l p
cells_of_planes l p dead x y lx ly free = grind (
  arith,
  common_steps,
  by_eq_or_not,
  marks_odd,
  marks_down,
  marks_right,
  marks_even,
  plane_odd,
  plane_down,
  plane_right,
  plane_even,
)

-- the cell with a number, in one plane
at_cell : (w s r x y i j : ℕ) (l : LiveMarks) (p : Planes) (m xs : List ℕ) → x / 2 ≡ i → y / 2 ≡ j →
    plane_marks_at l x y ≡ m → plane_of p x y ≡ xs → i < s → j < r → AreCellsDead w s r l p →
    IsNumberUnmarked m (s * j + i) → IsDeadCell w (s * j + i) xs
at_cell w s r x y i j l p m xs ei ej em exs li lj dead = grind (arith, common_steps)

-- the four cells with a number
four_cells : (w s r i j : ℕ) (l : LiveMarks) (p : Planes) → i < s → j < r → AreCellsDead w s r l p →
    (IsNumberUnmarked l.odd.items (s * j + i) → IsDeadCell w (s * j + i) p.odd.items)
    × (IsNumberUnmarked l.right.items (s * j + i) → IsDeadCell w (s * j + i) p.right.items)
    × (IsNumberUnmarked l.down.items (s * j + i) → IsDeadCell w (s * j + i) p.down.items)
    × (IsNumberUnmarked l.even.items (s * j + i) → IsDeadCell w (s * j + i) p.even.items)
four_cells w s r i j l p li lj dead = (
  at_cell w s r (2 * i) (2 * j) i j l p _ _ (omega arith) (omega arith) (marks_odd l _ _ (omega arith) (omega arith))
      (plane_odd p _ _ (omega arith) (omega arith)) li lj dead,
  at_cell w s r (1 + 2 * i) (2 * j) i j l p _ _ (omega arith) (omega arith)
      (marks_right l _ _ (omega arith) (omega arith)) (plane_right p _ _ (omega arith) (omega arith)) li lj dead,
  at_cell w s r (2 * i) (1 + 2 * j) i j l p _ _ (omega arith) (omega arith)
      (marks_down l _ _ (omega arith) (omega arith)) (plane_down p _ _ (omega arith) (omega arith)) li lj dead,
  at_cell w s r (1 + 2 * i) (1 + 2 * j) i j l p _ _ (omega arith) (omega arith)
      (marks_even l _ _ (omega arith) (omega arith)) (plane_even p _ _ (omega arith) (omega arith)) li lj dead,
)

-- the column and the row of a number
place_of_number : (s r u : ℕ) → u < s * r → (u % s < s) × (u / s < r) × (s * (u / s) + u % s ≡ u)
place_of_number s r u l = grind (arith, common_steps, mod-lt, mul-le-mul_left, div-add-mod)

-- and the other way round
planes_of_cells : (l : LiveMarks) (q : Planes) (w s r : ℕ) → q.words ≡ w → q.stride ≡ s → q.rows ≡ r →
    AreCellsDead w s r l q → AreAllUnmarkedCellsDead l q
planes_of_cells l q w s r ew es er dead = rw (ew, es, er) (
  λ u h. let c = place_of_number s r u h in rw c.2 at (four_cells w s r (u % s) (u / s) l q c.0 c.1 dead).0,
  λ u h. let c = place_of_number s r u h in rw c.2 at (four_cells w s r (u % s) (u / s) l q c.0 c.1 dead).1,
  λ u h. let c = place_of_number s r u h in rw c.2 at (four_cells w s r (u % s) (u / s) l q c.0 c.1 dead).2,
  λ u h. let c = place_of_number s r u h in rw c.2 at (four_cells w s r (u % s) (u / s) l q c.0 c.1 dead).3,
)

-- ---- words whose lanes are dead
plane_small : (q : Planes) (x y k : ℕ) → ArePlaneWordsInRange q → get_or (plane_of q x y) k 0 < 2 ^ 64
plane_small q x y k words = grind (arith, common_steps, plane_odd, plane_down, plane_right, plane_even)

zero_by_lanes : (w s x y k : ℕ) (q : Planes) → q.words ≡ w → q.stride ≡ s → ArePlaneWordsInRange q →
    ((b : ℕ) → b < 64 → lane q (64 * k + b) x y ≡ false) → get_or (plane_of q x y) (w * (s * (y / 2) + x / 2) + k) 0 ≡ 0
zero_by_lanes w s x y k q ew es words dead = zero_word _ (plane_small q x y _ words) (λ b l.
    let e = sym (lane_at q (64 * k + b) x y w s (plane_of q x y) ew es refl) ∙ dead b l in
    rw (quotient k b l, remainder k b l) at e)

lane_by_zero : (x y k b : ℕ) (p : Planes) → b < 64 →
    get_or (plane_of p x y) (p.words * (p.stride * (y / 2) + x / 2) + k) 0 ≡ 0 → lane p (64 * k + b) x y ≡ false
unfolding lane
lane_by_zero x y k b p l e = rw (quotient k b l, remainder k b l, e) (bit-zero b)

-- ---- the cells without a mark are dead, after one cell was set
pub put_dead : (x y : ℕ) (list : List ℕ) (source : WordSource) (value : Bool) (l l' : LiveMarks) (p q : Planes) →
    x / 2 < p.stride → ArePlaneWordsInRange q → SetsCell x y list source p q →
    SetsCellMark x y (p.stride * (y / 2) + x / 2) value l l' →
    (value ≡ false → (k : ℕ) → k < p.words → word_of_source list source k ≡ 0) → AreAllUnmarkedCellsDead l p →
    AreAllUnmarkedCellsDead l' q
put_dead x y list source value l l' p q lx words sets mark zero dead =
    planes_of_cells l' q p.words p.stride p.rows sets.size.0 sets.size.1 sets.size.2 cells
  where
    here : IsNumberUnmarked (plane_marks_at l' x y) (p.stride * (y / 2) + x / 2) →
        IsDeadCell p.words (p.stride * (y / 2) + x / 2) (plane_of q x y)
    here free k h = zero_by_lanes p.words p.stride x y k q sets.size.0 sets.size.1 words
        (λ b i. sets.there k b h i ∙ ap (λ (n : ℕ). bit n b) (zero (sym mark.there ∙ free) k h) ∙ bit-zero b)

    apart : (x' y' : ℕ) → x' / 2 < p.stride → ((x' ≡ x) × (y' ≡ y) → ⊥) →
        (x' % 2 ≡ x % 2) × (y' % 2 ≡ y % 2) × (p.stride * (y' / 2) + x' / 2 ≡ p.stride * (y / 2) + x / 2) → ⊥
    apart x' y' lx' differ e =
        let same = unique_place p.stride (y' / 2) (y / 2) (x' / 2) (x / 2) lx' lx e.2 in
        differ (omega (arith, e.0, same.1), omega (arith, e.1, same.0))

    elsewhere : (x' y' : ℕ) → x' / 2 < p.stride → y' / 2 < p.rows → ((x' ≡ x) × (y' ≡ y) → ⊥) →
        IsNumberUnmarked (plane_marks_at l' x' y') (p.stride * (y' / 2) + x' / 2) →
        IsDeadCell p.words (p.stride * (y' / 2) + x' / 2) (plane_of q x' y')
    elsewhere x' y' lx' ly' differ free k h =
        let old = sym (mark.rest x' y' (p.stride * (y' / 2) + x' / 2) (apart x' y' lx' differ)) ∙ free in
        let zero' = cells_of_planes l p dead x' y' lx' ly' old k h in
        zero_by_lanes p.words p.stride x' y' k q sets.size.0 sets.size.1 words
        (λ b i. sets.rest (64 * k + b) x' y' (omega (arith, h, i)) lx' differ ∙ lane_by_zero x' y' k b p i zero')

    cells : AreCellsDead p.words p.stride p.rows l' q
    cells x' y' lx' ly' = by_eq_or_not x' x
        (λ ex. by_eq_or_not y' y (λ ey. rw (ex, ey) here) (λ ny. elsewhere x' y' lx' ly' (λ e. ny e.1)))
        (λ nx. elsewhere x' y' lx' ly' (λ e. nx e.0))
