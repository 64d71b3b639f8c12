-- The cells of planes, by assignment.
use Rattle.lanes.proofs.Imports.{AreCornerWordsTurned, AreCornerWordsTurnedAt, Bool, HasWordsStrideRows, List, Planes}
use Rattle.lanes.proofs.Imports.{ap, arith, bit, by_eq_or_not, common_steps, get_or, get_or-drop, get_or-take, inl, inr}
use Rattle.lanes.proofs.Imports.{lane, length, mul-le-mul_left, plane_of, refl, turned, ℕ, ◌%◌, ◌*◌, ◌+◌, ◌/◌, ◌<◌, ◌∙◌}
use Rattle.lanes.proofs.Imports.{◌≡◌, ◌≤◌, ◌⊎◌}
use Rattle.lemmas.proofs.Common.{drop, length-take-le, get_or-append_right, get_or_append_left}
use Rattle.lanes.specs.Across.{TurnsBlocksAcrossLists}
use Rattle.bbm_rule.specs.Rows.{paired_place}
use Rattle.bbm_rule.proofs.PairLemmas.{mate_even, mate_odd}
use borrow.Rule.Slice.PartMut.{mid_of, put_mid, post_of}

abbrev pub place : Planes → ℕ → ℕ → ℕ → ℕ
place p i j k = p.words * (p.stride * j + i) + k

-- the cells of the block in columns 2 i and 1 + 2 i, and rows 2 j and 1 + 2 j, are bit k of these words
record AreCorners (cell : ℕ → ℕ → Bool) (i j k ul ur ll lr : ℕ) : Type 0 where
  upper_left : cell (2 * i) (2 * j) ≡ bit ul k
  upper_right : cell (1 + 2 * i) (2 * j) ≡ bit ur k
  lower_left : cell (2 * i) (1 + 2 * j) ≡ bit ll k
  lower_right : cell (1 + 2 * i) (1 + 2 * j) ≡ bit lr k

corners : (p q : Planes) (a i j : ℕ) → q.words ≡ p.words → q.stride ≡ p.stride →
    AreCorners (lane q a) i j (a % 64) (get_or q.odd.items (place p i j (a / 64)) 0)
    (get_or q.right.items (place p i j (a / 64)) 0) (get_or q.down.items (place p i j (a / 64)) 0)
    (get_or q.even.items (place p i j (a / 64)) 0)
unfolding lane plane_of
corners p q a i j words stride = record {
  upper_left = grind (arith, common_steps);
  upper_right = grind (arith, common_steps);
  lower_left = grind (arith, common_steps);
  lower_right = grind (arith, common_steps);
}

-- x and x' are the two numbers of pair i
abbrev ArePair : ℕ → ℕ → ℕ → Type 0
ArePair i x x' = ((x ≡ 2 * i) × (x' ≡ 1 + 2 * i)) ⊎ ((x ≡ 1 + 2 * i) × (x' ≡ 2 * i))

pair_of : (x : ℕ) → ArePair (x / 2) x (paired_place x)
pair_of x = by_eq_or_not (x % 2) 0 (λ e. inl (omega arith, mate_even x e ∙ omega arith))
    (λ o. let e : x ≡ 1 + 2 * (x / 2) = omega arith in
    inr (e, ap paired_place e ∙ mate_odd (2 * (x / 2)) (omega arith)))

-- a cell of a block whose words are turned
cell_turned : (old new : ℕ → ℕ → Bool) (i j k x x' y y' ul ur ll lr ul' ur' ll' lr' : ℕ) → ArePair i x x' →
    ArePair j y y' → AreCornerWordsTurned ul ur ll lr ul' ur' ll' lr' → AreCorners old i j k ul ur ll lr →
    AreCorners new i j k ul' ur' ll' lr' → new x y ≡ turned (old x y) (old x' y') (old x' y) (old x y')
cell_turned old new i j k x x' y y' ul ur ll lr ul' ur' ll' lr' column row turns before after =
    grind (arith, common_steps)

-- the words of a cell are within its plane
pub place_below : (w s r i j k : ℕ) → i < s → j < r → k < w → w * (s * j + i) + k < w * (s * r)
place_below w s r i j k li lj lk = grind (arith, common_steps, mul-le-mul_left)

-- a cell is turned in its block where the block's words are turned
pub block_lane : (p q : Planes) (a x y : ℕ) → HasWordsStrideRows p.words p.stride p.rows q →
    AreCornerWordsTurnedAt (place p (x / 2) (y / 2) (a / 64)) p.odd.items p.right.items p.down.items p.even.items
    q.odd.items q.right.items q.down.items q.even.items →
    lane q a x y ≡ turned (lane p a x y) (lane p a (paired_place x) (paired_place y)) (lane p a (paired_place x) y)
    (lane p a x (paired_place y))
block_lane p q a x y size turns =
    let i = x / 2 in let j = y / 2 in
    cell_turned (lane p a) (lane q a) i j (a % 64) x (paired_place x) y (paired_place y) _ _ _ _ _ _ _ _ (pair_of x)
    (pair_of y) turns
    (corners p p a i j refl refl) (corners p q a i j size.0 size.1)

-- where the four planes are turned at each place, each cell is turned in its block
pub odd_lane : (p q : Planes) → HasWordsStrideRows p.words p.stride p.rows q →
    ((k : ℕ) → k < p.words * (p.stride * p.rows) →
    AreCornerWordsTurnedAt k p.odd.items p.right.items p.down.items p.even.items q.odd.items q.right.items q.down.items
    q.even.items) → (a x y : ℕ) → a < 64 * p.words → x < 2 * p.stride → y < 2 * p.rows →
    lane q a x y ≡ turned (lane p a x y) (lane p a (paired_place x) (paired_place y)) (lane p a (paired_place x) y)
    (lane p a x (paired_place y))
odd_lane p q size turns a x y la lx ly =
    let i = x / 2 in let j = y / 2 in
    block_lane p q a x y size (turns (place p i j (a / 64)) (place_below p.words p.stride p.rows i j (a / 64)
    (omega arith) (omega arith) (omega arith)))

-- ---- parts of slices
pub part_read : (a k i : ℕ) (xs : List ℕ) → i < k → get_or (mid_of a k xs) i 0 ≡ get_or xs (a + i) 0
part_read a k i xs l = get_or-take k (drop a xs) i 0 l ∙ get_or-drop a xs i 0

pub part_written : (a k i : ℕ) (xs ys : List ℕ) → a ≤ length xs → i < length ys →
    get_or (put_mid a k xs ys) (a + i) 0 ≡ get_or ys i 0
part_written a k i xs ys within l = grind (arith, common_steps, length-take-le, get_or-append_right, get_or_append_left)

pub across_turned : (across below n n0 n1 n2 n3 : ℕ) (ul ur dl dr a b c d : List ℕ) → n0 ≡ n → n1 ≡ n → n2 ≡ n →
    n3 ≡ n → n + below + across ≡ length ul → length ur ≡ length ul → length dl ≡ length ul → length dr ≡ length ul →
    length a ≡ n → length b ≡ n → length c ≡ n → length d ≡ n →
    ((k : ℕ) → k < n → AreCornerWordsTurnedAt k (mid_of 0 n0 ul) (mid_of across n1 ur) (mid_of below n2 dl)
    (mid_of (below + across) n3 dr) a b c d) →
    TurnsBlocksAcrossLists across below ul ur dl dr (put_mid 0 n0 ul a) (put_mid across n1 ur b) (put_mid below n2 dl c)
    (put_mid (below + across) n3 dr d)
across_turned across below n n0 n1 n2 n3 ul ur dl dr a b c d e0 e1 e2 e3 total lur ldl ldr la lb lc ld turns = record {
  turned = λ k l.
      let under : k < n = omega arith in
      let h = turns k under in
      let h = rw (
        part_read 0 n0 k ul (omega arith),
        part_read across n1 k ur (omega arith),
        part_read below n2 k dl (omega arith),
        part_read (below + across) n3 k dr (omega arith),
      ) at h in
      let p0 : k ≡ 0 + k = omega arith in
      let p1 : k + across ≡ across + k = omega arith in
      let p2 : k + below ≡ below + k = omega arith in
      let p3 : k + below + across ≡ below + across + k = omega arith in
      let w0 : get_or (put_mid 0 n0 ul a) k 0 ≡ get_or a k 0 =
      get_or_append_left a (post_of 0 n0 ul) 0 k (omega arith) in
      let r0 : get_or ul k 0 ≡ get_or ul (0 + k) 0 = ap (λ m. get_or ul m 0) p0 in
      rw (
        w0,
        r0,
        p3,
        p1,
        p2,
        part_written across n1 k ur b (omega arith) (omega arith),
        part_written below n2 k dl c (omega arith) (omega arith),
        part_written (below + across) n3 k dr d (omega arith) (omega arith),
      ) h;
}

-- the same for the blocks between the cells of four planes, where the ring is left out
pub inner_lane : (p q : Planes) → HasWordsStrideRows p.words p.stride p.rows q →
    ((i j k : ℕ) → 1 + i < p.stride → 1 + j < p.rows → k < p.words →
    AreCornerWordsTurned (get_or p.even.items (place p i j k) 0) (get_or p.down.items (place p (1 + i) j k) 0)
    (get_or p.right.items (place p i (1 + j) k) 0) (get_or p.odd.items (place p (1 + i) (1 + j) k) 0)
    (get_or q.even.items (place p i j k) 0) (get_or q.down.items (place p (1 + i) j k) 0)
    (get_or q.right.items (place p i (1 + j) k) 0) (get_or q.odd.items (place p (1 + i) (1 + j) k) 0)) → (a x y : ℕ) →
    a < 64 * p.words → x + 2 < 2 * p.stride → y + 2 < 2 * p.rows →
    lane q a (1 + x) (1 + y) ≡ turned (lane p a (1 + x) (1 + y)) (lane p a (1 + paired_place x) (1 + paired_place y))
    (lane p a (1 + paired_place x) (1 + y)) (lane p a (1 + x) (1 + paired_place y))
inner_lane p q size turns a x y la lx ly =
    let i = x / 2 in let j = y / 2 in
    cell_turned (λ x y. lane p a (1 + x) (1 + y)) (λ x y. lane q a (1 + x) (1 + y)) i j (a % 64) x (paired_place x) y
    (paired_place y)
    _ _ _ _ _ _ _ _ (pair_of x) (pair_of y) (turns i j (a / 64) (omega arith) (omega arith) (omega arith))
    (between p i j refl refl) (between q i j size.0 size.1)
  where
    next : (i : ℕ) → 1 + (1 + 2 * i) ≡ 2 * (1 + i)
    next i = omega arith

    between : (q : Planes) (i j : ℕ) → q.words ≡ p.words → q.stride ≡ p.stride →
        AreCorners (λ x y. lane q a (1 + x) (1 + y)) i j (a % 64) (get_or q.even.items (place p i j (a / 64)) 0)
        (get_or q.down.items (place p (1 + i) j (a / 64)) 0) (get_or q.right.items (place p i (1 + j) (a / 64)) 0)
        (get_or q.odd.items (place p (1 + i) (1 + j) (a / 64)) 0)
    between q i j words stride = grind (arith, common_steps, corners, next)

-- where the words of all blocks are turned, one after another
pub even_lane : (p q : Planes) → HasWordsStrideRows p.words p.stride p.rows q →
    p.words * (p.stride * p.rows) ≡ length p.even.items →
    TurnsBlocksAcrossLists p.words
    (p.words * p.stride) p.even.items p.down.items p.right.items p.odd.items q.even.items q.down.items q.right.items
    q.odd.items → (a x y : ℕ) → a < 64 * p.words → x + 2 < 2 * p.stride → y + 2 < 2 * p.rows →
    lane q a (1 + x) (1 + y) ≡ turned (lane p a (1 + x) (1 + y)) (lane p a (1 + paired_place x) (1 + paired_place y))
    (lane p a (1 + paired_place x) (1 + y)) (lane p a (1 + x) (1 + paired_place y))
even_lane p q size total turns = inner_lane p q size turned_at
  where
    right_place : (i j k : ℕ) → place p (1 + i) j k ≡ place p i j k + p.words
    right_place i j k = omega arith

    down_place : (i j k : ℕ) → place p i (1 + j) k ≡ place p i j k + p.words * p.stride
    down_place i j k = omega arith

    both_place : (i j k : ℕ) → place p (1 + i) (1 + j) k ≡ place p i j k + p.words * p.stride + p.words
    both_place i j k = omega arith

    turned_at : (i j k : ℕ) → 1 + i < p.stride → 1 + j < p.rows → k < p.words →
        AreCornerWordsTurned (get_or p.even.items (place p i j k) 0) (get_or p.down.items (place p (1 + i) j k) 0)
        (get_or p.right.items (place p i (1 + j) k) 0) (get_or p.odd.items (place p (1 + i) (1 + j) k) 0)
        (get_or q.even.items (place p i j k) 0) (get_or q.down.items (place p (1 + i) j k) 0)
        (get_or q.right.items (place p i (1 + j) k) 0) (get_or q.odd.items (place p (1 + i) (1 + j) k) 0)
    turned_at i j k li lj lk =
        let below : place p (1 + i) (1 + j) k < p.words * (p.stride * p.rows) =
        place_below p.words p.stride p.rows (1 + i) (1 + j) k li lj lk in
        rw (both_place i j k, right_place i j k, down_place i j k)
        (turns.turned (place p i j k) (omega (arith, both_place i j k)))
