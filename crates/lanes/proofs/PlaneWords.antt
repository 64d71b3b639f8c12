-- Words of cells in their planes, and cells that are dead
use Rattle.lanes.proofs.Imports.{AreAllUnmarkedCellsDead, AreNumberedCellsDead, IsNumberUnmarked, List, LiveMarks}
use Rattle.lanes.proofs.Imports.{Planes, ap, arith, bit, bit-zero, by_eq_or_not, by_lt_or_le, common_steps, false}
use Rattle.lanes.proofs.Imports.{get_or, get_or-set_other, get_or-set_same, lane, length, mul-le-mul_left, plane_of}
use Rattle.lanes.proofs.Imports.{refl, set, sym, ℕ, ◌%◌, ◌*◌, ◌+◌, ◌/◌, ◌<◌, ◌∙◌, ◌≡◌, ◌≢◌, ◌≤◌}
use Rattle.lemmas.proofs.Common.{[], ◌∷◌, suc, zero}
use Rattle.lanes.specs.Lanes.{SetsCellWord}

-- ---- a place in rows of words
pub quotient : (k b : ℕ) → b < 64 → (64 * k + b) / 64 ≡ k
quotient k b l = omega arith

pub remainder : (k b : ℕ) → b < 64 → (64 * k + b) % 64 ≡ b
remainder k b l = omega arith

pub get_or_any : (s : List ℕ) (i d e : ℕ) → i < length s → get_or s i d ≡ get_or s i e
get_or_any [] i d e l = absurd (omega arith)
get_or_any (x ∷ s) zero d e l = refl
get_or_any (x ∷ s) (suc i) d e l = get_or_any s i d e (omega arith)

pub lane_in_word : (p : Planes) (s : List ℕ) (x y k b v d : ℕ) → b < 64 → plane_of p x y ≡ s →
    p.words * (p.stride * (y / 2) + x / 2) + k < length s →
    v ≡ get_or s (p.words * (p.stride * (y / 2) + x / 2) + k) d → bit v b ≡ lane p (64 * k + b) x y
unfolding lane
lane_in_word p s x y k b v d l es room e = grind (arith, common_steps, quotient, remainder, get_or_any)

pub plane_odd : (p : Planes) (x y : ℕ) → x % 2 ≡ 0 → y % 2 ≡ 0 → plane_of p x y ≡ p.odd.items
unfolding plane_of
plane_odd p x y ex ey = rw (ex, ey) refl

pub plane_down : (p : Planes) (x y : ℕ) → x % 2 ≡ 0 → y % 2 ≡ 1 → plane_of p x y ≡ p.down.items
unfolding plane_of
plane_down p x y ex ey = rw (ex, ey) refl

pub plane_right : (p : Planes) (x y : ℕ) → x % 2 ≡ 1 → y % 2 ≡ 0 → plane_of p x y ≡ p.right.items
unfolding plane_of
plane_right p x y ex ey = rw (ex, ey) refl

pub plane_even : (p : Planes) (x y : ℕ) → x % 2 ≡ 1 → y % 2 ≡ 1 → plane_of p x y ≡ p.even.items
unfolding plane_of
plane_even p x y ex ey = rw (ex, ey) refl

-- ---- a word that is set
pub unique_place : (w c c' r r' : ℕ) → r < w → r' < w → w * c + r ≡ w * c' + r' → (c ≡ c') × (r ≡ r')
unique_place w c c' r r' l l' e = by_lt_or_le c c'
    (λ h. let m : w * (c + 1) ≤ w * c' = mul-le-mul_left w (omega arith) in absurd (omega arith))
    (grind (arith, common_steps, mul-le-mul_left))

-- the words of another cell are as before
pub other_word : (w u k v l word : ℕ) (xs : List ℕ) → k < w → l < w → v ≢ u →
    get_or (set xs (w * u + k) word) (w * v + l) 0 ≡ get_or xs (w * v + l) 0
other_word w u k v l word xs lk ll ne =
    get_or-set_other xs (w * u + k) (w * v + l) word 0 (λ e. ne (unique_place w v u l k ll lk e).0)

pub lane_at : (q : Planes) (a x y w st : ℕ) (s : List ℕ) → q.words ≡ w → q.stride ≡ st → plane_of q x y ≡ s →
    lane q a x y ≡ bit (get_or s (w * (st * (y / 2) + x / 2) + a / 64) 0) (a % 64)
unfolding lane
lane_at q a x y w st s ew es e = grind (arith, common_steps)

pub sets_word : (p q : Planes) (x y k word : ℕ) → q.words ≡ p.words → q.stride ≡ p.stride → x / 2 < p.stride →
    k < p.words → p.words * (p.stride * (y / 2) + x / 2) + k < length (plane_of p x y) →
    ((x' y' : ℕ) → x' % 2 ≡ x % 2 → y' % 2 ≡ y % 2 →
    plane_of q x' y' ≡ set (plane_of p x y) (p.words * (p.stride * (y / 2) + x / 2) + k) word) →
    ((x' y' : ℕ) → x' % 2 ≡ x % 2 → y' % 2 ≡ y % 2 → plane_of p x' y' ≡ plane_of p x y) →
    ((x' y' : ℕ) → ((x' % 2 ≡ x % 2) × (y' % 2 ≡ y % 2) → ⊥) → plane_of q x' y' ≡ plane_of p x' y') →
    SetsCellWord x y k word p q
unfolding lane
sets_word p q x y k word ew es lx lk room same old other = record {
  there = grind (arith, common_steps, quotient, lane_at, remainder, get_or-set_same);
  rest = λ a x' y' la lx' differ. by_eq_or_not (x' % 2) (x % 2)
      (λ ex. by_eq_or_not (y' % 2) (y % 2)
      (λ ey. lane_at q a x' y' p.words p.stride _ ew es (same x' y' ex ey)
      ∙ ap (λ v. bit v (a % 64)) (get_or-set_other (plane_of p x y) n (place_at a x' y') word 0
      (apart a x' y' la lx' differ ex ey))
      ∙ sym (lane_at p a x' y' p.words p.stride _ refl refl (old x' y' ex ey)))
      (λ ny. lane_at q a x' y' p.words p.stride _ ew es (other x' y' (λ h. ny h.1))
      ∙ sym (lane_at p a x' y' p.words p.stride _ refl refl refl)))
      (λ nx. lane_at q a x' y' p.words p.stride _ ew es (other x' y' (λ h. nx h.0))
      ∙ sym (lane_at p a x' y' p.words p.stride _ refl refl refl));
}
  where
    n : ℕ
    n = p.words * (p.stride * (y / 2) + x / 2) + k

    place_at : ℕ → ℕ → ℕ → ℕ
    place_at a x' y' = p.words * (p.stride * (y' / 2) + x' / 2) + a / 64

    apart : (a x' y' : ℕ) → a < 64 * p.words → x' / 2 < p.stride → ((x' ≡ x) × (y' ≡ y) × (a / 64 ≡ k) → ⊥) →
        x' % 2 ≡ x % 2 → y' % 2 ≡ y % 2 → place_at a x' y' ≢ n
    apart a x' y' la lx' differ ex ey e =
        let first = unique_place p.words (p.stride * (y' / 2) + x' / 2) (p.stride * (y / 2) + x / 2) (a / 64) k
        (omega arith) lk e in
        let second = unique_place p.stride (y' / 2) (y / 2) (x' / 2) (x / 2) lx' lx first.0 in
        let h0 : x' / 2 ≡ x / 2 = second.1 in
        let h1 : y' / 2 ≡ y / 2 = second.0 in
        differ (omega arith, omega arith, first.1)

pub sets_odd : (p q : Planes) (x y k word : ℕ) → q.words ≡ p.words → q.stride ≡ p.stride → x / 2 < p.stride →
    k < p.words → p.words * (p.stride * (y / 2) + x / 2) + k < length p.odd.items → x % 2 ≡ 0 → y % 2 ≡ 0 →
    q.odd.items ≡ set p.odd.items (p.words * (p.stride * (y / 2) + x / 2) + k) word → q.right.items ≡ p.right.items →
    q.down.items ≡ p.down.items → q.even.items ≡ p.even.items → SetsCellWord x y k word p q
sets_odd p q x y k word ew es lx lk room px py e_odd e_right e_down e_even =
    grind (arith, common_steps, sets_word, plane_odd, by_eq_or_not, plane_down, plane_right, plane_even)

pub sets_down : (p q : Planes) (x y k word : ℕ) → q.words ≡ p.words → q.stride ≡ p.stride → x / 2 < p.stride →
    k < p.words → p.words * (p.stride * (y / 2) + x / 2) + k < length p.down.items →
    x % 2 ≡ 0 → y % 2 ≡ 1 → q.odd.items ≡ p.odd.items → q.right.items ≡ p.right.items →
    q.down.items ≡ set p.down.items (p.words * (p.stride * (y / 2) + x / 2) + k) word → q.even.items ≡ p.even.items →
    SetsCellWord x y k word p q
sets_down p q x y k word ew es lx lk room px py e_odd e_right e_down e_even =
    grind (arith, common_steps, sets_word, plane_down, by_eq_or_not, plane_odd, plane_right, plane_even)

pub sets_right : (p q : Planes) (x y k word : ℕ) → q.words ≡ p.words → q.stride ≡ p.stride → x / 2 < p.stride →
    k < p.words → p.words * (p.stride * (y / 2) + x / 2) + k < length p.right.items → x % 2 ≡ 1 → y % 2 ≡ 0 →
    q.odd.items ≡ p.odd.items → q.right.items ≡ set p.right.items (p.words * (p.stride * (y / 2) + x / 2) + k) word →
    q.down.items ≡ p.down.items → q.even.items ≡ p.even.items → SetsCellWord x y k word p q
sets_right p q x y k word ew es lx lk room px py e_odd e_right e_down e_even =
    grind (arith, common_steps, sets_word, plane_right, by_eq_or_not, plane_odd, plane_down, plane_even)

pub sets_even : (p q : Planes) (x y k word : ℕ) → q.words ≡ p.words → q.stride ≡ p.stride → x / 2 < p.stride →
    k < p.words → p.words * (p.stride * (y / 2) + x / 2) + k < length p.even.items →
    x % 2 ≡ 1 → y % 2 ≡ 1 → q.odd.items ≡ p.odd.items → q.right.items ≡ p.right.items → q.down.items ≡ p.down.items →
    q.even.items ≡ set p.even.items (p.words * (p.stride * (y / 2) + x / 2) + k) word → SetsCellWord x y k word p q
sets_even p q x y k word ew es lx lk room px py e_odd e_right e_down e_even =
    grind (arith, common_steps, sets_word, plane_even, by_eq_or_not, plane_odd, plane_down, plane_right)

pub dead_lane : (p : Planes) (x y a : ℕ) → AreNumberedCellsDead (p.stride * (y / 2) + x / 2) p → a < 64 * p.words →
    lane p a x y ≡ false
unfolding lane
dead_lane p x y a dead l =
    grind (arith, common_steps, by_eq_or_not, plane_odd, bit-zero, plane_down, plane_right, plane_even)

-- ---- cells that are known to be dead by their mark
small_number : (s r x y : ℕ) → x / 2 < s → y / 2 < r → s * (y / 2) + x / 2 < s * r
small_number s r x y lx ly = let m : s * (y / 2 + 1) ≤ s * r = mul-le-mul_left s (omega arith) in omega arith

pub dead_odd : (l : LiveMarks) (p : Planes) (x y a : ℕ) → x % 2 ≡ 0 → y % 2 ≡ 0 → x / 2 < p.stride → y / 2 < p.rows →
    AreAllUnmarkedCellsDead l p → IsNumberUnmarked l.odd.items (p.stride * (y / 2) + x / 2) → a < 64 * p.words →
    lane p a x y ≡ false
unfolding lane
dead_odd l p x y a ex ey lx ly dead free la = grind (arith, common_steps, plane_odd, small_number, bit-zero)

pub dead_down : (l : LiveMarks) (p : Planes) (x y a : ℕ) → x % 2 ≡ 0 → y % 2 ≡ 1 → x / 2 < p.stride → y / 2 < p.rows →
    AreAllUnmarkedCellsDead l p → IsNumberUnmarked l.down.items (p.stride * (y / 2) + x / 2) → a < 64 * p.words →
    lane p a x y ≡ false
unfolding lane
dead_down l p x y a ex ey lx ly dead free la = grind (arith, common_steps, plane_down, small_number, bit-zero)

pub dead_right : (l : LiveMarks) (p : Planes) (x y a : ℕ) → x % 2 ≡ 1 → y % 2 ≡ 0 → x / 2 < p.stride → y / 2 < p.rows →
    AreAllUnmarkedCellsDead l p → IsNumberUnmarked l.right.items (p.stride * (y / 2) + x / 2) → a < 64 * p.words →
    lane p a x y ≡ false
unfolding lane
dead_right l p x y a ex ey lx ly dead free la = grind (arith, common_steps, plane_right, small_number, bit-zero)

pub dead_even : (l : LiveMarks) (p : Planes) (x y a : ℕ) → x % 2 ≡ 1 → y % 2 ≡ 1 → x / 2 < p.stride → y / 2 < p.rows →
    AreAllUnmarkedCellsDead l p → IsNumberUnmarked l.even.items (p.stride * (y / 2) + x / 2) → a < 64 * p.words →
    lane p a x y ≡ false
unfolding lane
dead_even l p x y a ex ey lx ly dead free la = grind (arith, common_steps, plane_even, small_number, bit-zero)
