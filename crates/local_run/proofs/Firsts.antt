-- From the cells that were looked at, in order, to the first fault
use Rattle.local_run.proofs.Imports.{Bool, Box2, Demand, Edge, End, HasNoFaultOfKind, IsDefinedAndHasFault}
use Rattle.local_run.proofs.Imports.{IsFaultUnderValues}
use Rattle.local_run.proofs.Imports.{IsFirstFaultOfKind, IsKindScannedAt, IsLeastBelow, IsScanStride, JobView, Kind}
use Rattle.local_run.proofs.Imports.{MeetsDemand, None, Option, Signal, Some, Valuation, Values, and_from, and_parts}
use Rattle.local_run.proofs.Imports.{ap, arith, assignments, box_coord, common_steps, false, false≢true, in_box}
use Rattle.local_run.proofs.Imports.{in_ring, in_span, in_span-negsuc, ints, is_defined_under, is_live, job_demand}
use Rattle.local_run.proofs.Imports.{local_run, negsuc, not, pos, refl, span_from, span_parts, subst, sym, true}
use Rattle.local_run.proofs.Imports.{valuation, ℕ, ℤ, ◌&&◌, ◌+ℤ◌, ◌+◌, ◌-ℤ◌, ◌-◌, ◌<ℤ◌, ◌<◌, ◌∙◌, ◌≡◌, ◌≢◌, ◌≤◌, ◌⊎◌}
use Rattle.bbm_rule.proofs.RingTests.{ring_read}
use Rattle.std.specs.Option.{is_some}

-- ---- numbers of columns and rows
pub inner_in_span : (c n k : ℕ) → k < n → in_span c n (box_coord c k) ≡ true
unfolding box_coord
inner_in_span c n k l = span_from c n (c + k) (omega arith) (omega arith)

pub inner_in_box : (b : Box2) (x y : ℕ) → x < b.w → y < b.h → in_box b (box_coord b.x x) (box_coord b.y y) ≡ true
unfolding in_box
inner_in_box b x y lx ly = and_from _ _ (inner_in_span b.x b.w x lx) (inner_in_span b.y b.h y ly)

pub record At (c n : ℕ) (z : ℤ) : Type 0 where
  pub number : ℕ
  pub below : number < n
  pub is : z ≡ box_coord c number

pub span_at : (c n : ℕ) (z : ℤ) → in_span c n z ≡ true → At c n z
unfolding box_coord
span_at c n (pos k) h =
    let p = span_parts c n k h in
    record { number = k - c; below = omega arith; is = ap pos (omega arith) }
span_at c n (negsuc k) h = absurd (false≢true (sym (in_span-negsuc c n k) ∙ h))

inner_less : (c k m : ℕ) → box_coord c k <ℤ box_coord c m → k < m
unfolding box_coord
inner_less c k m h = omega (arith, ints, h)

-- ---- the least number
pub least_map : (n : ℕ) (P Q : ℕ → Type 0) → ((a : ℕ) → a < n → P a → Q a) → ((a : ℕ) → a < n → Q a → P a) →
    (r : Option ℕ) → IsLeastBelow n P r → IsLeastBelow n Q r
least_map n P Q h1 h2 r h3 = grind (arith, common_steps)

-- where none is found none has the fact
pub none_least : (n : ℕ) (P : ℕ → Type 0) (r : Option ℕ) → is_some r ≡ false → IsLeastBelow n P r → (a : ℕ) → a < n →
    ¬ P a
none_least n P None e h = h
none_least n P (Some a) e h = absurd (false≢true (sym e))

-- no cell but those of the ring has a fault of its edge
pub edge_none : (j : JobView) (n : ℕ) (u : ℕ → Valuation) (t : ℕ) (k : Kind) (x y : ℤ) → Edge ≡ k →
    in_ring j.area x y ≡ false → IsLeastBelow n (λ a. IsFaultUnderValues j (u a) t k x y) None
edge_none j n u t k x y e out a l f = grind (arith, common_steps, false≢true)

pub end_least : (j : JobView) (vs : Values) (n : ℕ) (f : ℕ → Bool) (s : Signal) (d : Demand) (t : ℕ) (k : Kind)
    (x y : ℤ) (r : Option ℕ) → End ≡ k → IsKindScannedAt j t k → in_box j.area x y ≡ true → job_demand j x y ≡ d →
    ((v : Valuation) (b : Bool) → MeetsDemand v d b → b ≡ is_live v s) →
    ((v : Valuation) (b : Bool) → b ≡ is_live v s → MeetsDemand v d b) →
    ((a : ℕ) → a < n → f a ≡ local_run j (valuation vs a) t x y) →
    IsLeastBelow n (λ a. (is_defined_under vs a ≡ true) × (f a ≢ is_live (valuation vs a) s)) r →
    IsLeastBelow n (λ a. IsDefinedAndHasFault j vs a t k x y) r
end_least j vs n f s d t k x y r e sought inside ed to from same h = grind (arith, common_steps, least_map)

-- no cell but those of the ring is found
pub edge_not_found : (j : JobView) (vs : Values) (n t : ℕ) (k : Kind) (x y : ℤ) → Edge ≡ k →
    in_ring j.area x y ≡ false → IsLeastBelow n (λ a. IsDefinedAndHasFault j vs a t k x y) None
edge_not_found j vs n t k x y e out a l f = edge_none j n (λ a. valuation vs a) t k x y e out a l f.1

-- ---- cells in order
fault_in_box : (j : JobView) (v : Valuation) (t : ℕ) (kind : Kind) (x y : ℤ) → IsKindScannedAt j t kind →
    IsFaultUnderValues j v t kind x y → in_box j.area x y ≡ true
unfolding in_ring
fault_in_box j v t kind x y h1 h2 = grind (arith, common_steps, and_parts)

abbrev pub FreeAt : JobView → Values → ℕ → Kind → ℕ → ℕ → ℕ → Type 0
FreeAt j vs t kind x y a = ¬ IsDefinedAndHasFault j vs a t kind (box_coord j.area.x x) (box_coord j.area.y y)

pub free_from : (j : JobView) (vs : Values) (t : ℕ) (kind : Kind) → IsKindScannedAt j t kind →
    ((x y a : ℕ) → x < j.area.w → y < j.area.h → a < assignments j → FreeAt j vs t kind x y a) →
    HasNoFaultOfKind j vs t kind
unfolding in_box
free_from j vs t kind s free x y a l f =
    let h = and_parts _ _ (fault_in_box j _ t kind x y s f.1) in
    let px = span_at j.area.x j.area.w x h.0 in
    let py = span_at j.area.y j.area.h y h.1 in
    grind (arith, common_steps)

pub first_from : (j : JobView) (vs : Values) (t : ℕ) (kind : Kind) (x y a : ℕ) (cx cy : ℤ) → IsKindScannedAt j t kind →
    cx ≡ box_coord j.area.x x → cy ≡ box_coord j.area.y y →
    x < j.area.w → y < j.area.h →
    ((x' y' a' : ℕ) → x' < j.area.w → y' < y → a' < assignments j → FreeAt j vs t kind x' y' a') →
    ((x' a' : ℕ) → x' < x → a' < assignments j → FreeAt j vs t kind x' y a') →
    IsLeastBelow (assignments j) (λ a'.
    IsDefinedAndHasFault j vs a' t kind (box_coord j.area.x x) (box_coord j.area.y y))
    (Some a) →
    IsFirstFaultOfKind j vs t kind (record { time = t; kind = kind; cell = record { x = cx; y = cy }; assignment = a })
unfolding in_box
first_from j vs t kind x y a cx cy s ex ey lx ly rows cells least = rw (ex, ey) (record {
  at_time = refl;
  same_kind = refl;
  small = least.0;
  fault = least.1;
  row = λ x' y' a' l less f.
      let h = and_parts _ _ (fault_in_box j _ t kind x' y' s f.1) in
      let px = span_at j.area.x j.area.w x' h.0 in
      let py = span_at j.area.y j.area.h y' h.1 in
      rows px.number py.number a' px.below
      (inner_less j.area.y py.number y (subst (λ (z : ℤ). z <ℤ box_coord j.area.y y) py.is less)) l
      (subst (λ (z : ℤ). IsDefinedAndHasFault j vs a' t kind z (box_coord j.area.y py.number)) px.is
      (subst (λ (z : ℤ). IsDefinedAndHasFault j vs a' t kind x' z) py.is f));
  column = λ x' a' l less f.
      let h = and_parts _ _ (fault_in_box j _ t kind x' (box_coord j.area.y y) s f.1) in
      let px = span_at j.area.x j.area.w x' h.0 in
      cells px.number a' (inner_less j.area.x px.number x (subst (λ (z : ℤ). z <ℤ box_coord j.area.x x) px.is less)) l
      (subst (λ (z : ℤ). IsDefinedAndHasFault j vs a' t kind z (box_coord j.area.y y)) px.is f);
  assignment = least.2;
})

-- ---- cells that are passed over
none_of : (b : Bool) → (b && not (true && true)) ≡ false
none_of b = grind (arith, common_steps)

one_less : (c k : ℕ) → 1 ≤ k → box_coord c k -ℤ pos 1 ≡ pos (c + (k - 1))
unfolding box_coord
one_less c k l = grind (arith, common_steps, ints)

one_more : (c k : ℕ) → box_coord c k +ℤ pos 1 ≡ pos (c + (k + 1))
unfolding box_coord
one_more c k = omega (arith, ints)

both_beside : (c n k : ℕ) → 1 ≤ k → k + 1 < n →
    (in_span c n (box_coord c k -ℤ pos 1) && in_span c n (box_coord c k +ℤ pos 1)) ≡ true
both_beside c n k l h = grind (arith, common_steps, and_from, one_less, span_from, one_more)

-- a cell between the first and the last one of a row between the first and the last one is not in the ring
pub not_in_ring : (b : Box2) (x y : ℕ) → 1 ≤ x → x + 1 < b.w → 1 ≤ y → y + 1 < b.h →
    in_ring b (box_coord b.x x) (box_coord b.y y) ≡ false
not_in_ring b x y lx hx ly hy =
    sym (ring_read b (box_coord b.x x) (box_coord b.y y) _ true true refl (sym (both_beside b.x b.w x lx hx))
    (sym (both_beside b.y b.h y ly hy))) ∙ none_of _

-- where a row is passed over, it is so from its first cell to its last one
abbrev pub IsAtEitherEnd : ℕ → ℕ → ℕ → Type 0
IsAtEitherEnd w x stride = (stride ≡ 1) ⊎ ((x ≡ 0) ⊎ (w ≤ x + 1))

pub still_at_either_end : (kind : Kind) (w h y x stride : ℕ) → IsScanStride kind w h y stride →
    IsAtEitherEnd w x stride → IsAtEitherEnd w (x + stride) stride
still_at_either_end kind w h y x stride s at = grind (arith, common_steps)

pub passed_over : (j : JobView) (u : Valuation) (t : ℕ) (kind : Kind) (x x' y stride : ℕ) →
    IsScanStride kind j.area.w j.area.h y stride → IsAtEitherEnd j.area.w x stride → x < x' → x' < x + stride →
    x' < j.area.w → ¬ IsFaultUnderValues j u t kind (box_coord j.area.x x') (box_coord j.area.y y)
passed_over j u t kind x x' y stride s at after before within f = grind (arith, common_steps, edge_none, not_in_ring)
