-- Facts about a rising list by comparing its keys with a key
use Rattle.module_box.proofs.Imports.{AllTimesSignal, Cell, Equal, Greater, IsRising, Less, List, None, Ordering, Some}
use Rattle.module_box.proofs.Imports.{TimedSignal, [], all_times_at, and_parts, ap, arith}
use Rattle.module_box.proofs.Imports.{cases_Bool, cell_cmp, common_steps, eqb-true, event_at, inl, inr, is_cell_at}
use Rattle.module_box.proofs.Imports.{length, moment_cmp, refl, slice_get, suc, sym, true, zero, ℕ, ℤ, ◌++◌, ◌+◌}
use Rattle.module_box.proofs.Imports.{◌<◌, ◌∙◌, ◌∷◌, ◌≡◌, ◌≢◌, ◌≤◌, ◌⊎◌}
use Rattle.lemmas.proofs.Common.{CmpEqualImpliesEq, IsTotalOrder, cond-false, cond-true, exact_pairs, exact_signed}
use Rattle.lemmas.proofs.Common.{exact_unsigned, nat_cmp_total, on_total, same_or_higher, then_total, tied_itself}
use Rattle.bbm_rule.proofs.CellOrder.{cell_total}
use Rattle.module_box.specs.declared.schedules.Moment.{Moment}
use Rattle.module_box.specs.Schedules.{is_moment_at}
use Rattle.bbm_rule.proofs.SameCells.{cell_itself, cell_same}
use Rattle.module_box.proofs.BoxCells.{same_some}

-- ---- the order of moments
pub moment_total : IsTotalOrder moment_cmp
unfolding moment_cmp
moment_total = then_total (on_total (λ (m : Moment). m.time) nat_cmp_total)
    (on_total (λ (m : Moment). m.cell) cell_total)

abbrev moment_key : Moment → ℕ × (ℤ × ℤ)
moment_key m = (m.time, (m.cell.y, m.cell.x))

pub moment_exact : CmpEqualImpliesEq moment_cmp
unfolding moment_cmp cell_cmp
moment_exact a b e = grind (arith, common_steps, exact_pairs, exact_unsigned, exact_signed, moment_key)

-- ---- bounds of a search
-- the keys before `low` are less than k, and those from `high` on are greater
pub record IsBetween {A K : Type 0} (cmp : K → K → Ordering) (key : A → K) (xs : List A) (k : K)
    (low high : ℕ) : Type 0 where
  pub below : (i : ℕ) (a : A) → i < low → slice_get xs i ≡ Some a → cmp (key a) k ≡ Less
  pub above : (i : ℕ) (a : A) → high ≤ i → slice_get xs i ≡ Some a → cmp k (key a) ≡ Less

pub drop_high : {A K : Type 0} (cmp : K → K → Ordering) (key : A → K) (xs : List A) (k : K) (low high m : ℕ) (a : A) →
    IsTotalOrder cmp → IsRising cmp key xs →
    IsBetween cmp key xs k low high → slice_get xs m ≡ Some a → cmp (key a) k ≡ Greater → IsBetween cmp key xs k low m
drop_high cmp key xs k low high m a total rising b at greater = grind (arith, common_steps, same_or_higher, same_some)

less_equal : Less ≡ Equal → ⊥
less_equal e = cc

-- an earlier element has another key
pub is_first : {A K : Type 0} (cmp : K → K → Ordering) (key : A → K) (xs : List A) (m : ℕ) (a : A) → IsTotalOrder cmp →
    IsRising cmp key xs → slice_get xs m ≡ Some a → (i : ℕ) (b : A) → i < m → slice_get xs i ≡ Some b → key b ≢ key a
is_first cmp key xs m a total rising at i b lt e same =
    less_equal (sym (rising.rises i m b a lt e at) ∙ ap (λ z. cmp z (key a)) same ∙ tied_itself total (key a))

-- ---- what the lookups give

pub then_moment : (m n : Moment) → is_moment_at m n.time n.cell.x n.cell.y ≡ true → m ≡ n
then_moment m n h = grind (arith, common_steps, and_parts, eqb-true, cell_same)

pub all_times_none : (hs : List AllTimesSignal) (c : Cell) →
    ((i : ℕ) (h : AllTimesSignal) → slice_get hs i ≡ Some h → h.cell ≢ c) → all_times_at hs c.x c.y ≡ None
unfolding all_times_at
all_times_none [] c f = refl
all_times_none (h ∷ hs) c f = elim (cases_Bool (is_cell_at h.cell c.x c.y)) [
  | inl e ↦ absurd (f 0 h refl (cell_same h.cell c e))
  | inr e ↦ cond-false _ _ _ e ∙ all_times_none hs c (λ i h'. f (suc i) h')
]

pub all_times_some : (hs : List AllTimesSignal) (i : ℕ) (h : AllTimesSignal) → slice_get hs i ≡ Some h →
    ((j : ℕ) (h' : AllTimesSignal) → j < i → slice_get hs j ≡ Some h' → h'.cell ≢ h.cell) →
    all_times_at hs h.cell.x h.cell.y ≡ Some h.signal
unfolding all_times_at
all_times_some [] i h e f = grind (arith, common_steps)
all_times_some (g ∷ hs) zero h e f = grind (arith, common_steps, same_some, cond-true, cell_itself)
all_times_some (g ∷ hs) (suc i) h e f = elim (cases_Bool (is_cell_at g.cell h.cell.x h.cell.y)) [
  | inl t ↦ absurd (f 0 g (omega arith) refl (cell_same g.cell h.cell t))
  | inr n ↦ cond-false _ _ _ n ∙ all_times_some hs i h e (λ j h' lt. f (suc j) h' (omega arith))
]

pub event_none : (es : List TimedSignal) (m : Moment) →
    ((i : ℕ) (e : TimedSignal) → slice_get es i ≡ Some e → e.at ≢ m) → event_at es m.time m.cell.x m.cell.y ≡ None
unfolding event_at
event_none [] m f = refl
event_none (h ∷ hs) m f = elim (cases_Bool (is_moment_at h.at m.time m.cell.x m.cell.y)) [
  | inl e ↦ absurd (f 0 h refl (then_moment h.at m e))
  | inr e ↦ cond-false _ _ _ e ∙ event_none hs m (λ i h'. f (suc i) h')
]

pub event_some : (es : List TimedSignal) (i : ℕ) (h : TimedSignal) → slice_get es i ≡ Some h →
    ((j : ℕ) (h' : TimedSignal) → j < i → slice_get es j ≡ Some h' → h'.at ≢ h.at) →
    event_at es h.at.time h.at.cell.x h.at.cell.y ≡ Some h.signal
unfolding event_at
event_some [] i h e f = grind (arith, common_steps)
event_some (g ∷ hs) zero h e f = grind (arith, common_steps, same_some, cond-true)
event_some (g ∷ hs) (suc i) h e f = elim (cases_Bool (is_moment_at g.at h.at.time h.at.cell.x h.at.cell.y)) [
  | inl t ↦ absurd (f 0 g (omega arith) refl (then_moment g.at h.at t))
  | inr n ↦ cond-false _ _ _ n ∙ event_some hs i h e (λ j h' lt. f (suc j) h' (omega arith))
]

pub all_times_found : (hs : List AllTimesSignal) (i : ℕ) (h : AllTimesSignal) (c : Cell) → h.cell ≡ c →
    slice_get hs i ≡ Some h → ((j : ℕ) (h' : AllTimesSignal) → j < i → slice_get hs j ≡ Some h' → h'.cell ≢ h.cell) →
    all_times_at hs c.x c.y ≡ Some h.signal
all_times_found hs i h c same e f = grind (arith, common_steps, all_times_some)

pub event_found : (es : List TimedSignal) (i : ℕ) (h : TimedSignal) (m : Moment) → h.at ≡ m → slice_get es i ≡ Some h →
    ((j : ℕ) (h' : TimedSignal) → j < i → slice_get es j ≡ Some h' → h'.at ≢ h.at) →
    event_at es m.time m.cell.x m.cell.y ≡ Some h.signal
event_found es i h m same e f = grind (arith, common_steps, event_some)

-- ---- rising lists that grow
pub pushed : {A : Type 0} (xs : List A) (x : A) (i : ℕ) (a : A) → slice_get (xs ++ x ∷ []) i ≡ Some a →
    (slice_get xs i ≡ Some a) ⊎ ((i ≡ length xs) × (x ≡ a))
pushed [] x zero a e = inr (refl, cc)
pushed [] x (suc i) a e = inl e
pushed (y ∷ xs) x zero a e = inl e
pushed (y ∷ xs) x (suc i) a e = grind (arith, common_steps, pushed xs x i a e)

pub kept : {A : Type 0} (xs ys : List A) (i : ℕ) (a : A) → slice_get xs i ≡ Some a → slice_get (xs ++ ys) i ≡ Some a
kept [] ys i a e = absurd cc
kept (x ∷ xs) ys zero a e = e
kept (x ∷ xs) ys (suc i) a e = kept xs ys i a e

pub at_end : {A : Type 0} (xs : List A) (x : A) → slice_get (xs ++ x ∷ []) (length xs) ≡ Some x
at_end [] x = refl
at_end (y ∷ xs) x = at_end xs x
