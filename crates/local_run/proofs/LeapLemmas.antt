-- Runs that stay as they are, and times that can be leapt over
use Rattle.local_run.proofs.Imports.{AllTimesSignal, AreEventPlacesAroundTime, Cell, Greater, HasSameSignalsAtOddTimes}
use Rattle.local_run.proofs.Imports.{IsOddOfTimePair, IsRising, IsRunUnchangedUntil, JobView, Less, List, Moment, None}
use Rattle.local_run.proofs.Imports.{Signal, Signals, Some, State, TimedSignal, Valuation, Zero, all_times_at}
use Rattle.local_run.proofs.Imports.{all_times_none, ap, ap₂, arith, by_lt_or_le, common_steps, event_at, event_none}
use Rattle.local_run.proofs.Imports.{false, false≢true, in_box, in_halo, inl, inr, is_cell_at, is_first, is_live}
use Rattle.local_run.proofs.Imports.{length, local_run, moment_cmp, moment_total, moved_signals, nat_cmp, partner, refl}
use Rattle.local_run.proofs.Imports.{same_Some, signal_at, signals_moved, slice_get, slice_get_within, step, subst, suc}
use Rattle.local_run.proofs.Imports.{sym, true, unwrap_or, with_halo, zero, ℕ, ℤ, ◌%◌, ◌&&◌, ◌+ℤ◌, ◌+◌, ◌-◌, ◌<◌, ◌||◌}
use Rattle.local_run.proofs.Imports.{◌∙◌, ◌≡◌, ◌≢◌, ◌≤◌}
use Rattle.bbm_rule.proofs.SameCells.{cell_itself, cell_same}
use Rattle.module_box.specs.Schedules.{moment_of}
use Rattle.module_box.proofs.Rising.{all_times_found, event_found}
use Rattle.local_run.specs.Laws.{QuietRunStaysUnchanged, QuietRunAddsNoEdgeFault}
use Rattle.local_run.specs.Leaps.{AreEventsLaterFrom, HasNoEventsBetween}
use Rattle.local_run.proofs.LocalRuns.{even_or_odd, local_even, local_odd, step_all_same}

-- ---- the signal of an event
pub event_there : (es : List TimedSignal) (k : ℕ) (m : Moment) (e : TimedSignal) → IsRising moment_cmp moment_of es →
    slice_get es k ≡ Some e → e.at ≡ m → event_at es m.time m.cell.x m.cell.y ≡ Some e.signal
event_there es k m e rising at same = grind (arith, common_steps, event_found, is_first, moment_total)

-- no signal at a place before k is at the cell
abbrev pub AreOther : List AllTimesSignal → Cell → ℕ → Type 0
AreOther hs c k = (i : ℕ) (h : AllTimesSignal) → i < k → slice_get hs i ≡ Some h → h.cell ≢ c

pub one_more_other : (hs : List AllTimesSignal) (c : Cell) (k : ℕ) (h : AllTimesSignal) → slice_get hs k ≡ Some h →
    is_cell_at h.cell c.x c.y ≡ false → AreOther hs c k → AreOther hs c (k + 1)
one_more_other hs c k h at differs other i g l e same = grind (arith, common_steps, false≢true, cell_itself)

pub all_times_there : (hs : List AllTimesSignal) (k : ℕ) (c : Cell) (h : AllTimesSignal) → AreOther hs c k →
    slice_get hs k ≡ Some h → is_cell_at h.cell c.x c.y ≡ true → all_times_at hs c.x c.y ≡ Some h.signal
all_times_there hs k c h other at same = grind (arith, common_steps, cell_same, all_times_found)

pub all_times_nowhere : (hs : List AllTimesSignal) (c : Cell) → AreOther hs c (length hs) →
    all_times_at hs c.x c.y ≡ None
all_times_nowhere hs c other = all_times_none hs c (λ i h e. other i h (slice_get_within hs i h e) e)

pub steady_there : (s : Signals) (t : ℕ) (x y : ℤ) (v : Signal) → all_times_at s.all_times x y ≡ Some v →
    v ≡ signal_at s t x y
unfolding signal_at
steady_there s t x y v e = sym (ap (λ h. unwrap_or h (unwrap_or (event_at s.events t x y) Zero)) e)

pub signal_there : (s : Signals) (t : ℕ) (x y : ℤ) (v : Signal) → all_times_at s.all_times x y ≡ None →
    event_at s.events t x y ≡ Some v → v ≡ signal_at s t x y
unfolding signal_at
signal_there s t x y v none e = sym (ap₂ (λ h z. unwrap_or h (unwrap_or z Zero)) none e)

-- ---- steps at times of one parity are the same
partner_alike : (k m : ℕ) (x : ℤ) → k % 2 ≡ m % 2 → partner k x ≡ partner m x
unfolding partner
partner_alike k m x e = rw e refl

step_alike : (k m : ℕ) (s : State) (x y : ℤ) → k % 2 ≡ m % 2 → step k s x y ≡ step m s x y
unfolding step
step_alike k m s x y e = grind (arith, common_steps, partner_alike)

with_halo_alike : (j : JobView) (u : Valuation) (k m : ℕ) (s s' : State) (x y : ℤ) → s x y ≡ s' x y →
    signal_at j.halos k x y ≡ signal_at j.halos m x y → with_halo j u k s x y ≡ with_halo j u m s' x y
unfolding with_halo
with_halo_alike j u k m s s' x y e h = ap₂ (λ p q. p || (in_halo j.area x y && is_live u q)) e h

-- ---- one more time
even_next : (j : JobView) (u : Valuation) (k m : ℕ) (x y : ℤ) → k % 2 ≡ 0 → m % 2 ≡ 0 →
    ((x' y' : ℤ) → local_run j u k x' y' ≡ local_run j u m x' y') →
    local_run j u (suc k) x y ≡ local_run j u (suc m) x y
unfolding local_run
even_next j u k m x y ek em same =
    local_even j u k _ x y ek ∙ step_alike k m _ x y (ek ∙ sym em) ∙ step_all_same m _ _ x y same
    ∙ sym (local_even j u m _ x y em)

odd_next : (j : JobView) (u : Valuation) (k m : ℕ) (x y : ℤ) → k % 2 ≡ 1 → m % 2 ≡ 1 →
    ((x' y' : ℤ) → local_run j u k x' y' ≡ local_run j u m x' y') →
    ((x' y' : ℤ) → signal_at j.halos k x' y' ≡ signal_at j.halos m x' y') →
    local_run j u (suc k) x y ≡ local_run j u (suc m) x y
unfolding local_run
odd_next j u k m x y ok om same halo = local_odd j u k _ x y ok
    ∙ ap (λ p. in_box j.area x y && p)
    (step_alike k m _ x y (ok ∙ sym om)
    ∙ step_all_same m _ _ x y (λ x' y'. with_halo_alike j u k m _ _ x' y' (same x' y') (halo x' y')))
    ∙ sym (local_odd j u m _ x y om)

-- the even one of two times that follow one another
even_of : (t : ℕ) → (e : ℕ) × (e % 2 ≡ 0) × (t ≤ e) × (e ≤ t + 1)
even_of t = elim (even_or_odd t) [
  | inl h ↦ (t, h, omega arith, omega arith)
  | inr h ↦ (t + 1, omega arith, omega arith, omega arith)
]

after_same : (j : JobView) (u : Valuation) (t o n k : ℕ) → IsOddOfTimePair t o → IsRunUnchangedUntil j u t (t + 2) →
    HasSameSignalsAtOddTimes j.halos o n → t ≤ k → k < n → ((x y : ℤ) → local_run j u k x y ≡ local_run j u t x y) →
    (x y : ℤ) → local_run j u (suc k) x y ≡ local_run j u t x y
after_same j u t o n k of stays steady from l same x y =
    let odd = of.odd in
    let low = of.from in
    let high = of.next in
    elim (even_or_odd k) [
      | inl ek ↦ let e = even_of t in
          let le = e.2 in
          let he = e.3 in
          even_next j u k e.0 x y ek e.1 (λ x' y'. same x' y' ∙ sym (stays e.0 x' y' le (omega arith)))
          ∙ stays (suc e.0) x y (omega arith) (omega arith)
      | inr ok ↦ odd_next j u k o x y ok odd (λ x' y'. same x' y' ∙ sym (stays o x' y' low (omega arith)))
          (λ x' y'. steady k x' y' (omega arith) l ok) ∙ stays (suc o) x y (omega arith) (omega arith)
    ]

-- ---- and so on
stays_by : (j : JobView) (u : Valuation) (t o n d : ℕ) → IsOddOfTimePair t o → IsRunUnchangedUntil j u t (t + 2) →
    HasSameSignalsAtOddTimes j.halos o n → t + d ≤ n → (x y : ℤ) → local_run j u (t + d) x y ≡ local_run j u t x y
stays_by j u t o n zero of stays steady l x y = let e : t + 0 ≡ t = omega arith in ap (λ k. local_run j u k x y) e
stays_by j u t o n (suc d) of stays steady l x y =
    let e : t + suc d ≡ suc (t + d) = omega arith in
    ap (λ k. local_run j u k x y) e
    ∙ after_same j u t o n (t + d) of stays steady (omega arith) (omega arith)
    (stays_by j u t o n d of stays steady (omega arith)) x y

pub quiet_runs : QuietRunStaysUnchanged
quiet_runs j u t o n of stays steady k x y from to =
    let e : k ≡ t + (k - t) = omega arith in
    ap (λ k. local_run j u k x y) e ∙ stays_by j u t o n (k - t) of stays steady (omega arith) x y

pub no_new_faults : QuietRunAddsNoEdgeFault
no_new_faults j u t o n k x y of stays halos edges from l f =
    let odd = of.odd in
    let low = of.from in
    let high = of.next in
    let fk = f.odd in
    let early = f.early in
    let same : local_run j u k x y ≡ local_run j u o x y =
    quiet_runs j u t o n of stays halos k x y from (omega arith) ∙ sym (stays o x y low (omega arith)) in
    let signal : signal_at j.edges k x y ≡ signal_at j.edges o x y = edges k x y (omega arith) l fk in
    grind (arith, common_steps)

-- ---- events by their times
pub met : (es : List TimedSignal) (t low high : ℕ) → high ≤ low → AreEventPlacesAroundTime es t low high →
    AreEventPlacesAroundTime es t low low
met es t low high l b = grind (arith, common_steps)

-- before the search nothing is known, and then that events at a place and before it are earlier
pub any_place : (es : List TimedSignal) (t : ℕ) → AreEventPlacesAroundTime es t 0 (length es)
any_place es t = grind (arith, common_steps, slice_get_within)

nat_less : (a b : ℕ) → nat_cmp a b ≢ Greater → a ≤ b
nat_less a b h = grind arith

less_greater : Less ≡ Greater → ⊥
less_greater e = cc

moment_less : (m n : Moment) → moment_cmp m n ≡ Less → m.time ≤ n.time
unfolding moment_cmp
moment_less m n h = grind (arith, common_steps, nat_less, less_greater)

-- what stands later in a list that rises by moments is not earlier
pub later_in_time : {A : Type 0} (at : A → Moment) (xs : List A) (i j : ℕ) (a b : A) → IsRising moment_cmp at xs →
    i ≤ j → slice_get xs i ≡ Some a → slice_get xs j ≡ Some b → (at a).time ≤ (at b).time
later_in_time at xs i j a b rising le ea eb = by_lt_or_le i j
    (λ l. moment_less (at a) (at b) (rising.rises i j a b l ea eb))
    (λ ge. grind (arith, common_steps, same_Some, slice_get))

later : (es : List TimedSignal) (i j : ℕ) (a b : TimedSignal) → IsRising moment_cmp moment_of es → i ≤ j →
    slice_get es i ≡ Some a → slice_get es j ≡ Some b → a.at.time ≤ b.at.time
later = later_in_time moment_of

pub raise_time : (es : List TimedSignal) (t low high m : ℕ) (a : TimedSignal) → IsRising moment_cmp moment_of es →
    AreEventPlacesAroundTime es t low high → slice_get es m ≡ Some a → a.at.time < t →
    AreEventPlacesAroundTime es t (m + 1) high
raise_time es t low high m a rising b at less = grind (arith, common_steps, later)

pub sure : (es : List TimedSignal) (t place : ℕ) (a : TimedSignal) → IsRising moment_cmp moment_of es → 0 < place →
    slice_get es (place - 1) ≡ Some a → a.at.time < t → AreEventPlacesAroundTime es t place (length es)
sure es t place a rising some at less =
    let e : place - 1 + 1 ≡ place = omega arith in
    subst (λ n. AreEventPlacesAroundTime es t n (length es)) e
    (raise_time es t 0 (length es) (place - 1) a rising (any_place es t) at less)

pub drop_time : (es : List TimedSignal) (t low high m : ℕ) (a : TimedSignal) → IsRising moment_cmp moment_of es →
    AreEventPlacesAroundTime es t low high → slice_get es m ≡ Some a → t ≤ a.at.time →
    AreEventPlacesAroundTime es t low m
drop_time es t low high m a rising b at le = grind (arith, common_steps, later)

-- where an event is later, so are those behind it
pub all_later : (es : List TimedSignal) (place t : ℕ) (a : TimedSignal) → IsRising moment_cmp moment_of es →
    slice_get es place ≡ Some a → t < a.at.time → AreEventsLaterFrom es place t
all_later es place t a rising at less i e from ei = grind (arith, common_steps, later)

-- the bounds have met at an event: there is none between t and its time
pub none_until : (es : List TimedSignal) (t low high n : ℕ) (a : TimedSignal) → IsRising moment_cmp moment_of es →
    AreEventPlacesAroundTime es t low high → high ≤ low → slice_get es low ≡ Some a → n ≤ a.at.time →
    HasNoEventsBetween es t n
none_until es t low high n a rising b met at le i e ei from to = grind (arith, common_steps, by_lt_or_le, later)

pub none_before : (es : List TimedSignal) (t low high : ℕ) (a : TimedSignal) → IsRising moment_cmp moment_of es →
    AreEventPlacesAroundTime es t low high → high ≤ low → slice_get es low ≡ Some a → HasNoEventsBetween es t a.at.time
none_before es t low high a rising b met at = none_until es t low high a.at.time a rising b met at (omega arith)

-- that time is not before t
pub above_at : (es : List TimedSignal) (t low high : ℕ) (a : TimedSignal) → AreEventPlacesAroundTime es t low high →
    high ≤ low → slice_get es low ≡ Some a → t ≤ a.at.time
above_at es t low high a b met at = b.above low a met at

-- or at the end
pub none_at_all : (es : List TimedSignal) (t low high n : ℕ) → AreEventPlacesAroundTime es t low high →
    length es ≤ low → HasNoEventsBetween es t n
none_at_all es t low high n b met i e ei from to = grind (arith, common_steps, by_lt_or_le, slice_get_within)

-- ---- where there are no events, signals stay
pub steady : (s : Signals) (t n : ℕ) → HasNoEventsBetween s.events t n → HasSameSignalsAtOddTimes s t n
unfolding signal_at
steady s t n none k x y from to odd =
    let at : (m : ℕ) → t ≤ m → m < n → event_at s.events m x y ≡ None =
    λ m h l. event_none s.events (record { time = m; cell = record { x = x; y = y } }) (λ i e ei same.
    let et : e.at.time ≡ m = ap (λ w. w.time) same in none i e ei (omega arith) (omega arith)) in
    ap (λ o. unwrap_or (all_times_at s.all_times x y) (unwrap_or o Zero))
    (at k from to ∙ sym (at t (omega arith) (omega arith)))

pub less_steady : (s : Signals) (t n m : ℕ) → m ≤ n → HasSameSignalsAtOddTimes s t n → HasSameSignalsAtOddTimes s t m
less_steady s t n m l h k x y from to odd = h k x y from (omega arith) odd

-- signals that are moved are steady where they were
pub steady_moved : (s : Signals) (dx dy : ℤ) (t n : ℕ) → HasSameSignalsAtOddTimes (moved_signals dx dy s) t n →
    HasSameSignalsAtOddTimes s t n
steady_moved s dx dy t n h k x y from to odd =
    sym (signals_moved dx dy s k x y) ∙ h k (x +ℤ dx) (y +ℤ dy) from to odd ∙ signals_moved dx dy s t x y
