-- The signal of one line for its cell at its time
use Rattle.certificate.proofs.Imports.{AllTimesSignal, Bool, BorderLine, Circuit, Each, Greater, In, Less, List, None}
use Rattle.certificate.proofs.Imports.{Option, Ordering, Pairs, Rises, Signal, Some, StarsExcludeLaterTimes}
use Rattle.certificate.proofs.Imports.{TimedSignal, Zero, [], all_times_at, ap, arith, border_line_cmp, cases_Bool}
use Rattle.certificate.proofs.Imports.{cell_same, common_steps, cond-false, cond-true, each_in, eqb-true, event_at}
use Rattle.certificate.proofs.Imports.{event_if_timed, false, flat_map, inl, inr, is_cell_at, line_signals, nat_cmp}
use Rattle.certificate.proofs.Imports.{not, one_or_named_wire, ordering_then, refl, signal_at, signal_if_starred, subst}
use Rattle.certificate.proofs.Imports.{sym, true, unwrap_or, ℕ, ◌&&◌, ◌++◌, ◌+◌, ◌||◌, ◌∙◌, ◌∷◌, ◌≡◌}
use Rattle.certificate_lines.specs.Rules.{is_star, is_starred_line_at, same_cell}
use Rattle.certificate_lines.proofs.LineOrder.{not_itself}
use Rattle.bbm_rule.proofs.SameCells.{cell_itself}
use Rattle.lemmas.proofs.Common.{same_truth}
use Rattle.certificate.proofs.BorderOrder.{each_of_test}
use Rattle.certificate.proofs.HaloSignals.{event_past, all_times_past}

-- the line says something at the time
abbrev pub SaysAt : ℕ → Option ℕ → Type 0
SaysAt t None = Unit {0}
SaysAt t (Some u) = u ≡ t

-- lines of the same time, or both with a `*`, for the same cell are nowhere apart in the order
same_key : (d e : BorderLine) → d.time ≡ e.time → d.cell ≡ e.cell → border_line_cmp d e ≡ Less → ⊥
unfolding border_line_cmp
same_key d e time cell less = grind (arith, common_steps, not_itself, nat_cmp)

other_cell : (d e : BorderLine) → d.time ≡ e.time → border_line_cmp d e ≡ Less →
    is_cell_at d.cell e.cell.x e.cell.y ≡ false
other_cell d e time less = grind (arith, common_steps, cases_Bool, same_key, cell_same)

-- a line with a `*` is not after one with a time
ranked : (a : ℕ) (o : Ordering) → ordering_then (nat_cmp (a + 1) 0) o ≡ Less → ⊥
ranked a o h = let z : nat_cmp (a + 1) 0 ≡ Greater = grind arith in
    absurd (let k : ordering_then Greater o ≡ Less = ap (λ c. ordering_then c o) (sym z) ∙ h in cc)

timed_first : (d e : BorderLine) (t : ℕ) → d.time ≡ Some t → e.time ≡ None → border_line_cmp d e ≡ Less → ⊥
unfolding border_line_cmp
timed_first d e t dt et less = grind (arith, common_steps, ranked, nat_cmp)

module _ (c : Circuit) where
  abbrev all_times_of : List BorderLine → List AllTimesSignal
  all_times_of es = flat_map (λ e. signal_if_starred e e.time (one_or_named_wire c e.signal)) es

  abbrev events_of : List BorderLine → List TimedSignal
  events_of es = flat_map (λ e. event_if_timed e e.time (one_or_named_wire c e.signal)) es

  -- ---- a line with a `*`

  all_times_first : (e : BorderLine) (time : Option ℕ) (s : Signal) (rest : List AllTimesSignal) → time ≡ None →
      all_times_at (signal_if_starred e time s ++ rest) e.cell.x e.cell.y ≡ Some s
  unfolding all_times_at
  all_times_first e time s rest h1 = grind (arith, common_steps, cond-true, cell_itself)

  all_times_skips : (d e : BorderLine) (time : Option ℕ) → d.time ≡ time → e.time ≡ None → border_line_cmp d e ≡ Less →
      (s : Signal) (rest : List AllTimesSignal) →
      all_times_at (signal_if_starred d time s ++ rest) e.cell.x e.cell.y ≡ all_times_at rest e.cell.x e.cell.y
  all_times_skips d e time h1 h2 h3 s rest = grind (arith, common_steps, all_times_past, other_cell)

  -- a list that is read from its front says what a line says, if the lines before it say nothing
  found : {X : Type 0} (line : BorderLine → List X) (look : List X → Option Signal) (e : BorderLine) (s : Signal) →
      ((rest : List X) → look (line e ++ rest) ≡ Some s) →
      ((d : BorderLine) (rest : List X) → border_line_cmp d e ≡ Less → look (line d ++ rest) ≡ look rest) →
      (es : List BorderLine) → Rises es → In e es → look (flat_map line es) ≡ Some s
  unfolding Pairs In
  found line look e s hit skip [] r i = absurd i
  found line look e s hit skip (d ∷ es) r (inl same) =
      subst (λ x. look (line x ++ flat_map line es) ≡ Some s) (sym same) (hit (flat_map line es))
  found line look e s hit skip (d ∷ es) r (inr later) =
      skip d (flat_map line es) (each_in (λ x. border_line_cmp d x ≡ Less) es r.0 e later)
      ∙ found line look e s hit skip es r.1 later

  -- ---- a line with a time

  not_starred : (e d : BorderLine) (time : Option ℕ) → d.time ≡ time → is_starred_line_at e.cell d ≡ false →
      (s : Signal) (rest : List AllTimesSignal) →
      all_times_at (signal_if_starred d time s ++ rest) e.cell.x e.cell.y ≡ all_times_at rest e.cell.x e.cell.y
  not_starred e d time h1 h2 s rest = grind (arith, common_steps, all_times_past, same_truth, cell_same, cell_itself)

  free_head : (star here : Bool) → star ≡ false → (star || not here) ≡ true → here ≡ false
  free_head star here e h = grind arith

  after_timed : (e d : BorderLine) (t : ℕ) → e.time ≡ Some t → border_line_cmp e d ≡ Less →
      is_starred_line_at e.cell d ≡ false
  after_timed e d t et less = grind (arith, common_steps, timed_first)

  timed_itself : (e : BorderLine) (t : ℕ) → e.time ≡ Some t → is_starred_line_at e.cell e ≡ false
  timed_itself e t et = ap (λ x. is_star x && same_cell e.cell e.cell) et

  none_after : (e : BorderLine) (t : ℕ) (es : List BorderLine) → e.time ≡ Some t →
      Each (λ d. border_line_cmp e d ≡ Less) es → all_times_at (all_times_of es) e.cell.x e.cell.y ≡ None
  unfolding Each all_times_at
  none_after e t [] et a = refl
  none_after e t (d ∷ es) et a =
      not_starred e d d.time refl (after_timed e d t et a.0) (one_or_named_wire c d.signal) (all_times_of es)
      ∙ none_after e t es et a.1

  none_all_times : (e : BorderLine) (t : ℕ) (es : List BorderLine) → e.time ≡ Some t → Rises es →
      StarsExcludeLaterTimes es → In e es → all_times_at (all_times_of es) e.cell.x e.cell.y ≡ None
  unfolding Pairs In StarsExcludeLaterTimes
  none_all_times e t [] et r u i = absurd i
  none_all_times e t (d ∷ es) et r u (inl same) =
      not_starred e d d.time refl (subst (λ x. is_starred_line_at e.cell x ≡ false) (sym same) (timed_itself e t et))
      (one_or_named_wire c d.signal) (all_times_of es)
      ∙ none_after e t es et (subst (λ x. Each (λ f. border_line_cmp x f ≡ Less) es) same r.0)
  none_all_times e t (d ∷ es) et r u (inr later) =
      not_starred e d d.time refl (free_head (is_star e.time) (is_starred_line_at e.cell d) (ap is_star et)
      (each_in _ es (each_of_test _ es u.0) e later))
      (one_or_named_wire c d.signal)
      (all_times_of es)
      ∙ none_all_times e t es et r.1 u.1 later

  event_first : (e : BorderLine) (time : Option ℕ) (t : ℕ) (s : Signal) (rest : List TimedSignal) → time ≡ Some t →
      event_at (event_if_timed e time s ++ rest) t e.cell.x e.cell.y ≡ Some s
  unfolding event_at
  event_first e time t s rest h1 = grind (arith, common_steps, cond-true, cell_itself)

  event_skips : (d e : BorderLine) (time : Option ℕ) (t : ℕ) → d.time ≡ time → e.time ≡ Some t →
      border_line_cmp d e ≡ Less → (s : Signal) (rest : List TimedSignal) →
      event_at (event_if_timed d time s ++ rest) t e.cell.x e.cell.y ≡ event_at rest t e.cell.x e.cell.y
  unfolding event_at
  event_skips d e time t h1 h2 h3 s rest =
      grind (arith, common_steps, cases_Bool, event_past, other_cell, eqb-true, cond-false)

  -- ---- either

  said_by : (e : BorderLine) (time : Option ℕ) (t : ℕ) (es : List BorderLine) → e.time ≡ time → SaysAt t time →
      Rises es → StarsExcludeLaterTimes es → In e es →
      signal_at (line_signals c es) t e.cell.x e.cell.y ≡ one_or_named_wire c e.signal
  unfolding signal_at
  said_by e None t es et says r u i =
      ap (λ o. unwrap_or o (unwrap_or (event_at (events_of es) t e.cell.x e.cell.y) Zero))
      (found (λ d. signal_if_starred d d.time (one_or_named_wire c d.signal)) (λ l. all_times_at l e.cell.x e.cell.y) e
      (one_or_named_wire c e.signal) (λ rest. all_times_first e e.time _ rest et)
      (λ d rest less. all_times_skips d e d.time refl et less _ rest) es r i)
  said_by e (Some v) t es et says r u i =
      let time : e.time ≡ Some t = et ∙ ap Some says in
      ap (λ o. unwrap_or o (unwrap_or (event_at (events_of es) t e.cell.x e.cell.y) Zero))
      (none_all_times e t es time r u i)
      ∙ ap (λ (o : Option Signal). unwrap_or o Zero)
      (found (λ d. event_if_timed d d.time (one_or_named_wire c d.signal)) (λ l. event_at l t e.cell.x e.cell.y) e
      (one_or_named_wire c e.signal) (λ rest. event_first e e.time t _ rest time)
      (λ d rest less. event_skips d e d.time t refl time less _ rest) es r i)

  -- a line of lines in order says the signal of its cell
  pub line_said : (e : BorderLine) (t : ℕ) (es : List BorderLine) → SaysAt t e.time → Rises es →
      StarsExcludeLaterTimes es → In e es →
      signal_at (line_signals c es) t e.cell.x e.cell.y ≡ one_or_named_wire c e.signal
  line_said e t es says r u i = said_by e e.time t es refl says r u i
