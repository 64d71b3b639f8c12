-- The jobs of modules: which one has a cell, and what their signals say by the wires of the circuit
use Rattle.soundness.proofs.Imports.{All, All-head, All-tail, AllTimesSignal, BelongTogether, Bool, BorderLine, Box2}
use Rattle.soundness.proofs.Imports.{Cell, Circuit, CircuitLine, Demand, IsJobOf, IsModule, JobView, List, LocalNet}
use Rattle.soundness.proofs.Imports.{MeetsDemand, ModuleLines, None, Option, Pattern, Signal, Some, TimedSignal}
use Rattle.soundness.proofs.Imports.{Valuation, Zero, [], all_times_at, ap, arith, cases_Bool, signal_if_starred}
use Rattle.soundness.proofs.Imports.{cell_same, circuit_of, circuit_wire, common_steps, edge_signal, edges, event_at}
use Rattle.soundness.proofs.Imports.{event_if_timed, false, flat_map, halo_same, halo_signal, halos, in_box, in_ring}
use Rattle.soundness.proofs.Imports.{is_cell_at, is_live, line_signals, mapped_from, one_or_named_wire, refl}
use Rattle.soundness.proofs.Imports.{renumber_demand, renumber_signal, setting_of, signal_at, slice_get}
use Rattle.soundness.proofs.Imports.{slice_get_within, some_at, sym, true, true≢false, values_by_local_number, whole, ℕ}
use Rattle.soundness.proofs.Imports.{ℤ, ◌++◌, ◌∙◌, ◌∷◌, ◌≡◌}
use Rattle.lemmas.proofs.Common.{cond-false, and-false}
use Rattle.border_match.proofs.Bridge.{edge_same}

-- ---- signals by the wires of the circuit

live_seen : (l : LocalNet) (v : Valuation) (s : Signal) →
    is_live (values_by_local_number l v) s ≡ is_live v (renumber_signal (circuit_wire l) s)
live_seen l v s = grind (arith, common_steps)

pub meets_for_circuit_wires : (l : LocalNet) (v : Valuation) (d : Demand) (live : Bool) →
    MeetsDemand (values_by_local_number l v) d live → MeetsDemand v (renumber_demand (circuit_wire l) d) live
meets_for_circuit_wires l v d live h1 = grind (arith, common_steps)

pub live_renumbered : (l : LocalNet) (v : Valuation) (s r : Signal) → renumber_signal (circuit_wire l) s ≡ r →
    is_live (values_by_local_number l v) s ≡ is_live v r
live_renumbered l v s r e = live_seen l v s ∙ ap (is_live v) e

-- ---- the job of a module

-- job i is that of module i
pub record Known (lines : List CircuitLine) (p : Pattern) (ms : List ModuleLines) (i : ℕ) (j : JobView) : Type 0 where
  pub of : ModuleLines
  pub numbered : slice_get ms i ≡ Some of
  pub is_job : IsJobOf (circuit_of lines) p of j
  pub good : IsModule (setting_of lines p) of

pub known_job : (lines : List CircuitLine) (p : Pattern) (ms : List ModuleLines) (jobs : List JobView) (i : ℕ)
    (j : JobView) → BelongTogether lines p ms jobs → slice_get jobs i ≡ Some j → Known lines p ms i j
known_job lines p ms jobs i j b e =
    let m = some_at ms i (let lt = slice_get_within jobs i j e in let n = b.are_jobs.count in omega (arith, lt, n)) in
    record { of = m.0; numbered = m.1; is_job = b.are_jobs.each i m.0 j m.1 e; good = b.are_modules.each i m.0 m.1 }

-- which job has a cell of the rectangle
pub record Owner (lines : List CircuitLine) (p : Pattern) (ms : List ModuleLines) (jobs : List JobView)
    (x y : ℤ) : Type 0 where
  pub number : ℕ
  pub job : JobView
  pub numbered : slice_get jobs number ≡ Some job
  pub known : Known lines p ms number job
  pub owned : in_box job.area x y ≡ true

pub owner_of : (lines : List CircuitLine) (p : Pattern) (ms : List ModuleLines) (jobs : List JobView) (x y : ℤ) →
    BelongTogether lines p ms jobs → in_box (whole p.size) x y ≡ true → Owner lines p ms jobs x y
owner_of lines p ms jobs x y b h =
    let c = b.are_modules.tile.covered x y h in
    let m = mapped_from (λ (m : ModuleLines). m.area) ms c.0 c.1 c.2 in
    let j = some_at jobs c.0 (let lt = slice_get_within ms c.0 m.0 m.1 in let n = b.are_jobs.count in
    omega (arith, lt, n)) in
    let k = known_job lines p ms jobs c.0 j.0 b j.1 in
    record {
      number = c.0;
      job = j.0;
      numbered = j.1;
      known = k;
      owned = ap (λ (a : Box2). in_box a x y) ((b.are_jobs.each c.0 m.0 j.0 m.1 j.1).area ∙ m.2) ∙ c.3;
    }

-- ---- cells that no line names

one_all_times : (e : BorderLine) (time : Option ℕ) (s : Signal) (rest : List AllTimesSignal) (x y : ℤ) →
    is_cell_at e.cell x y ≡ false → all_times_at rest x y ≡ None →
    all_times_at (signal_if_starred e time s ++ rest) x y ≡ None
unfolding all_times_at
one_all_times e time s rest x y h1 h2 = grind (arith, common_steps, cond-false)

one_event : (e : BorderLine) (time : Option ℕ) (s : Signal) (rest : List TimedSignal) (t : ℕ) (x y : ℤ) →
    is_cell_at e.cell x y ≡ false → event_at rest t x y ≡ None → event_at (event_if_timed e time s ++ rest) t x y ≡ None
unfolding event_at
one_event e time s rest t x y h1 h2 = grind (arith, common_steps, cond-false, and-false)

abbrev NamesNot : ℤ → ℤ → BorderLine → Type 0
NamesNot x y e = is_cell_at e.cell x y ≡ false

no_all_times : (c : Circuit) (es : List BorderLine) (x y : ℤ) → All (NamesNot x y) es →
    all_times_at (flat_map (λ e. signal_if_starred e e.time (one_or_named_wire c e.signal)) es) x y ≡ None
unfolding all_times_at
no_all_times c [] x y all = refl
no_all_times c (e ∷ es) x y all =
    one_all_times e e.time (one_or_named_wire c e.signal) _ x y (All-head (NamesNot x y) e es all)
    (no_all_times c es x y (All-tail (NamesNot x y) e es all))

no_event : (c : Circuit) (es : List BorderLine) (t : ℕ) (x y : ℤ) → All (NamesNot x y) es →
    event_at (flat_map (λ e. event_if_timed e e.time (one_or_named_wire c e.signal)) es) t x y ≡ None
unfolding event_at
no_event c [] t x y all = refl
no_event c (e ∷ es) t x y all =
    one_event e e.time (one_or_named_wire c e.signal) _ t x y (All-head (NamesNot x y) e es all)
    (no_event c es t x y (All-tail (NamesNot x y) e es all))

pub no_signal : (c : Circuit) (es : List BorderLine) (t : ℕ) (x y : ℤ) → All (NamesNot x y) es →
    signal_at (line_signals c es) t x y ≡ Zero
unfolding signal_at
no_signal c es t x y all = grind (arith, common_steps, no_all_times, no_event)

pub other_cell : (c : Cell) (x y : ℤ) → (c ≡ record { x = x; y = y } → ⊥) → is_cell_at c x y ≡ false
other_cell c x y f = grind (arith, common_steps, cases_Bool, cell_same)

module _ (lines : List CircuitLine) (p : Pattern) (ms : List ModuleLines) (i : ℕ) (j : JobView) (v : Valuation)
    (t : ℕ) (x y : ℤ) where
  -- no edge is on the rim of the rectangle
  pub rim_edge_dead : Known lines p ms i j → in_ring (whole p.size) x y ≡ true →
      is_live (values_by_local_number j.locals v) (signal_at j.edges t x y) ≡ false
  rim_edge_dead k rim =
      live_renumbered j.locals v (signal_at j.edges t x y) Zero
      (edge_same lines p k.of j t x y k.is_job
      ∙ no_signal (circuit_of lines) (edges k.of) t x y
      (λ n d lt. other_cell _ x y (λ same.
      true≢false (sym rim ∙ ap (λ (c : Cell). in_ring (whole p.size) c.x c.y) (sym same)
      ∙ (k.good.edge_lines n d lt).rim))))

  -- no halo line is outside the rectangle
  pub outer_halo_dead : Known lines p ms i j → in_box (whole p.size) x y ≡ false →
      is_live (values_by_local_number j.locals v) (signal_at j.halos t x y) ≡ false
  outer_halo_dead k out =
      live_renumbered j.locals v (signal_at j.halos t x y) Zero
      (halo_same lines p k.of j t x y k.is_job
      ∙ no_signal (circuit_of lines) (halos k.of) t x y
      (λ n d lt. other_cell _ x y (λ same.
      true≢false (sym (k.good.halo_lines n d lt).inside ∙ ap (λ (c : Cell). in_box (whole p.size) c.x c.y) same
      ∙ out))))

  pub edge_by_circuit : (k : Known lines p ms i j) →
      is_live (values_by_local_number j.locals v) (signal_at j.edges t x y)
      ≡ is_live v (edge_signal (circuit_of lines) k.of t x y)
  edge_by_circuit k = live_renumbered j.locals v (signal_at j.edges t x y) _ (edge_same lines p k.of j t x y k.is_job)

  pub halo_by_circuit : (k : Known lines p ms i j) →
      is_live (values_by_local_number j.locals v) (signal_at j.halos t x y)
      ≡ is_live v (halo_signal (circuit_of lines) k.of t x y)
  halo_by_circuit k = live_renumbered j.locals v (signal_at j.halos t x y) _ (halo_same lines p k.of j t x y k.is_job)
