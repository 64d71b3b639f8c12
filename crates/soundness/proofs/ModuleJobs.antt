-- A module has one job
use Rattle.lemmas.proofs.Common.{common_steps, cond-true, same_head, same_tail}
use Rattle.soundness.proofs.Imports.{All, All-head, All-tail, AllTimesSignal, AreDistinct, AreGatesOrdered, AreLocalsOf}
use Rattle.soundness.proofs.Imports.{Box2, Circuit, Demand, Gate, GateKind, IsDemandWireBelow, IsJobOf}
use Rattle.soundness.proofs.Imports.{IsSignalWireBelow, IsTrue, JobView, List, LocalNet, ModuleLines, Netlist, Pattern}
use Rattle.soundness.proofs.Imports.{Signal, Signals, Some, Source, TimedSignal, Wire, Zero, [], ap, ap₂, arith}
use Rattle.soundness.proofs.Imports.{cases_Bool, circuit_gate, circuit_wire, defines, in_box, inl, inr, job_demand}
use Rattle.soundness.proofs.Imports.{job_start, known, length, map, place_in, range_with_len, refl, renumber_all_times}
use Rattle.soundness.proofs.Imports.{renumber_demand, renumber_event, renumber_signal, renumber_signals, renumber_stop}
use Rattle.soundness.proofs.Imports.{same_Some, slice_get, slice_get-get_or, slice_index, subst, suc, sym, true}
use Rattle.soundness.proofs.Imports.{unwrap_or, wires, ℕ, ℤ, ◌*◌, ◌+◌, ◌<◌, ◌∙◌, ◌∷◌, ◌≡◌, ◌≤◌}
use Rattle.circuit.specs.Meaning.{wires_after}
use Rattle.module_box.specs.Locals.{renumber_gate}
use Rattle.soundness.specs.ModuleLaws.{ModuleHasOneJob}
use Rattle.local_run.proofs.OwnWires.{demand_below, demand_outside, start_below, start_outside}
use Rattle.soundness.proofs.BoxLists.{same_over_box}
use Rattle.module_job.specs.declared.job.Demand.TheVariants as Demanded
use Rattle.module_job.specs.declared.job.Stop as listed

-- ---- what the same wires of the circuit stand for is the same

map_back : {X : Type 0} (g : X → X) (P : X → Type 0) → ((x y : X) → P x → P y → g x ≡ g y → x ≡ y) → (xs ys : List X) →
    All P xs → All P ys → map g xs ≡ map g ys → xs ≡ ys
map_back g P one [] [] a b e = refl
map_back g P one [] (y ∷ ys) a b e = absurd cc
map_back g P one (x ∷ xs) [] a b e = absurd cc
map_back g P one (x ∷ xs) (y ∷ ys) a b e =
    ap₂ (λ z zs. z ∷ zs) (one x y (All-head P x xs a) (All-head P y ys b)
    (same_head (g x) (g y) (map g xs) (map g ys) e))
    (map_back g P one xs ys (All-tail P x xs a) (All-tail P y ys b) (same_tail (g x) (g y) (map g xs) (map g ys) e))

abbrev wire_in : Signal → ℕ
wire_in (Wire w) = w
wire_in _ = 0

module _ (ws : List ℕ) (different : AreDistinct ws) where
  abbrev f : ℕ → ℕ
  f = slice_index ws

  number_back : (a b : ℕ) → a < length ws → b < length ws → f a ≡ f b → a ≡ b
  number_back a b la lb e = different a b (slice_index ws a) (slice_get-get_or ws a 0 la)
      (slice_get-get_or ws b 0 lb ∙ ap Some (sym e))

  pub signal_back : (s t : Signal) → IsSignalWireBelow (length ws) s → IsSignalWireBelow (length ws) t →
      renumber_signal f s ≡ renumber_signal f t → s ≡ t
  signal_back s t h1 h2 h3 = grind (arith, common_steps, number_back)

  demand_back : (s t : Demand) → IsDemandWireBelow (length ws) s → IsDemandWireBelow (length ws) t →
      renumber_demand f s ≡ renumber_demand f t → s ≡ t
  demand_back s t h1 h2 h3 = grind (arith, common_steps, number_back)

  all_times_back : (s t : AllTimesSignal) → IsSignalWireBelow (length ws) s.signal →
      IsSignalWireBelow (length ws) t.signal → renumber_all_times f s ≡ renumber_all_times f t → s ≡ t
  all_times_back s t a b e =
      let signal = signal_back s.signal t.signal a b (ap (λ (h : AllTimesSignal). h.signal) e) in
      λ i. record { cell = ap (λ (h : AllTimesSignal). h.cell) e i; signal = signal i }

  event_back : (s t : TimedSignal) → IsSignalWireBelow (length ws) s.signal → IsSignalWireBelow (length ws) t.signal →
      renumber_event f s ≡ renumber_event f t → s ≡ t
  event_back s t a b e =
      let signal = signal_back s.signal t.signal a b (ap (λ (h : TimedSignal). h.signal) e) in
      λ i. record { at = ap (λ (h : TimedSignal). h.at) e i; signal = signal i }

  signals_back : (s t : Signals) → All (λ h. IsSignalWireBelow (length ws) h.signal) s.all_times →
      All (λ h. IsSignalWireBelow (length ws) h.signal) s.events →
      All (λ h. IsSignalWireBelow (length ws) h.signal) t.all_times →
      All (λ h. IsSignalWireBelow (length ws) h.signal) t.events → renumber_signals f s ≡ renumber_signals f t → s ≡ t
  signals_back s t sh se th te e =
      let all_times = map_back (renumber_all_times f)
      (λ (h : AllTimesSignal). IsSignalWireBelow (length ws) h.signal) all_times_back s.all_times t.all_times sh th
      (ap (λ (r : Signals). r.all_times) e) in
      let events = map_back (renumber_event f)
      (λ (h : TimedSignal). IsSignalWireBelow (length ws) h.signal) event_back s.events t.events se te
      (ap (λ (r : Signals). r.events) e) in
      λ i. record { all_times = all_times i; events = events i }

  stop_back : (s t : listed.Stop) → s.wire < length ws → t.wire < length ws → renumber_stop f s ≡ renumber_stop f t →
      s ≡ t
  stop_back s t a b e = grind (arith, common_steps, number_back)

  -- ---- gates

  defines_some : (k : GateKind) → 1 ≤ defines k
  defines_some (Source b) = omega arith
  defines_some _ = omega arith

  grows : (n : ℕ) (gs : List Gate) → n ≤ wires_after n gs
  unfolding wires_after
  grows n [] = omega arith
  grows n (g ∷ gs) = let more = grows (n + defines g.kind) gs in omega (arith, more)

  too_many : (n : ℕ) (g : Gate) (gs : List Gate) → n ≡ length ws → wires_after (n + defines g.kind) gs ≡ length ws → ⊥
  too_many n g gs a b = grind (arith, common_steps, defines_some, grows)

  gate_back : (n : ℕ) (g h : Gate) → n ≤ length ws → All (λ w. w < n) g.ins → All (λ w. w < n) h.ins →
      g.outs ≡ range_with_len n (defines g.kind) → h.outs ≡ range_with_len n (defines h.kind) →
      renumber_gate f g ≡ renumber_gate f h → g ≡ h
  gate_back n g h small gi hi go ho e =
      let kind : g.kind ≡ h.kind = ap (λ (x : Gate). x.kind) e in
      let below : (w : ℕ) → w < n → w < length ws = λ w l. omega (arith, small, l) in
      let back : (a b : ℕ) → a < n → b < n → f a ≡ f b → a ≡ b =
      λ a b la lb. number_back a b (below a la) (below b lb) in
      let ins : g.ins ≡ h.ins = map_back f (λ w. w < n) back g.ins h.ins gi hi (ap (λ (x : Gate). x.ins) e) in
      let outs : g.outs ≡ h.outs = go ∙ ap (λ k. range_with_len n (defines k)) kind ∙ sym ho in
      λ i. record { kind = kind i; ins = ins i; outs = outs i }

  gates_back : (n : ℕ) (gs hs : List Gate) → AreGatesOrdered n gs → AreGatesOrdered n hs →
      wires_after n gs ≡ length ws → wires_after n hs ≡ length ws →
      ((k : ℕ) (g h : Gate) → slice_get gs k ≡ Some g → slice_get hs k ≡ Some h → renumber_gate f g ≡ renumber_gate f h)
      → gs ≡ hs
  unfolding AreGatesOrdered wires_after
  gates_back n [] [] go ho gw hw each = refl
  gates_back n [] (h ∷ hs) go ho gw hw each = absurd (too_many n h hs gw hw)
  gates_back n (g ∷ gs) [] go ho gw hw each = absurd (too_many n g gs hw gw)
  gates_back n (g ∷ gs) (h ∷ hs) go ho gw hw each =
      let small : n ≤ length ws = (let some = defines_some g.kind in let more = grows (n + defines g.kind) gs in
      omega (arith, some, more, gw)) in
      let first : g ≡ h = gate_back n g h small go.0 ho.0 go.2 ho.2 (each 0 g h refl refl) in
      let kind : g.kind ≡ h.kind = ap (λ (x : Gate). x.kind) first in
      let next : n + defines h.kind ≡ n + defines g.kind = ap (λ k. n + defines k) (sym kind) in
      ap₂ (λ x xs. x ∷ xs) first
      (gates_back (n + defines g.kind) gs hs go.3 (subst (λ m. AreGatesOrdered m hs) next ho.3) gw
      (subst (λ m. wires_after m hs ≡ length ws) next hw) (λ k. each (suc k)))

-- ---- the wires and gates of a module

locals_back : (n : Netlist) (l m : LocalNet) → AreLocalsOf n l → AreLocalsOf n m → l.circuit_wires ≡ m.circuit_wires →
    l.circuit_gates ≡ m.circuit_gates → l.netlist.given ≡ m.netlist.given → AreDistinct l.circuit_wires → l ≡ m
locals_back n l m a b same_wires same_gates same_given different =
    let given : ℕ = l.netlist.given in
    let ordered : AreGatesOrdered given m.netlist.gates =
    subst (λ k. AreGatesOrdered k m.netlist.gates) (sym same_given) b.ordered in
    let sized : wires_after given m.netlist.gates ≡ length l.circuit_wires =
    ap (λ k. wires_after k m.netlist.gates) same_given ∙ sym b.sized ∙ ap length (sym same_wires) in
    let each : (k : ℕ) (g h : Gate) → slice_get l.netlist.gates k ≡ Some g → slice_get m.netlist.gates k ≡ Some h →
    renumber_gate (slice_index l.circuit_wires) g ≡ renumber_gate (slice_index l.circuit_wires) h =
    λ k g h at there. same_Some _ _
    (sym (a.used k g at) ∙ ap (λ gs. slice_get n.gates (slice_index gs k)) same_gates ∙ b.used k h there
    ∙ ap (λ ws. Some (renumber_gate (slice_index ws) h)) (sym same_wires)) in
    let gates : l.netlist.gates ≡ m.netlist.gates =
    gates_back l.circuit_wires different given l.netlist.gates m.netlist.gates a.ordered ordered
    (sym a.sized) sized each in
    grind (arith, common_steps)

-- ---- two jobs of a module

module _ (c : Circuit) (p : Pattern) (m : ModuleLines) (j k : JobView) (different : AreDistinct (known c m))
    (of_j : IsJobOf c p m j) (of_k : IsJobOf c p m k) where
  abbrev ws : List ℕ
  ws = j.locals.circuit_wires

  apart : AreDistinct ws
  apart = subst AreDistinct (sym of_j.wires) different

  same_area : j.area ≡ k.area
  same_area = of_j.area ∙ sym of_k.area

  same_locals : j.locals ≡ k.locals
  same_locals = locals_back c.netlist j.locals k.locals of_j.locals of_k.locals (of_j.wires ∙ sym of_k.wires)
      (of_j.used ∙ sym of_k.used) (of_j.cut ∙ sym of_k.cut) apart

  -- how many wires there are
  many_j : wires j.locals.netlist ≡ length ws
  many_j = sym of_j.locals.sized

  many_k : wires k.locals.netlist ≡ length ws
  many_k = ap (λ (l : LocalNet). wires l.netlist) (sym same_locals) ∙ many_j

  -- what is said of the wires of k is said of those of j
  wire_k : circuit_wire k.locals ≡ slice_index ws
  wire_k = ap (λ (l : LocalNet). slice_index l.circuit_wires) (sym same_locals)

  inside_m : (x y : ℤ) → IsTrue (in_box j.area x y) → IsTrue (in_box m.area x y)
  inside_m x y h = subst (λ b. IsTrue (in_box b x y)) of_j.area h

  same_start : (x y : ℤ) → job_start j x y ≡ job_start k x y
  same_start x y = elim (cases_Bool (in_box j.area x y)) [
    | inl h ↦ signal_back ws apart (job_start j x y) (job_start k x y)
        (subst (λ n. IsSignalWireBelow n (job_start j x y)) many_j (start_below j x y of_j.own))
        (subst (λ n. IsSignalWireBelow n (job_start k x y)) many_k (start_below k x y of_k.own))
        (of_j.start x y (inside_m x y h) ∙ sym (of_k.start x y (inside_m x y h))
        ∙ ap (λ g. renumber_signal g (job_start k x y)) wire_k)
    | inr h ↦ start_outside j x y h ∙ sym (start_outside k x y (ap (λ b. in_box b x y) (sym same_area) ∙ h))
  ]

  same_demand : (x y : ℤ) → job_demand j x y ≡ job_demand k x y
  same_demand x y = elim (cases_Bool (in_box j.area x y)) [
    | inl h ↦ demand_back ws apart (job_demand j x y) (job_demand k x y)
        (subst (λ n. IsDemandWireBelow n (job_demand j x y)) many_j (demand_below j x y of_j.own))
        (subst (λ n. IsDemandWireBelow n (job_demand k x y)) many_k (demand_below k x y of_k.own))
        (of_j.demand x y (inside_m x y h) ∙ sym (of_k.demand x y (inside_m x y h))
        ∙ ap (λ g. renumber_demand g (job_demand k x y)) wire_k)
    | inr h ↦ demand_outside j x y h ∙ sym (demand_outside k x y (ap (λ b. in_box b x y) (sym same_area) ∙ h))
  ]

  all_j : {X : Type 0} (signal : X → Signal) (xs : List X) →
      All (λ x. IsSignalWireBelow (wires j.locals.netlist) (signal x)) xs →
      All (λ x. IsSignalWireBelow (length ws) (signal x)) xs
  all_j signal xs all = subst (λ n. All (λ x. IsSignalWireBelow n (signal x)) xs) many_j all

  all_k : {X : Type 0} (signal : X → Signal) (xs : List X) →
      All (λ x. IsSignalWireBelow (wires k.locals.netlist) (signal x)) xs →
      All (λ x. IsSignalWireBelow (length ws) (signal x)) xs
  all_k signal xs all = subst (λ n. All (λ x. IsSignalWireBelow n (signal x)) xs) many_k all

  same_edges : j.edges ≡ k.edges
  same_edges = signals_back ws apart j.edges k.edges
      (all_j (λ (h : AllTimesSignal). h.signal) j.edges.all_times of_j.own.edge_all_times)
      (all_j (λ (h : TimedSignal). h.signal) j.edges.events of_j.own.edge_events)
      (all_k (λ (h : AllTimesSignal). h.signal) k.edges.all_times of_k.own.edge_all_times)
      (all_k (λ (h : TimedSignal). h.signal) k.edges.events of_k.own.edge_events)
      (of_j.edges ∙ sym of_k.edges ∙ ap (λ g. renumber_signals g k.edges) wire_k)

  same_halos : j.halos ≡ k.halos
  same_halos = signals_back ws apart j.halos k.halos
      (all_j (λ (h : AllTimesSignal). h.signal) j.halos.all_times of_j.own.halo_all_times)
      (all_j (λ (h : TimedSignal). h.signal) j.halos.events of_j.own.halo_events)
      (all_k (λ (h : AllTimesSignal). h.signal) k.halos.all_times of_k.own.halo_all_times)
      (all_k (λ (h : TimedSignal). h.signal) k.halos.events of_k.own.halo_events)
      (of_j.halos ∙ sym of_k.halos ∙ ap (λ g. renumber_signals g k.halos) wire_k)

  below_j : All (λ s. s.wire < length ws) j.stops
  below_j = subst (λ n. All (λ s. s.wire < n) j.stops) many_j of_j.own.stops

  below_k : All (λ s. s.wire < length ws) k.stops
  below_k = subst (λ n. All (λ s. s.wire < n) k.stops) many_k of_k.own.stops

  same_stops : j.stops ≡ k.stops
  same_stops = map_back (renumber_stop (slice_index ws)) (λ (s : listed.Stop). s.wire < length ws)
      (stop_back ws apart) j.stops k.stops below_j below_k
      (of_j.stops ∙ sym of_k.stops ∙ ap (λ g. map (renumber_stop g) k.stops) wire_k)

  one_gate : (x y : ℕ) → x < length j.locals.netlist.gates → y < length j.locals.netlist.gates →
      circuit_gate j.locals x ≡ circuit_gate j.locals y → x ≡ y
  one_gate x y lx ly e = grind (arith, common_steps)

  same_kept : j.kept ≡ k.kept
  same_kept = map_back (circuit_gate j.locals)
      (λ g. g < length j.locals.netlist.gates) one_gate j.kept k.kept of_j.kept_are_used
      (subst (λ (l : LocalNet). All (λ g. g < length l.netlist.gates) k.kept) (sym same_locals) of_k.kept_are_used)
      (of_j.kept ∙ sym of_k.kept ∙ ap (λ (l : LocalNet). map (circuit_gate l) k.kept) (sym same_locals))

  -- where a cell of the box is, a list says what the job says
  start_inside : (i : JobView) (x y : ℤ) → in_box i.area x y ≡ true →
      job_start i x y ≡ unwrap_or (slice_get i.starts (place_in i.area x y)) Zero
  unfolding job_start
  start_inside i x y h = cond-true _ _ _ h

  demand_inside : (i : JobView) (x y : ℤ) → in_box i.area x y ≡ true
      → job_demand i x y ≡ unwrap_or (slice_get i.demands (place_in i.area x y)) Demanded.Dead
  unfolding job_demand
  demand_inside i x y h = cond-true _ _ _ h

  area_of_j : m.area.w * m.area.h ≡ j.area.w * j.area.h
  area_of_j = ap (λ (b : Box2). b.w * b.h) (sym of_j.area)

  same_starts : j.starts ≡ k.starts
  same_starts = same_over_box j.area j.starts k.starts Zero (of_j.start_count ∙ area_of_j)
      (of_k.start_count ∙ area_of_j)
      (λ x y h. grind (arith, common_steps, start_inside, same_start, slice_get, same_area))

  same_demands : j.demands ≡ k.demands
  same_demands = same_over_box j.area j.demands k.demands Demanded.Dead (of_j.demand_count ∙ area_of_j)
      (of_k.demand_count ∙ area_of_j)
      (λ x y h. grind (arith, common_steps, demand_inside, same_demand, slice_get, same_area))

  same_job : j ≡ k
  same_job = λ i. record {
    area = same_area i;
    steps = (of_j.steps ∙ sym of_k.steps) i;
    locals = same_locals i;
    starts = same_starts i;
    demands = same_demands i;
    edges = same_edges i;
    halos = same_halos i;
    stops = same_stops i;
    kept = same_kept i;
  }

pub one_job : ModuleHasOneJob
one_job c p m j k different of_j of_k = same_job c p m j k different of_j of_k
