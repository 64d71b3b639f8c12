-- A module has a job, which is computed from its lines
use Rattle.lemmas.proofs.Common.{common_steps, get_or_at, length_push, take_all}
use Rattle.soundness.proofs.Imports.{All, All-cons, All-head, All-nil, All-tail, AreGatesOrdered, AreJobsOf}
use Rattle.soundness.proofs.Imports.{AreLocalsOf, Bool, Cell, Circuit, CircuitLine, Demand, Each, Gate, IfSome}
use Rattle.soundness.proofs.Imports.{IsDemandWireBelow, IsJobOf, IsModule, IsSignalWireBelow, IsTrue, JobView, List}
use Rattle.soundness.proofs.Imports.{LocalNet, ModuleLines, Netlist, None, One, Option, Pattern, Signal, Some, StopLine}
use Rattle.soundness.proofs.Imports.{Zero, [], ap, append-nil, append_assoc, ap₂, arith, circuit_of, cut_wires, defines}
use Rattle.soundness.proofs.Imports.{demand_outside_mirrors, edges, end_demand, false, flat_map, get_or, halos}
use Rattle.soundness.proofs.Imports.{if◌then◌else◌, in_box, in_cells, in_rectangles, is_among, is_local, is_local_wire}
use Rattle.soundness.proofs.Imports.{keeps, known, length, length-append, length-map, line_signals, map, netlist_of}
use Rattle.soundness.proofs.Imports.{option_map, option_to_list, port_at, range_with_len, rectangle_cells, refl}
use Rattle.soundness.proofs.Imports.{renumber_demand, renumber_signal, renumber_stop, same_Some, setting_of, slice_get}
use Rattle.soundness.proofs.Imports.{slice_get-map, slice_index, start_signal, stop_with_wire_number, stops}
use Rattle.soundness.proofs.Imports.{stops_of_lines, subst, suc, sym, true, wire_of, wire_of_optional_name}
use Rattle.soundness.proofs.Imports.{wire_or_dead, wire_or_zero, wires, ℕ, ℤ, ◌++◌, ◌<◌, ◌||◌, ◌∙◌, ◌∷◌, ◌≡◌}
use Rattle.module_box.specs.Locals.{AreLocalLines, local_wires}
use Rattle.module_box.proofs.LocalNets.{IsOver, IsPart, next_known, part_all, part_more, part_none}
use Rattle.certificate_lines.specs.Entries.{gates}
use Rattle.certificate_lines.specs.Modules.{HasLocalPortWires}
use Rattle.certificate_lines.proofs.BoxPlaces.{cells_inside, found_at, same_count}
use Rattle.certificate_lines.proofs.Pairs.{each_of_all}
use Rattle.certificate.proofs.FullModules.{all_of_each}
use Rattle.certificate.proofs.JobPlaces.{demand_found, start_found}
use Rattle.certificate.proofs.LayoutTableLemmas.{cells_have_ports}
use Rattle.soundness.specs.ModuleLaws.{ModuleHasSomeJob}
use Rattle.soundness.proofs.NumberedSignals.{IsBack, IsNamed, IsNumbered, is_place, lines_back, numbered}
use Rattle.soundness.proofs.NumberedSignals.{numbered_signals, place_among, wire_numbered}
use Rattle.module_job.specs.declared.job.Demand.TheVariants as Demanded
use Rattle.module_job.specs.declared.job.Stop as listed

-- ---- the places of wires

unfoldable pub places : List ℕ → List ℕ → List ℕ
places ws xs = map (place_among ws) xs

-- the wires at the places of some wires are these wires
record ArePlaces (ws xs : List ℕ) : Type 0 where
  pub there : map (slice_index ws) (places ws xs) ≡ xs
  pub below : All (λ i. i < length ws) (places ws xs)

are_places : (ws xs : List ℕ) → All (λ w. IsTrue (is_among ws w)) xs → ArePlaces ws xs
unfolding places
are_places ws [] h = record { there = refl; below = All-nil (λ i. i < length ws) }
are_places ws (x ∷ xs) h =
    let p = is_place ws x (All-head (λ w. IsTrue (is_among ws w)) x xs h) in
    let more = are_places ws xs (All-tail (λ w. IsTrue (is_among ws w)) x xs h) in
    record {
      there = ap₂ (λ a l. a ∷ l) p.there more.there;
      below = All-cons (λ i. i < length ws) (place_among ws x) (places ws xs) p.below more.below;
    }

-- ---- the wires and gates of a module

-- a gate of the circuit over the places of its wires, if `keys` are the wires that are known before it
unfoldable pub placed_gate : List ℕ → Gate → Gate
placed_gate keys g = record {
  kind = g.kind;
  ins = places keys g.ins;
  outs = range_with_len (length keys) (defines g.kind);
}

-- each of the gates, where the wires that a gate defines are known to the next one
unfoldable pub placed_gates : List ℕ → List Gate → List Gate
placed_gates keys [] = []
placed_gates keys (g ∷ gs) = placed_gate keys g ∷ placed_gates (keys ++ g.outs) gs

-- the gates of these numbers
abbrev pub gates_at : Netlist → List ℕ → List Gate
gates_at n ks = flat_map (λ k. option_to_list (slice_get n.gates k)) ks

module _ (n : Netlist) (cuts gates : List ℕ) (ordered : AreGatesOrdered n.given n.gates)
    (lines : AreLocalLines n cuts gates) where
  -- these are all gates of the module, renumbered
  AreDone : List Gate → Type 0
  AreDone done = (keys : List ℕ) × IsPart n cuts gates (length gates) keys done

  over : (keys : List ℕ) (g : Gate) → All (λ w. IsTrue (is_among keys w)) g.ins → IsOver keys g (placed_gate keys g)
  unfolding placed_gate
  over keys g known =
      let ins = are_places keys g.ins known in
      record { kind = refl; within = ins.below; ins = ins.there; outs = refl }

  -- if those before are renumbered, all are after the others
  all_placed : (before after keys : List ℕ) (done : List Gate) → before ++ after ≡ gates →
      IsPart n cuts gates (length before) keys done → AreDone (done ++ placed_gates keys (gates_at n after))
  unfolding AreDone placed_gates
  all_placed before [] keys done e part = grind (arith, common_steps, append-nil)
  all_placed before (k ∷ after) keys done e part =
      let i : ℕ = length before in
      let within : i < length gates =
      (let long = length-append before (k ∷ after) in omega (arith, long, ap length e)) in
      let own : k ≡ get_or gates i k = sym
      (ap (λ l. get_or l i k) (sym e) ∙ get_or_at before k after k i refl) in
      let is = next_known n cuts gates i k keys done lines part within own in
      let g : Gate = is.gate in
      let more = part_more n cuts gates i k keys (keys ++ g.outs) done g (placed_gate keys g) ordered part within own
      is.numbered (over keys g is.ins) refl in
      subst AreDone
      (append_assoc done (placed_gate keys g ∷ []) (placed_gates (keys ++ g.outs) (gates_at n after))
      ∙ ap (λ o. done ++ placed_gates keys (option_to_list o ++ gates_at n after)) (sym is.numbered))
      (all_placed (before ++ k ∷ []) after (keys ++ g.outs) (done ++ placed_gate keys g ∷ [])
      (append_assoc before (k ∷ []) after ∙ e)
      (grind (arith, common_steps, length_push)))

  record HasLocals (gates' : List Gate) : Type 0 where
    pub are : AreLocalsOf n (record {
      netlist = record { given = length cuts; gates = gates' };
      circuit_wires = local_wires n cuts gates;
      circuit_gates = gates;
    })
    pub count : length gates' ≡ length gates

  has_locals : HasLocals (placed_gates cuts (gates_at n gates))
  unfolding AreDone
  has_locals = by (all_placed [] gates cuts [] refl (part_none n cuts gates cuts lines refl))
    where
      by : {done : List Gate} → AreDone done → HasLocals done
      by {done} (keys, part) =
          let same : local_wires n cuts gates ≡ keys = sym
          (part.known ∙ ap (local_wires n cuts) (take_all (length gates) gates (omega arith))) in
          record {
            are = part_all n cuts gates keys (local_wires n cuts gates) gates
                (length gates) done lines part refl same refl;
            count = part.count;
          }

-- ---- what the cells of the box carry

unfoldable pub demanded : List ℕ → Demand → Demand
demanded ws Demanded.Dead = Demanded.Dead
demanded ws Demanded.Live = Demanded.Live
demanded ws (Demanded.Wire w) = Demanded.Wire (place_among ws w)
demanded ws Demanded.Any = Demanded.Any

unfoldable pub placed_stop : List ℕ → listed.Stop → listed.Stop
placed_stop ws s = record s { wire = place_among ws s.wire }

-- What cells carry is numbered anew. The new numbers satisfy P and can be numbered back.
module _ {X : Type 0} (back_by by_number : X → X) (P : X → Type 0) (f : Cell → X) where
  record CellsBack (cells : List Cell) : Type 0 where
    pub back : map back_by (map (λ d. by_number (f d)) cells) ≡ map f cells
    pub below : All P (map (λ d. by_number (f d)) cells)

  cells_back : (cells : List Cell) → Each (λ d. (back_by (by_number (f d)) ≡ f d) × P (by_number (f d))) cells →
      CellsBack cells
  unfolding Each
  cells_back [] h = record { back = refl; below = All-nil P }
  cells_back (d ∷ cells) h =
      let more = cells_back cells h.1 in
      grind (arith, common_steps)

module _ (ws : List ℕ) where
  record IsDemanded (d : Demand) : Type 0 where
    pub back : renumber_demand (slice_index ws) (demanded ws d) ≡ d
    pub below : IsDemandWireBelow (length ws) (demanded ws d)

  demand_numbered : (o : Option ℕ) → is_local_wire ws o ≡ true → IsDemanded (wire_or_dead o)
  unfolding demanded
  demand_numbered o h1 = grind (arith, common_steps, is_place)

  -- ---- its stops

  record StopsBack (ss : List listed.Stop) : Type 0 where
    pub back : map (renumber_stop (slice_index ws)) (map (placed_stop ws) ss) ≡ ss
    pub below : All (λ s. s.wire < length ws) (map (placed_stop ws) ss)

  one_stop : (s : StopLine) (o : Option ℕ) (ss : List listed.Stop) → is_local_wire ws o ≡ true → StopsBack ss →
      StopsBack (stop_with_wire_number s o ++ ss)
  unfolding placed_stop
  one_stop s None ss h more = absurd cc
  one_stop s (Some w) ss h more = grind (arith, common_steps, is_place, placed_stop)

  stops_back : (c : Circuit) (ss : List StopLine) → Each (λ s. is_local c ws s.wire ≡ true) ss →
      StopsBack (stops_of_lines c ss)
  unfolding Each
  stops_back c [] h = record { back = refl; below = All-nil (λ (s : listed.Stop). s.wire < length ws) }
  stops_back c (s ∷ ss) h = one_stop s (wire_of c s.wire) (stops_of_lines c ss) h.0 (stops_back c ss h.1)

each_at_place : {A : Type 0} (P : A → Type 0) (xs : List A) → ((k : ℕ) (x : A) → slice_get xs k ≡ Some x → P x) →
    Each P xs
unfolding Each
each_at_place P [] h = tt
each_at_place P (x ∷ xs) h = (h 0 x refl, each_at_place P xs (λ k. h (suc k)))

-- ---- the job

module _ (c : Circuit) (p : Pattern) (m : ModuleLines) where
  -- the wires and gates of the module
  abbrev pub net_of : LocalNet
  net_of = record {
    netlist = record {
      given = length (cut_wires c m);
      gates = placed_gates (cut_wires c m) (gates_at c.netlist (gates m));
    };
    circuit_wires = known c m;
    circuit_gates = gates m;
  }

  -- the job of the module
  abbrev pub job_of : JobView
  job_of = record {
    area = m.area;
    steps = p.size.steps;
    locals = net_of;
    starts = map (λ (d : Cell). numbered (known c m) (start_signal c p d.x d.y)) (rectangle_cells m.area);
    demands = map (λ (d : Cell). demanded (known c m) (end_demand c p d.x d.y)) (rectangle_cells m.area);
    edges = numbered_signals c (known c m) (line_signals c (edges m));
    halos = numbered_signals c (known c m) (line_signals c (halos m));
    stops = map (placed_stop (known c m)) (stops_of_lines c (stops m));
    kept = places (gates m) (keeps m);
  }

module _ (lines : List CircuitLine) (p : Pattern) (m : ModuleLines)
    (ordered : AreGatesOrdered (netlist_of lines).given (netlist_of lines).gates)
    (is : IsModule (setting_of lines p) m) (ports : HasLocalPortWires (setting_of lines p) m) where
  abbrev c : Circuit
  c = circuit_of lines

  abbrev ws : List ℕ
  ws = known c m

  abbrev job : JobView
  job = job_of c p m

  abbrev net : LocalNet
  net = job.locals

  own_locals : HasLocals c.netlist (cut_wires c m) (gates m) ordered is.local net.netlist.gates
  own_locals = has_locals c.netlist (cut_wires c m) (gates m) ordered is.local

  sized : length ws ≡ wires net.netlist
  sized = own_locals.are.sized

  -- the cells of the box

  abbrev starts : Cell → Signal
  starts d = start_signal c p d.x d.y

  abbrev demands : Cell → Demand
  demands d = end_demand c p d.x d.y

  start_by : (b : Bool) (o : Option (List ℕ)) → IfSome o (λ name. IsTrue (is_local c ws name)) →
      IsNumbered ws (if b then One else wire_or_zero (wire_of_optional_name c o))
  unfolding numbered
  start_by true o h = record { back = refl; below = tt }
  start_by false None h = record { back = refl; below = tt }
  start_by false (Some name) h = wire_numbered c ws (wire_of c name) h

  start_numbered : (x y : ℤ) → in_box m.area x y ≡ true → IsNumbered ws (start_signal c p x y)
  unfolding start_signal
  start_numbered x y h = start_by (in_rectangles p.mirrors x y || in_cells p.balls x y) (port_at p.ins x y)
      ((cells_have_ports lines p m ports).0 x y h)

  elsewhere : (o : Option (List ℕ)) (waste : Bool) → IfSome o (λ name. IsTrue (is_local c ws name)) →
      IsDemanded ws (demand_outside_mirrors c o waste)
  unfolding demanded
  elsewhere None true h = record { back = refl; below = tt }
  elsewhere None false h = record { back = refl; below = tt }
  elsewhere (Some name) waste h = demand_numbered ws (wire_of c name) h

  end_by : (b : Bool) (o : Option (List ℕ)) (waste : Bool) → IfSome o (λ name. IsTrue (is_local c ws name)) →
      IsDemanded ws (if b then Demanded.Live else demand_outside_mirrors c o waste)
  unfolding demanded
  end_by true o waste h = record { back = refl; below = tt }
  end_by false o waste h = elsewhere o waste h

  demand_is_numbered : (x y : ℤ) → in_box m.area x y ≡ true → IsDemanded ws (end_demand c p x y)
  unfolding end_demand
  demand_is_numbered x y h = end_by (in_rectangles p.mirrors x y) (port_at p.outs x y) (in_cells p.wastes x y)
      ((cells_have_ports lines p m ports).1 x y h)

  starts_back : CellsBack (renumber_signal (slice_index ws)) (numbered ws) (IsSignalWireBelow (length ws)) starts
      (rectangle_cells m.area)
  starts_back = cells_back _ _ _ starts (rectangle_cells m.area) (each_at_place _ (rectangle_cells m.area) (λ k d at.
      let is = start_numbered d.x d.y (cells_inside m.area k d at) in (is.back, is.below)))

  ends_back : CellsBack (renumber_demand (slice_index ws)) (demanded ws) (IsDemandWireBelow (length ws)) demands
      (rectangle_cells m.area)
  ends_back = cells_back _ _ _ demands (rectangle_cells m.area) (each_at_place _ (rectangle_cells m.area) (λ k d at.
      let is = demand_is_numbered d.x d.y (cells_inside m.area k d at) in (is.back, is.below)))

  -- its lines

  edges_back : IsBack c ws (line_signals c (edges m)).all_times (line_signals c (edges m)).events
  edges_back = lines_back c ws (edges m)
      (each_of_all (IsNamed c ws) (edges m) (λ k d lt. (is.edge_lines k d lt).border.signal))

  halos_back : IsBack c ws (line_signals c (halos m)).all_times (line_signals c (halos m)).events
  halos_back = lines_back c ws (halos m)
      (each_of_all (IsNamed c ws) (halos m) (λ k d lt. (is.halo_lines k d lt).border.signal))

  own_stops : StopsBack ws (stops_of_lines c (stops m))
  own_stops = stops_back ws c (stops m)
      (each_of_all (λ s. is_local c ws s.wire ≡ true) (stops m) (λ k d lt. (is.stop_lines k d lt).wire))

  own_keeps : ArePlaces (gates m) (keeps m)
  own_keeps = are_places (gates m) (keeps m) (λ k d lt. (is.keep_lines k d lt).among)

  signals_below : {X : Type 0} (signal : X → Signal) (xs : List X) →
      Each (λ x. IsSignalWireBelow (length ws) (signal x)) xs →
      All (λ x. IsSignalWireBelow (wires net.netlist) (signal x)) xs
  signals_below signal xs h = all_of_each _ xs (subst (λ n. Each (λ x. IsSignalWireBelow n (signal x)) xs) sized h)

  pub is_job_of : IsJobOf c p m job
  unfolding numbered_signals places
  is_job_of = record {
    area = refl;
    steps = refl;
    locals = own_locals.are;
    cut = is.named;
    wires = refl;
    used = refl;
    start_count = same_count (renumber_signal (slice_index ws)) starts m.area job.starts starts_back.back;
    demand_count = same_count (renumber_demand (slice_index ws)) demands m.area job.demands ends_back.back;
    start = start_found c p m.area job refl
        (found_at (renumber_signal (slice_index ws)) starts m.area job.starts Zero starts_back.back);
    demand = demand_found c p m.area job refl
        (found_at (renumber_demand (slice_index ws)) demands m.area job.demands Demanded.Dead ends_back.back);
    edges = ap₂ (λ a b. record { all_times = a; events = b }) edges_back.all_times edges_back.events;
    halos = ap₂ (λ a b. record { all_times = a; events = b }) halos_back.all_times halos_back.events;
    stops = own_stops.back;
    own = record {
      starts = subst (λ n. All (IsSignalWireBelow n) job.starts) sized starts_back.below;
      demands = subst (λ n. All (IsDemandWireBelow n) job.demands) sized ends_back.below;
      edge_all_times = signals_below _ _ edges_back.all_times_below;
      edge_events = signals_below _ _ edges_back.events_below;
      halo_all_times = signals_below _ _ halos_back.all_times_below;
      halo_events = signals_below _ _ halos_back.events_below;
      stops = subst (λ n. All (λ (s : listed.Stop). s.wire < n) job.stops) sized own_stops.below;
    };
    kept = own_keeps.there;
    kept_are_used = subst (λ n. All (λ k. k < n) job.kept) (sym own_locals.count) own_keeps.below;
  }

-- a module has a job
pub some_job : ModuleHasSomeJob
some_job lines p m ordered is ports = (job_of (circuit_of lines) p m, is_job_of lines p m ordered is ports)

-- the modules have jobs
pub are_jobs_of : (lines : List CircuitLine) (p : Pattern) (ms : List ModuleLines) →
    AreGatesOrdered (netlist_of lines).given (netlist_of lines).gates →
    ((k : ℕ) (m : ModuleLines) → slice_get ms k ≡ Some m →
    IsModule (setting_of lines p) m × HasLocalPortWires (setting_of lines p) m) →
    AreJobsOf (circuit_of lines) p ms (map (job_of (circuit_of lines) p) ms)
are_jobs_of lines p ms ordered each = record {
  count = length-map ms (job_of (circuit_of lines) p);
  each = λ k m j e f. let own = each k m e in
      subst (IsJobOf (circuit_of lines) p m)
      (same_Some _ _ (sym (slice_get-map (job_of (circuit_of lines) p) ms k
      ∙ ap (option_map (job_of (circuit_of lines) p)) e) ∙ f))
      (is_job_of lines p m ordered own.0 own.1);
}
