use Rattle.certificate.proofs.Imports.{All, AreBorderLinesRising, AreLocalLines, AreStopsOfLines, Box2, CircuitLine}
use Rattle.certificate.proofs.Imports.{Demand, HasLocalWire, IsCellInShiftRange, IsJobOf, IsTrue, IsWithinMaxSize, List}
use Rattle.certificate.proofs.Imports.{ModuleLines, Netlist, Signal, Signals, StoredBorder, StoredStop, ap, arc_value}
use Rattle.certificate.proofs.Imports.{arith, cell_at, circuit_of, common_steps, edges, gates, get_or, halos, in_box}
use Rattle.certificate.proofs.Imports.{is_among, keeps, length, map, module_lines_with, netlist_of, refl, setting_of}
use Rattle.certificate.proofs.Imports.{stops, stops_in_plane, stored_signals, stored_stop, subst, sym, true, ℕ, ◌<◌}
use Rattle.certificate.proofs.Imports.{◌∙◌, ◌≡◌, ◌≤◌}
use Rattle.lemmas.proofs.Common.{slice_index}
use Rattle.module_box.specs.Locals.{AreLocalsOf}
use Rattle.module_job.specs.Jobs.{IsJob}
use Rattle.module_job.specs.Shapes.{ShapeView, job_of_shape}
use Rattle.module_job.specs.declared.job.Stop.{Stop}
use Rattle.certificate_lines.proofs.StoredLemmas.{gates_with, keeps_with}
use Rattle.certificate.proofs.JobLemmas.{within_512}
use Rattle.certificate.proofs.JobPlaces.{start_found, demand_found}
use Rattle.certificate.proofs.LayoutTableLemmas.{locals_have_ports}
use Rattle.certificate.proofs.StopLemmas.{stops_rise, stops_stand}
use Rattle.certificate.proofs.StoredSignals.{cut_count, edges_local, edges_rising, edges_say, halos_local, halos_rising}
use Rattle.certificate.proofs.StoredSignals.{corner_within, halos_say, inside_layout, keeps_used, known_wires}
use Rattle.certificate.proofs.StoredSignals.{local_lines}
use Rattle.certificate.proofs.StoredSignals.{low_edge_cells, low_halo_cells, low_stop_cells, stops_local, stops_say}
use Rattle.certificate.proofs.jobs.make_job.Goals as goal

pub kept_places-requires-clause-at_most_64 : goal.kept_places-requires-clause-at_most_64
kept_places-requires-clause-at_most_64 c =
    subst (λ (us : List ℕ). length us ≤ 64) (sym c.deref.ensures.value) (local_lines c.requires).few_gates

pub kept_places-requires-clause-used : goal.kept_places-requires-clause-used
kept_places-requires-clause-used c =
    subst (λ (us : List ℕ). All (λ k. IsTrue (is_among us k)) c.deref-2.result.now) (sym c.deref.ensures.value)
    (subst (All (λ k. IsTrue (is_among c.args.stored.now.gates.items k))) (sym c.deref-2.ensures.value)
    (keeps_used c.requires))

pub new-requires : goal.new-requires
new-requires c =
    let n = λ (ls : List CircuitLine). netlist_of ls in
    subst (λ ls. AreLocalLines (n ls) c.deref-3.result.now c.deref-4.result.now) (sym c.circuit.ensures)
    (subst (λ (ws : List ℕ). AreLocalLines (n c.args.tables.now.circuit) ws c.deref-4.result.now)
    (sym c.deref-3.ensures.value)
    (subst (AreLocalLines (n c.args.tables.now.circuit) c.args.stored.now.cuts.items) (sym c.deref-4.ensures.value)
    (local_lines c.requires)))

pub start_and_demand_lists-requires-clause-columns : goal.start_and_demand_lists-requires-clause-columns
start_and_demand_lists-requires-clause-columns c =
    (inside_layout c.requires (c.size-size.ensures.size ∙ ap (λ p. p.size) c.layout.ensures)
    c.size-size.ensures.limits).0

pub start_and_demand_lists-requires-clause-rows : goal.start_and_demand_lists-requires-clause-rows
start_and_demand_lists-requires-clause-rows c =
    (inside_layout c.requires (c.size-size.ensures.size ∙ ap (λ p. p.size) c.layout.ensures)
    c.size-size.ensures.limits).1

pub start_and_demand_lists-requires-clause-ins : goal.start_and_demand_lists-requires-clause-ins
start_and_demand_lists-requires-clause-ins c =
    let p = c.args.tables.now in
    (locals_have_ports p.circuit p.layout (module_lines_with (circuit_of p.circuit) c.args.stored.now c.args.halos.now)
    c.requires.ports _ (known_wires c.requires c.circuit.ensures c.deref-3.ensures.value
    c.deref-4.ensures.value c.in_ok-locals.ensures.wires)).0

pub start_and_demand_lists-requires-clause-outs : goal.start_and_demand_lists-requires-clause-outs
start_and_demand_lists-requires-clause-outs c =
    let p = c.args.tables.now in
    (locals_have_ports p.circuit p.layout (module_lines_with (circuit_of p.circuit) c.args.stored.now c.args.halos.now)
    c.requires.ports _ (known_wires c.requires c.circuit.ensures c.deref-3.ensures.value
    c.deref-4.ensures.value c.in_ok-locals.ensures.wires)).1

pub schedule_from_corner-requires-clause-order : goal.schedule_from_corner-requires-clause-order
schedule_from_corner-requires-clause-order c =
    subst AreBorderLinesRising (sym c.deref-5.ensures.value) (edges_rising c.requires)

pub schedule_from_corner-requires-clause-local : goal.schedule_from_corner-requires-clause-local
schedule_from_corner-requires-clause-local c =
    subst (All (HasLocalWire c.in_ok-locals.locals)) (sym c.deref-5.ensures.value)
    (edges_local c.requires c.in_ok-locals.locals (known_wires c.requires c.circuit.ensures c.deref-3.ensures.value
    c.deref-4.ensures.value c.in_ok-locals.ensures.wires))

pub schedule_from_corner-requires-clause-low : goal.schedule_from_corner-requires-clause-low
schedule_from_corner-requires-clause-low c =
    subst (All (λ (e : StoredBorder). IsWithinMaxSize (cell_at e.column e.row))) (sym c.deref-5.ensures.value)
    (low_edge_cells c.requires (c.size-size.ensures.size ∙ ap (λ p. p.size) c.layout.ensures)
    c.size-size.ensures.limits)

pub schedule_from_corner-requires-clause-corner : goal.schedule_from_corner-requires-clause-corner
schedule_from_corner-requires-clause-corner c =
    corner_within c.requires (c.size-size.ensures.size ∙ ap (λ p. p.size) c.layout.ensures)
    c.size-size.ensures.limits

pub schedule_from_corner-requires-2-clause-order : goal.schedule_from_corner-requires-2-clause-order
schedule_from_corner-requires-2-clause-order c = halos_rising c.requires

pub schedule_from_corner-requires-2-clause-local : goal.schedule_from_corner-requires-2-clause-local
schedule_from_corner-requires-2-clause-local c =
    halos_local c.requires c.in_ok-locals.locals (known_wires c.requires c.circuit.ensures c.deref-3.ensures.value
    c.deref-4.ensures.value c.in_ok-locals.ensures.wires)

pub schedule_from_corner-requires-2-clause-low : goal.schedule_from_corner-requires-2-clause-low
schedule_from_corner-requires-2-clause-low c =
    low_halo_cells c.requires (c.size-size.ensures.size ∙ ap (λ p. p.size) c.layout.ensures)
    c.size-size.ensures.limits

pub schedule_from_corner-requires-2-clause-corner : goal.schedule_from_corner-requires-2-clause-corner
schedule_from_corner-requires-2-clause-corner c =
    corner_within c.requires (c.size-size.ensures.size ∙ ap (λ p. p.size) c.layout.ensures)
    c.size-size.ensures.limits

pub stops_from_corner-requires-clause-local : goal.stops_from_corner-requires-clause-local
stops_from_corner-requires-clause-local c =
    subst (All (λ (s : StoredStop). IsTrue (is_among c.in_ok-locals.locals.circuit_wires s.wire)))
    (sym c.deref-6.ensures.value)
    (stops_local c.requires c.in_ok-locals.locals (known_wires c.requires c.circuit.ensures c.deref-3.ensures.value
    c.deref-4.ensures.value c.in_ok-locals.ensures.wires))

pub stops_from_corner-requires-clause-low : goal.stops_from_corner-requires-clause-low
stops_from_corner-requires-clause-low c =
    subst (All (λ (s : StoredStop). IsWithinMaxSize (cell_at s.column s.row))) (sym c.deref-6.ensures.value)
    (low_stop_cells c.requires (c.size-size.ensures.size ∙ ap (λ p. p.size) c.layout.ensures)
    c.size-size.ensures.limits)

pub stops_from_corner-requires-clause-corner : goal.stops_from_corner-requires-clause-corner
stops_from_corner-requires-clause-corner c =
    corner_within c.requires (c.size-size.ensures.size ∙ ap (λ p. p.size) c.layout.ensures)
    c.size-size.ensures.limits

-- the shape that is made
abbrev shape_with : Box2 → ℕ → Netlist → List Signal → List Demand → Signals → Signals → List Stop → List ℕ → ShapeView
shape_with area steps netlist starts demands edges halos stops kept = record {
  width = area.w;
  height = area.h;
  steps = steps;
  netlist = netlist;
  starts = starts;
  demands = demands;
  edges = edges;
  halos = halos;
  stops = stops;
  kept = kept;
}

pub invariant_of-job : goal.invariant_of-job
invariant_of-job c =
    let p = c.args.tables.now in
    let area : Box2 = c.args.stored.now.area in
    let m : ModuleLines = module_lines_with (circuit_of p.circuit) c.args.stored.now c.args.halos.now in
    let limits = within_512 (setting_of p.circuit p.layout) m c.size-size.result
    (c.size-size.ensures.size ∙ ap (λ p. p.size) c.layout.ensures) c.size-size.ensures.limits c.requires.lines in
    let l = c.in_ok-locals.locals in
    let s = shape_with area c.size-size.result.steps l.netlist c.in_ok-starts.starts c.in_ok-starts.demands
    c.in_ok-edges.edges c.in_ok-halos.halos c.in_ok-stops.stops.items c.in_ok-kept.kept.items in
    let shape_is : arc_value c.in_ok-new.field-0 ≡ s =
    c.in_ok-new.ensures.ok ∙ (λ i. record s { netlist = c.into_parts-wiring.ensures.wiring i }) in
    let wires_are = c.into_parts-wiring.ensures.wires in
    let gates_are = c.into_parts-wiring.ensures.gates in
    let placed_stops = stops_in_plane area c.in_ok-stops.stops.items in
    let are_stops : AreStopsOfLines (circuit_of p.circuit) l (stops m) placed_stops = record {
      same = c.in_ok-stops.ensures.same_stops ∙ ap (map stored_stop) c.deref-6.ensures.value ∙ stops_say c.requires;
      own = c.in_ok-stops.ensures.own_wires;
    } in
    let job : IsJob (job_of_shape area.x area.y l.circuit_wires l.circuit_gates s) = record {
      even = c.requires.lines.even;
      width = (c.requires.lines.wide.0, c.requires.lines.wide.1, limits.0);
      height = (c.requires.lines.high.0, c.requires.lines.high.1, limits.1);
      steps = limits.2;
      own = grind (arith, common_steps);
      stops = λ k d lt. record {
        time = (stops_stand (λ q. q.time ≤ c.size-size.result.steps) _ l (stops m) placed_stops are_stops
            (λ i r below. subst (λ (n : ℕ). (get_or (stops m) i r).time ≤ n)
            (sym (ap (λ z. z.steps) (c.size-size.ensures.size ∙ ap (λ p. p.size) c.layout.ensures)))
            (c.requires.lines.stop_lines i r below).time)) k d lt;
        inside = (stops_stand (λ q. in_box area q.cell.x q.cell.y ≡ true) _ l (stops m) placed_stops are_stops
            (λ i r below. (c.requires.lines.stop_lines i r below).inside)) k d lt;
      };
      stops_rise = stops_rise _ l m.lines placed_stops c.requires.lines.order are_stops;
    } in
    record {
      job = subst IsJob (sym (λ i. job_of_shape area.x area.y (wires_are i) (gates_are i) (shape_is i))) job;
      sized = grind (arith, common_steps);
      near_edges = subst (λ (t : ShapeView). All (λ e. IsCellInShiftRange e.at.cell) t.edges.events)
          (sym shape_is) c.in_ok-edges.ensures.in_shift_range;
      near_halos = subst (λ (t : ShapeView). All (λ e. IsCellInShiftRange e.at.cell) t.halos.events)
          (sym shape_is) c.in_ok-halos.ensures.in_shift_range;
      near_stops = subst (λ (t : ShapeView). All (λ e. IsCellInShiftRange e.at.cell) t.stops)
          (sym shape_is) c.in_ok-stops.ensures.in_shift_range;
    }

pub returns : goal.returns
returns c =
    let p = c.args.tables.now in
    let area : Box2 = c.args.stored.now.area in
    let m : ModuleLines = module_lines_with (circuit_of p.circuit) c.args.stored.now c.args.halos.now in
    let l = c.in_ok-locals.locals in
    let s = shape_with area c.size-size.result.steps l.netlist c.in_ok-starts.starts c.in_ok-starts.demands
    c.in_ok-edges.edges c.in_ok-halos.halos c.in_ok-stops.stops.items c.in_ok-kept.kept.items in
    let shape_is : arc_value c.in_ok-new.field-0 ≡ s =
    c.in_ok-new.ensures.ok ∙ (λ i. record s { netlist = c.into_parts-wiring.ensures.wiring i }) in
    let wires_are = c.into_parts-wiring.ensures.wires in
    let gates_are = c.into_parts-wiring.ensures.gates in
    let used : l.circuit_gates ≡ gates m =
    c.in_ok-locals.ensures.gates ∙ c.deref-4.ensures.value
    ∙ sym (gates_with (circuit_of p.circuit) c.args.stored.now c.args.halos.now) in
    let j = job_of_shape area.x area.y l.circuit_wires l.circuit_gates s in
    let is_job : IsJobOf (circuit_of p.circuit) p.layout m j = record {
      area = refl;
      steps = ap (λ s. s.steps) (c.size-size.ensures.size ∙ ap (λ q. q.size) c.layout.ensures);
      locals = subst (λ ls. AreLocalsOf (netlist_of ls) l) c.circuit.ensures c.in_ok-locals.ensures.locals;
      cut = c.in_ok-locals.ensures.cuts_given ∙ ap length c.deref-3.ensures.value ∙ cut_count c.requires;
      wires = (known_wires c.requires c.circuit.ensures c.deref-3.ensures.value
          c.deref-4.ensures.value c.in_ok-locals.ensures.wires);
      used = used;
      start_count = c.in_ok-starts.ensures.starts_count;
      demand_count = c.in_ok-starts.ensures.demands_count;
      start = start_found (circuit_of p.circuit) p.layout area j refl c.in_ok-starts.ensures.starts;
      demand = demand_found (circuit_of p.circuit) p.layout area j refl c.in_ok-starts.ensures.demands;
      edges = c.in_ok-edges.ensures.same_signals ∙ ap stored_signals c.deref-5.ensures.value ∙ edges_say c.requires;
      halos = c.in_ok-halos.ensures.same_signals ∙ halos_say c.requires;
      own = grind (arith, common_steps);
      stops = c.in_ok-stops.ensures.same_stops ∙ ap (map stored_stop) c.deref-6.ensures.value ∙ stops_say c.requires;
      kept = subst (λ (us : List ℕ). map (slice_index us) c.in_ok-kept.kept.items ≡ keeps m)
          (c.deref.ensures.value ∙ sym c.deref-4.ensures.value ∙ sym c.in_ok-locals.ensures.gates)
          (c.in_ok-kept.ensures.gates ∙ c.deref-2.ensures.value
          ∙ sym (keeps_with (circuit_of p.circuit) c.args.stored.now c.args.halos.now));
      kept_are_used = subst (λ (u : ℕ). All (λ k. k < u) c.in_ok-kept.kept.items)
          (ap length c.deref.ensures.value ∙ sym (c.in_ok-locals.ensures.count ∙ ap length c.deref-4.ensures.value))
          c.in_ok-kept.ensures.within;
    } in
    subst (IsJobOf (circuit_of p.circuit) p.layout m)
    (sym (c.in_ok-new-2.ensures.ok ∙ (λ i. job_of_shape area.x area.y (wires_are i) (gates_are i) (shape_is i)))) is_job
