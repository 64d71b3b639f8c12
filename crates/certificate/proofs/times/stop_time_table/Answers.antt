use Rattle.certificate.proofs.Imports.{All, HasCircuitWires, IsCircuitWire, IsStopTimeTable, StoredStop, all_stops, ap}
use Rattle.certificate.proofs.Imports.{arith, circuit_of, common_steps, drop, get_or, length, map, module_lines}
use Rattle.certificate.proofs.Imports.{stop_line, subst, sym, take, ◌++◌, ◌<◌, ◌∙◌, ◌≡◌}
use Rattle.certificate_lines.proofs.StoredLemmas.{wire_within}
use Rattle.certificate.proofs.StoredSignals.{all_at}
use Rattle.certificate.proofs.TimeLemmas.{stops_more}
use Rattle.certificate.proofs.times.stop_time_table.Goals as goal

pub note_times_of_stops-requires : goal.note_times_of_stops-requires
note_times_of_stops-requires c =
    let circuit = circuit_of c.args.circuit.now in
    let own = all_at (HasCircuitWires circuit) c.args.modules.now c.requires c.loop-module.module-index
    c.module-item.result
    c.loop-module-test.true c.module-item.is in
    let long = ap length c.deref_mut.ensures.value ∙ c.loop-module.invariant.long in
    subst (All (λ (s : StoredStop). s.wire < length c.deref_mut.result.now)) (sym c.deref.ensures.value)
    (λ k d lt. subst (λ n. (get_or c.module-item.result.stops.items k d).wire < n) (sym long)
    (wire_within circuit _ (own.stops k d lt)))

pub loop-module-preserved : goal.loop-module-preserved
loop-module-preserved c =
    let circuit = circuit_of c.args.circuit.now in
    let own = all_at (HasCircuitWires circuit) c.args.modules.now c.requires c.loop-module.module-index
    c.module-item.result
    c.loop-module-test.true c.module-item.is in
    let before = all_stops (map (module_lines circuit) (take c.loop-module.module-index c.args.modules.now)) in
    let noted = c.note_times_of_stops.new.table in
    let long = c.note_times_of_stops.ensures.long ∙ ap length c.deref_mut.ensures.value in
    let kept : take c.loop-module.table.len (noted ++ drop (length noted) c.loop-module.table.items) ≡ noted =
    grind (arith, common_steps) in
    record {
      table = subst (IsStopTimeTable c.args.choice circuit _) (sym kept)
          (subst (λ ss. IsStopTimeTable c.args.choice circuit ss noted)
          (ap (λ ss. before ++ map (stop_line circuit) ss) c.deref.ensures.value
          ∙ sym (stops_more circuit c.args.modules.now c.loop-module.module-index c.module-item.result
          c.loop-module-test.true c.module-item.is))
          (c.note_times_of_stops.ensures.table circuit before
          (subst (All (λ (s : StoredStop). IsCircuitWire circuit s.wire)) (sym c.deref.ensures.value) own.stops)
          (subst (IsStopTimeTable c.args.choice circuit before) (sym c.deref_mut.ensures.value)
          c.loop-module.invariant.table)));
      long = ap length kept ∙ long ∙ c.loop-module.invariant.long;
    }
