use Rattle.certificate.proofs.Imports.{IsCircuitWire, IsStopTimeTable, StoredStop, get_or, map, stop_line, subst, take}
use Rattle.certificate.proofs.Imports.{take_all, ◌++◌, ◌∙◌}
use Rattle.certificate.proofs.StoredSignals.{all_at, item_is}
use Rattle.certificate.proofs.TimeLemmas.{stop_more}
use Rattle.certificate.proofs.times.note_times_of_stops.Goals as goal

pub loop-stop-preserved : goal.loop-stop-preserved
loop-stop-preserved c =
    let s = get_or c.args.stops.now c.loop-stop.stop-index (record { time = 0; column = 0; row = 0; wire = 0 }) in
    let is = item_is c.args.stops.now c.loop-stop.stop-index _ c.loop-stop-test.true in
    record {
      table = λ d ss own h.
          let before = map (stop_line d) (take c.loop-stop.stop-index c.args.stops.now) in
          subst (λ all. IsStopTimeTable c.args.choice d all c.note_stop.new.table)
          (stop_more d ss c.args.stops.now c.loop-stop.stop-index s c.loop-stop-test.true is)
          (c.note_stop.ensures.table d (ss ++ before)
          (all_at (λ (s : StoredStop). IsCircuitWire d s.wire) c.args.stops.now own c.loop-stop.stop-index s
          c.loop-stop-test.true is) (c.loop-stop.invariant.table d ss own h));
      long = c.note_stop.ensures.long ∙ c.loop-stop.invariant.long;
    }

pub returns-clause-table : goal.returns-clause-table
returns-clause-table c d ss own h =
    subst (λ all. IsStopTimeTable c.args.choice d (ss ++ map (stop_line d) all) c.loop-stop.table)
    (take_all c.loop-stop.stop-index c.args.stops.now c.loop-stop-test.false) (c.loop-stop.invariant.table d ss own h)
