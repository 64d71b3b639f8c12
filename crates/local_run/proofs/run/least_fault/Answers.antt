use Rattle.local_run.proofs.Imports.{HasNoFaultOfKind, IsFirstFaultOfKind, None, Stop, ap, arith, common_steps, refl}
use Rattle.local_run.proofs.Imports.{subst, ℕ, ◌≡◌}
use Rattle.local_run.proofs.Leasts.{AreFreeBefore, early_least, end_least_fault, last_stop_least}
use Rattle.local_run.proofs.LeapRuns.{next_run}
use Rattle.local_run.proofs.Steady.{steady_next}
use Rattle.local_run.specs.declared.line_marks.LineMarks.{LineMarks}
use Rattle.local_run.proofs.run.least_fault.Goals as goal

pub loop-time-preserved : goal.loop-time-preserved
loop-time-preserved c =
    let one = c.one_step-changed.ensures in
    let next = c.next_time-time.ensures in
    let range = rw c.steps-steps.ensures at next.range in
    record {
      run = next_run c.args.job.now c.args.values.now c.loop-time.time c.next_time-time.result c.loop-time.next
          c.fault_at_time.new.next
          c.loop-time.marked_planes.planes c.one_step-changed.new.marked_planes.planes c.loop-time.changed
          c.one_step-changed.result
          c.requires c.loop-time.invariant.run
          (omega (arith, range)) c.in_default.ensures.fault one.next one.stays range next.leap
          next.next;
      steady = steady_next c.args.job.now c.args.values.now c.loop-time.time c.loop-time.marked_planes
          c.fault_at_time.new.marked_planes c.one_step-changed.new.marked_planes c.loop-time.lines.events.items
          c.fault_at_time.new.lines.events.items c.requires c.in_default.ensures.shows (omega (arith, range))
          c.in_default.ensures.halo c.in_default.ensures.fault.edges c.in_default.ensures.events
          (λ even. let same = c.in_default.ensures.even_unchanged even in
          (same.0, ap (λ (l : LineMarks). l.events.items) same.1)) one.settled_if_even one.settled_if_odd
          c.loop-time.invariant.steady;
      lines = grind (arith, common_steps);
    }

pub returns-in-Some : goal.returns-in-Some
returns-in-Some c = early_least c.args.job.now c.args.values.now c.loop-time.time c.in-Some.fault c.requires
    (omega (arith, c.loop-time-test.true, c.steps-steps.ensures)) c.loop-time.invariant.run.free c.in-Some.ensures.fault

pub first_stop_fault-requires-clause-shows : goal.first_stop_fault-requires-clause-shows
first_stop_fault-requires-clause-shows c =
    let m = c.loop-time.invariant.run.shows in
    let early = c.loop-time.invariant.run.early in
    let e : c.loop-time.time ≡ c.steps-steps.result = omega (arith, c.steps-steps.ensures) in rw e at m

pub first_stop_fault-requires-clause-next : goal.first_stop_fault-requires-clause-next
first_stop_fault-requires-clause-next c =
    let m = c.loop-time.invariant.run.next in
    let early = c.loop-time.invariant.run.early in
    let e : c.loop-time.time ≡ c.steps-steps.result = omega (arith, c.steps-steps.ensures) in rw e at m

pub first_fault_of_kind-requires-clause-shows : goal.first_fault_of_kind-requires-clause-shows
first_fault_of_kind-requires-clause-shows c =
    let m = c.loop-time.invariant.run.shows in
    let early = c.loop-time.invariant.run.early in
    let e : c.loop-time.time ≡ c.steps-steps.result = omega (arith, c.steps-steps.ensures) in rw e at m

pub returns-in-Some-first_stop_fault : goal.returns-in-Some-first_stop_fault
returns-in-Some-first_stop_fault c =
    let j = c.args.job.now in
    let vs = c.args.values.now in
    let early = c.loop-time.invariant.run.early in
    let time : c.loop-time.time ≡ j.steps = omega (arith, c.loop-time-test.false, c.steps-steps.ensures, early) in
    last_stop_least j vs c.in-Some-first_stop_fault.fault c.requires
    (subst (AreFreeBefore j vs) time c.loop-time.invariant.run.free)
    (subst (λ (n : ℕ). IsFirstFaultOfKind j vs n Stop c.in-Some-first_stop_fault.fault) c.steps-steps.ensures
    c.in-Some-first_stop_fault.ensures)

pub is_end_correct-requires-clause-shows : goal.is_end_correct-requires-clause-shows
is_end_correct-requires-clause-shows c =
    let m = c.loop-time.invariant.run.shows in
    let early = c.loop-time.invariant.run.early in
    let e : c.loop-time.time ≡ c.args.job.now.steps =
    omega (arith, c.loop-time-test.false, c.steps-steps.ensures, early) in
    rw e at m

pub returns-then-is_end_correct : goal.returns-then-is_end_correct
returns-then-is_end_correct c =
    let j = c.args.job.now in
    let vs = c.args.values.now in
    let early = c.loop-time.invariant.run.early in
    let time : c.loop-time.time ≡ j.steps = omega (arith, c.loop-time-test.false, c.steps-steps.ensures, early) in
    end_least_fault j vs None c.requires (subst (AreFreeBefore j vs) time c.loop-time.invariant.run.free)
    (subst (λ (n : ℕ). HasNoFaultOfKind j vs n Stop) c.steps-steps.ensures c.in_default-first_stop_fault.ensures.0)
    (c.if-is_end_correct.ensures refl)

pub returns : goal.returns
returns c =
    let j = c.args.job.now in
    let vs = c.args.values.now in
    let early = c.loop-time.invariant.run.early in
    let time : c.loop-time.time ≡ j.steps = omega (arith, c.loop-time-test.false, c.steps-steps.ensures, early) in
    end_least_fault j vs c.first_fault_of_kind.result c.requires
    (subst (AreFreeBefore j vs) time c.loop-time.invariant.run.free)
    (subst (λ (n : ℕ). HasNoFaultOfKind j vs n Stop) c.steps-steps.ensures c.in_default-first_stop_fault.ensures.0)
    (rw c.steps-steps.ensures at c.first_fault_of_kind.ensures)
