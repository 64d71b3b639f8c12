use Rattle.core_book.proofs.Imports.{AreGroups, HoldsFindingOfSameShape, JobView, List, ap, arc_value, arith}
use Rattle.core_book.proofs.Imports.{common_steps, length, length-map, map, shape_of, shapes_of, slice_get, subst, sym}
use Rattle.core_book.proofs.Imports.{ℕ, ◌+◌, ◌<◌, ◌∙◌, ◌≤◌}
use Rattle.core_book.proofs.Fillings.{filled-all, filling-step, is-full, open-stays}
use Rattle.core_book.proofs.FillingRuns.{first-read, holds_alike, runs_end, runs_step}
use Rattle.core_book.proofs.HeldJobs.{job-at}
use Rattle.core_book.proofs.filling.fill_open_book.Goals as goal

pub returns-then-is_full-clause-full : goal.returns-then-is_full-clause-full
returns-then-is_full-clause-full c = grind (arith, common_steps, is-full)

pub fill_number-requires-clause-job : goal.fill_number-requires-clause-job
fill_number-requires-clause-job c = grind (arith, common_steps, job-at, open-stays)

-- each job has a group
within : {Y : Type 0} (view : Y → JobView) (jobs : List Y) (g : List ℕ) (n : ℕ) →
    AreGroups (shapes_of (map view jobs)) g → n < length jobs → n < length g
within view jobs g n are lt = grind (arith, common_steps, length-map)

pub fill_number-requires-clause-shapes_equal : goal.fill_number-requires-clause-shapes_equal
fill_number-requires-clause-shapes_equal c = λ other.
    let jobs = map arc_value c.args.jobs.now in
    let g = c.in_ok-groups.groups.items in
    let n = c.loop-number.number in
    let at = job-at arc_value c.args.jobs.now n c.index-jobs-number.result c.loop-number-test.true
    c.index-jobs-number.is in
    let own = open-stays c.args.digest jobs c.args.state.now c.loop-number.state n c.requires.open_for_jobs
    c.loop-number.invariant.0.filled in
    let first = first-read g n c.index.result.now
    (within arc_value c.args.jobs.now g n c.in_ok-groups.ensures c.loop-number-test.true) c.index.ensures in
    let are = subst (λ js. AreGroups (shapes_of js) g) (sym own.jobs_are) c.in_ok-groups.ensures in
    let many = ap (λ js. length (shapes_of js)) own.jobs_are in
    let all = length-map jobs shape_of in
    let same = length-map c.args.jobs.now arc_value in
    let below : n < length (shapes_of c.loop-number.state.jobs) =
    omega (arith, many, all, same, c.loop-number-test.true) in
    let here = ap (λ js. slice_get js n) own.jobs_are ∙ at in
    subst (λ k. HoldsFindingOfSameShape c.loop-number.state k (arc_value c.index-jobs-number.result)) first
    (holds_alike c.args.state.now c.loop-number.state g n
    (arc_value c.index-jobs-number.result) c.loop-number.invariant.0 are below here (λ e. other (sym first ∙ e)))

pub loop-number-preserved : goal.loop-number-preserved
loop-number-preserved c =
    let first = first-read c.in_ok-groups.groups.items c.loop-number.number c.index.result.now
    (within arc_value c.args.jobs.now c.in_ok-groups.groups.items c.loop-number.number c.in_ok-groups.ensures
    c.loop-number-test.true) c.index.ensures in (
      filling-step c.args.state.now c.loop-number.state c.fill_number.new.state c.loop-number.number
          c.loop-number.invariant.0
          c.in_ok-fill_number.ensures.held_or_filed,
      runs_step c.in_ok-groups.groups.items c.loop-number.number c.args.runs.now c.loop-number.runs
          c.fill_number.new.runs
          c.loop-number.invariant.1
          (λ other. c.fill_number.ensures.no_run (λ e. other (first ∙ e))) c.fill_number.ensures.one_run,
    )

pub returns-in_err-fill_number-clause-one_run_a_shape : goal.returns-in_err-fill_number-clause-one_run_a_shape
returns-in_err-fill_number-clause-one_run_a_shape c =
    let first = first-read c.in_ok-groups.groups.items c.loop-number.number c.index.result.now
    (within arc_value c.args.jobs.now c.in_ok-groups.groups.items c.loop-number.number c.in_ok-groups.ensures
    c.loop-number-test.true) c.index.ensures in
    let all = length-map (map arc_value c.args.jobs.now) shape_of in
    let same = length-map c.args.jobs.now arc_value in
    runs_end c.in_ok-groups.groups.items
    (c.loop-number.number + 1) c.args.runs.now c.fill_number.new.runs c.in_ok-groups.ensures
    (omega (arith, all, same, c.loop-number-test.true))
    (runs_step c.in_ok-groups.groups.items c.loop-number.number c.args.runs.now c.loop-number.runs
    c.fill_number.new.runs
    c.loop-number.invariant.1
    (λ other. c.fill_number.ensures.no_run (λ e. other (first ∙ e))) c.fill_number.ensures.one_run)

pub returns-clause-full : goal.returns-clause-full
returns-clause-full c =
    let b = c.args.state.now in
    let all = length-map c.args.jobs.now arc_value in
    let own = ap length c.requires.open_for_jobs.jobs_are in
    let past : length b.jobs ≤ c.loop-number.number = omega (arith, all, own, c.loop-number-test.false) in
    is-full c.args.digest (map arc_value c.args.jobs.now) c.loop-number.state
    (open-stays c.args.digest
    (map arc_value c.args.jobs.now) b c.loop-number.state c.loop-number.number c.requires.open_for_jobs
    c.loop-number.invariant.0.filled)
    c.prove_replays-2.ensures c.loop-number.invariant.0.book
    (filled-all b c.loop-number.state c.loop-number.number past c.loop-number.invariant.0)
