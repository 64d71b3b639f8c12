use Rattle.lemmas.proofs.Common.{◌++◌, ◌==◌, ◌∙◌, ◌≡◌, List, ap, length, map, rules, sym, true, and_from}
use Rattle.lemmas.proofs.Common.{and_parts, arc_value, refl}
use Rattle.std.specs.Vec.{vec_len}
use Rattle.module_job.specs.Jobs.{JobView}
use Rattle.certificate.specs.Times.{are_all_timings_obeyed, delay_and_meet_lines}
use Rattle.core_book.specs.Concluding.{modules, setting}
use Rattle.core_book.specs.Verdicts.{report_lines_from, timing_report_line, unkept_lines}
use Rattle.core_book.specs.declared.verdict.ReportLine.TheVariants.{Unkept}
use Rattle.audit_core.proofs.Conclusions.{AreAllFaults, verdict-yes, verdict-no, is_empty_list}
use Rattle.soundness.proofs.YesMeansCorrect.{IsRead, yes_means-correct, yes_means-on_time}
use Rattle.audit_core.proofs.concluding.verdict_of.Goals as goal
use Rattle.audit_core.proofs.concluding.verdict_of.Goals.{After-is_empty}

all : (c : After-is_empty) → AreAllFaults c.args.cert.now
    (map arc_value c.args.jobs.now) c.args.faults.now c.args.borders.now
all c =
    let jobs : List JobView = map arc_value c.args.jobs.now in
    record {
      own = c.requires.own_jobs;
      least = c.requires.least;
      borders = c.requires.borders;
    }

-- the test of the lines of delays and meetings
kept_is : (c : After-is_empty) →
    c.are_all_timings_obeyed-obeyed.result
    ≡ are_all_timings_obeyed (delay_and_meet_lines (setting c.args.cert.now).circuit (modules c.args.cert.now))
kept_is c = c.are_all_timings_obeyed-obeyed.ensures
    ∙ ap are_all_timings_obeyed (c.deref-2.ensures.value ∙ c.in_ok-times.ensures)

-- the lines on the modules, and on gates that are not kept
lines_are : (c : After-is_empty) →
    c.in_ok-lines.lines.items ≡ report_lines_from 0 c.args.faults.now c.args.borders.now
    ++ unkept_lines (setting c.args.cert.now) (modules c.args.cert.now)
lines_are c = c.in_ok-lines.ensures
    ∙ ap (λ ns. report_lines_from 0 c.args.faults.now c.args.borders.now ++ map (λ n. Unkept n) ns)
    (c.deref.ensures.value ∙ c.in_ok-unkept.ensures)

pub returns-then-obeyed-is_empty-clause-verdict : goal.returns-then-obeyed-is_empty-clause-verdict
returns-then-obeyed-is_empty-clause-verdict c =
    let d = (goal.at.returns-then-obeyed-is_empty-clause-verdict c).After-is_empty in
    let parts = and_parts c.are_all_timings_obeyed-obeyed.result c.is_empty.result c.if-obeyed-is_empty.true in
    let empty : c.is_empty.result ≡ true = parts.1 in
    let none : length c.in_ok-lines.lines.items ≡ 0 = search rules in
    verdict-yes c.args.cert.now (map arc_value c.args.jobs.now) c.args.faults.now c.args.borders.now (all d)
    (sym (lines_are d) ∙ is_empty_list c.in_ok-lines.lines.items none) (sym (kept_is d) ∙ parts.0)

pub returns-then-obeyed-is_empty-clause-correct : goal.returns-then-obeyed-is_empty-clause-correct
returns-then-obeyed-is_empty-clause-correct c is named =
    let read : IsRead c.args.cert.now c.args.cert.now.layout.size = record {
      ordered = c.prove_valid.ensures.ordered;
      same = refl;
      limits = c.prove_valid.ensures.limits;
      laid_out = c.prove_valid.ensures.parts;
      are_modules = c.prove_valid.ensures.good;
      inputs = c.prove_valid.ensures.inputs;
      named = named;
    } in
    yes_means-correct c.args.cert.now c.args.cert.now.layout.size
    (map arc_value c.args.jobs.now) read c.requires.own_jobs
    (returns-then-obeyed-is_empty-clause-verdict c)

pub returns-then-obeyed-is_empty-clause-on_time : goal.returns-then-obeyed-is_empty-clause-on_time
returns-then-obeyed-is_empty-clause-on_time c is named =
    let read : IsRead c.args.cert.now c.args.cert.now.layout.size = record {
      ordered = c.prove_valid.ensures.ordered;
      same = refl;
      limits = c.prove_valid.ensures.limits;
      laid_out = c.prove_valid.ensures.parts;
      are_modules = c.prove_valid.ensures.good;
      inputs = c.prove_valid.ensures.inputs;
      named = named;
    } in
    yes_means-on_time c.args.cert.now c.args.cert.now.layout.size
    (map arc_value c.args.jobs.now) read c.requires.own_jobs
    (returns-then-obeyed-is_empty-clause-verdict c)

pub returns-clause-verdict : goal.returns-clause-verdict
returns-clause-verdict c =
    let d = (goal.at.returns-clause-verdict c).After-is_empty in
    let m = map timing_report_line (delay_and_meet_lines (setting c.args.cert.now).circuit (modules c.args.cert.now)) in
    verdict-no c.args.cert.now (map arc_value c.args.jobs.now) c.args.faults.now c.args.borders.now
    c.push_timing_report_lines.new.lines (all d)
    (c.in_ok-push_timing_report_lines.ensures ∙ ap (λ ts. c.in_ok-lines.lines.items ++ map timing_report_line ts)
    (c.deref-3.ensures.value ∙ c.in_ok-times.ensures) ∙ ap (λ xs. xs ++ m) (lines_are d))
    (λ e.
    let none : length c.in_ok-lines.lines.items ≡ 0 = ap length (lines_are d ∙ e.0) in
    let len : vec_len c.in_ok-lines.lines ≡ 0 = search rules in
    let empty : c.is_empty.result ≡ true = c.is_empty.ensures ∙ ap (λ n. n == 0) len in
    let obeyed : c.are_all_timings_obeyed-obeyed.result ≡ true = kept_is d ∙ e.1 in
    let both = and_from c.are_all_timings_obeyed-obeyed.result c.is_empty.result obeyed empty in
    cc)
