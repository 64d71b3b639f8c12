use Rattle.local_run.proofs.Imports.{IsTrue, Netlist, ap, arith, is_among, length, rules, ◌∙◌, ◌≡◌}
use Rattle.local_run.proofs.Leasts.{keep_found, keep_none}
use Rattle.local_run.proofs.keep.find_least_keep_fault.Goals as goal

pub returns-in-Some : goal.returns-in-Some
returns-in-Some c =
    let j = c.args.job.now in
    let count : c.gates-gates.result ≡ length j.locals.netlist.gates =
    c.gates-gates.ensures.count ∙ ap (λ (l : Netlist). length l.gates) c.wiring.ensures.wiring in
    let kept : IsTrue (is_among j.kept c.loop-gate.gate) = search rules in
    keep_found j c.args.values.now c.loop-gate.gate c.in-Some.assignment c.requires
    (let test = c.loop-gate-test.true in omega (arith, test, count)) kept c.loop-gate.invariant c.in-Some.ensures

pub returns : goal.returns
returns c =
    let j = c.args.job.now in
    let count : c.gates-gates.result ≡ length j.locals.netlist.gates =
    c.gates-gates.ensures.count ∙ ap (λ (l : Netlist). length l.gates) c.wiring.ensures.wiring in
    keep_none j c.loop-gate.gate (let test = c.loop-gate-test.false in omega (arith, test, count)) c.loop-gate.invariant
