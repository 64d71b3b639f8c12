use Rattle.module_box.proofs.Imports.{AreDistinct, Gate, List, LocalGate, Netlist, [], ap, arith, defines}
use Rattle.module_box.proofs.Imports.{gate_of_local_gate, map, map_push, netlist_of, range_with_len, refl}
use Rattle.module_box.proofs.Imports.{slice_get_within, subst, sym, ℕ, ◌++◌, ◌+◌, ◌∙◌, ◌∷◌, ◌≡◌}
use Rattle.circuit.specs.Wiring.{gate_of}
use Rattle.module_box.proofs.WireLists.{different_front}
use Rattle.module_box.proofs.LocalNets.{IsOver, IsPart, part_none, part_more, part_all, next_known, known_ins, next_new}
use Rattle.module_box.proofs.locals.number_cuts_and_gates.Goals as goal

pub add_wires-requires-clause-different : goal.add_wires-requires-clause-different
add_wires-requires-clause-different c =
    subst (λ (l : List ℕ). AreDistinct (l ++ c.args.cuts.now)) (sym c.requires.known_is_empty)
    (different_front c.args.cuts.now _ c.requires.lines.different)

pub loop-used-init : goal.loop-used-init
loop-used-init c =
    let none : map gate_of_local_gate c.in_ok-made.made.items ≡ [] =
    ap (map gate_of_local_gate) c.in_ok-made.ensures.items in
    subst (λ (done : List Gate). IsPart
    (netlist_of c.args.circuit.now) c.args.cuts.now c.args.gates.now 0 c.add_wires.new.known done) (sym none)
    (part_none (netlist_of c.args.circuit.now) c.args.cuts.now c.args.gates.now c.add_wires.new.known
    c.requires.lines (c.in_ok-add_wires.ensures ∙ ap (λ (l : List ℕ). l ++ c.args.cuts.now) c.requires.known_is_empty))

pub prove-unreachable-requires : goal.prove-unreachable-requires
prove-unreachable-requires c =
    let n : Netlist = netlist_of c.args.circuit.now in
    let known = next_known n c.args.cuts.now c.args.gates.now c.loop-used.used-index c.used-item.result
    c.loop-used.known _
    c.requires.lines c.loop-used.invariant c.loop-used-test.true c.used-item.is in
    let below = slice_get_within n.gates c.used-item.result known.gate known.numbered in
    omega (arith, below)

pub local_gate-local-requires-clause-inputs_known : goal.local_gate-local-requires-clause-inputs_known
local_gate-local-requires-clause-inputs_known c =
    let n : Netlist = netlist_of c.args.circuit.now in
    let known = next_known n c.args.cuts.now c.args.gates.now c.loop-used.used-index c.used-item.result
    c.loop-used.known _
    c.requires.lines c.loop-used.invariant c.loop-used-test.true c.used-item.is in
    known_ins n c.loop-used.known c.used-item.result (gate_of c.gate-gate.result) known c.gate-gate.ensures

pub add_wires-requires-in-loop-used-clause-different : goal.add_wires-requires-in-loop-used-clause-different
add_wires-requires-in-loop-used-clause-different c =
    subst (λ (l : List ℕ). AreDistinct (c.loop-used.known ++ l)) (sym c.outs.ensures)
    (next_new (netlist_of c.args.circuit.now) c.args.cuts.now c.args.gates.now c.loop-used.used-index c.used-item.result
    c.loop-used.known _ (gate_of c.gate-gate.result) c.requires.lines c.loop-used.invariant c.loop-used-test.true
    c.used-item.is c.gate-gate.ensures)

pub loop-used-preserved : goal.loop-used-preserved
loop-used-preserved c =
    let n : Netlist = netlist_of c.args.circuit.now in
    let local : LocalGate = c.local_gate-local.result in
    let over : IsOver c.loop-used.known (gate_of c.gate-gate.result) (gate_of_local_gate local) = record {
      kind = c.local_gate-local.ensures.kind;
      within = c.local_gate-local.ensures.inputs_within_known;
      ins = c.local_gate-local.ensures.ins;
      outs = ap (λ m. range_with_len m (defines (gate_of_local_gate local).kind)) c.local_gate-local.ensures.first;
    } in
    let done : map gate_of_local_gate c.push.new.self.items
    ≡ map gate_of_local_gate c.loop-used.made.items ++ gate_of_local_gate local ∷ [] =
    ap (map gate_of_local_gate) c.in_ok-push.ensures.items ∙ map_push gate_of_local_gate c.loop-used.made.items local in
    subst (λ (done : List Gate). IsPart n c.args.cuts.now c.args.gates.now
    (c.loop-used.used-index + 1) c.add_wires-in-loop-used.new.known done) (sym done)
    (part_more n c.args.cuts.now c.args.gates.now c.loop-used.used-index c.used-item.result c.loop-used.known
    c.add_wires-in-loop-used.new.known _ (gate_of c.gate-gate.result) (gate_of_local_gate local)
    c.gates-gate_count.ensures.gates_ordered c.loop-used.invariant c.loop-used-test.true c.used-item.is
    c.gate-gate.ensures over
    (c.in_ok-add_wires-2.ensures ∙ ap (λ (l : List ℕ). c.loop-used.known ++ l) c.outs.ensures))

pub returns-clause-locals : goal.returns-clause-locals
returns-clause-locals c =
    part_all (netlist_of c.args.circuit.now) c.args.cuts.now c.args.gates.now c.loop-used.known _ _
    c.loop-used.used-index
    _ c.requires.lines c.loop-used.invariant (omega (arith, c.loop-used.auto.used-index-end))
    refl refl
