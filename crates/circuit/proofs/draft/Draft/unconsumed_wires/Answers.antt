use Rattle.circuit.proofs.Imports.{arith, consumed, defined, rules, sym, take, ◌∙◌}
use Rattle.circuit.proofs.WireMarks.{Next, named_twice, consumed_next, wires_next}
use Rattle.circuit.proofs.draft.Draft.unconsumed_wires.Goals as goal

pub returns-then-contains-clause-err : goal.returns-then-contains-clause-err
returns-then-contains-clause-err c =
    let next : Next (defined c.args.self.now.lines) (consumed c.args.self.now.lines) c.args.names.now c.loop-place.place
    c.index-names-place.result c.in_ok-wire.wire (take c.loop-place.place c.loop-place.ins) = record {
      so_far = c.loop-place.invariant.so_far;
      here = omega arith;
      name = c.index-names-place.is;
      known = search rules;
      wire = search rules;
      wires = c.loop-place.invariant.wires;
    } in
    named_twice _ _ _ _ _ _ _ next (sym c.contains.ensures.value ∙ c.if-contains.true)

pub loop-place-preserved : goal.loop-place-preserved
loop-place-preserved c =
    let next : Next (defined c.args.self.now.lines) (consumed c.args.self.now.lines) c.args.names.now c.loop-place.place
    c.index-names-place.result c.in_ok-wire.wire (take c.loop-place.place c.loop-place.ins) = record {
      so_far = c.loop-place.invariant.so_far;
      here = omega arith;
      name = c.index-names-place.is;
      known = search rules;
      wire = search rules;
      wires = c.loop-place.invariant.wires;
    } in
    record {
      so_far = consumed_next _ _ _ _ _ _ _ next (search rules) (sym c.contains.ensures.value ∙ c.if-contains.false);
      wires = wires_next _ _ _ _ _ _ c.loop-place.ins next (omega arith);
    }
