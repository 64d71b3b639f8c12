use Rattle.circuit.proofs.Imports.{AreWireValues, CircuitLine, Gate, IsGateEvaluationError, IsValuesFault, List, Some}
use Rattle.circuit.proofs.Imports.{ap, as_values, defined, evaluate, gate_of, gates_of, input_count, length, map}
use Rattle.circuit.proofs.Imports.{netlist_of, refl, subst, sym, ◌∙◌, ◌≡◌}
use Rattle.circuit.proofs.Bridging.{gates_are_ordered}
use Rattle.circuit.proofs.Undefined.{fault_stops}
use Rattle.circuit.proofs.Valuations.{evaluated}
use Rattle.circuit.proofs.netlist.Circuit.values.Goals as goal

pub returns-in-Ok-clause-values : goal.returns-in-Ok-clause-values
returns-in-Ok-clause-values c =
    let entries : List CircuitLine = c.self.inside.entries.items in
    let same : length c.args.inputs.now ≡ input_count entries = c.requires ∙ ap input_count (sym c.self.view_is) in
    let found : evaluate c.args.inputs.now (gates_of (defined entries) entries) ≡ Some c.in-Ok.values.items =
    ap (evaluate c.args.inputs.now) (sym (ap (map gate_of) c.as_slice.ensures.value ∙ c.self.invariant.wired))
    ∙ c.in-Ok.ensures.values in
    subst (λ (entries : List CircuitLine).
    AreWireValues (netlist_of entries) (as_values c.args.inputs.now) c.in-Ok.values.items)
    c.self.view_is
    (evaluated (netlist_of entries) (as_values c.args.inputs.now) c.args.inputs.now c.in-Ok.values.items
    (gates_are_ordered entries c.self.invariant.good) same (λ i h. refl) found)

pub returns-in-Err-clause-fault : goal.returns-in-Err-clause-fault
returns-in-Err-clause-fault c =
    let entries : List CircuitLine = c.self.inside.entries.items in
    let same : length c.args.inputs.now ≡ input_count entries = c.requires ∙ ap input_count (sym c.self.view_is) in
    let at : IsGateEvaluationError c.args.inputs.now (gates_of (defined entries) entries) c.in-Err.fault =
    subst (λ (gs : List Gate). IsGateEvaluationError c.args.inputs.now gs c.in-Err.fault)
    (ap (map gate_of) c.as_slice.ensures.value ∙ c.self.invariant.wired) c.in-Err.ensures.fault in
    subst (λ (entries : List CircuitLine).
    IsValuesFault (netlist_of entries) (as_values c.args.inputs.now) c.in-Err.fault)
    c.self.view_is
    (fault_stops (netlist_of entries) (as_values c.args.inputs.now) c.args.inputs.now c.in-Err.fault
    (gates_are_ordered entries c.self.invariant.good) same (λ i h. refl) at)
