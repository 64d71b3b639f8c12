use Rattle.lemmas.proofs.Common.{[], ◌++◌, ◌∙◌, ◌∷◌, ◌≡◌, Bool, List, ap, arith, codes, inl, inr, length, map, refl}
use Rattle.lemmas.proofs.Common.{rules, subst, ℕ, decimal, length-map}
use Rattle.section_text.specs.Spelling.{line_text}
use Rattle.circuit.specs.Entries.{defined}
use Rattle.circuit.specs.Bridge.{AreWireValues, IsValuesFault, ValuesStopAt, netlist_of, as_values}
use Rattle.circuit.specs.declared.netlist.ValuesFault.TheVariants.{OutOfDomain}
use Rattle.circuit.specs.Text.{value_lines}
use Rattle.circuit.proofs.Undefined.{stops_short}
use Rattle.section_text.specs.Words.{has}
use Rattle.answers.proofs.value.answer.Goals as goal

pub values-requires : goal.values-requires
values-requires c =
    let bits = c.deref-2.ensures.value ∙ c.in_ok-bits.ensures in
    ap length bits ∙ length-map c.deref.result.now _ ∙ ap length (c.deref.ensures.value ∙ c.in_ok-ins.ensures.names)
    ∙ c.input_name_list.ensures.count

pub values_up_to_gate_text-requires : goal.values_up_to_gate_text-requires
values_up_to_gate_text-requires c =
    let same : c.in-Err-OutOfDomain.field-0 ≡ OutOfDomain c.in-Err-OutOfDomain.gate c.in-Err-OutOfDomain.before =
    search rules in
    let stops : ValuesStopAt (netlist_of c.args.circuit.now)
    (as_values c.deref-2.result.now) c.in-Err-OutOfDomain.gate c.in-Err-OutOfDomain.before.items =
    subst (IsValuesFault (netlist_of c.args.circuit.now) (as_values c.deref-2.result.now)) same
    c.in-Err-OutOfDomain.ensures.fault in
    let short = stops_short (netlist_of c.args.circuit.now)
    (as_values c.deref-2.result.now) c.in-Err-OutOfDomain.gate c.in-Err-OutOfDomain.before.items stops in
    let long = ap length c.deref-in-Err-OutOfDomain.ensures.value in
    omega (arith, short, long)

pub returns-in-Ok : goal.returns-in-Ok
returns-in-Ok c =
    let on : List ℕ → Bool = λ n. has c.args.on.now n in
    let bits = c.deref-2.ensures.value ∙ c.in_ok-bits.ensures
    ∙ ap (map on) (c.deref.ensures.value ∙ c.in_ok-ins.ensures.names) in
    record {
      ordered = c.prove_valid.ensures.gates_ordered;
      says = inl (record {
        values = c.in-Ok.values.items;
        are = subst (λ (l : List Bool).
            AreWireValues (netlist_of c.args.circuit.now) (as_values l) c.in-Ok.values.items)
            bits
            c.in-Ok.ensures.values;
        says = c.in_ok-output-in-Ok.ensures ∙ ap (value_lines (defined c.args.circuit.now)) c.deref-in-Ok.ensures.value;
        ends = refl;
      });
    }

pub returns-in-Err-OutOfDomain : goal.returns-in-Err-OutOfDomain
returns-in-Err-OutOfDomain c =
    let on : List ℕ → Bool = λ n. has c.args.on.now n in
    let bits = c.deref-2.ensures.value ∙ c.in_ok-bits.ensures
    ∙ ap (map on) (c.deref.ensures.value ∙ c.in_ok-ins.ensures.names) in
    let same : c.in-Err-OutOfDomain.field-0 ≡ OutOfDomain c.in-Err-OutOfDomain.gate c.in-Err-OutOfDomain.before =
    search rules in
    let stops : ValuesStopAt (netlist_of c.args.circuit.now)
    (as_values c.deref-2.result.now) c.in-Err-OutOfDomain.gate c.in-Err-OutOfDomain.before.items =
    subst (IsValuesFault (netlist_of c.args.circuit.now) (as_values c.deref-2.result.now)) same
    c.in-Err-OutOfDomain.ensures.fault in
    record {
      ordered = c.prove_valid.ensures.gates_ordered;
      says = inr (record {
        gate = c.in-Err-OutOfDomain.gate;
        values = c.in-Err-OutOfDomain.before.items;
        stops = subst (λ (l : List Bool).
            ValuesStopAt (netlist_of c.args.circuit.now)
            (as_values l) c.in-Err-OutOfDomain.gate c.in-Err-OutOfDomain.before.items) bits stops;
        says = c.in_ok-output-in-Err-OutOfDomain.ensures
            ∙ ap (λ (vs : List Bool). value_lines (defined c.args.circuit.now) vs
            ++ line_text (codes "undefined") (decimal c.in-Err-OutOfDomain.gate ∷ []))
            c.deref-in-Err-OutOfDomain.ensures.value;
        ends = refl;
      });
    }
