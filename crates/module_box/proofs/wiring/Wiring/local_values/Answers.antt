use Rattle.module_box.proofs.Imports.{AreModuleValuesAtBit, List, Netlist, ap, arith, bit, lane, length, refl}
use Rattle.module_box.proofs.Imports.{slice_index, subst, sym, true, ℕ, ◌%◌, ◌*◌, ◌+◌, ◌/◌, ◌<◌, ◌∙◌, ◌≡◌}
use Rattle.circuit.specs.Bridge.{AreWireValues}
use Rattle.module_box.proofs.LocalRows.{column_defined}
use Rattle.module_box.proofs.wiring.Wiring.local_values.Goals as goal

at : (l : Netlist) (bits defined : ℕ) (words undefined : List ℕ) →
    ((b : ℕ) → b < 64 → AreModuleValuesAtBit l (64 * (bits / 64) + b) words undefined defined b) →
    AreModuleValuesAtBit l bits words undefined defined (bits % 64)
at l bits defined words undefined each =
    let sum : 64 * (bits / 64) + bits % 64 ≡ bits = omega arith in
    subst (λ a. AreModuleValuesAtBit l a words undefined defined (bits % 64)) sum (each (bits % 64) (omega arith))

pub returns-in-Some-clause-fault : goal.returns-in-Some-clause-fault
returns-in-Some-clause-fault c =
    let same = c.as_slice.ensures.value in
    let some = c.in-Some.ensures.found_bit_set in
    let below : c.in-Some.gate < length c.args.self.now.gates =
    (let within = some.0 in let long = ap length same ∙ c.in_ok-column.ensures.gates in omega (arith, within, long)) in
    ((at c.args.self.now c.args.cut_bits c.in_ok-column.column.defined c.in_ok-column.column.words.items
    c.in_ok-column.column.undefined.items c.in_ok-column.ensures.values).undefined c.in-Some.gate below).0
    (sym (ap (λ (ws : List ℕ). bit (slice_index ws c.in-Some.gate) (c.args.cut_bits % 64)) same) ∙ some.1)

pub returns-clause-values : goal.returns-clause-values
returns-clause-values c =
    let same = c.as_slice.ensures.value in
    let whole : bit c.in_ok-column.column.defined (c.args.cut_bits % 64) ≡ true =
    column_defined c.args.self.now c.args.cut_bits
    (c.args.cut_bits % 64) c.in_ok-column.column.defined c.in_ok-column.column.words.items
    c.in_ok-column.column.undefined.items
    (at c.args.self.now c.args.cut_bits c.in_ok-column.column.defined c.in_ok-column.column.words.items
    c.in_ok-column.column.undefined.items c.in_ok-column.ensures.values)
    (λ k below. sym (ap (λ (ws : List ℕ). bit (slice_index ws k) (c.args.cut_bits % 64)) same)
    ∙ c.in-None.ensures.none_means_unset refl k
    (let long = ap length same ∙ c.in_ok-column.ensures.gates in omega (arith, below, long))) in
    let is : c.in_ok-values-in-None.values.items ≡ lane (c.args.cut_bits % 64) c.in_ok-column.column.words.items =
    c.in_ok-values-in-None.ensures ∙ ap (lane (c.args.cut_bits % 64)) c.as_slice-in-None.ensures.value in
    subst (AreWireValues c.args.self.now (bit c.args.cut_bits)) (sym is)
    ((at c.args.self.now c.args.cut_bits c.in_ok-column.column.defined c.in_ok-column.column.words.items
    c.in_ok-column.column.undefined.items c.in_ok-column.ensures.values).values whole)
