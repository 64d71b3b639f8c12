-- A circuit has one answer.
use Rattle.headline.proofs.Imports.{AreGatesOrdered, Bool, HasAtMostOneAnswerToEachText, IsValueAnswerOf, List, Outcome}
use Rattle.headline.proofs.Imports.{SaysValues, Valuation, ValueQuestion, [], ap₂, arith, as_values, common_steps}
use Rattle.headline.proofs.Imports.{false, inl, inr, length, netlist_of, refl, subst, suc, sym, value_sections_of, zero}
use Rattle.headline.proofs.Imports.{ℕ, ◌<◌, ◌∙◌, ◌∷◌, ◌≡◌, ◌⊎◌}
use Rattle.lemmas.proofs.Common.{slice_index_or}
use Rattle.circuit.specs.Bridge.{AreWireValues, ValuesStopAt}
use Rattle.circuit.specs.Meaning.{Netlist, first_gates}
use Rattle.circuit.proofs.Undefined.{stopped, undefined_has_none, undefined_is_one}
use Rattle.answers.specs.ValueText.{SaysAllValues, SaysValuesBeforeGate}
use Rattle.headline.proofs.OneAnswer.{answered_once}

same_bits : (xs ys : List Bool) → length xs ≡ length ys →
    ((w : ℕ) → w < length xs → slice_index_or xs w false ≡ slice_index_or ys w false) → xs ≡ ys
same_bits [] [] e same = refl
same_bits [] (y ∷ ys) e same = absurd (omega arith)
same_bits (x ∷ xs) [] e same = absurd (omega arith)
same_bits (x ∷ xs) (y ∷ ys) e same =
    ap₂ (λ b bs. b ∷ bs) (same zero (omega arith)) (same_bits xs ys (omega arith) (λ w h. same (suc w) (omega arith)))

one_list : (n : Netlist) (a : Valuation) (vs us : List Bool) → AreWireValues n a vs → AreWireValues n a us → vs ≡ us
one_list n a vs us h h' = same_bits vs us (h.all ∙ sym h'.all)
    (λ w below. sym (h.only (as_values us) h'.satisfies w below))

-- values and a gate without a row exclude each other, and there is one such gate
never_both : (n : Netlist) (a : Valuation) (k : ℕ) (vs us : List Bool) → AreGatesOrdered n.given n.gates →
    AreWireValues n a vs → ValuesStopAt n a k us → ⊥
never_both n a k vs us ordered v s = undefined_has_none n a (as_values vs) k ordered (stopped n a k us s) v.satisfies

one_stop : (n : Netlist) (a : Valuation) (k m : ℕ) (vs us : List Bool) → AreGatesOrdered n.given n.gates →
    ValuesStopAt n a k vs → ValuesStopAt n a m us → (k ≡ m) × (vs ≡ us)
one_stop n a k m vs us ordered s t =
    let same : k ≡ m = undefined_is_one n a k m ordered (stopped n a k vs s) (stopped n a m us t) in
    let before : AreWireValues (first_gates k n) a us =
    subst (λ j. AreWireValues (first_gates j n) a us) (sym same) t.before in
    (same, one_list (first_gates k n) a vs us s.before before)

one_of : (asked : ValueQuestion) (output output' : List ℕ) (outcome outcome' : Outcome) →
    AreGatesOrdered (netlist_of asked.0).given (netlist_of asked.0).gates →
    SaysAllValues asked output outcome ⊎ SaysValuesBeforeGate asked output outcome →
    SaysAllValues asked output' outcome' ⊎ SaysValuesBeforeGate asked output' outcome' →
    (output ≡ output') × (outcome ≡ outcome')
one_of asked output output' outcome outcome' ordered (inl h) (inl h') =
    grind (arith, common_steps, (one_list (netlist_of asked.0) _ h.values h'.values h.are h'.are))
one_of asked output output' outcome outcome' ordered (inl h) (inr h') =
    absurd (never_both (netlist_of asked.0) _ h'.gate h.values h'.values ordered h.are h'.stops)
one_of asked output output' outcome outcome' ordered (inr h) (inl h') =
    absurd (never_both (netlist_of asked.0) _ h.gate h'.values h.values ordered h'.are h.stops)
one_of asked output output' outcome outcome' ordered (inr h) (inr h') =
    grind (
      arith,
      common_steps,
      (one_stop (netlist_of asked.0) _ h.gate h'.gate h.values h'.values ordered h.stops h'.stops),
    )

one_evaluation : (asked : ValueQuestion) (output output' : List ℕ) (outcome outcome' : Outcome) →
    SaysValues asked output outcome → SaysValues asked output' outcome' → (output ≡ output') × (outcome ≡ outcome')
one_evaluation asked output output' outcome outcome' h h' =
    one_of asked output output' outcome outcome' h.ordered h.says h'.says

pub one_value : HasAtMostOneAnswerToEachText IsValueAnswerOf
one_value text output output' outcome outcome' h h' =
    answered_once SaysValues one_evaluation (value_sections_of text) output output' outcome outcome' h h'
