-- `modules`, `migrate` and `value` have an answer to each text
use Rattle.headline.proofs.Imports.{AnswersOrRefuses, AreGatesOrdered, CircuitLine, Err, HasAnAnswerToEachText}
use Rattle.headline.proofs.Imports.{IsMigrationOf, IsModulesAnswerOf, IsValueAnswerOf, List, No, Ok, Outcome, Refusal}
use Rattle.headline.proofs.Imports.{Refused, Result, SaysMigration, SaysModules, SaysValues, ValueQuestion, Yes, []}
use Rattle.headline.proofs.Imports.{arith, bundle_of, circuit_grammar, codes, common_steps, decimal, defined}
use Rattle.headline.proofs.Imports.{gates_are_ordered, inl, inr, line_text, netlist_of, pair_with_result, refl}
use Rattle.headline.proofs.Imports.{refusal_line, section_of, subst, value_lines, value_sections_of, ℕ, ◌++◌, ◌∷◌, ◌≡◌}
use Rattle.headline.proofs.Imports.{◌⊎◌}
use Rattle.soundness.proofs.SomeValues.{HasStop, HasValues, values_or_stop}
use Rattle.answers.specs.ValueText.{assigned_inputs, value_sections_with_limits}
use Rattle.headline.proofs.YesIsRight.{circuit_good, went_on}
use Rattle.section_text.specs.declared.limits.Limits.{Limits}
use Rattle.section_text.specs.Limits.{limits_line_count}
use Rattle.meaning.specs.Design.{section_lines, text_limits}

-- some output and some way to end
pub record SaysSomething {A : Type 0} (says : A → List ℕ → Outcome → Type 0) (asked : A) : Type 0 where
  pub output : List ℕ
  pub outcome : Outcome
  pub is : says asked output outcome

-- a command that answers all that is read answers each text
pub answered_always : {A : Type 0} (says : A → List ℕ → Outcome → Type 0) (read : Result A Refusal)
    → ((asked : A) → read ≡ Ok asked → SaysSomething says asked)
    → (output : List ℕ) × (outcome : Outcome) × AnswersOrRefuses says read output outcome
answered_always says (Ok asked) each = let s = each asked refl in (s.output, s.outcome, s.is)
answered_always says (Err refusal) each = (refusal_line refusal, Refused, (refl, refl))

pub some_list : HasAnAnswerToEachText IsModulesAnswerOf
some_list text = answered_always SaysModules (bundle_of text)
    (λ bundle e. record { output = _; outcome = Yes; is = record { says = refl; ends = refl } })

pub some_migration : HasAnAnswerToEachText IsMigrationOf
some_migration text = answered_always (SaysMigration (text_limits text)) (bundle_of text)
    (λ bundle e. record { output = _; outcome = Yes; is = record { says = refl; ends = refl } })

-- ---- the values of a circuit

says_values : (asked : ValueQuestion) (ordered : AreGatesOrdered (netlist_of asked.0).given (netlist_of asked.0).gates)
    → HasValues (netlist_of asked.0) (assigned_inputs asked) ordered ⊎ HasStop (netlist_of asked.0)
    (assigned_inputs asked) ordered
    → SaysSomething SaysValues asked
says_values asked ordered (inl v) = record {
  output = value_lines (defined asked.0) v.0;
  outcome = Yes;
  is = record { ordered = ordered; says = inl (record { values = v.0; are = v.1; says = refl; ends = refl }) };
}
says_values asked ordered (inr s) = record {
  output = value_lines (defined asked.0) s.1 ++ line_text (codes "undefined") (decimal s.0 ∷ []);
  outcome = No;
  is = grind (arith, common_steps);
}

-- what is asked has the lines of a circuit that was read
asked_first : (entries : List CircuitLine) (read : Result (List (List ℕ)) Refusal) (asked : ValueQuestion)
    → pair_with_result entries read ≡ Ok asked → entries ≡ asked.0
asked_first entries read asked h1 = grind (arith, common_steps)

asked_ordered : (text : List ℕ) (asked : ValueQuestion) → value_sections_of text ≡ Ok asked
    → AreGatesOrdered (netlist_of asked.0).given (netlist_of asked.0).gates
unfolding value_sections_of value_sections_with_limits
asked_ordered text asked e =
    let l : Limits = text_limits text in
    let ls : List (List ℕ) = section_lines text in
    let c = went_on (section_of (circuit_grammar l) (limits_line_count l) ls) _ asked e in
    let same : c.items ≡ asked.0 = asked_first c.items _ asked c.then in
    subst (λ es. AreGatesOrdered (netlist_of es).given (netlist_of es).gates) same
    (gates_are_ordered c.items (circuit_good l (limits_line_count l) ls c.header c.items c.was))

pub some_values : HasAnAnswerToEachText IsValueAnswerOf
some_values text = answered_always SaysValues (value_sections_of text) (λ asked e.
    let ordered = asked_ordered text asked e in
    says_values asked ordered (values_or_stop (netlist_of asked.0) (assigned_inputs asked) ordered))
