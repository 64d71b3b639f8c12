-- The part that the answers of all commands have in common.
use Rattle.std.specs.Prelude.{◌≡◌, ℕ, List, Result, Ok, Err}
use Rattle.section_text.specs.Words.{bytes_after_last_line_feed}
use Rattle.section_text.specs.Sections.{section_then, value_if_at_end}
use Rattle.section_text.specs.declared.fault.Refusal.{Refusal}
use Rattle.pattern.specs.Assign.{assign_grammar}
use Rattle.report.specs.ReportText.{refusal_line}
use Rattle.answers.specs.declared.outcome.Outcome.{Outcome}
use Rattle.answers.specs.declared.outcome.Outcome.TheVariants.{Refused}

-- A text that is read gets the answer of its command, and a refused one the line of its refusal.
abbrev pub AnswersOrRefuses : {A : Type 0} → (A → List ℕ → Outcome → Type 0) → Result A Refusal → List ℕ → Outcome →
    Type 0
AnswersOrRefuses says (Ok asked) output outcome = says asked output outcome
AnswersOrRefuses says (Err refusal) output outcome = (output ≡ refusal_line refusal) × (outcome ≡ Refused)

-- After a first section: an assign section in which these names may be on, and nothing more. It gives the names that
-- are on.
abbrev pub names_on_from_last_section : List ℕ → List (List ℕ) → ℕ → List (List ℕ) → Result (List (List ℕ)) Refusal
names_on_from_last_section text names n ahead =
    section_then (assign_grammar names) n ahead
    (λ _ on m rest. value_if_at_end m rest (bytes_after_last_line_feed text) on)

-- a value before those that are read after it, or the refusal of what is read after it
abbrev pub pair_with_result : {A B : Type 0} → A → Result B Refusal → Result (A × B) Refusal
pair_with_result value (Ok more) = Ok (value, more)
pair_with_result value (Err refusal) = Err refusal

-- the names that are on in the text's last section, after the value of the first section, or a refusal
abbrev pub value_and_names_on : {A : Type 0} → List ℕ → A → List (List ℕ) → ℕ → List (List ℕ) →
    Result (A × List (List ℕ)) Refusal
value_and_names_on text value names n ahead = pair_with_result value (names_on_from_last_section text names n ahead)
