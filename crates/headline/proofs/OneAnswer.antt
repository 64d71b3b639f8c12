-- A text has one answer.
use Rattle.headline.proofs.Imports.{AnswersOrRefuses, Err, HasAtMostOneAnswerToEachText, IsDeadOutside, IsLiveOutside}
use Rattle.headline.proofs.Imports.{IsRunAnswerOf, LayoutHeader, LayoutLine, List, Ok, Outcome, Pattern, Refusal}
use Rattle.headline.proofs.Imports.{Result, RunQuestion, SaysRunEnd, State, ap, arith, common_steps, layout_of}
use Rattle.headline.proofs.Imports.{layout_section, parts_of, sym, true≢false, ℕ, ◌∙◌, ◌≡◌}
use Rattle.answers.proofs.Bundles.{layout_again}

-- a layout is what its lines make, so they are those of one layout
pub layout_from : (p : Pattern) (size : LayoutHeader) (parts : List LayoutLine) → layout_section p ≡ (size, parts) →
    layout_of size parts ≡ p
layout_from p size parts e = ap (λ (v : LayoutHeader × List LayoutLine). layout_of v.0 v.1) (sym e) ∙ layout_again p

pub one_layout : (p q : Pattern) → layout_section p ≡ layout_section q → p ≡ q
one_layout p q e = sym (layout_from p q.size (parts_of q) e) ∙ layout_again q

-- ---- a run ends in one way

clash : (s : LayoutHeader) (state : State) → IsDeadOutside s state → IsLiveOutside s state → ⊥
clash s state stays goes = true≢false (sym (stays goes.x goes.y goes.lives) ∙ goes.outside)

one_run : (asked : RunQuestion) (output output' : List ℕ) (outcome outcome' : Outcome) →
    SaysRunEnd asked output outcome → SaysRunEnd asked output' outcome' → (output ≡ output') × (outcome ≡ outcome')
one_run asked output output' outcome outcome' h h' = grind (arith, common_steps, one_layout)

-- a command that has one answer to what is asked has one to each text
pub answered_once : {A : Type 0} (says : A → List ℕ → Outcome → Type 0) →
    ((asked : A) (output output' : List ℕ) (outcome outcome' : Outcome) → says asked output outcome →
    says asked output' outcome' → (output ≡ output') × (outcome ≡ outcome'))
    → (read : Result A Refusal) (output output' : List ℕ) (outcome outcome' : Outcome) →
    AnswersOrRefuses says read output outcome → AnswersOrRefuses says read output' outcome' →
    (output ≡ output') × (outcome ≡ outcome')
answered_once says once (Ok asked) output output' outcome outcome' h h' = grind (arith, common_steps)
answered_once says once (Err refusal) output output' outcome outcome' h h' = (h.0 ∙ sym h'.0, h.1 ∙ sym h'.1)

pub one_answer : HasAtMostOneAnswerToEachText IsRunAnswerOf
one_answer text output output' outcome outcome' h h' = grind (arith, common_steps, answered_once, one_run)
