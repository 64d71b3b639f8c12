-- A wire from an input to an output, and a layout of no step in which the output cell is not the input cell
use Rattle.soundness.proofs.Imports.{CircuitLine, Input, IsCorrect, List, Output, Pattern, Port, Valuation, [], arith}
use Rattle.soundness.proofs.Imports.{circuit_of, false≢true, number, place_of, pos, refl, run, run_under, start, true}
use Rattle.soundness.proofs.Imports.{values_by_name, ℕ, ◌∙◌, ◌∷◌, ◌≡◌}
use Rattle.soundness.specs.HeadlineLaws.{SomeLayoutIsWrong}

abbrev name_a : List ℕ
name_a = 97 ∷ []

abbrev lines : List CircuitLine
lines = record { kind = Input; ins = []; outs = name_a ∷ [] } ∷ record { kind = Output; ins = name_a ∷ []; outs = [] }
    ∷ []

abbrev port : ℕ → Port
port n = record { name = name_a; cell = record { x = pos n; y = pos n } }

abbrev layout : Pattern
layout = record {
  size = record { w = 2; h = 2; steps = 0 };
  mirrors = [];
  balls = [];
  ins = port 0 ∷ [];
  outs = port 1 ∷ [];
  wastes = [];
}

abbrev on : Valuation
on w = true

-- the output cell is dead, and its wire is true
not_correct : IsCorrect lines layout → ⊥
unfolding run start place_of number
not_correct is =
    let ran = is.implements on in
    let looks = ran.looks ran.values ran.satisfied in
    let shown : run_under (circuit_of lines) layout on 0 (pos 1) (pos 1)
    ≡ values_by_name (circuit_of lines) ran.values name_a = looks.outputs 0 (port 1) refl in
    let live : ran.values 0 ≡ true = ran.satisfied.given 0 (omega arith) in
    false≢true (shown ∙ live)

pub wrong_example : SomeLayoutIsWrong
wrong_example = record {
  lines = lines;
  layout = layout;
  named = record { ins = λ n. refl; outs = λ n. refl };
  wrong = not_correct;
}
