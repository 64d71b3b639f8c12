-- The answer of `modules` to a text: a line for each module of a bundle's certificate, or the refusal of the text.
use Rattle.pattern.specs.Text.{box_words}
use Rattle.std.specs.Prelude.{◌≡◌, ℕ, ◌+◌, List, [], ◌∷◌, ◌++◌, map, codes}
use Rattle.std.specs.Fmt.{decimal}
use Rattle.section_text.specs.Spelling.{line_text}
use Rattle.certificate_lines.specs.Entries.{line_counts_of, modules_of}
use Rattle.certificate_lines.specs.declared.certificate_line.Counts.{Counts}
use Rattle.answers.specs.declared.outcome.Outcome.{Outcome}
use Rattle.answers.specs.declared.outcome.Outcome.TheVariants.{Yes}
use Rattle.answers.specs.Answers.{AnswersOrRefuses}
use Rattle.answers.specs.BundleText.{Bundle, bundle_of}

-- how many lines of each kind there are
abbrev pub words_of_counts : Counts → List (List ℕ)
words_of_counts k =
    codes "cuts" ∷ decimal k.cuts ∷ codes "gates" ∷ decimal k.gates
    ∷ codes "edges" ∷ decimal k.edges ∷ codes "halos" ∷ decimal k.halos ∷ codes "stops" ∷ decimal k.stops ∷ []

-- the line of the module of this number
unfoldable pub module_line : ℕ → Counts → List ℕ
module_line n k = line_text (codes "module") (decimal n ∷ (box_words k.area ++ words_of_counts k))

-- the lines of modules, numbered from n on
unfoldable pub module_lines : ℕ → List Counts → List ℕ
module_lines n [] = []
module_lines n (k ∷ ks) = module_line n k ++ module_lines (n + 1) ks

-- the box of each module and how many lines of each kind it has, in order
pub record SaysModules (bundle : Bundle) (output : List ℕ) (outcome : Outcome) : Type 0 where
  pub says : output ≡ module_lines 0 (map line_counts_of (modules_of bundle.entries))
  pub ends : outcome ≡ Yes

-- what `modules` writes for a text, and how it ends
abbrev pub IsModulesAnswerOf : List ℕ → List ℕ → Outcome → Type 0
IsModulesAnswerOf text output outcome = AnswersOrRefuses SaysModules (bundle_of text) output outcome
