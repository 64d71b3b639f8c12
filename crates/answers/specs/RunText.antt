-- The answer of `run` to a text: the whole run of a layout from the names that are on, or the refusal of the text.
use Rattle.std.specs.Prelude.{◌≡◌, ℕ, List, [], ◌∷◌, ◌++◌, length, None, Result, codes, drop}
use Rattle.std.specs.List.{flat_map}
use Rattle.std.specs.Fmt.{decimal, signed_decimal}
use Rattle.section_text.specs.Words.{lines_of, has}
use Rattle.section_text.specs.Limits.{limits_line_count, limits_of}
use Rattle.section_text.specs.declared.limits.Limits.{Limits}
use Rattle.section_text.specs.Spelling.{line_text}
use Rattle.section_text.specs.Sections.{section_then}
use Rattle.section_text.specs.declared.fault.Refusal.{Refusal}
use Rattle.bbm_rule.specs.declared.block.Cell.{Cell}
use Rattle.pattern.specs.declared.layout_line.LayoutLine.{LayoutLine}
use Rattle.pattern.specs.declared.layout_line.LayoutLine.TheVariants.{In}
use Rattle.pattern.specs.declared.layout_line.LayoutHeader.{LayoutHeader}
use Rattle.pattern.specs.declared.run.RunEnd.{RunEnd}
use Rattle.pattern.specs.declared.run.RunEnd.TheVariants.{Cells, LeftAt}
use Rattle.pattern.specs.Layout.{Pattern}
use Rattle.pattern.specs.Grammars.{layout_grammar, layout_section}
use Rattle.pattern.specs.Run.{IsRunEnd}
use Rattle.answers.specs.declared.outcome.Outcome.{Outcome}
use Rattle.answers.specs.declared.outcome.Outcome.TheVariants.{Yes, No}
use Rattle.answers.specs.Answers.{AnswersOrRefuses, value_and_names_on}

-- ---- what is read

-- the name of an input cell
abbrev pub input_name_of_line : LayoutLine → List (List ℕ)
input_name_of_line (In p) = p.name ∷ []
input_name_of_line _ = []

-- the lines of a layout, and the names that are on
abbrev pub RunQuestion : Type 0
RunQuestion = (LayoutHeader × List LayoutLine) × List (List ℕ)

-- With these limits, after their line: a layout section, an assign section in which the names of its input cells may be
-- on, and nothing more.
unfoldable pub run_sections_with_limits : Limits → List ℕ → Result RunQuestion Refusal
run_sections_with_limits l text =
    section_then (layout_grammar l None) (limits_line_count l) (drop (limits_line_count l) (lines_of text))
    (λ size parts n ahead. value_and_names_on text (size, parts) (flat_map input_name_of_line parts) n ahead)

-- with the limits that the text has
unfoldable pub run_sections_of : List ℕ → Result RunQuestion Refusal
run_sections_of text = run_sections_with_limits (limits_of (lines_of text)) text

-- ---- what is written

-- the line for a live cell
abbrev pub live_cell_line : Cell → List ℕ
live_cell_line c = line_text (signed_decimal c.x) (signed_decimal c.y ∷ [])

-- the lines for the end of a run: its live cells, or the time at which a ball left the rectangle
abbrev pub run_end_text : RunEnd → List ℕ
run_end_text (Cells cells) = line_text (codes "cells") (decimal (length cells.items) ∷ [])
    ++ flat_map live_cell_line cells.items
run_end_text (LeftAt k) = line_text (codes "left") (decimal k ∷ [])

-- the outcome for the end of a run: no if a ball left the rectangle
abbrev pub run_end_outcome : RunEnd → Outcome
run_end_outcome (Cells cells) = Yes
run_end_outcome (LeftAt k) = No

-- the layout of these lines was run with these names on, and this says how it ended
pub record SaysRunEnd (asked : RunQuestion) (output : List ℕ) (outcome : Outcome) : Type 0 where
  pub layout : Pattern
  pub end : RunEnd
  pub lines : layout_section layout ≡ asked.0
  pub run : IsRunEnd layout (has asked.1) end
  pub says : output ≡ run_end_text end
  pub ends : outcome ≡ run_end_outcome end

-- what `run` writes for a text, and how it ends
abbrev pub IsRunAnswerOf : List ℕ → List ℕ → Outcome → Type 0
IsRunAnswerOf text output outcome = AnswersOrRefuses SaysRunEnd (run_sections_of text) output outcome
