-- The assign section: the names that are on.
use Rattle.std.specs.Prelude.{ℕ, not, List, Option, Some, None, codes, if◌then◌else◌}
use Rattle.section_text.specs.Words.{◌>>=◌, is_word_at, has, if_one_word, name_after_keyword}
use Rattle.section_text.specs.Codes.{code_if, or_else}
use Rattle.section_text.specs.Section.{Grammar}
use Rattle.section_text.specs.declared.section.Form.{Form}
use Rattle.section_text.specs.declared.section.Form.TheVariants.{Header, Item, End}
use Rattle.section_text.specs.declared.code.RefusalCode.{RefusalCode}
use Rattle.section_text.specs.declared.code.RefusalCode.TheVariants.{UnknownName, DefinedTwice}

-- a line of the assign section: its header has no content
abbrev pub AssignLine : Type 0
AssignLine = Form (Unit {0}) (List ℕ)

-- the form of a line by its words, if it has one
unfoldable pub form_in_assign_section : List (List ℕ) → Option AssignLine
form_in_assign_section ws =
    if is_word_at ws 0 (codes "assign") then if_one_word ws (Header tt)
    else if is_word_at ws 0 (codes "on") then (name_after_keyword ws >>= λ n. Some (Item n))
    else if is_word_at ws 0 (codes "end") then if_one_word ws End
    else None

-- a name that may be on, and is not on yet
unfoldable pub name_on_fault : List (List ℕ) → List (List ℕ) → List ℕ → Option RefusalCode
name_on_fault ins before n = or_else (code_if (not (has ins n)) UnknownName) (code_if (has before n) DefinedTwice)

-- the section, if these names may be on
abbrev pub assign_grammar : List (List ℕ) → Grammar (Unit {0}) (List ℕ)
assign_grammar ins = record {
  form = form_in_assign_section;
  header_fault = λ h. None;
  item_fault = λ h before n. name_on_fault ins before n;
  end_fault = λ h names. None;
}

-- what the section gives: the names that are on
abbrev pub assign_section : List (List ℕ) → Unit {0} × List (List ℕ)
assign_section names = (tt, names)
