-- The lines that are a section.
use Rattle.std.specs.Prelude.{◌≡◌, List, [], ◌∷◌, ◌++◌, map, Option, Some, ℕ}
use Rattle.section_text.specs.Words.{words_of}
use Rattle.section_text.specs.declared.section.Form.{Form}
use Rattle.section_text.specs.declared.section.Form.TheVariants.{Header, Item, End}

-- The lines are a section: by the forms of their words a header, these items in their order, and an end.
abbrev pub IsSection : {H I : Type 0} → (List (List ℕ) → Option (Form H I)) → List (List ℕ) → H → List I → Type 0
IsSection form lines header items =
    map (λ l. form (words_of l)) lines ≡ Some (Header header) ∷ map (λ i. Some (Item i)) items ++ Some End ∷ []
