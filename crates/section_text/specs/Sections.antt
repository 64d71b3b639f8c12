-- Sections one after the other, up to the end of the text.
use Rattle.std.specs.Prelude.{ℕ, ◌+◌, List, [], ◌∷◌, length, drop, Result, Ok, Err}
use Rattle.section_text.specs.declared.fault.Refusal.{Refusal}
use Rattle.section_text.specs.Section.{Grammar, section_of, refused_at}
use Rattle.section_text.specs.declared.code.RefusalCode.TheVariants.{TextCut}

-- what comes of a header and items, or the refusal
abbrev pub continue_after_section : {H I B : Type 0} → Result (H × List I) Refusal → (H → List I → Result B Refusal) →
    Result B Refusal
continue_after_section (Ok read) next = next read.0 read.1
continue_after_section (Err refusal) next = Err refusal

-- A section that begins after n lines, with these lines ahead, and a continuation. It gets the header, the items, the
-- number of lines taken by then, and the lines that are ahead then.
abbrev pub section_then : {H I B : Type 0} → Grammar H I → ℕ → List (List ℕ) →
    (H → List I → ℕ → List (List ℕ) → Result B Refusal) → Result B Refusal
section_then g n ls next = continue_after_section (section_of g n ls)
    (λ h items. next h items (n + (length items + 2)) (drop (length items + 2) ls))

-- the value, if no line and no byte follows the n lines
abbrev pub value_if_at_end : {B : Type 0} → ℕ → List (List ℕ) → List ℕ → B → Result B Refusal
value_if_at_end n [] [] value = Ok value
value_if_at_end n [] (b ∷ rest) value = refused_at n TextCut
value_if_at_end n (l ∷ ls) rest value = refused_at n TextCut
