-- The line before the sections of a text.
use Rattle.lemmas.proofs.Common.{Bool, List, None, Some, [], ap, append_assoc, arith, bytes_eq, codes, common_steps}
use Rattle.lemmas.proofs.Common.{drop, false, flat_map, flat_map-append, if◌then◌else◌, length, refl, same_bytes}
use Rattle.lemmas.proofs.Common.{slice_split_at, sym, take, take-append-drop, true, ℕ, ◌++◌, ◌<◌, ◌∙◌, ◌∷◌, ◌≡◌}
use Rattle.section_text.specs.Limits.{limits_line_count, limits_of}
use Rattle.section_text.specs.SaidSection.{IsSection}
use Rattle.section_text.specs.Section.{with_line_feed}
use Rattle.section_text.specs.Words.{bytes_after_last_line_feed, lines_of, words_of}
use Rattle.section_text.specs.Words as words
use Rattle.section_text.specs.declared.limits.Limits.{Limits}
use Rattle.section_text.specs.declared.limits.Limits.TheVariants.{First, Second}
use Rattle.section_text.specs.declared.section.Form.{Form}
use Rattle.section_text.specs.declared.section.Form.TheVariants.{Header}
use Rattle.section_text.proofs.Again.{AreLines}
use Rattle.section_text.proofs.Lines.{ended-cons, some_part, whole_text}
use Rattle.section_text.proofs.MadeSections.{items_said, one_line}
use Rattle.circuit.specs.Forms.{form_of as circuit_form}
use Rattle.circuit.specs.Forms as forms
use Rattle.circuit.specs.declared.circuit_line.CircuitLine.{CircuitLine}
use Rattle.meaning.specs.Design.{front_text, section_lines, text_limits}

front_line : List ℕ
front_line = codes "limits 2"

-- ---- the first line of a circuit is another one

no_form : circuit_form (words_of front_line) ≡ None
unfolding front_line words.is_word_at words.if_one_word words.name_after_keyword words.name_at
    words.names_at words.number_of forms.form_of forms.gate_entry forms.gate_line_of_kind forms.gate_kind forms.bit_at
no_form = refl

heads_no_circuit : (line : List ℕ) (b : Bool) → bytes_eq line front_line ≡ b →
    circuit_form (words_of line) ≡ Some (Header tt) → b ≡ false
heads_no_circuit line false e is = refl
heads_no_circuit line true e is = absurd (
    let same : line ≡ front_line = same_bytes line front_line e in
    let clash : None ≡ Some (Header tt) =
    sym no_form ∙ ap (λ (l : List ℕ). circuit_form (words_of l)) (sym same) ∙ is in
    cc)

-- so a text whose first lines are a circuit has the first limits
pub first_limits : (first more : List (List ℕ)) (circuit : List CircuitLine) → IsSection circuit_form first tt circuit →
    limits_of (first ++ more) ≡ First
unfolding front_line
first_limits first more circuit is =
    let one = one_line circuit_form (Some (Header tt)) (items_said circuit_form circuit) first is in
    ap (λ (ls : List (List ℕ)). limits_of (ls ++ more)) one.lines
    ∙ ap (λ (b : Bool). if b then Second else First)
    (heads_no_circuit one.line (bytes_eq one.line front_line) refl one.first_form)

-- ---- a text behind a front

front_clean : AreLines (front_line ∷ [])
unfolding front_line
front_clean = grind (arith, common_steps)

one_more : (line rest : List ℕ) → AreLines (line ∷ []) → lines_of (with_line_feed line ++ rest) ≡ line ∷ lines_of rest
unfolding lines_of
one_more line rest clean = grind (arith, common_steps, append_assoc, slice_split_at, ended-cons, some_part)

front_split : (text : List ℕ) → lines_of (front_text Second ++ text) ≡ front_line ∷ lines_of text
unfolding front_line
front_split text = one_more front_line text front_clean

last_part_more : (line : List ℕ) (parts : List (List ℕ)) → 0 < length parts →
    words.last_part (line ∷ parts) ≡ words.last_part parts
last_part_more line [] h = absurd (omega arith)
last_part_more line (part ∷ parts) h = refl

rest_more : (line rest : List ℕ) → AreLines (line ∷ []) →
    bytes_after_last_line_feed (with_line_feed line ++ rest) ≡ bytes_after_last_line_feed rest
unfolding bytes_after_last_line_feed
rest_more line rest clean = grind (arith, common_steps, append_assoc, slice_split_at, last_part_more, some_part)

rest_split : (text : List ℕ) → bytes_after_last_line_feed (front_text Second ++ text) ≡ bytes_after_last_line_feed text
unfolding front_line
rest_split text = rest_more front_line text front_clean

pub record HasFront (l : Limits) (text : List ℕ) : Type 0 where
  pub limits : text_limits (front_text l ++ text) ≡ l
  pub lines : section_lines (front_text l ++ text) ≡ lines_of text
  pub rest : bytes_after_last_line_feed (front_text l ++ text) ≡ bytes_after_last_line_feed text

pub has_front : (l : Limits) (text : List ℕ) → text_limits text ≡ First → HasFront l text
unfolding front_line
has_front First text is = record {
  limits = is;
  lines = ap (λ (l : Limits). drop (limits_line_count l) (lines_of text)) is;
  rest = refl;
}
has_front Second text is = record {
  limits = ap limits_of (front_split text);
  lines = ap (λ (ls : List (List ℕ)). drop (limits_line_count (limits_of ls)) ls) (front_split text);
  rest = rest_split text;
}

-- ---- a text is its front and what is behind it

pub front_spelled : (ls : List (List ℕ)) →
    flat_map with_line_feed (take (limits_line_count (limits_of ls)) ls) ≡ front_text (limits_of ls)
front_spelled [] = refl
front_spelled (line ∷ ls) = one (bytes_eq line (codes "limits 2")) refl
  where
    one : (b : Bool) → bytes_eq line (codes "limits 2") ≡ b →
        flat_map with_line_feed (take (limits_line_count (if b then Second else First)) (line ∷ ls))
        ≡ front_text (if b then Second else First)
    one false e = refl
    one true e = ap (λ (l : List ℕ). with_line_feed l ++ []) (same_bytes line (codes "limits 2") e)

pub front_and_lines : (text : List ℕ) → text ≡ front_text (text_limits text)
    ++ (flat_map with_line_feed (section_lines text) ++ bytes_after_last_line_feed text)
front_and_lines text =
    let l = text_limits text in
    let ls = lines_of text in
    let n = limits_line_count l in
    let rest = bytes_after_last_line_feed text in
    sym (whole_text text)
    ∙ ap (λ (ks : List (List ℕ)). flat_map with_line_feed ks ++ rest) (sym (take-append-drop n ls))
    ∙ ap (λ (t : List ℕ). t ++ rest) (flat_map-append with_line_feed (take n ls) (drop n ls)
    ∙ ap (λ (t : List ℕ). t ++ flat_map with_line_feed (drop n ls)) (front_spelled ls))
    ∙ append_assoc (front_text l) (flat_map with_line_feed (drop n ls)) rest
