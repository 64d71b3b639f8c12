-- Lines with the forms of a section and without a fault are read as that section, and their text is that of the forms
use Rattle.section_text.proofs.Imports.{End, Form, Grammar, Header, IsSection, Item, List, None, Ok, Option, Some, []}
use Rattle.section_text.proofs.Imports.{ap, append-nil, append_assoc, ap₂, arith, bytes_after_last_line_feed}
use Rattle.section_text.proofs.Imports.{common_steps, flat_map, map, refl, section_body_of, section_of, subst, sym}
use Rattle.section_text.proofs.Imports.{with_line_feed, words_of, ℕ, ◌++◌, ◌+◌, ◌∙◌, ◌∷◌, ◌≡◌}
use Rattle.lemmas.proofs.Common.{append_cancel_left}
use Rattle.section_text.proofs.Again.{AreLines, lines_again}
use Rattle.section_text.proofs.Good.{AreFaultless, IsFaultless}
use Rattle.section_text.proofs.Lines.{whole_text}
use Rattle.section_text.proofs.Spelled.{items_text}
use Rattle.section_text.proofs.Steps.{body_ends, body_more, section_header}

-- ---- lines of given forms

module _ {H I : Type 0} (form : List (List ℕ) → Option (Form H I)) where
  abbrev pub forms : List (List ℕ) → List (Option (Form H I))
  forms ls = map (λ l. form (words_of l)) ls

  -- the items, and the end
  abbrev pub items_said : List I → List (Option (Form H I))
  items_said items = map (λ i. Some (Item i)) items ++ Some End ∷ []

  -- the first line, and the others
  pub record OneLine (first : Option (Form H I)) (others : List (Option (Form H I))) (ls : List (List ℕ)) : Type 0 where
    pub line : List ℕ
    pub rest : List (List ℕ)
    pub lines : ls ≡ line ∷ rest
    pub first_form : form (words_of line) ≡ first
    pub other_forms : forms rest ≡ others

  pub one_line : (first : Option (Form H I)) (others : List (Option (Form H I))) (ls : List (List ℕ)) →
      forms ls ≡ first ∷ others → OneLine first others ls
  one_line first others [] e = absurd cc
  one_line first others (l ∷ ls) e = record { line = l; rest = ls; lines = refl; first_form = cc; other_forms = cc }

  pub no_lines : (ls : List (List ℕ)) → forms ls ≡ [] → ls ≡ []
  no_lines [] e = refl
  no_lines (l ∷ ls) e = absurd cc

-- ---- they are read

module _ {H I : Type 0} (g : Grammar H I) where
  body_made : (h : H) (before items : List I) (ls others : List (List ℕ)) (n : ℕ) →
      forms g.form ls ≡ items_said g.form items → AreFaultless g h before items → g.end_fault h (before ++ items) ≡ None
      → section_body_of g h before n (ls ++ others) ≡ Ok (h, before ++ items)
  body_made h before [] ls others n e good end =
      let one = one_line g.form (Some End) [] ls e in
      body_ends g n (ls ++ others) h before one.line (one.rest ++ others)
      (ap (λ ks. ks ++ others) one.lines) one.first_form (subst (λ is. g.end_fault h is ≡ None) (append-nil before) end)
      ∙ ap (λ is. Ok (h, is)) (sym (append-nil before))
  body_made h before (i ∷ items) ls others n e good end =
      let one = one_line g.form (Some (Item i)) (items_said g.form items) ls e in
      let regroup : (before ++ i ∷ []) ++ items ≡ before ++ i ∷ items = append_assoc before (i ∷ []) items in
      body_more g n (ls ++ others) h before one.line (one.rest ++ others)
      (ap (λ ks. ks ++ others) one.lines) i one.first_form good.0
      ∙ body_made h (before ++ i ∷ []) items one.rest others (n + 1) one.other_forms good.1
      (subst (λ is. g.end_fault h is ≡ None) (sym regroup) end)
      ∙ ap (λ is. Ok (h, is)) regroup

  pub section_made : (n : ℕ) (ls others : List (List ℕ)) (h : H) (items : List I) → IsSection g.form ls h items →
      IsFaultless g h items → section_of g n (ls ++ others) ≡ Ok (h, items)
  section_made n ls others h items e good =
      let one = one_line g.form (Some (Header h)) (items_said g.form items) ls e in
      section_header g n (ls ++ others) one.line (one.rest ++ others)
      (ap (λ ks. ks ++ others) one.lines) h one.first_form good.header
      ∙ body_made h [] items one.rest others (n + 1) one.other_forms good.each good.end

-- ---- their text

module _ {H I : Type 0} (g : Grammar H I) (text : Form H I → List ℕ)
    (spelled : (l : List ℕ) (f : Form H I) → g.form (words_of l) ≡ Some f → with_line_feed l ≡ text f) where
  body_text : (items : List I) (ls : List (List ℕ)) → forms g.form ls ≡ items_said g.form items →
      flat_map with_line_feed ls ≡ items_text g text spelled items
  body_text [] ls e =
      let one = one_line g.form (Some End) [] ls e in
      ap (flat_map with_line_feed) (one.lines ∙ ap (λ ks. one.line ∷ ks) (no_lines g.form one.rest one.other_forms))
      ∙ append-nil (with_line_feed one.line) ∙ spelled one.line End one.first_form
  body_text (i ∷ items) ls e =
      let one = one_line g.form (Some (Item i)) (items_said g.form items) ls e in
      ap (flat_map with_line_feed) one.lines
      ∙ ap₂ (λ a b. a ++ b) (spelled one.line (Item i) one.first_form) (body_text items one.rest one.other_forms)
      ∙ sym (append_assoc (text (Item i)) (flat_map (λ j. text (Item j)) items) (text End))

  pub text_said : (ls : List (List ℕ)) (h : H) (items : List I) → IsSection g.form ls h items →
      flat_map with_line_feed ls ≡ text (Header h) ++ items_text g text spelled items
  text_said ls h items e =
      let one = one_line g.form (Some (Header h)) (items_said g.form items) ls e in
      ap (flat_map with_line_feed) one.lines
      ∙ ap₂ (λ a b. a ++ b) (spelled one.line (Header h) one.first_form) (body_text items one.rest one.other_forms)

-- ---- lines one after the other

pub clean_left : (ls ks : List (List ℕ)) → AreLines (ls ++ ks) → AreLines ls
clean_left [] ks clean = tt
clean_left (l ∷ ls) ks clean = (clean.0, clean_left ls ks clean.1)

pub clean_right : (ls ks : List (List ℕ)) → AreLines (ls ++ ks) → AreLines ks
clean_right [] ks clean = clean
clean_right (l ∷ ls) ks clean = clean_right ls ks clean.1

pub clean_both : (ls ks : List (List ℕ)) → AreLines ls → AreLines ks → AreLines (ls ++ ks)
clean_both [] ks here there = there
clean_both (l ∷ ls) ks here there = (here.0, clean_both ls ks here.1 there)

-- no byte follows the lines of a text that is made of them
pub nothing_follows : (ls : List (List ℕ)) → AreLines ls → bytes_after_last_line_feed (flat_map with_line_feed ls) ≡ []
nothing_follows ls clean =
    let text = flat_map with_line_feed ls in
    append_cancel_left text (bytes_after_last_line_feed text) []
    (grind (arith, common_steps, lines_again, whole_text, append-nil))
