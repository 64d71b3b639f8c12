-- The content of a section, by the forms of its lines.
use Rattle.section_text.proofs.Imports.{End, Form, Grammar, Header, IsSection, Item, List, Ok, Option, Refusal}
use Rattle.section_text.proofs.Imports.{RefusalCode, Result, Some, [], ap, append-nil, append_assoc, ap₂, arith}
use Rattle.section_text.proofs.Imports.{common_steps, drop, length, map, refl, refused_if_code, result_after_header}
use Rattle.section_text.proofs.Imports.{result_after_line, section_body_of, section_of, suc, sym, take, words_of, ℕ}
use Rattle.section_text.proofs.Imports.{◌++◌, ◌+◌, ◌∙◌, ◌∷◌, ◌≡◌}
use Rattle.lemmas.proofs.Common.{drop-append_seam, length-map, map-append}

-- ---- what was read is a section

module _ {H I : Type 0} (g : Grammar H I) where
  -- the items, and the end
  abbrev items_said : List I → List (Option (Form H I))
  items_said items = map (λ i. Some (Item i)) items ++ Some End ∷ []

  record BodySaid (before : List I) (ls : List (List ℕ)) (h h' : H) (rows : List I) : Type 0 where
    pub more : List I
    pub rows_are : rows ≡ before ++ more
    pub same : h' ≡ h
    pub said : map (λ l. g.form (words_of l)) (take (length more + 1) ls) ≡ items_said more

  unless_ok : (n : ℕ) (o : Option RefusalCode) (r : Result (H × List I) Refusal) (y : H × List I) →
      refused_if_code n o r ≡ Ok y → r ≡ Ok y
  unless_ok n o r y h1 = grind (arith, common_steps)

  ok_is : (x y : H × List I) → ◌≡◌ {A = Result (H × List I) Refusal} (Ok x) (Ok y) → x ≡ y
  ok_is x y e = cc

  one_more : (l : List ℕ) (ls : List (List ℕ)) (k : ℕ) →
      map (λ l. g.form (words_of l)) (take (suc k + 1) (l ∷ ls))
      ≡ g.form (words_of l) ∷ map (λ l. g.form (words_of l)) (take (k + 1) ls)
  one_more l ls k = grind (arith, common_steps)

  line_said : (l : List ℕ) (ls : List (List ℕ)) (h : H) (before : List I) (n : ℕ) (h' : H) (rows : List I)
      (o : Option (Form H I)) → g.form (words_of l) ≡ o →
      result_after_line g h before n (λ i. section_body_of g h (before ++ i ∷ []) (n + 1) ls) o ≡ Ok (h', rows) →
      ((i : I) → section_body_of g h (before ++ i ∷ []) (n + 1) ls ≡ Ok (h', rows) →
      BodySaid (before ++ i ∷ []) ls h h' rows) → BodySaid before (l ∷ ls) h h' rows
  line_said l ls h before n h' rows o h1 h2 h3 =
      grind (arith, common_steps, unless_ok, append_assoc, one_more, ok_is, append-nil)

  body_said : (ls : List (List ℕ)) (h : H) (before : List I) (n : ℕ) (h' : H) (rows : List I) →
      section_body_of g h before n ls ≡ Ok (h', rows) → BodySaid before ls h h' rows
  unfolding section_body_of
  body_said [] h before n h' rows e = absurd cc
  body_said (l ∷ ls) h before n h' rows e =
      line_said l ls h before n h' rows (g.form (words_of l)) refl e
      (λ i. body_said ls h (before ++ i ∷ []) (n + 1) h' rows)

  header_said : (l : List ℕ) (ls : List (List ℕ)) (n : ℕ) (h : H) (rows : List I) (o : Option (Form H I)) →
      g.form (words_of l) ≡ o → result_after_header g n (λ k. section_body_of g k [] (n + 1) ls) o ≡ Ok (h, rows) →
      IsSection g.form (take (length rows + 2) (l ∷ ls)) h rows
  header_said l ls n h rows (Some (Header k)) f e =
      let t = body_said ls k [] (n + 1) h rows
      (unless_ok n (g.header_fault k) (section_body_of g k [] (n + 1) ls) (h, rows) e) in
      let count : length rows + 2 ≡ suc (length t.more + 1) = omega (arith, ap length t.rows_are) in
      ap (λ (m : ℕ). map (λ l. g.form (words_of l)) (take m (l ∷ ls))) count
      ∙ ap₂ (λ a b. a ∷ b) (f ∙ ap (λ j. Some (Header j)) (sym t.same)) (t.said ∙ ap items_said (sym t.rows_are))
  header_said l ls n h rows _ f e = absurd cc

  pub section_said : (n : ℕ) (ls : List (List ℕ)) (h : H) (rows : List I) → section_of g n ls ≡ Ok (h, rows) →
      IsSection g.form (take (length rows + 2) ls) h rows
  unfolding section_of
  section_said n ls h rows h1 = grind (arith, common_steps, header_said)

-- ---- lines begin with one section at most

module _ {H I : Type 0} where
  abbrev said : List I → List (Option (Form H I))
  said items = map (λ i. Some (Item i)) items ++ Some End ∷ []

  same_items : (xs ys : List I) (more more' : List (Option (Form H I))) → said xs ++ more ≡ said ys ++ more' → xs ≡ ys
  same_items [] [] more more' e = refl
  same_items [] (y ∷ ys) more more' e = absurd cc
  same_items (x ∷ xs) [] more more' e = absurd cc
  same_items (x ∷ xs) (y ∷ ys) more more' e =
      let heads : x ≡ y = cc in
      let tails : said xs ++ more ≡ said ys ++ more' = cc in
      ap₂ (λ a b. a ∷ b) heads (same_items xs ys more more' tails)

  same_header : (h k : H) (xs ys : List I) (more more' : List (Option (Form H I))) →
      (Some (Header h) ∷ said xs) ++ more ≡ (Some (Header k) ∷ said ys) ++ more' → (h ≡ k) × (xs ≡ ys)
  same_header h k xs ys more more' e = grind (arith, common_steps, said, same_items)

  module _ (form : List (List ℕ) → Option (Form H I)) where
    abbrev forms : List (List ℕ) → List (Option (Form H I))
    forms ls = map (λ l. form (words_of l)) ls

    pub record OneSection (h k : H) (xs ys : List I) (rest rest' : List (List ℕ)) : Type 0 where
      pub header : h ≡ k
      pub items : xs ≡ ys
      pub others : rest ≡ rest'

    headed : H → List I → List (Option (Form H I))
    headed j zs = Some (Header j) ∷ said zs

    -- two sections at the head of the same lines
    pub one_section : (a b rest rest' : List (List ℕ)) (h k : H) (xs ys : List I) → a ++ rest ≡ b ++ rest' →
        IsSection form a h xs → IsSection form b k ys → OneSection h k xs ys rest rest'
    unfolding headed
    one_section a b rest rest' h k xs ys e is is' =
        let both = same_header h k xs ys (forms rest) (forms rest')
        (ap (λ fs. fs ++ forms rest) (sym is) ∙ sym (map-append _ a rest) ∙ ap forms e ∙ map-append _ b rest'
        ∙ ap (λ fs. fs ++ forms rest') is') in
        let long : length a ≡ length b = grind (arith, common_steps, length-map, headed) in
        record {
          header = both.0;
          items = both.1;
          others = sym (drop-append_seam a rest) ∙ ap₂ drop long e ∙ drop-append_seam b rest';
        }
