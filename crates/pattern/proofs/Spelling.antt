-- Each line of the layout section is the spelling of its form.
use Rattle.pattern.proofs.Imports.{Ball, Box2, Cell, End, Header, In, Item, LayoutHeader, List, Mirror, Out, Port, Some}
use Rattle.pattern.proofs.Imports.{Waste, [], arith, box_of, cell_after_keyword, cell_of_words_from, cell_words, codes}
use Rattle.pattern.proofs.Imports.{common_steps, form_text, inl, inr, length, name_at, number_at, port_after_keyword}
use Rattle.pattern.proofs.Imports.{port_of, port_words, box_words, refl, same_Some, size_of, size_words, slice_get}
use Rattle.pattern.proofs.Imports.{subst, true, ℕ, ◌+◌, ◌∷◌, ◌≡◌}
use Rattle.lemmas.proofs.Common.{eqb, decimal, eqb-true, option_and_then_some}
use Rattle.section_text.specs.Words.{◌>>=◌, words_of, is_word_at, if_one_word}
use Rattle.section_text.specs.Section.{with_line_feed}
use Rattle.section_text.specs.Spelling.{line_text}
use Rattle.section_text.proofs.Spellings.{chosen, passed, number_at_spelled, one_word, three_words, four_words}
use Rattle.section_text.proofs.Spellings.{five_words}
use Rattle.section_text.proofs.WordPlaces.{is_at_is, name_at_is, line_from_words}
use Rattle.pattern.specs.Forms.{Line, corner_and_sides, sides_and_steps, form_of}
use Rattle.pattern.specs.Text.{natural_or_zero}

-- two words are a cell
pub record CellAt (ws : List (List ℕ)) (i j : ℕ) (c : Cell) : Type 0 where
  pub column : slice_get ws i ≡ Some (decimal (natural_or_zero c.x))
  pub row : slice_get ws j ≡ Some (decimal (natural_or_zero c.y))

pub cell_spelled : (ws : List (List ℕ)) (i : ℕ) (c : Cell) → cell_of_words_from ws i ≡ Some c → CellAt ws i (i + 1) c
unfolding cell_of_words_from
cell_spelled ws i c e = grind (arith, common_steps, option_and_then_some, same_Some, number_at_spelled)

lone_cell_spelled : (ws : List (List ℕ)) (w : List ℕ) (c : Cell) → is_word_at ws 0 w ≡ true →
    cell_after_keyword ws ≡ Some c → ws ≡ w ∷ cell_words c
unfolding cell_after_keyword
lone_cell_spelled ws w c at e =
    let found = passed (eqb (length ws) 3) (cell_of_words_from ws 1) c e in
    let words = cell_spelled ws 1 c found.1 in
    three_words ws w (decimal (natural_or_zero c.x)) (decimal (natural_or_zero c.y)) (eqb-true _ _ found.0)
    (is_at_is ws 0 w at) words.column words.row

port_spelled : (ws : List (List ℕ)) (w : List ℕ) (p : Port) → is_word_at ws 0 w ≡ true → port_of ws ≡ Some p →
    ws ≡ w ∷ port_words p
unfolding port_of port_after_keyword
port_spelled ws w p at e =
    let found = passed (eqb (length ws) 4) (port_after_keyword ws) p e in
    option_and_then_some (λ n. cell_of_words_from ws 2 >>= λ c. Some (record { name = n; cell = c }))
    (name_at ws 1) p found.1
    (λ n named rest.
    option_and_then_some (λ c. Some (record { name = n; cell = c })) (cell_of_words_from ws 2) p rest (λ c at_cell made.
    let words = cell_spelled ws 2 c at_cell in
    subst (λ (q : Port). ws ≡ w ∷ port_words q) (same_Some (record { name = n; cell = c }) p made)
    (grind (arith, common_steps, four_words, eqb-true, is_at_is, name_at_is))))

pub box_spelled : (ws : List (List ℕ)) (v : List ℕ) (r : Box2) → is_word_at ws 0 v ≡ true →
    box_of ws ≡ Some r → ws ≡ v ∷ box_words r
unfolding box_of corner_and_sides
box_spelled ws v r at e =
    let found = passed (eqb (length ws) 5) (corner_and_sides ws) r e in
    option_and_then_some (λ x. number_at ws 2 >>= λ y. number_at ws 3 >>= λ w. number_at ws 4 >>= λ h.
    Some (record { x = x; y = y; w = w; h = h })) (number_at ws 1) r found.1 (λ x ex rx.
    option_and_then_some (λ y. number_at ws 3 >>= λ w. number_at ws 4 >>= λ h.
    Some (record { x = x; y = y; w = w; h = h })) (number_at ws 2) r rx (λ y ey ry.
    option_and_then_some (λ w. number_at ws 4 >>= λ h. Some (record { x = x; y = y; w = w; h = h }))
    (number_at ws 3) r ry (λ w ew rw'.
    option_and_then_some (λ h. Some (record { x = x; y = y; w = w; h = h })) (number_at ws 4) r rw' (λ h eh made.
    subst (λ (q : Box2). ws ≡ v ∷ box_words q) (same_Some (record { x = x; y = y; w = w; h = h }) r made)
    (five_words ws v (decimal x) (decimal y) (decimal w) (decimal h) (eqb-true _ _ found.0) (is_at_is ws 0 v at)
    (number_at_spelled ws 1 x ex) (number_at_spelled ws 2 y ey) (number_at_spelled ws 3 w ew)
    (number_at_spelled ws 4 h eh))))))

size_spelled : (ws : List (List ℕ)) (v : List ℕ) (s : LayoutHeader) → is_word_at ws 0 v ≡ true → size_of ws ≡ Some s →
    ws ≡ v ∷ size_words s
unfolding size_of sides_and_steps
size_spelled ws v s at e =
    let found = passed (eqb (length ws) 4) (sides_and_steps ws) s e in
    option_and_then_some (λ w. number_at ws 2 >>= λ h. number_at ws 3 >>= λ t.
    Some (record { w = w; h = h; steps = t })) (number_at ws 1) s found.1 (λ w ew rw'.
    option_and_then_some (λ h. number_at ws 3 >>= λ t. Some (record { w = w; h = h; steps = t })) (number_at ws 2) s rw'
    (λ h eh rh.
    option_and_then_some (λ t. Some (record { w = w; h = h; steps = t })) (number_at ws 3) s rh (λ t et made.
    subst (λ (q : LayoutHeader). ws ≡ v ∷ size_words q) (same_Some (record { w = w; h = h; steps = t }) s made)
    (four_words ws v (decimal w) (decimal h) (decimal t) (eqb-true _ _ found.0) (is_at_is ws 0 v at)
    (number_at_spelled ws 1 w ew) (number_at_spelled ws 2 h eh) (number_at_spelled ws 3 t et)))))

-- the first word of a form, and the others
first_of : Line → List ℕ
first_of (Header s) = codes "layout"
first_of (Item (Mirror r)) = codes "mirror"
first_of (Item (Ball c)) = codes "ball"
first_of (Item (In p)) = codes "in"
first_of (Item (Out p)) = codes "out"
first_of (Item (Waste c)) = codes "waste"
first_of End = codes "end"

others_of : Line → List (List ℕ)
others_of (Header s) = size_words s
others_of (Item (Mirror r)) = box_words r
others_of (Item (Ball c)) = cell_words c
others_of (Item (In p)) = port_words p
others_of (Item (Out p)) = port_words p
others_of (Item (Waste c)) = cell_words c
others_of End = []

abbrev SpelledAs : List (List ℕ) → Line → Type 0
SpelledAs ws f = ws ≡ first_of f ∷ others_of f

form_words : (ws : List (List ℕ)) (f : Line) → form_of ws ≡ Some f → SpelledAs ws f
unfolding form_of if_one_word first_of others_of
form_words ws f e =
    elim (chosen (is_word_at ws 0 (codes "layout")) _ _ (Some f) e) [
      | inl p ↦ option_and_then_some (λ s. Some (Header s)) (size_of ws) f p.1
          (λ s found made. subst (SpelledAs ws) (same_Some (Header s) f made)
          (size_spelled ws (codes "layout") s p.0 found))
      | inr p ↦ elim (chosen (is_word_at ws 0 (codes "mirror")) _ _ (Some f) p.1) [
        | inl q ↦ option_and_then_some (λ r. Some (Item (Mirror r))) (box_of ws) f q.1
            (λ r found made. subst (SpelledAs ws) (same_Some (Item (Mirror r)) f made)
            (box_spelled ws (codes "mirror") r q.0 found))
        | inr q ↦ elim (chosen (is_word_at ws 0 (codes "ball")) _ _ (Some f) q.1) [
          | inl r ↦ option_and_then_some (λ c. Some (Item (Ball c))) (cell_after_keyword ws) f r.1
              (λ c found made. subst (SpelledAs ws) (same_Some (Item (Ball c)) f made)
              (lone_cell_spelled ws (codes "ball") c r.0 found))
          | inr r ↦ elim (chosen (is_word_at ws 0 (codes "in")) _ _ (Some f) r.1) [
            | inl s ↦ option_and_then_some (λ k. Some (Item (In k))) (port_of ws) f s.1
                (λ k found made. subst (SpelledAs ws) (same_Some (Item (In k)) f made)
                (port_spelled ws (codes "in") k s.0 found))
            | inr s ↦ elim (chosen (is_word_at ws 0 (codes "out")) _ _ (Some f) s.1) [
              | inl t ↦ option_and_then_some (λ k. Some (Item (Out k))) (port_of ws) f t.1
                  (λ k found made. subst (SpelledAs ws) (same_Some (Item (Out k)) f made)
                  (port_spelled ws (codes "out") k t.0 found))
              | inr t ↦ elim (chosen (is_word_at ws 0 (codes "waste")) _ _ (Some f) t.1) [
                | inl u ↦ option_and_then_some (λ c. Some (Item (Waste c))) (cell_after_keyword ws) f u.1
                    (λ c found made. subst (SpelledAs ws) (same_Some (Item (Waste c)) f made)
                    (lone_cell_spelled ws (codes "waste") c u.0 found))
                | inr u ↦
                    let at_end = passed (is_word_at ws 0 (codes "end")) (if_one_word ws End) f u.1 in
                    let alone = passed (eqb (length ws) 1) (Some End) f at_end.1 in
                    subst (SpelledAs ws) (same_Some End f alone.1)
                    (one_word ws (codes "end") (eqb-true _ _ alone.0) (is_at_is ws 0 (codes "end") at_end.0))
              ]
            ]
          ]
        ]
      ]
    ]

text_of : (f : Line) → form_text f ≡ line_text (first_of f) (others_of f)
unfolding first_of others_of
text_of (Item (Mirror r)) = refl
text_of _ = refl

pub form_line : (l : List ℕ) (f : Line) → form_of (words_of l) ≡ Some f → with_line_feed l ≡ form_text f
form_line l f e = grind (arith, common_steps, text_of, line_from_words, first_of, others_of, form_words)
