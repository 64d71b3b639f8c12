-- Words make a line, lines make a section, and sections make a text, which have these words, lines and sections
use Rattle.headline.proofs.Imports.{AllByRecursion, AreLines, Bool, End, Form, Header, IsOneLine, IsSection, Item, List}
use Rattle.headline.proofs.Imports.{Option, Some, [], and_parts, ap, append-nil, ap₂, arith, cases_Bool, common_steps}
use Rattle.headline.proofs.Imports.{eqb, eqb-true, false, false≢true, flat_map, is_name, list_all, map, nat_lt}
use Rattle.headline.proofs.Imports.{nat_tests, refl, slice_split_at, space_and_word, true, words_of, ℕ, ◌++◌, ◌∙◌}
use Rattle.headline.proofs.Imports.{◌∷◌, ◌≡◌}
use Rattle.lemmas.proofs.Common.{slice_split_none}
use Rattle.section_text.specs.Words.{is_digit}

-- ---- words

-- a byte that is neither a space nor a line feed
abbrev pub is_word_byte : ℕ → Bool
is_word_byte b = nat_lt 32 b

abbrev pub IsWord : List ℕ → Type 0
IsWord w = list_all is_word_byte w ≡ true

other_byte : (b k : ℕ) → is_word_byte b ≡ true → nat_lt 32 k ≡ false → eqb b k ≡ false
other_byte b k h low = grind (arith, common_steps, cases_Bool, false≢true, eqb-true)

without : (k : ℕ) → nat_lt 32 k ≡ false → (w : List ℕ) → IsWord w → AllByRecursion (λ b. eqb b k ≡ false) w
without k low [] h = tt
without k low (b ∷ w) h =
    grind (arith, other_byte, (without k low w (and_parts (is_word_byte b) (list_all is_word_byte w) h).1))

words_again : (w : List ℕ) (ws : List (List ℕ)) → IsWord w → AllByRecursion IsWord ws →
    words_of (w ++ flat_map space_and_word ws) ≡ w ∷ ws
words_again w [] h k = grind (arith, common_steps, append-nil, slice_split_none, without)
words_again w (x ∷ xs) h k = grind (arith, common_steps, slice_split_at, without, (words_again x xs k.0 k.1))

both_clean : (xs ys : List ℕ) → IsOneLine xs → IsOneLine ys → IsOneLine (xs ++ ys)
both_clean [] ys h k = k
both_clean (x ∷ xs) ys h k = (h.0, both_clean xs ys h.1 k)

spaced_clean : (ws : List (List ℕ)) → AllByRecursion IsWord ws → IsOneLine (flat_map space_and_word ws)
spaced_clean [] h = tt
spaced_clean (w ∷ ws) h =
    (refl, both_clean w (flat_map space_and_word ws) (without 10 refl w h.0) (spaced_clean ws h.1))

-- names and digits make words
all_more : (p q : ℕ → Bool) → ((b : ℕ) → p b ≡ true → q b ≡ true) → (w : List ℕ) → list_all p w ≡ true →
    list_all q w ≡ true
all_more p q more [] h = refl
all_more p q more (b ∷ w) h = grind (arith, common_steps, (all_more p q more w (and_parts (p b) (list_all p w) h).1))

digit_byte : (b : ℕ) → is_digit b ≡ true → is_word_byte b ≡ true
digit_byte b h = grind (arith, nat_tests, h)

pub digits_word : (w : List ℕ) → list_all is_digit w ≡ true → IsWord w
digits_word w h = all_more is_digit is_word_byte digit_byte w h

pub name_word : (w : List ℕ) → is_name w ≡ true → IsWord w
name_word [] h = absurd (false≢true h)
name_word (b ∷ bs) h = grind (arith, common_steps, and_parts, all_more)

-- ---- lines

module _ {H I : Type 0} (form : List (List ℕ) → Option (Form H I)) where
  -- a line of this form
  pub record HasLine (f : Form H I) : Type 0 where
    pub line : List ℕ
    pub is : form (words_of line) ≡ Some f
    pub clean : IsOneLine line

  pub line_by : (f : Form H I) (w : List ℕ) (ws : List (List ℕ)) → IsWord w → AllByRecursion IsWord ws →
      form (w ∷ ws) ≡ Some f → HasLine f
  line_by f w ws h k e = record {
    line = w ++ flat_map space_and_word ws;
    is = ap form (words_again w ws h k) ∙ e;
    clean = both_clean w (flat_map space_and_word ws) (without 10 refl w h) (spaced_clean ws k);
  }

  -- ---- sections

  record HasItems (items : List I) : Type 0 where
    lines : List (List ℕ)
    are : map (λ l. form (words_of l)) lines ≡ map (λ i. Some (Item i)) items ++ Some End ∷ []
    clean : AreLines lines

  has_items : (items : List I) → HasLine End → AllByRecursion (λ i. HasLine (Item i)) items → HasItems items
  has_items [] end all = record { lines = end.line ∷ []; are = ap (λ o. o ∷ []) end.is; clean = (end.clean, tt) }
  has_items (i ∷ items) end all =
      let more = has_items items end all.1 in
      record {
        lines = all.0.line ∷ more.lines;
        are = ap₂ (λ o os. o ∷ os) all.0.is more.are;
        clean = (all.0.clean, more.clean);
      }

  pub record HasSection (h : H) (items : List I) : Type 0 where
    pub lines : List (List ℕ)
    pub is : IsSection form lines h items
    pub clean : AreLines lines

  pub has_section : (h : H) (items : List I) → HasLine (Header h) → HasLine End →
      AllByRecursion (λ i. HasLine (Item i)) items → HasSection h items
  has_section h items first end all =
      let more = has_items items end all in
      record {
        lines = first.line ∷ more.lines;
        is = ap₂ (λ o os. o ∷ os) first.is more.are;
        clean = (first.clean, more.clean);
      }
