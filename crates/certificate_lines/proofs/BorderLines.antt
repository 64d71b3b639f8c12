-- The form of a line by whether it has five words
use Rattle.certificate_lines.proofs.Imports.{BorderLine, Edge, Halo, Item, List, None, Option, Some, Stop, StopLine, ap}
use Rattle.certificate_lines.proofs.Imports.{arith, border_of, bytes_eq, bytes_eq-Decides, cases_Bool, codes}
use Rattle.certificate_lines.proofs.Imports.{common_steps, cond-false, cond-true, false, form_of, is_word_at, length}
use Rattle.certificate_lines.proofs.Imports.{stop_of, sym, true, ℕ, ◌==◌, ◌>>=◌, ◌∙◌, ◌≡◌}
use Rattle.pattern.specs.Forms.{box_of}
use Rattle.lemmas.proofs.Common.{test_failed, tested_value}
use Rattle.section_text.specs.Listed.{list_of_five_words}
use Rattle.section_text.specs.Words.{words_of_five, is_word, if_one_word, name_after_keyword, number_after_keyword}
use Rattle.section_text.specs.declared.words.FiveWords.{FiveWords}
use Rattle.certificate_lines.specs.Forms.{form_of_not_five_words}

-- ---- lines of five words

-- a line that begins with `edge`
pub edge_form : (ws : List (List ℕ)) (o : Option BorderLine) → is_word_at ws 0 (codes "edge") ≡ true →
    o ≡ border_of ws → (o >>= λ e. Some (Item (Edge e))) ≡ form_of ws
unfolding form_of
edge_form ws o edge is = ap (λ z. z >>= λ e. Some (Item (Edge e))) is ∙ sym (cond-true _ _ _ edge)

-- a line that begins with `halo`
pub halo_form : (ws : List (List ℕ)) (o : Option BorderLine) → is_word_at ws 0 (codes "edge") ≡ false →
    is_word_at ws 0 (codes "halo") ≡ true → o ≡ border_of ws → (o >>= λ e. Some (Item (Halo e))) ≡ form_of ws
unfolding form_of
halo_form ws o edge halo is = grind (arith, common_steps, cond-false, cond-true)

-- a line of five words that begins with no keyword of such lines has no form
pub no_long_form : (w : FiveWords) → bytes_eq w.first.now (codes "edge") ≡ false →
    bytes_eq w.first.now (codes "halo") ≡ false → bytes_eq w.first.now (codes "stop") ≡ false →
    bytes_eq w.first.now (codes "module") ≡ false → None ≡ form_of (list_of_five_words w)
unfolding form_of is_word_at if_one_word name_after_keyword number_after_keyword
no_long_form w e h s m = grind (arith, common_steps, cond-false)

-- a line that begins with `stop`
pub stop_form : (ws : List (List ℕ)) (o : Option StopLine) → is_word_at ws 0 (codes "edge") ≡ false →
    is_word_at ws 0 (codes "halo") ≡ false → is_word_at ws 0 (codes "stop") ≡ true → o ≡ stop_of ws →
    (o >>= λ s. Some (Item (Stop s))) ≡ form_of ws
unfolding form_of
stop_form ws o edge halo stop is = grind (arith, common_steps, cond-false, cond-true)

-- the words of a line of five
pub five_words_are : (ws : List (List ℕ)) (w : FiveWords) → Some (list_of_five_words w) ≡ words_of_five ws →
    ws ≡ list_of_five_words w
unfolding words_of_five
five_words_are ws w e = tested_value (length ws == 5) ws (list_of_five_words w) (sym e)

pub long_form_is : (ws : List (List ℕ)) (w : FiveWords) → Some (list_of_five_words w) ≡ words_of_five ws →
    form_of (list_of_five_words w) ≡ form_of ws
long_form_is ws w e = ap form_of (sym (five_words_are ws w e))

-- ---- lines of another number of words

pub no_stop : (ws : List (List ℕ)) → None ≡ words_of_five ws → None ≡ stop_of ws
unfolding words_of_five stop_of
no_stop ws e = sym (cond-false _ _ _ (test_failed (length ws == 5) ws (sym e)))

-- a word that is one keyword is no other
other_word : (o : Option (List ℕ)) (k m : List ℕ) → bytes_eq k m ≡ false → is_word o k ≡ true → is_word o m ≡ false
other_word o k m h1 h2 = grind (arith, common_steps, bytes_eq-Decides)

-- a line that begins with the keyword of a line of five words
no_short_form : (ws : List (List ℕ)) (k : List ℕ) → is_word_at ws 0 k ≡ true → bytes_eq k (codes "cut") ≡ false →
    bytes_eq k (codes "use") ≡ false → bytes_eq k (codes "keep") ≡ false → bytes_eq k (codes "certificate") ≡ false →
    bytes_eq k (codes "end") ≡ false → form_of_not_five_words ws ≡ None
unfolding form_of_not_five_words is_word_at
no_short_form ws k is a b c d e = grind (arith, common_steps, cond-false, other_word)

short_is : (ws : List (List ℕ)) → border_of ws ≡ None → stop_of ws ≡ None → box_of ws ≡ None →
    form_of_not_five_words ws ≡ form_of ws
unfolding form_of_not_five_words form_of
short_is ws border stop area = grind (arith, common_steps, cases_Bool, no_short_form, cond-true, cond-false)

pub short_form_is : (ws : List (List ℕ)) → None ≡ words_of_five ws → form_of_not_five_words ws ≡ form_of ws
unfolding words_of_five border_of stop_of box_of
short_form_is ws e = grind (arith, common_steps, test_failed, short_is, cond-false)
