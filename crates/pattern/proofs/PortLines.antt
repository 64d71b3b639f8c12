-- The lines of a layout by their words.
use Rattle.pattern.proofs.Imports.{List, None, Some, [], ap, arith, box_of, cell_after_keyword, cell_of_words_from}
use Rattle.pattern.proofs.Imports.{common_steps, length, name_at, number_at, port_after_keyword, port_of, refl, size_of}
use Rattle.pattern.proofs.Imports.{sym, ℕ, ◌==◌, ◌∷◌, ◌≡◌}
use Rattle.lemmas.proofs.Common.{test_failed, tested_value}
use Rattle.section_text.specs.Words.{words_of_three, words_of_four, words_of_five}
use Rattle.pattern.specs.PortWords.{cell_from_words, port_from_words}

port_by_words : (k n x y : List ℕ) → port_of (k ∷ n ∷ x ∷ y ∷ []) ≡ port_from_words n x y
unfolding port_of port_after_keyword cell_of_words_from number_at name_at port_from_words cell_from_words
port_by_words k n x y = refl

-- ---- lines of three words

cell_by_words : (k x y : List ℕ) → cell_after_keyword (k ∷ x ∷ y ∷ []) ≡ cell_from_words x y
unfolding cell_after_keyword cell_of_words_from number_at cell_from_words
cell_by_words k x y = refl

pub cell_found : (ws : List (List ℕ)) (k x y : List ℕ) → Some (k ∷ x ∷ y ∷ []) ≡ words_of_three ws →
    cell_from_words x y ≡ cell_after_keyword ws
unfolding words_of_three
cell_found ws k x y e = grind (arith, common_steps, cell_by_words, tested_value)

pub cell_missed : (ws : List (List ℕ)) → None ≡ words_of_three ws → None ≡ cell_after_keyword ws
unfolding words_of_three cell_after_keyword
cell_missed ws e = rw (test_failed (length ws == 3) ws (sym e)) refl

-- ---- lines of four words

pub port_found : (ws : List (List ℕ)) (k n x y : List ℕ) → Some (k ∷ n ∷ x ∷ y ∷ []) ≡ words_of_four ws →
    port_from_words n x y ≡ port_of ws
unfolding words_of_four
port_found ws k n x y e = grind (arith, common_steps, port_by_words, tested_value)

pub port_missed : (ws : List (List ℕ)) → None ≡ words_of_four ws → None ≡ port_of ws
unfolding words_of_four port_of
port_missed ws e = rw (test_failed (length ws == 4) ws (sym e)) refl

pub size_found : (ws words : List (List ℕ)) → Some words ≡ words_of_four ws → size_of words ≡ size_of ws
unfolding words_of_four
size_found ws words e = ap size_of (sym (tested_value (length ws == 4) ws words (sym e)))

pub size_missed : (ws : List (List ℕ)) → None ≡ words_of_four ws → None ≡ size_of ws
unfolding words_of_four size_of
size_missed ws e = rw (test_failed (length ws == 4) ws (sym e)) refl

-- ---- lines of five words

pub rectangle_found : (ws words : List (List ℕ)) → Some words ≡ words_of_five ws → box_of words ≡ box_of ws
unfolding words_of_five
rectangle_found ws words e = ap box_of (sym (tested_value (length ws == 5) ws words (sym e)))

pub rectangle_missed : (ws : List (List ℕ)) → None ≡ words_of_five ws → None ≡ box_of ws
unfolding words_of_five box_of
rectangle_missed ws e = rw (test_failed (length ws == 5) ws (sym e)) refl
