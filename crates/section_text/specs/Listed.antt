-- Three, four or five words that the code points to, as a list.
use Rattle.std.specs.Prelude.{ℕ, List, [], ◌∷◌}
use Rattle.section_text.specs.declared.words.ThreeWords.{ThreeWords}
use Rattle.section_text.specs.declared.words.FourWords.{FourWords}
use Rattle.section_text.specs.declared.words.FiveWords.{FiveWords}

-- the list of three words
abbrev pub list_of_three_words : ThreeWords → List (List ℕ)
list_of_three_words w = w.first.now ∷ w.second.now ∷ w.third.now ∷ []

-- the list of four words
abbrev pub list_of_four_words : FourWords → List (List ℕ)
list_of_four_words w = w.first.now ∷ w.second.now ∷ w.third.now ∷ w.fourth.now ∷ []

-- the list of five words
abbrev pub list_of_five_words : FiveWords → List (List ℕ)
list_of_five_words w = w.first.now ∷ w.second.now ∷ w.third.now ∷ w.fourth.now ∷ w.fifth.now ∷ []
