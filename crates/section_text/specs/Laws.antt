-- Laws of texts and of sections.
use Rattle.std.specs.Prelude.{◌≡◌, ℕ, ◌+◌, ◌^◌, ◌<◌, List, ◌++◌, length, take, Some, Ok}
use Rattle.std.specs.Fmt.{decimal}
use Rattle.std.specs.List.{flat_map}
use Rattle.section_text.specs.Words.{number_of, lines_of, bytes_after_last_line_feed}
use Rattle.section_text.specs.Section.{Grammar, section_of, with_line_feed}

-- a word that is a number is how that number is written
abbrev pub NumbersHaveOneSpelling : Type 0
NumbersHaveOneSpelling = (word : List ℕ) (n : ℕ) → number_of word ≡ Some n → word ≡ decimal n

-- no number of a text has more than nine digits
abbrev pub NumbersAreShort : Type 0
NumbersAreShort = (word : List ℕ) (n : ℕ) → number_of word ≡ Some n → n < 10 ^ 9

-- and each number of at most nine digits can be written
abbrev pub EachNumberHasASpelling : Type 0
EachNumberHasASpelling = (n : ℕ) → n < 10 ^ 9 → number_of (decimal n) ≡ Some n

-- the lines, each with its line feed, and the bytes after the last one are the text
abbrev pub NoByteIsLost : Type 0
NoByteIsLost = (text : List ℕ) → flat_map with_line_feed (lines_of text) ++ bytes_after_last_line_feed text ≡ text

-- The header, the items and the end of a section depend on its own lines alone, wherever they are, and whatever lines
-- follow them.
abbrev pub IsReadFromItsOwnLines : {H I : Type 0} → Grammar H I → Type 0
IsReadFromItsOwnLines {H} {I} g =
    (n m : ℕ) (ls others : List (List ℕ)) (header : H) (items : List I) → section_of g n ls ≡ Ok (header, items)
    → section_of g m (take (length items + 2) ls ++ others) ≡ Ok (header, items)
