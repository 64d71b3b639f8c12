use Rattle.section_text.proofs.Imports.{drop, words_of, ◌≡◌}
use Rattle.section_text.proofs.words.words_from.Given as goal

abbrev pub invariant-loop-i : goal.invariant-loop-i
invariant-loop-i l = record { left : words_of l.rest ≡ drop l.i (words_of l.line) }
