use Rattle.section_text.proofs.Imports.{drop, length, names_at, option_copied, words_of_rest, ◌+◌, ◌-◌, ◌≡◌}
use Rattle.section_text.proofs.NamesAt.{with_front}
use Rattle.section_text.proofs.words.take_names.Given as goal

abbrev pub invariant-loop-i : goal.invariant-loop-i
invariant-loop-i l = record {
  rest : words_of_rest (option_copied l.rest) ≡ drop (0 + l.i) (words_of_rest (option_copied l.left));
  so_far : with_front l.names (names_at (words_of_rest (option_copied l.left)) (0 + l.i) (l.count - l.i))
      ≡ names_at (words_of_rest (option_copied l.left)) 0 l.count;
  as_many : length l.names ≡ l.i;
}
