-- The bytes so far are digits, and they spell the number.
use Rattle.section_text.proofs.Imports.{append_digits, drop, is_digit, list_all, take, true, ◌<◌, ◌^◌, ◌≡◌}
use Rattle.section_text.proofs.number.read_digits.Given as goal

abbrev pub invariant-loop-b : goal.invariant-loop-b
invariant-loop-b l = record {
  digits : list_all is_digit (take l.b-index l.word) ≡ true;
  small : l.number < 10 ^ l.b-index;
  spelled : append_digits l.number (drop l.b-index l.word) ≡ append_digits 0 l.word;
}
