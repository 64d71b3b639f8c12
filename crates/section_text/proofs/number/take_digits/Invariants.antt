-- What is left of the line gives the same number as the whole of it.
use Rattle.section_text.proofs.Imports.{drop, ◌+◌, ◌-◌, ◌<◌, ◌^◌, ◌≡◌}
use Rattle.section_text.proofs.Leading.{reads}
use Rattle.section_text.proofs.number.take_digits.Given as goal

abbrev pub invariant-loop-at : goal.invariant-loop-at
invariant-loop-at l = record {
  small : l.number < 10 ^ (l.at + 1);
  left : reads l.number (l.at + 1) (drop l.at l.line) ≡ reads (l.first - 48) 1 l.line;
}
