use Rattle.section_text.proofs.Imports.{bytes_eq, take, ◌≡◌}
use Rattle.section_text.proofs.name.are_same_bytes.Given as goal

abbrev pub invariant-loop-i : goal.invariant-loop-i
invariant-loop-i l = record { so_far : l.are_same ≡ bytes_eq (take l.i l.one) (take l.i l.other) }
