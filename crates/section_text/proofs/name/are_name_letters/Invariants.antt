use Rattle.section_text.proofs.Imports.{is_name_byte, list_all, take, ◌≡◌}
use Rattle.section_text.proofs.name.are_name_letters.Given as goal

abbrev pub invariant-loop-b : goal.invariant-loop-b
invariant-loop-b l = record { so_far : l.are_letters ≡ list_all is_name_byte (take l.b-index l.bytes) }
