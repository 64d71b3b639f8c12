use Rattle.circuit.proofs.Imports.{flat_map, take, ◌++◌, ◌≡◌}
use Rattle.section_text.specs.Spelling.{space_and_word}
use Rattle.circuit.proofs.printing.print_names.Given as goal

abbrev pub invariant-loop-name : goal.invariant-loop-name
invariant-loop-name l = l.out.items ≡ l.fn.out.items ++ flat_map space_and_word (take l.name-index l.names)
