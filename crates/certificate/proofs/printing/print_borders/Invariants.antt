-- The lines so far are printed.
use Rattle.certificate.proofs.Imports.{border_line, circuit_of, flat_map, take, ◌++◌, ◌≡◌}
use Rattle.section_text.specs.Spelling.{line_text}
use Rattle.certificate.specs.Text.{border_words}
use Rattle.certificate.proofs.printing.print_borders.Given as goal

abbrev pub invariant-loop-border : goal.invariant-loop-border
invariant-loop-border l = l.out.items ≡ l.fn.out.items
    ++ flat_map (λ w. line_text l.word (border_words (border_line (circuit_of l.circuit) w)))
    (take l.border-index l.borders)
