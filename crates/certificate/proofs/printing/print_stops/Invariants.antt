-- The lines so far are printed.
use Rattle.certificate.proofs.Imports.{circuit_of, codes, flat_map, stop_line, take, ◌++◌, ◌≡◌}
use Rattle.section_text.specs.Spelling.{line_text}
use Rattle.certificate.specs.Text.{stop_words}
use Rattle.certificate.proofs.printing.print_stops.Given as goal

abbrev pub invariant-loop-stop : goal.invariant-loop-stop
invariant-loop-stop l = l.out.items ≡ l.fn.out.items
    ++ flat_map (λ w. line_text (codes "stop") (stop_words (stop_line (circuit_of l.circuit) w)))
    (take l.stop-index l.stops)
