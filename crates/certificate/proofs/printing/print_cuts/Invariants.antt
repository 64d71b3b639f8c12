-- The lines so far are printed.
use Rattle.certificate.proofs.Imports.{[], circuit_of, codes, flat_map, take, wire_name, ◌++◌, ◌∷◌, ◌≡◌}
use Rattle.section_text.specs.Spelling.{line_text}
use Rattle.certificate.proofs.printing.print_cuts.Given as goal

abbrev pub invariant-loop-wire : goal.invariant-loop-wire
invariant-loop-wire l = l.out.items ≡ l.fn.out.items
    ++ flat_map (λ w. line_text (codes "cut") (wire_name (circuit_of l.circuit) w ∷ [])) (take l.wire-index l.cuts)
