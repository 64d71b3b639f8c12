-- The lines so far are printed.
use Rattle.certificate.proofs.Imports.{[], flat_map, take, ◌++◌, ◌∷◌, ◌≡◌}
use Rattle.std.specs.Fmt.{decimal}
use Rattle.section_text.specs.Spelling.{line_text}
use Rattle.certificate.proofs.printing.print_use_or_keep_lines.Given as goal

abbrev pub invariant-loop-gate : goal.invariant-loop-gate
invariant-loop-gate l = l.out.items ≡ l.fn.out.items
    ++ flat_map (λ w. line_text l.word (decimal w ∷ [])) (take l.gate-index l.gates)
