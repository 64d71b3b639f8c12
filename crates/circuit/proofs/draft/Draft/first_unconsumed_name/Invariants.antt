use Rattle.circuit.proofs.Imports.{consumed, defined, drop, ◌≡◌}
use Rattle.circuit.specs.Rules.{first_unconsumed}
use Rattle.circuit.proofs.draft.Draft.first_unconsumed_name.Given as goal

abbrev pub invariant-loop-number : goal.invariant-loop-number
invariant-loop-number l = first_unconsumed (consumed l.fn.self.lines) (drop l.number (defined l.fn.self.lines))
    ≡ first_unconsumed (consumed l.fn.self.lines) (defined l.fn.self.lines)
