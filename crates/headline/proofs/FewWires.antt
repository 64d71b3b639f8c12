-- A circuit that is read has no more wires and no more gates than the limits of its text allow.
use Rattle.lemmas.proofs.Common.{List, [], append-nil, append_assoc, arith, common_steps, subst, sym, ◌++◌, ◌+◌, ◌∷◌}
use Rattle.section_text.specs.declared.limits.Limits.{Limits}
use Rattle.section_text.proofs.Good.{AreFaultless}
use Rattle.circuit.specs.Grammars.{circuit_grammar}
use Rattle.circuit.specs.declared.circuit_line.CircuitLine.{CircuitLine}
use Rattle.headline.specs.RightInFull.{KeepsWireAndGateLimits}
use Rattle.section_text.proofs.Codes.{both_none}

pub few_wires : (l : Limits) (before rest : List CircuitLine) → KeepsWireAndGateLimits l before →
    AreFaultless (circuit_grammar l) tt before rest → KeepsWireAndGateLimits l (before ++ rest)
few_wires l before [] small good = subst (KeepsWireAndGateLimits l) (sym (append-nil before)) small
few_wires l before (r ∷ rest) small good =
    grind (arith, common_steps, both_none, append_assoc, few_wires l (before ++ r ∷ []) rest)
