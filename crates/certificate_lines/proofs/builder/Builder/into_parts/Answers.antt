use Rattle.certificate_lines.proofs.builder.Builder.into_parts.Goals as goal

pub returns-clause-wires : goal.returns-clause-wires
returns-clause-wires c = rw (← c.self.view_is) c.self.invariant.wires
