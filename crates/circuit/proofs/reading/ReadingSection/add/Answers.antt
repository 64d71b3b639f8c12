use Rattle.circuit.proofs.Imports.{arith, common_steps, gate_count, rank_of, ◌≤◌}
use Rattle.circuit.proofs.Orders.{last_rank_push}
use Rattle.circuit.proofs.Bridging.{count_append}
use Rattle.circuit.proofs.Fitting.{entry_fits, no_gate_yet, no_gate_still}
use Rattle.circuit.proofs.reading.ReadingSection.add.Goals as goal

pub add-requires : goal.add-requires
add-requires c =
    let h : c.args.self.now.rank ≤ rank_of c.args.entry.kind = omega arith in
    record {
      fits = entry_fits c.requires.of_a_line.0 c.args.entry c.requires.of_a_line.1;
      inputs_first = no_gate_yet c.args.entry.kind c.args.self.now.rank
          (gate_count c.args.self.now.draft.lines) h c.args.self.now.no_gate;
    }

pub invariant_of-self : goal.invariant_of-self
invariant_of-self c = grind (arith, common_steps, count_append, last_rank_push, no_gate_still)
