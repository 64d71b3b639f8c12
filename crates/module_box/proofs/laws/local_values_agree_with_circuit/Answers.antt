use Rattle.module_box.proofs.SeenValues.{choices_are_assignments, local_values_agree_with_circuit, undefined_is_seen}
use Rattle.module_box.proofs.laws.local_values_agree_with_circuit.Goals as goal

pub returns : goal.returns
returns c =
    record {
      assignment = choices_are_assignments;
      agree = local_values_agree_with_circuit;
      undefined = undefined_is_seen;
    }
