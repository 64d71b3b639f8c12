use Rattle.soundness.proofs.InputRuns.{inputs_decide, read_layout-names}
use Rattle.soundness.proofs.PortNames.{read_layout-is_named}
use Rattle.soundness.proofs.laws.inputs_decide_the_run.Goals as goal

pub returns : goal.returns
returns c = record { named = read_layout-names; all = read_layout-is_named; decided = inputs_decide }
