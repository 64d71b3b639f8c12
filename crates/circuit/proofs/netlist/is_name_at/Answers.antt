use Rattle.circuit.proofs.Imports.{arith, bytes_eq-Decides, common_steps, slice_get_read, sym, ◌∙◌, ◌≡◌}
use Rattle.circuit.proofs.netlist.is_name_at.Goals as goal

pub returns-in-Some-clause-name : goal.returns-in-Some-clause-name
returns-in-Some-clause-name c h =
    let same : c.in-Some.found.now ≡ c.args.name.now =
    (bytes_eq-Decides c.in-Some.found.now c.args.name.now).0 (sym c.eq.ensures ∙ h) in
    grind (arith, common_steps, same, slice_get_read)
