use Rattle.module_box.proofs.Imports.{SFits, arith, ints, rules, w32, ◌+ℤ◌, ◌≡◌}
use Rattle.lemmas.proofs.Common.{of_z, to_z}
use Rattle.module_box.proofs.moving.moved_cell.Goals as goal

pub returns : goal.returns
returns c =
    let fx : SFits w32 c.args.cell.x = search rules in
    let fy : SFits w32 c.args.cell.y = search rules in
    let x : to_z w32 (of_z w32 (to_z w32 (of_z w32 c.args.cell.x) +ℤ to_z w32 (of_z w32 c.args.dx)))
    ≡ c.args.cell.x +ℤ c.args.dx = omega (arith, ints) in
    let y : to_z w32 (of_z w32 (to_z w32 (of_z w32 c.args.cell.y) +ℤ to_z w32 (of_z w32 c.args.dy)))
    ≡ c.args.cell.y +ℤ c.args.dy = omega (arith, ints) in
    λ i. record { x = x i; y = y i }
