use Rattle.certificate_lines.proofs.Imports.{BuilderView, LayoutHeader, ap, arith, common_steps, edges, false, flat_map}
use Rattle.certificate_lines.proofs.Imports.{modules_of, nat_lt, nat_tests, refl, subst, true, ℕ, ◌<◌, ◌∙◌, ◌≡◌, ◌≤◌}
use Rattle.certificate_lines.proofs.LackedWires.{lacked, none_lacked}
use Rattle.certificate_lines.proofs.builder.Builder.has_nonlocal_edge_wire_beside.Goals as goal

short : (steps : ℕ) → steps ≤ 1 → nat_lt 1 steps ≡ false
short steps le = grind (arith, nat_tests)

long : (steps : ℕ) → 1 < steps → nat_lt 1 steps ≡ true
long steps lt = grind (arith, nat_tests)

pub returns-then-size-le1 : goal.returns-then-size-le1
returns-then-size-le1 c = grind (arith, common_steps, none_lacked, short)

pub returns : goal.returns
returns c =
    let v = c.args.self.now in
    c.does_any_neighbour_lack_a_wire.ensures
    ∙ lacked v.setting (modules_of v.entries) (flat_map edges (modules_of v.entries)) refl
    (long _ (subst (λ (s : LayoutHeader). 1 < s.steps)
    (c.size-size.ensures.size ∙ ap (λ (s : BuilderView). s.setting.size) c.self.view_is)
    (omega (arith, c.if-size-le1.false))))
