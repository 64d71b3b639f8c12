-- The parts of a job by its module's lines.
use Rattle.certificate.proofs.Imports.{IsModule, LayoutHeader, ModuleLines, None, Setting, arith, common_steps}
use Rattle.certificate.proofs.Imports.{is_sized, size_fault, ◌+◌, ◌≡◌, ◌≤◌}
use Rattle.lemmas.specs.Bounds.{max_side, max_steps}

-- a box inside a layout lies within 4096 cells, and a layout has at most 1,048,576 steps
pub within_512 : (g : Setting) (m : ModuleLines) (s : LayoutHeader) → s ≡ g.size → size_fault s ≡ None → IsModule g m →
    (m.area.x + m.area.w ≤ max_side) × (m.area.y + m.area.h ≤ max_side) × (s.steps ≤ max_steps)
within_512 g m s is limits h =
    let sized = is_sized s limits in
    let inside = h.inside in
    grind (arith, common_steps)

-- where the box is, within the layout and within 4096 cells
pub within_layout : (g : Setting) (m : ModuleLines) (s : LayoutHeader) → s ≡ g.size → size_fault s ≡ None →
    IsModule g m → ((m.area.x + m.area.w ≤ g.size.w) × (m.area.x + m.area.w ≤ max_side))
    × ((m.area.y + m.area.h ≤ g.size.h) × (m.area.y + m.area.h ≤ max_side))
within_layout g m s is limits h = grind (arith, common_steps, within_512)
