-- Border faults: cells and times at which the halo of a module is not what the edge of the module beside it says
use Rattle.std.specs.Prelude.{◌≡◌, ◌≢◌, ℕ, ℤ, ◌<◌, ◌%◌, List, length, Option, Some, None, slice_get, IsTrue}
use Rattle.std.specs.declared.cmp.Ordering.{Ordering}
use Rattle.std.specs.declared.cmp.Ordering.TheVariants.{Greater}
use Rattle.std.specs.Ordering.{nat_cmp, ordering_then}
use Rattle.circuit.specs.Meaning.{Circuit}
use Rattle.bbm_rule.specs.Boxes.{in_box, in_halo}
use Rattle.bbm_rule.specs.CellOrder.{cell_cmp}
use Rattle.module_box.specs.Schedules.{signal_at}
use Rattle.module_box.specs.declared.schedules.Signal.{Signal}
use Rattle.certificate_lines.specs.Entries.{Setting, ModuleLines, edges, halos}
use Rattle.certificate.specs.Jobs.{line_signals}
use Rattle.certificate_lines.specs.Rules.{whole}
use Rattle.border_match.specs.declared.fault.BorderFault.{BorderFault}

-- what the halo lines of a module say of the cell (x, y) at time t, by the wires of the circuit
abbrev pub halo_signal : Circuit → ModuleLines → ℕ → ℤ → ℤ → Signal
halo_signal c m t x y = signal_at (line_signals c (halos m)) t x y

-- and what its edge lines say
abbrev pub edge_signal : Circuit → ModuleLines → ℕ → ℤ → ℤ → Signal
edge_signal c m t x y = signal_at (line_signals c (edges m)) t x y

-- A border fault of module i, at an odd time below the steps, at a cell in its halo and in the rectangle. Its halo
-- signal and the edge signal of the module that has the cell are neither the same constant nor the same wire of the
-- circuit.
pub record IsBorderFault (g : Setting) (ms : List ModuleLines) (i : ℕ) (f : BorderFault) : Type 0 where
  pub odd : f.time % 2 ≡ 1
  pub early : f.time < g.size.steps
  pub inside : IsTrue (in_box (whole g.size) f.cell.x f.cell.y)
  pub lines : ModuleLines
  pub numbered : slice_get ms i ≡ Some lines
  pub halo : IsTrue (in_halo lines.area f.cell.x f.cell.y)
  pub owner_number : ℕ
  pub owner : ModuleLines
  pub owner_numbered : slice_get ms owner_number ≡ Some owner
  pub owned : IsTrue (in_box owner.area f.cell.x f.cell.y)
  pub differ : halo_signal g.circuit lines f.time f.cell.x f.cell.y
      ≢ edge_signal g.circuit owner f.time f.cell.x f.cell.y

-- the order of border faults: by time, y and x
unfoldable pub border_fault_cmp : BorderFault → BorderFault → Ordering
border_fault_cmp a b = ordering_then (nat_cmp a.time b.time) (cell_cmp a.cell b.cell)

-- the least border fault of module i, or `None` if it has none
abbrev pub IsLeastBorderFault : Setting → List ModuleLines → ℕ → Option BorderFault → Type 0
IsLeastBorderFault g ms i None = (f : BorderFault) → ¬ IsBorderFault g ms i f
IsLeastBorderFault g ms i (Some f) =
    IsBorderFault g ms i f × ((h : BorderFault) → IsBorderFault g ms i h → border_fault_cmp f h ≢ Greater)

-- the least border fault of each of the modules, or `None`
pub record AreBorderFaultsOf (g : Setting) (ms : List ModuleLines) (fs : List (Option BorderFault)) : Type 0 where
  pub count : length fs ≡ length ms
  pub each : (i : ℕ) (f : Option BorderFault) → slice_get fs i ≡ Some f → IsLeastBorderFault g ms i f
