-- The statements of this crate's laws
use Rattle.std.specs.Prelude.{◌≡◌, ℕ, ℤ, ◌<◌, ◌%◌, List, map, Option, Some, None, slice_get, IsTrue}
use Rattle.circuit.specs.Meaning.{Valuation}
use Rattle.bbm_rule.specs.Boxes.{in_box, in_halo, Tile}
use Rattle.certificate_lines.specs.Entries.{Setting, ModuleLines, areas}
use Rattle.certificate_lines.specs.Modules.{AreModules}
use Rattle.certificate_lines.specs.Rules.{whole}
use Rattle.module_job.specs.Signals.{is_live}
use Rattle.certificate_lines.specs.Versions.{with_halo_lines}
use Rattle.border_match.specs.BorderFaults.{halo_signal, edge_signal, IsBorderFault, IsLeastBorderFault}
use Rattle.border_match.specs.declared.fault.BorderFault.{BorderFault}

-- a module has one least border fault, or none
abbrev pub LeastBorderFaultIsUnique : Type 0
LeastBorderFaultIsUnique = (g : Setting) (ms : List ModuleLines) (i : ℕ) (f h : Option BorderFault) →
    IsLeastBorderFault g ms i f → IsLeastBorderFault g ms i h → f ≡ h

-- (t, x, y) is an odd time below the steps and a cell of the halo of module i, and module k has the cell
pub record IsHaloMomentOwnedBy (g : Setting) (ms : List ModuleLines) (i k : ℕ) (m owner : ModuleLines) (t : ℕ)
    (x y : ℤ) : Type 0 where
  pub tile : Tile (whole g.size) (areas ms)
  pub numbered : slice_get ms i ≡ Some m
  pub owner_numbered : slice_get ms k ≡ Some owner
  pub odd : t % 2 ≡ 1
  pub early : t < g.size.steps
  pub halo : IsTrue (in_halo m.area x y)
  pub owned : IsTrue (in_box owner.area x y)

-- if module i has no border fault, its halo signal and the owner's edge signal are true under the same valuations
abbrev pub NoBorderFaultMeansSameSignals : Type 0
NoBorderFaultMeansSameSignals =
    (g : Setting) (ms : List ModuleLines) (i k : ℕ) (m owner : ModuleLines) (t : ℕ) (x y : ℤ)
    (v : Valuation) →
    IsLeastBorderFault g ms i None → IsHaloMomentOwnedBy g ms i k m owner t x y →
    is_live v (halo_signal g.circuit m t x y) ≡ is_live v (edge_signal g.circuit owner t x y)

-- a module of version 2 has no border fault
abbrev pub HalolessBordersMatch : Type 0
HalolessBordersMatch = (g : Setting) (ms : List ModuleLines) → AreModules g ms → (i : ℕ) (f : BorderFault) →
    ¬ IsBorderFault g (map (with_halo_lines g ms) ms) i f
