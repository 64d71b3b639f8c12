-- The modules of version 2 have no border fault
use Rattle.border_match.proofs.Imports.{AreModules, BorderFault, IsLeastBorderFault, List, ModuleLines, None, Option}
use Rattle.border_match.proofs.Imports.{Setting, Some, arith, common_steps, length, length-map, map, mapped_from}
use Rattle.border_match.proofs.Imports.{replicate, slice_get, subst, suc, sym, zero, ℕ, ◌∙◌, ◌≡◌}
use Rattle.lemmas.proofs.Common.{length-replicate}
use Rattle.certificate_lines.specs.Versions.{with_halo_lines}
use Rattle.certificate.proofs.FullModules.{full_area, full_edges}
use Rattle.certificate.proofs.HaloSignals.{halo_is_edge_beside}
use Rattle.border_match.specs.BorderFaults.{AreBorderFaultsOf}
use Rattle.border_match.specs.Laws.{HalolessBordersMatch}

pub haloless_match : HalolessBordersMatch
haloless_match g ms good i f is = grind (arith, common_steps, mapped_from, full_area, halo_is_edge_beside, full_edges)

-- so for each of them there is none
none_at : (n i : ℕ) (f : Option BorderFault) → slice_get (replicate n None) i ≡ Some f → None ≡ f
none_at zero i f e = cc
none_at (suc n) zero f e = cc
none_at (suc n) (suc i) f e = none_at n i f e

pub none_for_each : (g : Setting) (ms : List ModuleLines) → AreModules g ms →
    AreBorderFaultsOf g (map (with_halo_lines g ms) ms) (replicate (length ms) None)
none_for_each g ms good = record {
  count = length-replicate (length ms) None ∙ sym (length-map ms (with_halo_lines g ms));
  each = λ i f e. subst (IsLeastBorderFault g (map (with_halo_lines g ms) ms) i) (none_at (length ms) i f e)
      (haloless_match g ms good i);
}
