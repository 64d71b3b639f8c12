-- A module has one least border fault, or none
use Rattle.border_match.proofs.Imports.{None, Some, ap, border_fault_cmp, refl}
use Rattle.lemmas.proofs.Common.{both_ways}
use Rattle.border_match.specs.Laws.{LeastBorderFaultIsUnique}
use Rattle.border_match.proofs.FaultOrder.{border_total, border_exact}

pub least_unique : LeastBorderFaultIsUnique
least_unique g ms i None None f h = refl
least_unique g ms i None (Some b) f h = absurd (f b h.0)
least_unique g ms i (Some a) None f h = absurd (h a f.0)
least_unique g ms i (Some a) (Some b) f h =
    ap Some (border_exact a b (both_ways (border_fault_cmp a b) (border_fault_cmp b a) (border_total.antisymm a b)
    (f.1 b h.0)
    (h.1 a f.0)))
