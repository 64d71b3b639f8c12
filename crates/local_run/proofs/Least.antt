-- A job has one least fault
use Rattle.local_run.proofs.Imports.{Edge, End, Fault, KeepFault, Kind, None, Some, Stop, ap, arith, cell_cmp}
use Rattle.local_run.proofs.Imports.{common_steps, fault_cmp, keep_fault_cmp, kind_number, refl, suc, zero, ℕ, ℤ, ◌≡◌}
use Rattle.lemmas.proofs.Common.{CmpEqualImpliesEq, IsTotalOrder, both_ways, exact_pairs, exact_signed, exact_unsigned}
use Rattle.lemmas.proofs.Common.{nat_cmp_total, on_total, then_total}
use Rattle.bbm_rule.proofs.CellOrder.{cell_total}
use Rattle.local_run.specs.Laws.{LeastFaultIsUnique, LeastKeepFaultIsUnique}

pub fault_total : IsTotalOrder fault_cmp
unfolding fault_cmp
fault_total = then_total (on_total (λ (f : Fault). f.time) nat_cmp_total)
    (then_total (on_total (λ (f : Fault). kind_number f.kind) nat_cmp_total)
    (then_total (on_total (λ (f : Fault). f.cell) cell_total) (on_total (λ (f : Fault). f.assignment) nat_cmp_total)))

kind_of : ℕ → Kind
kind_of zero = Edge
kind_of (suc zero) = Stop
kind_of (suc (suc n)) = End

kind_back : (k : Kind) → kind_of (kind_number k) ≡ k
unfolding kind_of
kind_back k = grind (arith, common_steps)

abbrev Key : Type 0
Key = ℕ × (ℕ × ((ℤ × ℤ) × ℕ))

abbrev key : Fault → Key
key f = (f.time, (kind_number f.kind, ((f.cell.y, f.cell.x), f.assignment)))

abbrev unkey : Key → Fault
unkey k =
    record { time = k.0; kind = kind_of k.1.0; cell = record { x = k.1.1.0.1; y = k.1.1.0.0 }; assignment = k.1.1.1 }

unkey-key : (f : Fault) → unkey (key f) ≡ f
unkey-key f = ap (λ k. record { time = f.time; kind = k; cell = f.cell; assignment = f.assignment }) (kind_back f.kind)

fault_exact : CmpEqualImpliesEq fault_cmp
unfolding fault_cmp cell_cmp
fault_exact a b e = grind (arith, common_steps, unkey-key, unkey, exact_pairs, exact_unsigned, exact_signed, key)

pub least_unique : LeastFaultIsUnique
least_unique j None None f g = refl
least_unique j None (Some b) f g = absurd (f b g.0)
least_unique j (Some a) None f g = absurd (g a f.0)
least_unique j (Some a) (Some b) f g = grind (arith, common_steps, fault_exact, both_ways, fault_total)

pub keep_total : IsTotalOrder keep_fault_cmp
unfolding keep_fault_cmp
keep_total = then_total (on_total (λ (f : KeepFault). f.gate) nat_cmp_total)
    (on_total (λ (f : KeepFault). f.assignment) nat_cmp_total)

keep_exact : CmpEqualImpliesEq keep_fault_cmp
unfolding keep_fault_cmp
keep_exact a b e = grind (arith, common_steps, exact_pairs, exact_unsigned)

pub least_keep_unique : LeastKeepFaultIsUnique
least_keep_unique j None None f g = refl
least_keep_unique j None (Some b) f g = absurd (f b g.0)
least_keep_unique j (Some a) None f g = absurd (g a f.0)
least_keep_unique j (Some a) (Some b) f g = grind (arith, common_steps, keep_exact, both_ways, keep_total)
