use Rattle.lanes.proofs.Imports.{IsDiagonalStable, arith, inl, inr, slice_index, subst, ℕ, ◌+◌, ◌≡◌}
use Rattle.lemmas.proofs.Common.{cases_lt}
use Rattle.lanes.proofs.TurnLemmas.{none_first, none_last}
use Rattle.lanes.proofs.words.part_changes.Goals as goal

pub loop-k-preserved : goal.loop-k-preserved
loop-k-preserved c = record {
  main = λ h k l. elim (cases_lt k c.loop-k.k) [
    | inl lt ↦ c.loop-k.invariant.main (none_first _ _ h) k lt
    | inr ge ↦
        let e : c.loop-k.k ≡ k = omega arith in
        subst (λ (n : ℕ). IsDiagonalStable (slice_index c.args.odd.now (c.args.at.odd + n))
        (slice_index c.args.even.now (c.args.at.even + n))
        (slice_index c.args.right.now (c.args.at.right + n))
        (slice_index c.args.down.now (c.args.at.down + n))) e
        (c.flips_of-main_flips.ensures.main (none_last _ _ h))
  ];
  anti = λ h k l. elim (cases_lt k c.loop-k.k) [
    | inl lt ↦ c.loop-k.invariant.anti (none_first _ _ h) k lt
    | inr ge ↦
        let e : c.loop-k.k ≡ k = omega arith in
        subst (λ (n : ℕ). IsDiagonalStable (slice_index c.args.right.now (c.args.at.right + n))
        (slice_index c.args.down.now (c.args.at.down + n))
        (slice_index c.args.odd.now (c.args.at.odd + n))
        (slice_index c.args.even.now (c.args.at.even + n))) e
        (c.flips_of-main_flips.ensures.anti (none_last _ _ h))
  ];
}
