-- A gate that is not among those so far is the next one, or is not among those up to the next one.
use Rattle.certificate.proofs.Imports.{arith, false, is_among, sym, take_all, ◌==◌, ◌∙◌, ◌≡◌}
use Rattle.lemmas.proofs.Common.{get_or_default}
use Rattle.std.proofs.lemmas.List.Folds.{list_any_more}
use Rattle.certificate.proofs.keep_lines.gate_place.Goals as goal

pub loop-place-preserved : goal.loop-place-preserved
loop-place-preserved c =
    let other : (c.index-gates-place.result == c.args.gate) ≡ false = grind arith in
    rw (
      list_any_more (λ v. v == c.args.gate) c.args.gates.now c.loop-place.place
          c.index-gates-place.result c.loop-place-test.true,
      c.loop-place.invariant,
      ← c.index-gates-place.is,
    ) other

pub returns-then-number-clause-gate : goal.returns-then-number-clause-gate
returns-then-number-clause-gate c = get_or_default _ _ _ _ c.loop-place-test.true ∙ sym c.index-gates-place.is ∙ (cc)

pub unreachable-requires : goal.unreachable-requires
unreachable-requires c =
    let all = take_all c.loop-place.place c.args.gates.now c.loop-place-test.false in
    let none : is_among c.args.gates.now c.args.gate ≡ false = rw all at c.loop-place.invariant in
    cc (none, c.requires.used)
