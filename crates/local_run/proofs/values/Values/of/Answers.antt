use Rattle.local_run.proofs.Imports.{AreGatesOrdered, AreValueRows, Netlist, ap, arith, assignments, common_steps}
use Rattle.local_run.proofs.Imports.{div_ceil, subst, ℕ, ◌%◌, ◌*◌, ◌<◌, ◌^◌, ◌∙◌, ◌≡◌, ◌≤◌}
use Rattle.lemmas.proofs.Common.{pow_pos}
use Rattle.std.proofs.Math.Pow.{pow_mono}
use Rattle.local_run.proofs.Cleared.{rows_kept}
use Rattle.local_run.proofs.values.Values.of.Goals as goal

-- n cuts have 2 ^ n assignments, and the words have room for these
shifted : (n : ℕ) → n ≤ 12 → 1 * 2 ^ n % 18446744073709551616 ≡ 2 ^ n
shifted n few = omega (arith, pow_mono few)

enough : (n w : ℕ) → n ≤ 12 → w ≡ div_ceil (1 * 2 ^ n % 18446744073709551616) 64 →
    (0 < w) × (w ≤ 64) × (1 * 2 ^ n % 18446744073709551616 ≤ 64 * w)
enough n w few e = grind (arith, common_steps, shifted, pow_pos, pow_mono, div_ceil)

pub value_rows-requires : goal.value_rows-requires
value_rows-requires c = grind (arith, common_steps, enough)

pub returns : goal.returns
returns c =
    let e = c.wiring-wiring.ensures.wiring in
    let w = enough c.cuts-count.result c.div_ceil-words.result c.cuts-count.ensures.at_most_12
    c.div_ceil-words.ensures in
    let count : 1 * 2 ^ c.cuts-count.result % 18446744073709551616 ≡ assignments c.args.job.now =
    shifted c.cuts-count.result c.cuts-count.ensures.at_most_12 ∙ ap (λ n. 2 ^ n) c.cuts-count.ensures.count
    ∙ ap (λ (l : Netlist). 2 ^ l.given) e in
    let known = c.with_false_where_undefined-rows.ensures in
    let rows : AreValueRows c.args.job.now.locals.netlist c.div_ceil-words.result
    c.with_false_where_undefined-rows.result =
    subst (λ (m : Netlist). AreValueRows m c.div_ceil-words.result c.with_false_where_undefined-rows.result) e
    (rows_kept _ c.div_ceil-words.result _ _ known.defined known.undefined known.length_unchanged known.keeps
    c.in_ok-value_rows.ensures) in
    record {
      job = c.requires;
      ordered = subst (λ (l : Netlist). AreGatesOrdered l.given l.gates) e c.cuts-count.ensures.gates_ordered;
      wide = (w.0, w.1);
      count = count;
      room = w.2;
      long = (let h = rows.long in omega (arith, h));
      rows = rows;
    }
