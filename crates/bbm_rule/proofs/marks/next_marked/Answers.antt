use Rattle.bbm_rule.proofs.Imports.{arith, cell_at, get_or, trailing_zeros, true, w64, ◌%◌, ◌*◌, ◌+◌, ◌/◌, ◌^◌, ◌≡◌}
use Rattle.lemmas.proofs.Common.{subst}
use Rattle.bbm_rule.proofs.MarkLemmas.{first_marked, none_in_word, whole_marked}
use Rattle.bbm_rule.proofs.marks.next_marked.Goals as goal

pub loop-k-init : goal.loop-k-init
loop-k-init c = λ u l h. none_in_word c.args.marks.now c.args.from u c.if-rest-ne0.false l (omega arith)

pub returns-then-rest-ne0-clause-marked : goal.returns-then-rest-ne0-clause-marked
returns-then-rest-ne0-clause-marked c = λ l.
    let rest = get_or c.args.marks.now (c.args.from / 64) 0 / 2 ^ (c.args.from % 64) in
    let e : c.args.from + trailing_zeros w64 rest ≡ c.min.result = omega arith in
    subst (λ n. cell_at c.args.marks.now n ≡ true) e
    (first_marked c.args.marks.now c.args.from c.if-rest-ne0.true (c.type_inv.marks (c.args.from / 64)).fits)

pub returns-then-whole-ne0-clause-marked : goal.returns-then-whole-ne0-clause-marked
returns-then-whole-ne0-clause-marked c = λ l.
    let e : 64 * c.loop-k.k + trailing_zeros w64 (get_or c.args.marks.now c.loop-k.k 0) ≡ c.min-then-whole-ne0.result =
    omega arith in
    subst (λ n. cell_at c.args.marks.now n ≡ true) e
    (whole_marked c.args.marks.now c.loop-k.k c.if-whole-ne0.true (c.type_inv.marks c.loop-k.k).fits)
