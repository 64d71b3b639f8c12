use Rattle.module_box.proofs.Imports.{arith, rules}
use Rattle.module_box.proofs.WordRows.{column_none, column_more, column_says, column_long}
use Rattle.module_box.proofs.values.value_words.Goals as goal

pub loop-gate-preserved : goal.loop-gate-preserved
loop-gate-preserved c =
    column_more c.args.given.now c.args.gates.now c.loop-gate.gate-index _ c.loop-gate.words.items
    c.push_out_words.new.words.items
    c.loop-gate.undefined.items c.push.new.self.items c.loop-gate.defined _ _ _ (omega arith)
    c.in_ok-none.ensures (search rules) c.in_ok-push.ensures.items (search rules) c.loop-gate.invariant

pub loop-gate-init : goal.loop-gate-init
loop-gate-init c = column_none c.args.given.now c.args.gates.now c.in_ok-words.words.items
    c.in_ok-undefined.undefined.items
    (search rules) c.in_ok-undefined.ensures.items

pub returns-clause-each_wire_has_word : goal.returns-clause-each_wire_has_word
returns-clause-each_wire_has_word c =
    column_long c.args.given.now c.args.gates.now c.loop-gate.gate-index c.loop-gate.words.items
    c.loop-gate.undefined.items c.loop-gate.defined (omega arith) c.loop-gate.invariant

pub returns-clause-says : goal.returns-clause-says
returns-clause-says c = λ b h.
    column_says c.args.given.now c.args.gates.now c.loop-gate.gate-index c.loop-gate.words.items
    c.loop-gate.undefined.items
    c.loop-gate.defined b h (omega arith) (omega (arith, c.loop-gate.auto.gate-index-end)) c.loop-gate.invariant
