use Rattle.certificate_lines.proofs.Imports.{arith}
use Rattle.certificate_lines.proofs.WireListLemmas.{own_word}
use Rattle.certificate_lines.proofs.wire_list.unmark_all.Goals as goal

pub unmark-requires : goal.unmark-requires
unmark-requires c =
    let within = own_word c.args.marks.now c.args.wires.now c.loop-wire.wire-index c.requires c.loop-wire-test.true in
    let same = c.loop-wire.invariant.same_length in
    omega (arith, within, same)
