use Rattle.lanes.proofs.Imports.{arith, get_or_read, sym}
use Rattle.lanes.proofs.MarkSearch.{word_of}
use Rattle.lanes.proofs.live.LiveMarks.word.Goals as goal

pub returns : goal.returns
returns c =
    let l = c.args.self.now in
    word_of l c.args.k _ _ _ _ (sym (get_or_read l.odd.items _ _ (omega (arith, l.odd.ok.0)) c.index.ensures 0))
    (sym (get_or_read l.right.items _ _ (omega (arith, l.right.ok.0)) c.index-2.ensures 0))
    (sym (get_or_read l.down.items _ _ (omega (arith, l.down.ok.0)) c.index-3.ensures 0))
    (sym (get_or_read l.even.items _ _ (omega (arith, l.even.ok.0)) c.index-4.ensures 0))
