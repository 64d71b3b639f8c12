use Rattle.local_run.proofs.Imports.{HasValueRow, IsCellAsSignalUnderWords, One, Signal, Wire, Zero, arith, bit-zero}
use Rattle.local_run.proofs.Imports.{refl, subst, sym, ◌∙◌}
use Rattle.bbm_rule.proofs.MarkLemmas.{bit_ones}
use Rattle.local_run.proofs.Scans.{row_in_word, shown_all}
use Rattle.local_run.proofs.values.Values.differs_from_signal.Goals as goal

pub returns-in-Zero : goal.returns-in-Zero
returns-in-Zero c = λ same.
    let vs = c.args.self.now in
    subst (λ (s : Signal). IsCellAsSignalUnderWords vs c.args.planes.now c.args.x c.args.y s vs.words)
    (sym c.in-Zero.is)
    (shown_all vs c.args.planes.now c.args.x c.args.y Zero vs.words
    (λ k b lk l. sym (c.differs_from_word.ensures same k b (omega arith) l) ∙ bit-zero b))

pub returns-in-One : goal.returns-in-One
returns-in-One c = λ same.
    let vs = c.args.self.now in
    subst (λ (s : Signal). IsCellAsSignalUnderWords vs c.args.planes.now c.args.x c.args.y s vs.words) (sym c.in-One.is)
    (shown_all vs c.args.planes.now c.args.x c.args.y One vs.words
    (λ k b lk l. sym (c.differs_from_word-in-One.ensures same k b (omega arith) l) ∙ bit_ones b l))

pub returns-in-Wire : goal.returns-in-Wire
returns-in-Wire c = λ same.
    let vs = c.args.self.now in
    let w = c.in-Wire.wire in
    let row = rw c.deref.ensures.value at c.differs_from_words.ensures in
    let h : HasValueRow vs (Wire w) = subst (HasValueRow vs) c.in-Wire.is c.requires.row in
    subst (λ (s : Signal). IsCellAsSignalUnderWords vs c.args.planes.now c.args.x c.args.y s vs.words)
    (sym c.in-Wire.is)
    (shown_all vs c.args.planes.now c.args.x c.args.y (Wire w) vs.words
    (λ k b lk l. sym (row same k b (omega arith) l)
    ∙ row_in_word vs.words k b w _ 0 vs.rows.values.items l (omega arith) refl))
