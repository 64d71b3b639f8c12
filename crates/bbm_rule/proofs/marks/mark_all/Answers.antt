use Rattle.bbm_rule.proofs.Imports.{arith, false≢true, sym, ◌/◌, ◌∙◌}
use Rattle.bbm_rule.proofs.MarkLemmas.{full_word}
use Rattle.bbm_rule.proofs.marks.mark_all.Goals as goal

pub returns : goal.returns
returns c = λ u l free. false≢true (sym free ∙ full_word c.loop-k.marks u (c.loop-k.invariant (u / 64) (omega arith)))
