use Rattle.certificate_lines.proofs.Imports.{List, ap, is_among, sym, ℕ, ◌∙◌}
use Rattle.bbm_rule.specs.Rows.{cell_at}
use Rattle.certificate_lines.proofs.WireListLemmas.{none_marked}
use Rattle.certificate_lines.proofs.wire_list.WireList.new.Goals as goal

pub invariant_of-result : goal.invariant_of-result
invariant_of-result c = record {
  marked = λ w. ap (λ (l : List ℕ). cell_at l w) c.new-2.ensures.items ∙ none_marked w
      ∙ ap (λ (l : List ℕ). is_among l w) (sym c.new.ensures.items);
}
