use Rattle.section_text.proofs.Imports.{ap, arith, common_steps, length_push, names_at, option_copied, sym}
use Rattle.section_text.proofs.Imports.{words_of_rest, ◌+◌, ◌∙◌}
use Rattle.section_text.proofs.NamesAt.{goes_on, stops, is_done}
use Rattle.section_text.proofs.WordsLeft.{name_by_word, no_name_at, one_further}
use Rattle.section_text.proofs.words.take_names.Goals as goal

pub returns-in_err-rest-clause-names : goal.returns-in_err-rest-clause-names
returns-in_err-rest-clause-names c = let ws = words_of_rest (option_copied c.args.left) in
    let none = stops ws c.loop-i.names 0 c.args.count c.loop-i.i (names_at ws 0 c.args.count)
    (omega arith) (no_name_at ws (0 + c.loop-i.i)
    (ap (λ o. words_of_rest (option_copied o)) (sym c.in_err-rest.was) ∙ c.loop-i.invariant.rest))
    c.loop-i.invariant.so_far in
    rw c.from_residual.ensures (sym none)

pub returns-in_err-of-clause-names : goal.returns-in_err-of-clause-names
returns-in_err-of-clause-names c = let ws = words_of_rest (option_copied c.args.left) in
    let none = stops ws c.loop-i.names 0 c.args.count c.loop-i.i (names_at ws 0 c.args.count)
    (omega arith) (name_by_word ws (0 + c.loop-i.i) _ _
    (sym c.next_word.ensures ∙ ap (λ o. words_of_rest (option_copied o)) (sym c.in_ok-rest.was)
    ∙ c.loop-i.invariant.rest) ∙ sym c.of.ensures ∙ c.in_err-of.was) c.loop-i.invariant.so_far in
    rw c.from_residual-in_err-of.ensures (sym none)

pub loop-i-preserved : goal.loop-i-preserved
loop-i-preserved c = record {
  rest = grind (arith, common_steps, one_further);
  so_far = grind (arith, common_steps, goes_on, name_by_word);
  as_many = grind (arith, common_steps, length_push);
}

pub returns-clause-names : goal.returns-clause-names
returns-clause-names c = let ws = words_of_rest (option_copied c.args.left) in
    sym (is_done ws c.loop-i.names 0 c.args.count c.loop-i.i (names_at ws 0 c.args.count)
    (omega arith) c.loop-i.invariant.so_far)
