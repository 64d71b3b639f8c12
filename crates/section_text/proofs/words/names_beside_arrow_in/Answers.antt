use Rattle.section_text.proofs.Imports.{ap, arith, bytes_eq, codes, common_steps, drop, drop-drop, option_copied, rules}
use Rattle.section_text.proofs.Imports.{sym, true, words_of, words_of_rest, ◌+◌, ◌∙◌, ◌≡◌}
use Rattle.section_text.proofs.WordsLeft.{names_are, names_from, no_arrow, no_names_after, no_names_before, no_word_at}
use Rattle.section_text.proofs.WordsLeft.{no_word_between, one_further, word_at, words_after}
use Rattle.section_text.proofs.words.names_beside_arrow_in.Goals as goal

pub returns-in_err-ins : goal.returns-in_err-ins
returns-in_err-ins c = grind (arith, common_steps, no_names_before, names_from)

pub returns-in_err-rest : goal.returns-in_err-rest
returns-in_err-rest c = grind (arith, common_steps, drop-drop, no_word_between, no_word_at)

pub returns-then-ne : goal.returns-then-ne
returns-then-ne c = grind (arith, common_steps, drop-drop, no_arrow, word_at)

pub returns-in_err-outs : goal.returns-in_err-outs
returns-in_err-outs c = grind (arith, common_steps, drop-drop, one_further, no_names_after, names_from)

pub returns-in-Some : goal.returns-in-Some
returns-in-Some c =
    let ws = words_of c.args.line.now in
    let behind = c.in_ok-ins.ensures.rest_of_words ∙ ap (drop c.args.before) c.words_from.ensures
    ∙ drop-drop c.args.before c.args.from ws in
    let here = sym c.next_word.ensures ∙ ap (λ r. words_of_rest (option_copied r)) (sym c.in_ok-rest.was) ∙ behind in
    let after = one_further ws (c.args.from + c.args.before) _ _ here in
    words_after ws c.args.from c.args.before c.args.after c.in-Some.field-0.now
    (ap (λ r. words_of_rest (option_copied r)) (sym c.in-Some.is)
    ∙ c.in_ok-outs.ensures.rest_of_words ∙ ap (drop c.args.after) after
    ∙ drop-drop c.args.after (c.args.from + c.args.before + 1) ws)

pub returns-in-None : goal.returns-in-None
returns-in-None c =
    let ws = words_of c.args.line.now in
    let behind = c.in_ok-ins.ensures.rest_of_words ∙ ap (drop c.args.before) c.words_from.ensures
    ∙ drop-drop c.args.before c.args.from ws in
    let here = sym c.next_word.ensures ∙ ap (λ r. words_of_rest (option_copied r)) (sym c.in_ok-rest.was) ∙ behind in
    let after = one_further ws (c.args.from + c.args.before) _ _ here in
    let arrow : bytes_eq c.next_word.result.0.now (codes "->") ≡ true = search rules in
    names_are ws c.args.from c.args.before c.args.after c.next_word.result.0.now _ _
    (word_at ws (c.args.from + c.args.before) _ _ here) arrow
    (c.in_ok-ins.ensures.names ∙ names_from ws _ c.args.from c.args.before c.words_from.ensures)
    (c.in_ok-outs.ensures.names ∙ names_from ws _ (c.args.from + c.args.before + 1) c.args.after after)
    (ap (λ r. words_of_rest (option_copied r)) (sym c.in-None.is)
    ∙ c.in_ok-outs.ensures.rest_of_words ∙ ap (drop c.args.after) after
    ∙ drop-drop c.args.after (c.args.from + c.args.before + 1) ws)
