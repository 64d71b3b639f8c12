use Rattle.certificate_lines.proofs.Imports.{arith, codes, common_steps, line_bytes, refl}
use Rattle.certificate_lines.proofs.BorderLines.{five_words_are}
use Rattle.certificate_lines.proofs.BorderText.{other_first}
use Rattle.certificate_lines.proofs.form.line_form_by_words.Goals as goal

pub other_five_word_line_form-requires-clause-no_edge : goal.other_five_word_line_form-requires-clause-no_edge
other_five_word_line_form-requires-clause-no_edge c =
    other_first (codes "edge") (codes "edge ") (line_bytes c.args.feed.now c.args.line.now) 5 (λ rest. refl)
    c.requires.no_edge _ _ _ (five_words_are _ c.in-Some.words (grind (arith, common_steps)))

pub other_five_word_line_form-requires-clause-no_halo : goal.other_five_word_line_form-requires-clause-no_halo
other_five_word_line_form-requires-clause-no_halo c =
    other_first (codes "halo") (codes "halo ") (line_bytes c.args.feed.now c.args.line.now) 5 (λ rest. refl)
    c.requires.no_halo _ _ _ (five_words_are _ c.in-Some.words (grind (arith, common_steps)))

pub other_five_word_line_form-requires-clause-no_stop : goal.other_five_word_line_form-requires-clause-no_stop
other_five_word_line_form-requires-clause-no_stop c =
    other_first (codes "stop") (codes "stop ") (line_bytes c.args.feed.now c.args.line.now) 5 (λ rest. refl)
    c.requires.no_stop _ _ _ (five_words_are _ c.in-Some.words (grind (arith, common_steps)))
