use Rattle.lemmas.proofs.Common.{ap, ap₂, append-nil, append_assoc, arith, drop, length, length-drop, sym, take}
use Rattle.lemmas.proofs.Common.{take_rest, ◌++◌, ◌+◌, ◌∙◌}
use Rattle.answers.specs.KeptLines.{line_unless_begins_with_h}
use Rattle.answers.proofs.KeptLines.{first_kept, kept_text, none_kept}
use Rattle.answers.proofs.migration.push_lines_not_beginning_with_h.Goals as goal

pub loop-length-preserved : goal.loop-length-preserved
loop-length-preserved c =
    let w = c.loop-length.rest.now in
    let n = c.in-Some.length in
    let out = c.loop-length.out.items in
    let behind = take_rest w (n + 1) in (
      ap₂ (λ a b. a ++ kept_text b) c.in_ok-push_line_unless_begins_with_h.ensures behind
          ∙ append_assoc out (line_unless_begins_with_h (take (n + 1) w)) (kept_text (drop (n + 1) w))
          ∙ ap (λ l. out ++ l) (sym (first_kept w n (sym c.first_line_feed_place.ensures.first ∙ c.in-Some.is)))
          ∙ c.loop-length.invariant.0,
      omega (arith, ap length behind, length-drop (n + 1) w, c.loop-length.invariant.1),
    )

pub returns : goal.returns
returns c =
    sym (append-nil c.loop-length.out.items)
    ∙ ap (λ l. c.loop-length.out.items ++ l)
    (sym (none_kept c.loop-length.rest.now (sym c.first_line_feed_place.ensures.first ∙ c.in_default.is)))
    ∙ c.loop-length.invariant.0
