use Rattle.section_text.proofs.Imports.{Some, ap, sym, ◌++◌, ◌∙◌}
use Rattle.lemmas.proofs.Common.{slice_get-get_or}
use Rattle.section_text.specs.Limits.{limits_line_bytes}
use Rattle.section_text.proofs.FrontBytes.{same_more}
use Rattle.section_text.proofs.feed.begins_with_front.Goals as goal

pub loop-place-preserved : goal.loop-place-preserved
loop-place-preserved c = same_more
    (c.args.first.now ++ c.args.second.now) limits_line_bytes c.loop-place.place c.in-Some.byte
    c.loop-place.invariant (sym c.joined_byte.ensures ∙ c.in-Some.is)
    (slice_get-get_or limits_line_bytes c.loop-place.place 0 c.loop-place-test.true
    ∙ ap (λ b. Some b) (sym c.if-byte-front.false))
