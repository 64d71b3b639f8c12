use Rattle.section_text.proofs.Imports.{[], ahead, feed_after_lines, length, section_body_of, ◌≡◌}
use Rattle.section_text.proofs.reader.read_items_to_end.Given as goal

abbrev pub invariant-loop-line : goal.invariant-loop-line
invariant-loop-line g l =
    let G = g.S.Section.grammar l.fn.section in
    let h = g.S.Section.header l.fn.section in
    record {
      same : section_body_of G h [] l.fn.feed.taken (ahead l.fn.feed)
          ≡ section_body_of G h (g.S.Section.items l.section) l.feed.taken (ahead l.feed);
      after : l.feed ≡ feed_after_lines (length (g.S.Section.items l.section)) l.fn.feed;
      header : g.S.Section.header l.section ≡ h;
      grammar : g.S.Section.grammar l.section ≡ G;
    }

abbrev pub decreases-loop-line : goal.decreases-loop-line
decreases-loop-line g l = length (ahead l.feed)
