use Rattle.section_text.proofs.Imports.{refl, sym, ◌∙◌}
use Rattle.section_text.proofs.Whole.{whole_good, whole_bad}
use Rattle.section_text.proofs.reader.read_section_of_unstopped_feed.Goals as goal

pub returns-in-None-clause-reads : goal.returns-in-None-clause-reads
returns-in-None-clause-reads g c =
    let s = g.S.Section in
    let one = c.in_ok-read_header.ensures.ok in
    let two = c.in_ok-line.ensures.ok in
    whole_good _ (s.grammar c.args.section.now) (s.grammar c.read_header.new.section)
    (s.grammar c.read_items_to_end.new.section) c.args.feed.now c.read_header.new.feed c.read_items_to_end.new.feed
    c.read_items_to_end.new.feed c.in_ok-line.line
    (s.header c.read_header.new.section) (s.header c.read_items_to_end.new.section)
    (s.items c.read_items_to_end.new.section) c.requires.feed_not_stopped one.0 one.1 one.3 two.0 two.1 two.2 tt refl
    (sym c.missing.ensures ∙ c.in-None.is) refl

pub returns-in-Some-clause-reads : goal.returns-in-Some-clause-reads
returns-in-Some-clause-reads g c =
    let s = g.S.Section in
    let one = c.in_ok-read_header.ensures.ok in
    let two = c.in_ok-line.ensures.ok in
    whole_bad _ (s.grammar c.args.section.now) (s.grammar c.read_header.new.section)
    (s.grammar c.read_items_to_end.new.section) c.args.feed.now c.read_header.new.feed c.read_items_to_end.new.feed
    c.refuse.new.self
    c.in_ok-line.line
    (s.header c.read_header.new.section) (s.header c.read_items_to_end.new.section)
    (s.items c.read_items_to_end.new.section) c.requires.feed_not_stopped one.0 one.1 one.3 two.0 two.1 two.2
    c.refuse.result
    c.in-Some.code (sym c.missing.ensures ∙ c.in-Some.is)
    (record { answer = c.refuse.ensures.answer; stopped = c.refuse.ensures.stop_recorded })
