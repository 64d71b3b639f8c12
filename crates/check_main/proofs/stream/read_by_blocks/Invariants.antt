-- The text so far is what the reader gave, at least one byte a turn.
use Rattle.check_main.proofs.Imports.{Consumes, None, false, length, own_text_limit, ◌≡◌, ◌≤◌}
use Rattle.check_main.proofs.stream.read_by_blocks.Given as goal
use Rattle.lemmas.specs.Bounds.{max_text}

abbrev pub invariant-loop : goal.invariant-loop
invariant-loop g l =
    (g.R.Source.has_failed l.reader ≡ false)
    × Consumes (g.R.Source.left l.fn.reader) (g.R.Source.left l.reader) l.feed.text
    × (l.counter ≤ length l.feed.text)
    × (length l.feed.text ≤ max_text)
    × (length l.feed.text ≤ own_text_limit l.feed.text)
    × (l.feed ≡ record { text = l.feed.text; taken = 0; closed = false; stop = None })
