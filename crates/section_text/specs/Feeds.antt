-- The view of a feed.
use Rattle.std.specs.Prelude.{◌≡◌, ℕ, ◌+◌, ◌≤◌, Bool, List, [], ◌∷◌, Option, Some, drop, length, slice_range}
use Rattle.section_text.specs.Words.{lines_of}
use Rattle.section_text.specs.declared.feed.Line.{Line}
use Rattle.section_text.specs.Faults.{refusal}
use Rattle.section_text.specs.declared.fault.ReadFault.{ReadFault}
use Rattle.section_text.specs.declared.code.RefusalCode.TheVariants.{TextCut}

-- a feed: its text, how many lines were taken, whether it is closed, and its fault
pub record FeedView : Type 0 where
  -- the pieces so far, joined
  pub text : List ℕ
  -- how many lines were taken
  pub taken : ℕ
  pub closed : Bool
  -- the fault that it answers from then on
  pub stop : Option ReadFault

-- the lines that were not taken yet
abbrev pub ahead : FeedView → List (List ℕ)
ahead f = drop f.taken (lines_of f.text)

-- the feed after n more lines
abbrev pub feed_after_lines : ℕ → FeedView → FeedView
feed_after_lines n f = record f { taken = f.taken + n }

-- the line is a place in the text
pub record IsLine (f : FeedView) (line : Line) : Type 0 where
  pub ordered : line.from ≤ line.to
  pub within : line.to ≤ length f.text

-- the bytes of a line that the feed gave
abbrev pub line_bytes : FeedView → Line → List ℕ
line_bytes f line = slice_range f.text line.from line.to

-- the next line was taken
pub record TakesLine (old new : FeedView) (line : Line) : Type 0 where
  pub place : IsLine new line
  pub number : line.number ≡ old.taken + 1
  pub ahead : ahead old ≡ line_bytes new line ∷ ahead new
  pub feed : new ≡ feed_after_lines 1 old

-- there is no next line
pub record FindsNoNextLine (old new : FeedView) (fault : ReadFault) : Type 0 where
  pub none : ahead old ≡ []
  pub code : fault ≡ refusal (old.taken + 1) TextCut
  pub feed : new ≡ record old { stop = Some fault }
