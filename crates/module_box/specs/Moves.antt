-- Boxes, cells and signals that are moved
use Rattle.std.specs.Prelude.{◌≡◌, ℕ, ℤ, pos, negsuc, ◌+ℤ◌, ◌≤ℤ◌, map}
use Rattle.bbm_rule.specs.Moves.{IsStateMovedBy}
use Rattle.bbm_rule.specs.declared.block.Cell.{Cell}
use Rattle.bbm_rule.specs.Boxes.{in_box, in_ring, in_halo}
use Rattle.module_box.specs.Schedules.{Signals, signal_at}
use Rattle.bbm_rule.specs.declared.block.Box2.{Box2}
use Rattle.module_box.specs.declared.schedules.TimedSignal.{TimedSignal}
use Rattle.module_box.specs.declared.schedules.AllTimesSignal.{AllTimesSignal}
use Rattle.lemmas.specs.Bounds.{max_cell_shift}

-- by dx columns and dy rows
abbrev pub moved_cell : ℤ → ℤ → Cell → Cell
moved_cell dx dy c = record { x = c.x +ℤ dx; y = c.y +ℤ dy }

-- a signal at all times, moved by dx columns and dy rows
abbrev pub moved_all_times : ℤ → ℤ → AllTimesSignal → AllTimesSignal
moved_all_times dx dy h = record { cell = moved_cell dx dy h.cell; signal = h.signal }

-- an event, moved by dx columns and dy rows
abbrev pub moved_event : ℤ → ℤ → TimedSignal → TimedSignal
moved_event dx dy e = record { at = record { time = e.at.time; cell = moved_cell dx dy e.at.cell }; signal = e.signal }

-- the signals of a schedule, moved by dx columns and dy rows
abbrev pub moved_signals : ℤ → ℤ → Signals → Signals
moved_signals dx dy s =
    record { all_times = map (moved_all_times dx dy) s.all_times; events = map (moved_event dx dy) s.events }

-- b' is b moved
pub record IsMovedBox (dx dy : ℤ) (b b' : Box2) : Type 0 where
  pub x : pos b'.x ≡ pos b.x +ℤ dx
  pub y : pos b'.y ≡ pos b.y +ℤ dy
  pub w : b'.w ≡ b.w
  pub h : b'.h ≡ b.h

-- A number that is added to another of these without going out of the range of 32 bits
abbrev pub IsSmallShift : ℤ → Type 0
IsSmallShift z = (negsuc max_cell_shift ≤ℤ z) × (z ≤ℤ pos max_cell_shift)

-- a cell near the corner of the plane
abbrev pub IsCellInShiftRange : Cell → Type 0
IsCellInShiftRange c = IsSmallShift c.x × IsSmallShift c.y

-- ---- laws

-- the cells of a box, its ring and its halo move along with it
pub record RingAndHaloMoveAlong (dx dy : ℤ) (b b' : Box2) : Type 0 where
  pub box : IsStateMovedBy dx dy (in_box b) (in_box b')
  pub ring : IsStateMovedBy dx dy (in_ring b) (in_ring b')
  pub halo : IsStateMovedBy dx dy (in_halo b) (in_halo b')

-- The ring and the halo of a box move along with it.
abbrev pub RingsAndHalosMoveAlong : Type 0
RingsAndHalosMoveAlong = (dx dy : ℤ) (b b' : Box2) → IsMovedBox dx dy b b' → RingAndHaloMoveAlong dx dy b b'

-- a cell that is moved carries in moved signals what it carried before
abbrev pub SignalsMoveAlong : Type 0
SignalsMoveAlong = (dx dy : ℤ) (s : Signals) (t : ℕ) (x y : ℤ) →
    signal_at (moved_signals dx dy s) t (x +ℤ dx) (y +ℤ dy) ≡ signal_at s t x y
