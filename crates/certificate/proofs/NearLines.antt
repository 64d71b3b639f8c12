-- The cells of a module's edge and halo lines lie within 4096 columns and rows.
use Rattle.certificate.proofs.Imports.{All, AllTimesSignal, BorderLine, Box2, Cell, IsCellInShiftRange, IsModule}
use Rattle.certificate.proofs.Imports.{IsSmallShift, IsWithinMaxSize, LayoutHeader, List, ModuleLines, None, Option}
use Rattle.certificate.proofs.Imports.{Setting, Signal, Signals, StoredBorder, TimedSignal, ap, signal_if_starred}
use Rattle.certificate.proofs.Imports.{arith, common_steps, edges, event_if_timed, flat_all, get_or, halos, in_box}
use Rattle.certificate.proofs.Imports.{ints, is_sized, map, moved_stop, one_or_wire, pos, renumber_all_times}
use Rattle.certificate.proofs.Imports.{renumber_event, renumber_signals, shift_to_origin, size_fault, stops}
use Rattle.certificate.proofs.Imports.{stored_signals, subst, sym, true, unnamed_line, ℕ, ℤ, ◌+ℤ◌, ◌+◌, ◌≡◌, ◌≤◌}
use Rattle.certificate.proofs.Imports.{StoredStop, cell_at, stored_stop}
use Rattle.lemmas.proofs.Common.{All-map, All-weaker, all_unmapped, low_number, ◌≤ℤ◌}
use Rattle.module_box.specs.Moves.{moved_event}
use Rattle.module_box.proofs.BoxCells.{in_box_nats}
use Rattle.module_job.specs.Signals.{renumber_stop}
use Rattle.module_job.specs.declared.job.Stop.{Stop}
use Rattle.certificate.proofs.JobLemmas.{within_512}
use Rattle.lemmas.specs.Bounds.{last_column_or_row, max_side}
use Rattle.bbm_rule.proofs.RingTests.{ring_in_box}

-- a cell of a box within 4096 columns and rows
pub low_in_box : (b : Box2) (c : Cell) → b.x + b.w ≤ max_side → b.y + b.h ≤ max_side → in_box b c.x c.y ≡ true →
    IsWithinMaxSize c
low_in_box b c right bottom h = grind (arith, common_steps, in_box_nats, low_number)

pub low_edges : (g : Setting) (m : ModuleLines) (s : LayoutHeader) → s ≡ g.size → size_fault s ≡ None → IsModule g m →
    All (λ e. IsWithinMaxSize e.cell) (edges m)
low_edges g m s is limits h k d lt =
    let w = within_512 g m s is limits h in
    let e = get_or (edges m) k d in
    low_in_box m.area e.cell w.0 w.1 (ring_in_box m.area e.cell.x e.cell.y (h.edge_lines k d lt).ring)

pub low_halos : (g : Setting) (m : ModuleLines) (s : LayoutHeader) → s ≡ g.size → size_fault s ≡ None → IsModule g m →
    All (λ e. IsWithinMaxSize e.cell) (halos m)
low_halos g m s is limits h k d lt =
    let sized = is_sized s limits in
    let wide = sized.width.1 in
    let high = sized.height.1 in
    let e = get_or (halos m) k d in
    grind (arith, common_steps, low_in_box)

pub low_stops : (g : Setting) (m : ModuleLines) (s : LayoutHeader) → s ≡ g.size → size_fault s ≡ None → IsModule g m →
    All (λ e. IsWithinMaxSize e.cell) (stops m)
low_stops g m s is limits h k d lt = grind (arith, common_steps, within_512, low_in_box)

-- ---- what holds of the cells of lines holds of those of their signals
all_times_low : (e : BorderLine) (t : Option ℕ) (s : Signal) → IsWithinMaxSize e.cell →
    All (λ (h : AllTimesSignal). IsWithinMaxSize h.cell) (signal_if_starred e t s)
all_times_low e t s h1 = grind (arith, common_steps)

event_low : (e : BorderLine) (t : Option ℕ) (s : Signal) → IsWithinMaxSize e.cell →
    All (λ (h : TimedSignal). IsWithinMaxSize h.at.cell) (event_if_timed e t s)
event_low e t s h1 = grind (arith, common_steps)

pub low_all_times : (f : ℕ → ℕ) (bs : List StoredBorder) (s : Signals) → renumber_signals f s ≡ stored_signals bs →
    All (λ b. IsWithinMaxSize (unnamed_line b).cell) bs →
    All (λ (h : AllTimesSignal). IsWithinMaxSize h.cell) s.all_times
low_all_times f bs s same all =
    all_unmapped (λ (h : AllTimesSignal). IsWithinMaxSize h.cell) (renumber_all_times f) s.all_times
    (subst (λ (hs : List AllTimesSignal). All (λ (h : AllTimesSignal). IsWithinMaxSize h.cell) hs)
    (sym (ap (λ (r : Signals). r.all_times) same))
    (flat_all (λ (h : AllTimesSignal). IsWithinMaxSize h.cell)
    (λ b. signal_if_starred (unnamed_line b) b.time (one_or_wire b.wire))
    (λ b. IsWithinMaxSize (unnamed_line b).cell)
    (λ b low. all_times_low (unnamed_line b) b.time (one_or_wire b.wire) low) bs all))

pub low_events : (f : ℕ → ℕ) (bs : List StoredBorder) (s : Signals) → renumber_signals f s ≡ stored_signals bs →
    All (λ b. IsWithinMaxSize (unnamed_line b).cell) bs → All (λ (h : TimedSignal). IsWithinMaxSize h.at.cell) s.events
low_events f bs s same all =
    all_unmapped (λ (h : TimedSignal). IsWithinMaxSize h.at.cell) (renumber_event f) s.events
    (subst (λ (hs : List TimedSignal). All (λ (h : TimedSignal). IsWithinMaxSize h.at.cell) hs)
    (sym (ap (λ (r : Signals). r.events) same))
    (flat_all (λ (h : TimedSignal). IsWithinMaxSize h.at.cell)
    (λ b. event_if_timed (unnamed_line b) b.time (one_or_wire b.wire))
    (λ b. IsWithinMaxSize (unnamed_line b).cell)
    (λ b low. event_low (unnamed_line b) b.time (one_or_wire b.wire) low) bs all))

pub low_stops_of : (f : ℕ → ℕ) (ss : List StoredStop) (own : List Stop) →
    map (renumber_stop f) own ≡ map stored_stop ss →
    All (λ s. IsWithinMaxSize (cell_at s.column s.row)) ss → All (λ (s : Stop). IsWithinMaxSize s.at.cell) own
low_stops_of f ss own same all =
    all_unmapped (λ (s : Stop). IsWithinMaxSize s.at.cell) (renumber_stop f) own
    (subst (All (λ (s : Stop). IsWithinMaxSize s.at.cell)) (sym same)
    (All-map (λ (s : Stop). IsWithinMaxSize s.at.cell) stored_stop ss all))

-- ---- low cells are near, also where a box moves to the corner
small_low : (z : ℤ) → (pos 0 ≤ℤ z) → (z ≤ℤ pos last_column_or_row) → IsSmallShift z
small_low z low high = (omega (arith, ints, low), omega (arith, ints, high))

small_back : (z : ℤ) (n : ℕ) → n ≤ max_side → (pos 0 ≤ℤ z) → (z ≤ℤ pos last_column_or_row) →
    IsSmallShift (z +ℤ shift_to_origin n)
small_back z n few low high = (omega (arith, ints, low, few), omega (arith, ints, high))

near_low : (c : Cell) → IsWithinMaxSize c → IsCellInShiftRange c
near_low c l = (small_low c.x l.column.0 l.column.1, small_low c.y l.row.0 l.row.1)

pub near_all_times : (hs : List AllTimesSignal) → All (λ (h : AllTimesSignal). IsWithinMaxSize h.cell) hs →
    All (λ (h : AllTimesSignal). IsCellInShiftRange h.cell) hs
near_all_times hs all = All-weaker _ _ (λ (h : AllTimesSignal) l. near_low h.cell l) hs all

pub near_events : (es : List TimedSignal) → All (λ (e : TimedSignal). IsWithinMaxSize e.at.cell) es →
    All (λ (e : TimedSignal). IsCellInShiftRange e.at.cell) es
near_events es all = All-weaker _ _ (λ (e : TimedSignal) l. near_low e.at.cell l) es all

pub near_moved : (x y : ℕ) (es : List TimedSignal) → x ≤ max_side → y ≤ max_side →
    All (λ (e : TimedSignal). IsWithinMaxSize e.at.cell) es →
    All (λ (e : TimedSignal). IsCellInShiftRange e.at.cell)
    (map (moved_event (shift_to_origin x) (shift_to_origin y)) es)
near_moved x y es few low all =
    All-map (λ (e : TimedSignal). IsCellInShiftRange e.at.cell) (moved_event (shift_to_origin x) (shift_to_origin y)) es
    (All-weaker (λ (e : TimedSignal). IsWithinMaxSize e.at.cell)
    (λ (e : TimedSignal). IsCellInShiftRange (moved_event (shift_to_origin x) (shift_to_origin y) e).at.cell)
    (λ (e : TimedSignal) l.
    (small_back e.at.cell.x x few l.column.0 l.column.1, small_back e.at.cell.y y low l.row.0 l.row.1)) es all)

pub near_stops : (ss : List Stop) → All (λ (s : Stop). IsWithinMaxSize s.at.cell) ss →
    All (λ (s : Stop). IsCellInShiftRange s.at.cell) ss
near_stops ss all = All-weaker _ _ (λ (s : Stop) l. near_low s.at.cell l) ss all

pub near_moved_stops : (x y : ℕ) (ss : List Stop) → x ≤ max_side → y ≤ max_side →
    All (λ (s : Stop). IsWithinMaxSize s.at.cell) ss →
    All (λ (s : Stop). IsCellInShiftRange s.at.cell) (map (moved_stop (shift_to_origin x) (shift_to_origin y)) ss)
near_moved_stops x y ss few low all =
    All-map (λ (s : Stop). IsCellInShiftRange s.at.cell) (moved_stop (shift_to_origin x) (shift_to_origin y)) ss
    (All-weaker (λ (s : Stop). IsWithinMaxSize s.at.cell)
    (λ (s : Stop). IsCellInShiftRange (moved_stop (shift_to_origin x) (shift_to_origin y) s).at.cell)
    (λ (s : Stop) l. (small_back s.at.cell.x x few l.column.0 l.column.1, small_back s.at.cell.y y low l.row.0 l.row.1))
    ss all)
