-- The signals of a module after one more line.
use Rattle.certificate.proofs.Imports.{All, AreBorderLinesRising, AreSignalLists, BorderLine, IsRising}
use Rattle.certificate.proofs.Imports.{IsSignalWireBelow, List}
use Rattle.certificate.proofs.Imports.{LocalNet, Option, Pairs, Signal, StoredBorder, [], arith, signal_if_starred}
use Rattle.certificate.proofs.Imports.{border_line_cmp, cell_cmp, circuit_wire, common_steps, event_if_timed}
use Rattle.certificate.proofs.Imports.{moment_cmp, one_or_wire, refl, renumber_all_times, renumber_event}
use Rattle.certificate.proofs.Imports.{renumber_signal, unnamed_line, wires, ℕ, ◌++◌, ◌∷◌, ◌≡◌, pairs_flat, rising_of}
use Rattle.module_box.specs.Schedules.{moment_of, cell_of}
use Rattle.certificate_lines.proofs.ModulePushes.{all_one}
use Rattle.certificate.specs.declared.signal_lists.SignalLists.{SignalLists}
use Rattle.certificate.proofs.BorderOrder.{Before, EventBefore, HeldBefore, all_times_alone, all_times_first}
use Rattle.certificate.proofs.BorderOrder.{event_alone, event_first}
use Rattle.certificate.proofs.FullModules.{pairs_by_place}

-- ---- one line

own_all_times : (n : ℕ) (e : BorderLine) (t : Option ℕ) (s : Signal) → IsSignalWireBelow n s →
    All (λ h. IsSignalWireBelow n h.signal) (signal_if_starred e t s)
own_all_times n e t s h1 = grind (arith, common_steps, all_one)

module _ (l : LocalNet) where
  pub with_border : (bs : List StoredBorder) (b : StoredBorder) (s : Signal) (old new : SignalLists) →
      renumber_signal (circuit_wire l) s ≡ one_or_wire b.wire → IsSignalWireBelow (wires l.netlist) s →
      new.all_times.items ≡ old.all_times.items ++ signal_if_starred (unnamed_line b) b.time s →
      new.events.items ≡ old.events.items ++ event_if_timed (unnamed_line b) b.time s →
      AreSignalLists l bs old → AreSignalLists l (bs ++ b ∷ []) new
  with_border bs b s old new same own all_times events t = grind (arith, common_steps, own_all_times)

-- ---- all lines

pairs_of_rising : (bs : List StoredBorder) → AreBorderLinesRising bs →
    Pairs (λ d e. Before (unnamed_line d) (unnamed_line e)) bs
unfolding border_line_cmp
pairs_of_rising bs o = pairs_by_place (λ d e. Before (unnamed_line d) (unnamed_line e)) bs o.rises

pub table_all_times_rises : (l : LocalNet) (bs : List StoredBorder) (t : SignalLists) → AreBorderLinesRising bs →
    AreSignalLists l bs t → IsRising cell_cmp cell_of t.all_times.items
table_all_times_rises l bs t o h =
    rising_of cell_cmp cell_of (renumber_all_times (circuit_wire l)) (λ a. refl) t.all_times.items _ h.all_times
    (pairs_flat (λ d e. Before (unnamed_line d) (unnamed_line e)) HeldBefore
    (λ b. signal_if_starred (unnamed_line b) b.time (one_or_wire b.wire))
    (λ d e. all_times_first (one_or_wire d.wire) (one_or_wire e.wire) (unnamed_line d) (unnamed_line e) d.time e.time)
    (λ d. all_times_alone (one_or_wire d.wire) (unnamed_line d) d.time) bs (pairs_of_rising bs o))

pub table_events_rise : (l : LocalNet) (bs : List StoredBorder) (t : SignalLists) → AreBorderLinesRising bs →
    AreSignalLists l bs t → IsRising moment_cmp moment_of t.events.items
table_events_rise l bs t o h =
    rising_of moment_cmp moment_of (renumber_event (circuit_wire l)) (λ a. refl) t.events.items _ h.events
    (pairs_flat (λ d e. Before (unnamed_line d) (unnamed_line e)) EventBefore
    (λ b. event_if_timed (unnamed_line b) b.time (one_or_wire b.wire))
    (λ d e. event_first (one_or_wire d.wire) (one_or_wire e.wire) (unnamed_line d) (unnamed_line e) d.time e.time)
    (λ d. event_alone (one_or_wire d.wire) (unnamed_line d) d.time) bs (pairs_of_rising bs o))
