-- The edge and halo lines of a module rise, those with a `*` by their cells, the others by time and cell.
use Rattle.certificate.proofs.Imports.{AllTimesSignal, AreLinesInOrder, Bool, BorderLine, CertificateLine, Each, Less}
use Rattle.certificate.proofs.Imports.{List, Option, Ordering, Pairs, Signal, TimedSignal, [], and_parts, arith}
use Rattle.certificate.proofs.Imports.{cell_cmp, cell_of, common_steps, edge_in, event_if_timed, false, halo_in}
use Rattle.certificate.proofs.Imports.{is_cut_line, line_cmp, list_all, may_precede, moment_cmp, ordering_then}
use Rattle.certificate.proofs.Imports.{pairs_flat, rank_of, signal_if_starred, sort_number_of, time_rank, true, ℕ, ◌||◌}
use Rattle.certificate.proofs.Imports.{◌∷◌, ◌≡◌}
use Rattle.std.specs.List.{flat_map}
use Rattle.std.specs.Ordering.{nat_cmp, is_lt}

-- one line comes before another
abbrev pub Before : BorderLine → BorderLine → Type 0
Before d e = ordering_then (nat_cmp (time_rank d.time) (time_rank e.time)) (cell_cmp d.cell e.cell) ≡ Less

pub each_of_test : {A : Type 0} (test : A → Bool) (xs : List A) → list_all test xs ≡ true → Each (λ x. test x ≡ true) xs
unfolding Each
each_of_test test [] h = tt
each_of_test test (x ∷ xs) h = grind (arith, common_steps, and_parts, each_of_test test xs)

pub pairs_of_order : (lines : List CertificateLine) → AreLinesInOrder lines →
    Pairs (λ i j. may_precede i j ≡ true) lines
unfolding AreLinesInOrder Pairs
pairs_of_order [] h = tt
pairs_of_order (i ∷ lines) h = (each_of_test (may_precede i) lines h.0, pairs_of_order lines h.1)

pub is_less : (o : Ordering) (b : Bool) → b ≡ false → (is_lt o || b) ≡ true → o ≡ Less
is_less o b h1 h2 = grind (arith, common_steps)

edges_between : (i j : CertificateLine) → may_precede i j ≡ true → Each (λ d. Each (Before d) (edge_in j)) (edge_in i)
unfolding Each may_precede line_cmp rank_of sort_number_of cell_of is_cut_line
edges_between i j h1 = grind (arith, common_steps, is_less)

halos_between : (i j : CertificateLine) → may_precede i j ≡ true → Each (λ d. Each (Before d) (halo_in j)) (halo_in i)
unfolding Each may_precede line_cmp rank_of sort_number_of cell_of is_cut_line
halos_between i j h1 = grind (arith, common_steps, is_less)

edge_alone : (i : CertificateLine) → Pairs Before (edge_in i)
unfolding Each Pairs
edge_alone i = grind (arith, common_steps)

halo_alone : (i : CertificateLine) → Pairs Before (halo_in i)
unfolding Each Pairs
halo_alone i = grind (arith, common_steps)

pub edges_rise : (lines : List CertificateLine) → AreLinesInOrder lines → Pairs Before (flat_map edge_in lines)
edges_rise lines o = grind (arith, common_steps, pairs_flat, edges_between, edge_alone, pairs_of_order)

pub halos_rise : (lines : List CertificateLine) → AreLinesInOrder lines → Pairs Before (flat_map halo_in lines)
halos_rise lines o = grind (arith, common_steps, pairs_flat, halos_between, halo_alone, pairs_of_order)

-- ---- what the lines say

abbrev pub HeldBefore : AllTimesSignal → AllTimesSignal → Type 0
HeldBefore a b = cell_cmp a.cell b.cell ≡ Less

abbrev pub EventBefore : TimedSignal → TimedSignal → Type 0
EventBefore a b = moment_cmp a.at b.at ≡ Less

pub all_times_first : (s s' : Signal) (d e : BorderLine) (t u : Option ℕ) →
    ordering_then (nat_cmp (time_rank t) (time_rank u)) (cell_cmp d.cell e.cell) ≡ Less →
    Each (λ a. Each (HeldBefore a) (signal_if_starred e u s')) (signal_if_starred d t s)
unfolding Each
all_times_first s s' d e t u h1 = grind (arith, common_steps)

pub event_first : (s s' : Signal) (d e : BorderLine) (t u : Option ℕ) →
    ordering_then (nat_cmp (time_rank t) (time_rank u)) (cell_cmp d.cell e.cell) ≡ Less →
    Each (λ a. Each (EventBefore a) (event_if_timed e u s')) (event_if_timed d t s)
unfolding Each moment_cmp
event_first s s' d e t u h1 = grind (arith, common_steps)

pub all_times_alone : (s : Signal) (d : BorderLine) (t : Option ℕ) → Pairs HeldBefore (signal_if_starred d t s)
unfolding Each Pairs
all_times_alone s d t = grind (arith, common_steps)

pub event_alone : (s : Signal) (d : BorderLine) (t : Option ℕ) → Pairs EventBefore (event_if_timed d t s)
unfolding Each Pairs
event_alone s d t = grind (arith, common_steps)
