-- The order of the lines of a module
use Rattle.std.specs.Prelude.{◌≡◌, ℕ, ◌+◌, pos, ◌&&◌, ◌||◌, Bool, true, false, List, [], ◌∷◌, Option, Some, None}
use Rattle.std.specs.List.{list_all}
use Rattle.std.specs.declared.cmp.Ordering.{Ordering}
use Rattle.std.specs.Ordering.{nat_cmp, ordering_then, is_lt}
use Rattle.bbm_rule.specs.declared.block.Cell.{Cell}
use Rattle.bbm_rule.specs.CellOrder.{cell_cmp}
use Rattle.certificate_lines.specs.declared.certificate_line.CertificateLine.{CertificateLine}
use Rattle.certificate_lines.specs.declared.certificate_line.CertificateLine.TheVariants.{Module, Cut, Use, Keep, Edge}
use Rattle.certificate_lines.specs.declared.certificate_line.CertificateLine.TheVariants.{Halo, Stop}

-- the order of the kinds of line
unfoldable pub rank_of : CertificateLine → ℕ
rank_of (Module b) = 0
rank_of (Cut n) = 1
rank_of (Use k) = 2
rank_of (Keep k) = 3
rank_of (Edge e) = 4
rank_of (Halo e) = 5
rank_of (Stop s) = 6

-- a `*` comes before all times
abbrev pub time_rank : Option ℕ → ℕ
time_rank None = 0
time_rank (Some t) = t + 1

-- within a kind the number of the gate, or the time of the line, comes first
unfoldable pub sort_number_of : CertificateLine → ℕ
sort_number_of (Module b) = 0
sort_number_of (Cut n) = 0
sort_number_of (Use k) = k
sort_number_of (Keep k) = k
sort_number_of (Edge e) = time_rank e.time
sort_number_of (Halo e) = time_rank e.time
sort_number_of (Stop s) = s.time

-- the cell of a line that names none
abbrev pub default_cell : Cell
default_cell = record { x = pos 0; y = pos 0 }

-- then the cell of the line
unfoldable pub cell_of : CertificateLine → Cell
cell_of (Edge e) = e.cell
cell_of (Halo e) = e.cell
cell_of (Stop s) = s.cell
cell_of _ = default_cell

-- by kind, then by number or time, then by y and x
unfoldable pub line_cmp : CertificateLine → CertificateLine → Ordering
line_cmp i j =
    ordering_then (nat_cmp (rank_of i) (rank_of j))
    (ordering_then (nat_cmp (sort_number_of i) (sort_number_of j)) (cell_cmp (cell_of i) (cell_of j)))

-- whether the line is a cut line
unfoldable pub is_cut_line : CertificateLine → Bool
is_cut_line (Cut n) = true
is_cut_line _ = false

-- whether the first line may come before the second in a module: the cuts come in any order
unfoldable pub may_precede : CertificateLine → CertificateLine → Bool
may_precede i j = is_lt (line_cmp i j) || (is_cut_line i && is_cut_line j)

-- whether all these lines may come before the line
unfoldable pub may_follow : List CertificateLine → CertificateLine → Bool
may_follow lines j = list_all (λ i. may_precede i j) lines

-- each line may come before all later ones
unfoldable pub AreLinesInOrder : List CertificateLine → Type 0
AreLinesInOrder [] = Unit {0}
AreLinesInOrder (i ∷ lines) = (list_all (may_precede i) lines ≡ true) × AreLinesInOrder lines
