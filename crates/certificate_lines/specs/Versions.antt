-- The modules of a certificate, by its version
--
-- In version 1 a module says in halo lines what the cells of its halo carry. Version 2 has no halo lines. There each
-- edge line of another module for a cell of its halo is a halo line that says the same.
use Rattle.std.specs.Prelude.{◌≡◌, ℕ, ◌==◌, Bool, true, false, not, if◌then◌else◌, List, [], ◌∷◌, ◌++◌, map}
use Rattle.std.specs.Prelude.{Option, Some, None, nat_lt}
use Rattle.std.specs.List.{filter, flat_map, list_any}
use Rattle.std.specs.declared.cmp.Ordering.{Ordering}
use Rattle.std.specs.Ordering.{nat_cmp, ordering_then, is_lt}
use Rattle.bbm_rule.specs.Boxes.{in_halo}
use Rattle.bbm_rule.specs.CellOrder.{cell_cmp}
use Rattle.bbm_rule.specs.declared.block.Box2.{Box2}
use Rattle.circuit.specs.Meaning.{Circuit}
use Rattle.certificate_lines.specs.Entries.{Setting, ModuleLines, edges, known, stops}
use Rattle.certificate_lines.specs.Orders.{time_rank}
use Rattle.certificate_lines.specs.Rules.{entry_fault, is_local}
use Rattle.certificate_lines.specs.declared.certificate_line.BorderLine.{BorderLine}
use Rattle.certificate_lines.specs.declared.certificate_line.CertificateLine.{CertificateLine}
use Rattle.certificate_lines.specs.declared.certificate_line.CertificateLine.TheVariants.{Halo, Stop}

-- ---- the order of edge and of halo lines

-- lines with a `*` first, then by time; then by y and x
unfoldable pub border_line_cmp : BorderLine → BorderLine → Ordering
border_line_cmp d e = ordering_then (nat_cmp (time_rank d.time) (time_rank e.time)) (cell_cmp d.cell e.cell)

-- a line inserted before the first line that it comes before
unfoldable pub insert_border_line : BorderLine → List BorderLine → List BorderLine
insert_border_line d [] = d ∷ []
insert_border_line d (e ∷ es) = if is_lt (border_line_cmp d e) then d ∷ e ∷ es else e ∷ insert_border_line d es

-- the lines in the order of edge and halo lines
unfoldable pub sorted_border_lines : List BorderLine → List BorderLine
sorted_border_lines [] = []
sorted_border_lines (d ∷ ds) = insert_border_line d (sorted_border_lines ds)

-- ---- halos

-- The edge lines of the modules for the cells in the halo of a box. If no odd time is below the steps, there are none.
unfoldable pub edge_lines_beside : Setting → List ModuleLines → Box2 → List BorderLine
edge_lines_beside g ms area = if nat_lt 1 g.size.steps then filter (λ e. in_halo area e.cell.x e.cell.y)
    (flat_map edges ms) else []

-- whether a line is a halo line
unfoldable pub is_halo_line : CertificateLine → Bool
is_halo_line (Halo e) = true
is_halo_line _ = false

-- the lines other than halo lines
unfoldable pub without_halo_lines : List CertificateLine → List CertificateLine
without_halo_lines lines = filter (λ i. not (is_halo_line i)) lines

-- a module without them
unfoldable pub haloless_module : ModuleLines → ModuleLines
haloless_module m = record m { lines = without_halo_lines m.lines }

-- whether a line is before the halo lines of its module
unfoldable pub precedes_halo_lines : CertificateLine → Bool
precedes_halo_lines (Halo e) = false
precedes_halo_lines (Stop s) = false
precedes_halo_lines _ = true

-- a module of version 2 as one of version 1, if these are all modules; its stops come after the halo lines
unfoldable pub with_halo_lines : Setting → List ModuleLines → ModuleLines → ModuleLines
with_halo_lines g ms m =
    record m {
      lines = filter precedes_halo_lines m.lines ++ map Halo (sorted_border_lines (edge_lines_beside g ms m.area))
          ++ map Stop (stops m);
    }

-- the version whose certificates have no halo lines
abbrev pub is_haloless_version : ℕ → Bool
is_haloless_version version = version == 2

-- the modules of a certificate of this version whose lines make these
unfoldable pub modules_by_version : ℕ → Setting → List ModuleLines → List ModuleLines
modules_by_version version g ms = if is_haloless_version version then map (with_halo_lines g ms) ms else ms

-- ---- the wires of such lines

-- a signal is neither `1` nor a wire that is local
abbrev pub is_nonlocal_signal : Circuit → List ℕ → Option (List ℕ) → Bool
is_nonlocal_signal c local None = false
is_nonlocal_signal c local (Some name) = not (is_local c local name)

-- an edge line for a cell in the halo of another module names a wire that is not local there
unfoldable pub has_nonlocal_edge_wire_beside : Setting → List ModuleLines → Bool
has_nonlocal_edge_wire_beside g ms = list_any (λ m.
    list_any (λ e. is_nonlocal_signal g.circuit (known g.circuit m) e.signal) (edge_lines_beside g ms m.area))
    ms

-- ---- good lines

-- each of these lines is good after those before it
abbrev pub AreGoodLines : Setting → List CertificateLine → List CertificateLine → Type 0
AreGoodLines g before [] = Unit {0}
AreGoodLines g before (i ∷ es) = (entry_fault g before i ≡ None) × AreGoodLines g (before ++ i ∷ []) es
