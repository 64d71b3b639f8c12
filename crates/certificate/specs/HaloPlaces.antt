-- Lists with the edge lines for cells in the halos of boxes, by their modules and their places in these
use Rattle.std.specs.Prelude.{◌≡◌, ℕ, ◌≤◌, Bool, if◌then◌else◌, List, [], ◌∷◌, ◌++◌, length, map, Some, slice_get}
use Rattle.std.specs.Prelude.{unwrap_or, IsTrue, IsFalse}
use Rattle.std.specs.List.{filter, flat_map}
use Rattle.std.specs.Option.{option_to_list}
use Rattle.bbm_rule.specs.declared.block.Cell.{Cell}
use Rattle.bbm_rule.specs.Boxes.{in_box, in_halo, in_ring, IsEvenBox}
use Rattle.module_box.specs.Tiling.{IsTilingOwnerTable, OwnersView}
use Rattle.bbm_rule.specs.declared.block.Box2.{Box2}
use Rattle.certificate_lines.specs.Entries.{Setting}
use Rattle.certificate_lines.specs.StoredModules.{border_line, cell_at, module_lines}
use Rattle.certificate_lines.specs.Versions.{edge_lines_beside}
use Rattle.certificate_lines.specs.declared.stored_module.StoredBorder.{StoredBorder}
use Rattle.certificate_lines.specs.declared.stored_module.StoredModule.{StoredModule}
use Rattle.certificate.specs.declared.neighbour_edges.EdgePlace.{EdgePlace}
use Rattle.lemmas.specs.Bounds.{max_side}

-- the cell of an edge line
abbrev pub line_cell : StoredBorder → Cell
line_cell b = cell_at b.column b.row

-- the edge line at a place, if there is one
abbrev pub edge_lines_at_place : List StoredModule → EdgePlace → List StoredBorder
edge_lines_at_place ms p =
    flat_map (λ m. option_to_list (slice_get m.edges.items p.line)) (option_to_list (slice_get ms p.number))

-- the edge lines at these places
abbrev pub edge_lines_at : List StoredModule → List EdgePlace → List StoredBorder
edge_lines_at ms places = flat_map (edge_lines_at_place ms) places

-- the list of this number, or an empty one
abbrev pub list_at_or_empty : {A : Type 0} → List (List A) → ℕ → List A
list_at_or_empty lists i = unwrap_or (slice_get lists i) []

-- the cell is in the box and not in its ring
abbrev pub IsInnerCell : Box2 → Cell → Type 0
IsInnerCell b c = IsTrue (in_box b c.x c.y) × IsFalse (in_ring b c.x c.y)

-- the table has the box of each cell of a rectangle, the boxes are even, and there is a list for each
pub record AreOwnersAndListsReady (boxes : List Box2) (o : OwnersView) (lists : List (List EdgePlace)) : Type 0 where
  pub small : (o.width ≤ max_side) × (o.height ≤ max_side)
  pub owners : IsTilingOwnerTable o boxes
  pub even : (k : ℕ) (b : Box2) → slice_get boxes k ≡ Some b → IsEvenBox b
  pub count : length lists ≡ length boxes

-- the lists of the boxes that pass the test have the place more, at their ends
pub record AddsPlaceIfBoxPasses (boxes : List Box2) (test : Box2 → Bool) (place : EdgePlace)
    (old new : List (List EdgePlace)) : Type 0 where
  pub count : length new ≡ length old
  pub each : (i : ℕ) (b : Box2) → slice_get boxes i ≡ Some b →
      list_at_or_empty new i ≡ list_at_or_empty old i ++ (if test b then place ∷ [] else [])

-- each list has more places, at its end: those of these edge lines that are for cells in the halo of its box
pub record AddsEdgePlacesInHalo (ms : List StoredModule) (boxes : List Box2) (more : List StoredBorder)
    (old new : List (List EdgePlace)) : Type 0 where
  pub count : length new ≡ length old
  pub each : (i : ℕ) (b : Box2) → slice_get boxes i ≡ Some b →
      edge_lines_at ms (list_at_or_empty new i) ≡ edge_lines_at ms (list_at_or_empty old i)
      ++ filter (λ e. in_halo b (line_cell e).x (line_cell e).y) more

-- each module from this number on has a list, with the places of the edge lines beside it
pub record HaveEdgePlacesFromModule (g : Setting) (ms : List StoredModule) (done : ℕ)
    (lists : List (List EdgePlace)) : Type 0 where
  pub count : length lists ≡ length ms
  pub each : (i : ℕ) (m : StoredModule) → done ≤ i → slice_get ms i ≡ Some m →
      map (border_line g.circuit) (edge_lines_at ms (list_at_or_empty lists i))
      ≡ edge_lines_beside g (map (module_lines g.circuit) ms) m.area
