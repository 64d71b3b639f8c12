-- The lists of the edge lines beside each module, from the modules of a certificate
use Rattle.certificate.proofs.Imports.{AddsEdgePlacesInHalo, All, All-append, All-cons, All-nil, AreModules, BorderLine}
use Rattle.certificate.proofs.Imports.{Box2, Circuit, EdgePlace, HasCircuitWire, HasCircuitWires}
use Rattle.certificate.proofs.Imports.{HaveEdgePlacesFromModule, IsEvenBox, IsInnerCell, IsModule, List, ModuleLines}
use Rattle.certificate.proofs.Imports.{None, Option, Setting, Some, StoredBorder, StoredModule, [], ap, ap₂, areas}
use Rattle.certificate.proofs.Imports.{arith, border_line, cases_Bool, common_steps, cond-false, cond-true}
use Rattle.certificate.proofs.Imports.{edge_lines_at, edge_lines_at_place, edge_lines_beside, edges, false, filter}
use Rattle.certificate.proofs.Imports.{flat_map, get_or, get_or_from_slice_get, in_halo, length, length-map, line_cell}
use Rattle.certificate.proofs.Imports.{list_at_or_empty, map, map-append, mapped_at, mapped_from, module_lines, nat_lt}
use Rattle.certificate.proofs.Imports.{nat_tests, option_to_list, refl, slice_get, slice_get-get_or, slice_get_within}
use Rattle.certificate.proofs.Imports.{subst, sym, true, whole, ℕ, ◌++◌, ◌<◌, ◌∙◌, ◌∷◌, ◌≡◌, ◌≤◌}
use Rattle.lemmas.proofs.Common.{all_unmapped}
use Rattle.certificate_lines.specs.Modules.{IsWithinLineLimit}
use Rattle.module_box.proofs.BoxCells.{in_rectangle}
use Rattle.certificate_lines.proofs.StoredLemmas.{edges_with}
use Rattle.bbm_rule.proofs.RingTests.{ring_in_box}

-- ---- modules that are good

inner_edge : (g : Setting) (m : ModuleLines) → IsModule g m → All (λ e. IsInnerCell (whole g.size) e.cell) (edges m)
inner_edge g m good k d lt =
    let e = get_or (edges m) k d in
    let is = good.edge_lines k d lt in (
      in_rectangle g.size.w g.size.h m.area e.cell.x e.cell.y good.inside
          (ring_in_box m.area e.cell.x e.cell.y is.ring),
      is.rim,
    )

pub stored_areas : (c : Circuit) (ms : List StoredModule) → areas (map (module_lines c) ms) ≡ map (λ m. m.area) ms
stored_areas c [] = refl
stored_areas c (m ∷ ms) = ap (λ bs. m.area ∷ bs) (stored_areas c ms)

module _ (g : Setting) (ms : List StoredModule) where
  abbrev lines : List ModuleLines
  lines = map (module_lines g.circuit) ms

  lines_at : (k : ℕ) (d : StoredModule) → k < length ms →
      slice_get lines k ≡ Some (module_lines g.circuit (get_or ms k d))
  lines_at k d lt = mapped_at (module_lines g.circuit) ms k (get_or ms k d) (slice_get-get_or ms k d lt)

  -- edge lines are inside the rectangle and not on its rim
  pub inner_edges : AreModules g lines → All (λ m. All (λ e. IsInnerCell (whole g.size) (line_cell e)) m.edges.items) ms
  inner_edges good k d lt =
      let m = get_or ms k d in
      all_unmapped (λ (e : BorderLine). IsInnerCell (whole g.size) e.cell) (border_line g.circuit) m.edges.items
      (subst (All (λ (e : BorderLine). IsInnerCell (whole g.size) e.cell)) (edges_with g.circuit m m.halos.items)
      (inner_edge g (module_lines g.circuit m) (good.each k _ (lines_at k d lt))))

  pub few_edges : All IsWithinLineLimit lines → All (λ m. length m.edges.items ≤ 65536) ms
  few_edges few k d lt =
      let m = get_or ms k d in
      let within = all_unmapped IsWithinLineLimit (module_lines g.circuit) ms few k d lt in
      let same = ap length (edges_with g.circuit m m.halos.items) ∙ length-map m.edges.items (border_line g.circuit) in
      omega (arith, within, same)

  pub even_areas : AreModules g lines → (k : ℕ) (b : Box2) → slice_get (areas lines) k ≡ Some b → IsEvenBox b
  even_areas good k b at =
      let m = mapped_from (λ (n : ModuleLines). n.area) lines k b at in
      let P : Box2 → Type 0 = IsEvenBox in
      subst P m.2 (good.each k m.0 m.1).even

-- ---- the edge lines beside a box

edges_stored : (c : Circuit) (ms : List StoredModule) → flat_map edges (map (module_lines c) ms)
    ≡ map (border_line c) (flat_map (λ (m : StoredModule). m.edges.items) ms)
edges_stored c [] = refl
edges_stored c (m ∷ ms) =
    ap₂ (λ xs ys. xs ++ ys) (edges_with c m m.halos.items) (edges_stored c ms)
    ∙ sym (map-append (border_line c) m.edges.items (flat_map (λ (m : StoredModule). m.edges.items) ms))

filter_stored : (c : Circuit) (b : Box2) (es : List StoredBorder) →
    map (border_line c) (filter (λ e. in_halo b (line_cell e).x (line_cell e).y) es)
    ≡ filter (λ (e : BorderLine). in_halo b e.cell.x e.cell.y) (map (border_line c) es)
filter_stored c b [] = refl
filter_stored c b (e ∷ es) = grind (arith, common_steps, cases_Bool, cond-true, cond-false, filter_stored c b es)

long : (steps : ℕ) → 1 < steps → nat_lt 1 steps ≡ true
long steps lt = grind (arith, nat_tests)

short : (steps : ℕ) → steps ≤ 1 → nat_lt 1 steps ≡ false
short steps le = grind (arith, nat_tests)

module _ (g : Setting) (ms : List StoredModule) where
  -- without odd times the lists are empty
  pub none_placed : (lists : List (List EdgePlace)) → g.size.steps ≤ 1 → length lists ≡ length ms →
      ((i : ℕ) → list_at_or_empty lists i ≡ []) → HaveEdgePlacesFromModule g ms 0 lists
  unfolding edge_lines_beside
  none_placed lists few count empty = grind (arith, common_steps, cond-false, short)

  pub all_placed : (boxes : List Box2) (old new : List (List EdgePlace)) → 1 < g.size.steps →
      boxes ≡ map (λ m. m.area) ms → length old ≡ length ms → ((i : ℕ) → list_at_or_empty old i ≡ []) →
      AddsEdgePlacesInHalo ms boxes (flat_map (λ m. m.edges.items) ms) old new → HaveEdgePlacesFromModule g ms 0 new
  unfolding edge_lines_beside
  all_placed boxes old new many are count empty h = record {
    count = h.count ∙ count;
    each = λ i m le at.
        let all = flat_map (λ (m : StoredModule). m.edges.items) ms in
        ap (map (border_line g.circuit))
        (h.each i m.area (ap (λ bs. slice_get bs i) are ∙ mapped_at (λ (m : StoredModule). m.area) ms i m at)
        ∙ ap (λ l. edge_lines_at ms l
        ++ filter (λ (e : StoredBorder). in_halo m.area (line_cell e).x (line_cell e).y) all) (empty i))
        ∙ filter_stored g.circuit m.area all
        ∙ ap (filter (λ (e : BorderLine). in_halo m.area e.cell.x e.cell.y)) (sym (edges_stored g.circuit ms))
        ∙ sym (cond-true _ _ _ (long g.size.steps many));
  }

-- ---- the wires of edge lines

own_at_place : (c : Circuit) (ms : List StoredModule) → All (HasCircuitWires c) ms → (p : EdgePlace) →
    All (HasCircuitWire c) (edge_lines_at_place ms p)
own_at_place c ms own p = of_module (slice_get ms p.number) (λ m at. at_own m at)
  where
    at_own : (m : StoredModule) → slice_get ms p.number ≡ Some m → HasCircuitWires c m
    at_own m at = subst (HasCircuitWires c) (get_or_from_slice_get ms p.number m m at)
        (own p.number m (slice_get_within ms p.number m at))

    of_line : (es : List StoredBorder) → All (HasCircuitWire c) es → (o : Option StoredBorder) →
        slice_get es p.line ≡ o → All (HasCircuitWire c) (option_to_list o)
    of_line es all None at = All-nil (HasCircuitWire c)
    of_line es all (Some e) at = All-cons (HasCircuitWire c) e []
        (subst (HasCircuitWire c) (get_or_from_slice_get es p.line e e at)
        (all p.line e (slice_get_within es p.line e at)))
        (All-nil (HasCircuitWire c))

    of_module : (o : Option StoredModule) → ((m : StoredModule) → o ≡ Some m → HasCircuitWires c m) →
        All (HasCircuitWire c) (flat_map (λ (m : StoredModule). option_to_list (slice_get m.edges.items p.line))
        (option_to_list o))
    of_module o h1 = grind (arith, common_steps, option_to_list, slice_get, of_line)

pub own_edges_at : (c : Circuit) (ms : List StoredModule) (places : List EdgePlace) → All (HasCircuitWires c) ms →
    All (HasCircuitWire c) (edge_lines_at ms places)
own_edges_at c ms [] own = All-nil (HasCircuitWire c)
own_edges_at c ms (p ∷ places) own =
    All-append (HasCircuitWire c) (edge_lines_at_place ms p) (edge_lines_at ms places) (own_at_place c ms own p)
    (own_edges_at c ms places own)
