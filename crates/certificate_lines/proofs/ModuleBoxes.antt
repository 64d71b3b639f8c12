-- The boxes of modules in a table of their owners
use Rattle.certificate_lines.proofs.Imports.{Bool, Box2, Cell, CertificateLine, IsEvenBox, List, ModuleLines, None}
use Rattle.certificate_lines.proofs.Imports.{Option}
use Rattle.certificate_lines.proofs.Imports.{Setting, SomethingMissing, ap, ap₂, areas, arith, cases_Bool, code_if}
use Rattle.certificate_lines.proofs.Imports.{common_steps, end_fault, eqb-true, false, false≢true, in_box, inl, inr}
use Rattle.certificate_lines.proofs.Imports.{is_last_module_incomplete, last_module, length, list_all, module_box_code}
use Rattle.certificate_lines.proofs.Imports.{module_line_code, modules_of, nat_eq, not, rectangle, rectangle_cells}
use Rattle.certificate_lines.proofs.Imports.{rectangle_of, slice_get_within, sym, true, whole, ℕ, ℤ, ◌||◌, ◌∙◌, ◌≡◌}
use Rattle.lemmas.proofs.Common.{eq-eqb, false_from_ne_true, same_truth, slice_index}
use Rattle.std.specs.Prelude.{◌/◌, ◌↔◌}
use Rattle.bbm_rule.proofs.RectangleLemmas.{in_box_cells}
use Rattle.module_box.proofs.BoxCells.{owner_in_table}
use Rattle.module_box.proofs.PartOwners.{corner_inside, has_block, named_cell, none_by_number, place_of, stays}
use Rattle.module_box.specs.Tiling.{AreAllBlocksTaken, BoxHoldsCell, IsFreeBox, IsPartialOwnerTable, MayAddBox}
use Rattle.module_box.specs.Tiling.{OwnersView, block_corner_x, block_corner_y, no_owner, owner_of}
use Rattle.section_text.specs.declared.code.RefusalCode.TheVariants.{MisplacedBox}
use Rattle.certificate_lines.specs.BuilderView.{IsModuleOwnerTable}
use Rattle.certificate_lines.specs.Rules.{in_boxes, overlaps_earlier_box}
use Rattle.certificate_lines.proofs.BuiltLemmas.{IsGoodModule, passes_alone}
use Rattle.certificate_lines.proofs.Lists.{any_at, passed}
use Rattle.certificate_lines.proofs.PortLemmas.{cell_passed, cell_passes, cells_pass, has_cell}

-- the number of a box that has the cell
holder : (boxes : List Box2) (x y : ℤ) → in_boxes boxes x y ≡ true → (i : ℕ) × BoxHoldsCell boxes x y i
holder boxes x y h =
    let p = passed (λ (b : Box2). in_box b x y) boxes h in
    (p.place, record { area = p.element; numbered = p.stands; has = p.passes })

module _ (o : OwnersView) (boxes : List Box2) (part : IsPartialOwnerTable o boxes) where
  pub free_box : (b : Box2) → overlaps_earlier_box boxes b ≡ false → IsFreeBox o b
  free_box b over k lt here = elim (cases_Bool (nat_eq (slice_index o.numbers k) no_owner)) [
    | inl e ↦ eqb-true (slice_index o.numbers k) no_owner e
    | inr e ↦ (
        let h = part.taken.named k lt (λ is. false≢true (sym e ∙ eq-eqb (slice_index o.numbers k) no_owner is)) in
        absurd (false≢true (sym over ∙ has_cell (λ c. in_boxes boxes c.x c.y) (rectangle_cells b) _
        (in_box_cells b _ _ ∙ here) (any_at _ boxes _ h.area h.numbered h.has))))
  ]

  pub free_test : (b : Box2) → IsEvenBox b → (r : Bool) → ((r ≡ true) ↔ IsFreeBox o b) →
      overlaps_earlier_box boxes b ≡ not r
  unfolding owner_of
  free_test b even r is = elim (cases_Bool (overlaps_earlier_box boxes b)) [
    | inl over ↦ over ∙ ap not (sym (false_from_ne_true r (λ e.
        let p = cell_passed (λ c. in_boxes boxes c.x c.y) (rectangle_cells b) over in
        let x = p.0.x in let y = p.0.y in
        let h = holder boxes x y p.2 in
        let w = stays o part.table boxes part.each no_owner part.taken x y h.0 h.1 in
        none_by_number o part.table boxes part.each no_owner part.taken x y
        (is.0 e (place_of o x y) (owner_in_table o x y part.table w)
        (has_block o part.table b x y even w (sym (in_box_cells b x y) ∙ p.1))) h.0 h.1)))
    | inr apart ↦ apart ∙ ap not (sym (is.1 (free_box b apart)))
  ]

  pub full_test : (r : Bool) → ((r ≡ true) ↔ AreAllBlocksTaken o) →
      list_all (λ c. in_boxes boxes c.x c.y) (rectangle_cells (rectangle o)) ≡ r
  unfolding owner_of
  full_test r is = same_truth _ _
      (λ all. is.1 (λ k lt e.
      let c : Cell = record { x = block_corner_x (o.width / 2) k; y = block_corner_y (o.width / 2) k } in
      let h = holder boxes c.x c.y (cell_passes (λ d. in_boxes boxes d.x d.y) _ c all
      (in_box_cells (rectangle o) c.x c.y ∙ corner_inside o part.table k lt)) in
      let own = part.taken.owned k h.0 lt h.1 in let few = part.taken.few in
      let lt = slice_get_within boxes h.0 h.1.area h.1.numbered in
      omega (arith, own, e, lt, few)))
      (λ e. cells_pass _ _ (λ c there.
      let w = sym (in_box_cells (rectangle o) c.x c.y) ∙ there in
      let h = named_cell o part.table boxes part.each no_owner part.taken c.x c.y w
      (is.0 e (place_of o c.x c.y) (owner_in_table o c.x c.y part.table w)) in
      any_at _ boxes _ h.area h.numbered h.has))

-- ---- the codes by the table

module _ (g : Setting) (ms : List ModuleLines) (o : OwnersView) (owners : IsModuleOwnerTable g ms o) where
  pub module_code_by : (before : Option ModuleLines) (b : Box2) → module_box_code g (length ms) before b ≡ None →
      (r : Bool) → ((r ≡ true) ↔ IsFreeBox o b) → module_line_code g ms before b ≡ code_if (not r) MisplacedBox
  unfolding module_line_code
  module_code_by before b e r is =
      rw (e) (ap (λ t. code_if t MisplacedBox) (free_test o (areas ms) owners.boxes b
      (passes_alone g (length ms) before b e).box.even r is))

  pub may_put : (before : Option ModuleLines) (b : Box2) → IsGoodModule g ms before b → MayAddBox o b
  may_put before b good = grind (arith, common_steps, free_box)

pub end_by : (g : Setting) (entries : List CertificateLine) (o : OwnersView) →
    IsModuleOwnerTable g (modules_of entries) o → (lacks r : Bool) →
    lacks ≡ is_last_module_incomplete g (last_module entries) → ((r ≡ true) ↔ AreAllBlocksTaken o) →
    end_fault g entries ≡ code_if (lacks || not r) SomethingMissing
unfolding end_fault
end_by g entries o owners lacks r is full =
    let same : whole g.size ≡ rectangle o = ap₂ rectangle_of (sym owners.width) (sym owners.height) in
    ap₂ (λ a b. code_if (a || not b) SomethingMissing) (sym is)
    (ap (λ b. list_all (λ c. in_boxes (areas (modules_of entries)) c.x c.y) (rectangle_cells b)) same
    ∙ full_test o (areas (modules_of entries)) owners.boxes r full)
