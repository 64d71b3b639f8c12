-- Tables of owners that boxes take one after the other, from blocks to cells
use Rattle.module_box.proofs.Imports.{Box2, HasBlockAtPlace, HasOwnerTableSizes, IsEvenBox, List, OwnersView, TakesBox}
use Rattle.module_box.proofs.Imports.{[], ap, arith, below_or_from, common_steps, div-mul-add, in_box, inl, inr, length}
use Rattle.module_box.proofs.Imports.{mod-mul-add, mul-le-mul_right, owner_of, rectangle, refl, slice_get}
use Rattle.module_box.proofs.Imports.{slice_get_within, slice_index, subst, sym, true, ℕ, ℤ, ◌*◌, ◌+◌, ◌/◌, ◌<◌, ◌∙◌}
use Rattle.module_box.proofs.Imports.{◌≡◌}
use Rattle.lemmas.proofs.Common.{div-add-mod', mod-lt, replicate}
use Rattle.bbm_rule.specs.Boxes.{Tile}
use Rattle.module_box.specs.Tiling.{AreBoxesEvenInside, BoxHoldsCell, IsOwnerTableOf, IsPartialOwnerTable}
use Rattle.module_box.specs.Tiling.{IsTilingOwnerTable, MayAddBox}
use Rattle.module_box.specs.Tiling.{IsInside, PutsBox, block_corner_x, block_corner_y, block_index, no_owner}
use Rattle.module_box.proofs.BoxCells.{halves, in_box_nats, in_rectangle, owner_in_table}
use Rattle.module_box.proofs.NoTilings.{corner_column, corner_row, from_sides}
use Rattle.module_box.proofs.Rising.{pushed}
use Rattle.module_box.proofs.Takings.{among_from}
use Rattle.module_box.proofs.Tilings.{box_down, box_up, none_taken, taken_by_next}

-- the place of the block that has the cell (x, y)
abbrev pub place_of : OwnersView → ℤ → ℤ → ℕ
place_of o x y = block_index y * (o.width / 2) + block_index x

held_at : (boxes : List Box2) (i : ℕ) {x y x' y' : ℤ} (h : BoxHoldsCell boxes x y i) → in_box h.area x' y' ≡ true →
    BoxHoldsCell boxes x' y' i
held_at boxes i h has = record { area = h.area; numbered = h.numbered; has = has }

-- ---- a cell and its block

module _ (o : OwnersView) (t : HasOwnerTableSizes o) where
  -- a box has the cell exactly if it has the block
  pub has_block : (b : Box2) (x y : ℤ) → IsEvenBox b → in_box (rectangle o) x y ≡ true → in_box b x y ≡ true →
      HasBlockAtPlace b (o.width / 2) (place_of o x y)
  has_block b x y even inside here =
      grind (arith, common_steps, in_box_nats, box_down, div-mul-add, mod-mul-add, halves)

  pub has_cell : (b : Box2) (x y : ℤ) → IsEvenBox b → in_box (rectangle o) x y ≡ true →
      HasBlockAtPlace b (o.width / 2) (place_of o x y) → in_box b x y ≡ true
  has_cell b x y even inside here = grind (arith, common_steps, in_box_nats, box_up, div-mul-add, mod-mul-add, halves)

  -- the corner of a block is in the rectangle
  pub corner_inside : (k : ℕ) → k < length o.numbers →
      in_box (rectangle o) (block_corner_x (o.width / 2) k) (block_corner_y (o.width / 2) k) ≡ true
  corner_inside k lt = grind (arith, common_steps, from_sides, corner_column, corner_row)

  -- and each block of a box inside has a place
  pub block_within : (b : Box2) → IsEvenBox b → IsInside o.width o.height b → (k : ℕ) →
      HasBlockAtPlace b (o.width / 2) k → k < length o.numbers
  block_within b even inside k here = grind (arith, common_steps, among_from, div-add-mod', mod-lt, mul-le-mul_right)

  -- ---- the cells of the boxes

  module _ (boxes : List Box2) (each : AreBoxesEvenInside o boxes) (free : ℕ)
      (by : IsOwnerTableOf (o.width / 2) free boxes o.numbers) where
    pub stays : (x y : ℤ) (i : ℕ) → BoxHoldsCell boxes x y i → in_box (rectangle o) x y ≡ true
    stays x y i h = in_rectangle o.width o.height h.area x y (each i h.area h.numbered).1 h.has

    pub owned_cell : (x y : ℤ) (i : ℕ) → BoxHoldsCell boxes x y i → owner_of o x y ≡ i
    unfolding owner_of
    owned_cell x y i h =
        let w = stays x y i h in
        by.owned (place_of o x y) i (owner_in_table o x y t w)
        (held_at boxes i h (has_block h.area x y (each i h.area h.numbered).0 w h.has))

    pub named_cell : (x y : ℤ) → in_box (rectangle o) x y ≡ true → ¬ (owner_of o x y ≡ free) →
        BoxHoldsCell boxes x y (owner_of o x y)
    unfolding owner_of
    named_cell x y w taken =
        let h = by.named (place_of o x y) (owner_in_table o x y t w) taken in
        held_at boxes _ h (has_cell h.area x y (each _ h.area h.numbered).0 w h.has)

    pub none_by_number : (x y : ℤ) → owner_of o x y ≡ free → (i : ℕ) → ¬ BoxHoldsCell boxes x y i
    none_by_number x y e i h =
        let lt = slice_get_within boxes i h.area h.numbered in
        let is = owned_cell x y i h in let few = by.few in
        omega (arith, lt, is, few, e)

    pub owners_by_tile : Tile (rectangle o) boxes → IsTilingOwnerTable o boxes
    owners_by_tile tile = record {
      tile = tile;
      named = λ x y w.
          let c = tile.covered x y w in
          let is = owned_cell x y c.0 (record { area = c.1; numbered = c.2; has = c.3 }) in
          (c.1, ap (slice_get boxes) is ∙ c.2, c.3);
    }

    pub owners_full : ((k : ℕ) → k < length o.numbers → ¬ (slice_index o.numbers k ≡ free)) → IsTilingOwnerTable o boxes
    unfolding owner_of
    owners_full all = owners_by_tile (record {
      covered = λ x y w.
          let h = named_cell x y w (all (place_of o x y) (owner_in_table o x y t w)) in
          (owner_of o x y, h.area, h.numbered, h.has);
      once = λ x y i j b d e f here there.
          sym (owned_cell x y i (record { area = b; numbered = e; has = here }))
          ∙ owned_cell x y j (record { area = d; numbered = f; has = there });
      inside = λ x y i b e h. stays x y i (record { area = b; numbered = e; has = h });
    })

-- ---- one more box

pub puts_box : (o : OwnersView) (b : Box2) → MayAddBox o b → (number stop : ℕ) (new : List ℕ) →
    TakesBox (o.width / 2) b no_owner number stop o.numbers new → PutsBox b number o (record o { numbers = new })
puts_box o b may number stop new takes =
    let w = takes.within in
    let whole : stop ≡ length o.numbers = elim (below_or_from stop (length o.numbers)) [
      | inl lt ↦ absurd (let e = takes.ends lt in e.1 (may.free stop lt e.0))
      | inr le ↦ omega (arith, le, w)
    ] in
    record {
      width = refl;
      height = refl;
      sized = takes.sized;
      blocks = λ k lt here. (takes.taken k (omega (arith, lt, whole)) here).1;
      others = λ k lt not. takes.others k (omega (arith, lt, whole)) not;
      boxes = λ boxes part is few.
          let t = part.table in
          record {
            table = record { width = t.width; height = t.height; sized = takes.sized ∙ t.sized };
            each = λ i d e. elim (pushed boxes b i d e) [
              | inl old ↦ part.each i d old
              | inr last ↦ subst (λ (c : Box2). IsEvenBox c × IsInside o.width o.height c) last.1 (may.even, may.inside)
            ];
            taken = (taken_by_next (o.width / 2) (length o.numbers) no_owner number stop boxes b o.numbers new
                (record {
                  taken = part.taken;
                  bound = omega arith;
                  twice = λ lt. absurd (omega (arith, lt));
                }) is few takes new (takes.sized ∙ sym whole) (λ k lt. refl)).taken;
          };
    }

pub no_box : (o : OwnersView) → HasOwnerTableSizes o → o.numbers ≡ replicate ((o.height / 2) * (o.width / 2)) no_owner →
    IsPartialOwnerTable o []
no_box o t are = grind (arith, common_steps, none_taken)
