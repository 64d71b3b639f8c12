use Rattle.module_box.proofs.Imports.{HasOwnerTableSizes, OwnersView, ap, arith, common_steps, length, refl}
use Rattle.module_box.proofs.Imports.{slice_get-get_or, slice_get_within, slice_index, take, ℕ, ◌*◌, ◌/◌, ◌<◌, ◌∙◌, ◌≡◌}
use Rattle.lemmas.proofs.Common.{with_items_is}
use Rattle.module_box.proofs.PartOwners.{owners_full}
use Rattle.module_box.proofs.Tilings.{all_inside, bad_block, none_taken, taken_by_all, taken_by_place}
use Rattle.module_box.proofs.Tilings.{taken_gap, taken_twice}
use Rattle.module_box.proofs.tile.owner_table.Goals as goal

pub fill_box_until_taken-kept-requires-clause-even : goal.fill_box_until_taken-kept-requires-clause-even
fill_box_until_taken-kept-requires-clause-even c =
    c.requires.even c.loop-number.number _
    (slice_get-get_or c.args.boxes.now c.loop-number.number _ c.loop-number-test.true)

pub fill_box_until_taken-kept-requires-clause-fits : goal.fill_box_until_taken-kept-requires-clause-fits
fill_box_until_taken-kept-requires-clause-fits c = grind (arith, common_steps, slice_get-get_or)

pub loop-number-init : goal.loop-number-init
loop-number-init c = none_taken _ _ _ _ (c.in_ok-numbers.ensures.items_if_clones_equal (λ y h. h))

pub loop-number-preserved : goal.loop-number-preserved
loop-number-preserved c =
    let takes = rw c.deref_mut.ensures.value at c.fill_box_until_taken-kept.ensures in
    let long : length c.fill_box_until_taken-kept.new.table ≡ length c.loop-number.numbers.items =
    omega (arith, ap length c.deref_mut.ensures.value) in
    let items = with_items_is c.loop-number.numbers c.fill_box_until_taken-kept.new.table
    (omega (arith, c.loop-number.numbers.ok.0)) in
    taken_by_place (c.args.width / 2)
    (c.args.height / 2 * (c.args.width / 2)) c.loop-number.number c.fill_box_until_taken-kept.result c.args.boxes.now _
    c.loop-number.numbers.items c.fill_box_until_taken-kept.new.table c.truncate.new.self.items
    c.loop-number.invariant c.loop-number-test.true
    (slice_get-get_or c.args.boxes.now c.loop-number.number _ c.loop-number-test.true) takes
    (c.truncate.ensures.items ∙ ap (take c.fill_box_until_taken-kept.result) items)

pub returns-then-gap-len : goal.returns-then-gap-len
returns-then-gap-len c =
    let columns = c.args.width / 2 in
    let blocks = c.args.height / 2 * (c.args.width / 2) in
    let place = c.first_free_place-gap.result in
    let table = c.loop-number.numbers.items in
    let free = rw c.deref.ensures.value at c.first_free_place-gap.ensures in
    let t = taken_by_all columns blocks
    (length c.args.boxes.now) c.loop-number.number c.args.boxes.now table c.loop-number.invariant (omega arith) in
    let lt : place < length table = omega (arith, c.loop-number.numbers.ok.0) in
    let within : place < blocks = (let b = t.bound in omega (arith, b, lt)) in (
      bad_block c.args.width c.args.height place c.args.boxes.now table c.block_corner.result
          (all_inside _ _ _ _ c.first_box_outside-outside.ensures.earlier_boxes_inside c.if-outside-boxes.false) within
          t (omega (arith, lt)) free.earlier_places_taken c.block_corner.ensures,
      taken_gap columns blocks (length c.args.boxes.now) place c.args.boxes.now table c.block_corner.result t lt
          (free.found_place_free lt) c.block_corner.ensures,
    )

pub returns-then-len-blocks : goal.returns-then-len-blocks
returns-then-len-blocks c =
    let columns = c.args.width / 2 in
    let blocks = c.args.height / 2 * (c.args.width / 2) in
    let place = c.len-then-len-blocks.result in
    let table = c.loop-number.numbers.items in
    let free = rw c.deref.ensures.value at c.first_free_place-gap.ensures in
    let t = taken_by_all columns blocks
    (length c.args.boxes.now) c.loop-number.number c.args.boxes.now table c.loop-number.invariant (omega arith) in
    let long : place ≡ length table = omega (arith, c.loop-number.numbers.ok.0) in
    let within : place < blocks = omega arith in
    let full : (k : ℕ) → k < place → ¬ (slice_index table k ≡ length c.args.boxes.now) =
    λ k p. free.earlier_places_taken k (omega arith) in (
      bad_block c.args.width c.args.height place c.args.boxes.now table c.block_corner-then-len-blocks.result
          (all_inside _ _ _ _ c.first_box_outside-outside.ensures.earlier_boxes_inside c.if-outside-boxes.false) within
          t (omega (arith, long)) full c.block_corner-then-len-blocks.ensures,
      taken_twice columns blocks (length c.args.boxes.now) place c.args.boxes.now table
          c.block_corner-then-len-blocks.result t long within
          c.block_corner-then-len-blocks.ensures,
    )

pub returns : goal.returns
returns c =
    let boxes = c.args.boxes.now in
    let owners_view : OwnersView =
    record { width = c.args.width; height = c.args.height; numbers = c.loop-number.numbers.items } in
    let free = rw c.deref.ensures.value at c.first_free_place-gap.ensures in
    let inside = all_inside _ _ _ boxes c.first_box_outside-outside.ensures.earlier_boxes_inside
    c.if-outside-boxes.false in
    let t = taken_by_all _ _ (length boxes) c.loop-number.number boxes c.loop-number.numbers.items
    c.loop-number.invariant
    (omega arith) in
    let table : HasOwnerTableSizes owners_view = record {
      width = c.requires.width;
      height = c.requires.height;
      sized = (let b = t.bound in omega (arith, b, c.loop-number.numbers.ok.0));
    } in (
      refl,
      refl,
      owners_full owners_view table boxes
          (λ i b e. (c.requires.even i b e, inside i b (slice_get_within boxes i b e) e)) (length boxes) t.taken
          (λ k lt. free.earlier_places_taken k (omega (arith, lt, c.loop-number.numbers.ok.0))),
    )
