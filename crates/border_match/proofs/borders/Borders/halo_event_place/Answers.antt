use Rattle.border_match.proofs.Imports.{Box2, IfSome, None, Option, ShapeView, Some, ap, rules, shift_to_origin, ℕ, ◌∙◌}
use Rattle.border_match.proofs.Imports.{◌≡◌}
use Rattle.lemmas.proofs.Common.{SFits, of_z, to_z, to_z-of_z, w32}
use Rattle.border_match.proofs.Marks.{local_place}
use Rattle.border_match.proofs.borders.Borders.halo_event_place.Goals as goal

told : {P Q : ℕ → Type 0} (o : Option ℕ) → ((k : ℕ) → P k → Q k) → IfSome o P → IfSome o Q
told None f p = p
told (Some k) f p = f k p

pub returns : goal.returns
returns c =
    let j = c.args.self.now.job.now in
    let fx : SFits w32 c.shift_to_origin.result = search rules in
    let fy : SFits w32 c.shift_to_origin-2.result = search rules in
    let left = ap (λ (a : Box2). shift_to_origin a.x) c.area-area.ensures.area in
    let top = ap (λ (a : Box2). shift_to_origin a.y) c.area-area.ensures.area in
    let ex : to_z w32 (of_z w32 c.shift_to_origin.result) ≡ shift_to_origin j.area.x =
    simp to_z-of_z (c.shift_to_origin.ensures.distance_is_exact ∙ left) in
    let ey : to_z w32 (of_z w32 c.shift_to_origin-2.result) ≡ shift_to_origin j.area.y =
    simp to_z-of_z (c.shift_to_origin-2.ensures.distance_is_exact ∙ top) in
    told c.find_event_place.result
    (λ k is. local_place j.area.x j.area.y _ _ c.moved_cell.result j.halos c.halos.result.now
    c.events.result.now c.args.at k ex ey c.moved_cell.ensures c.events.ensures.same_list
    (c.halos.ensures ∙ ap (λ (s : ShapeView). s.halos) (c.deref-shape.ensures ∙ c.shape.ensures)) is)
    c.find_event_place.ensures
