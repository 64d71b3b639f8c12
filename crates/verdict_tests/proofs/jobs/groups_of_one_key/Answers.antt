use Rattle.lemmas.proofs.Common.{◌∙◌, ◌≡◌, List, ap, map, subst, sym, ℕ, arc_value, take_all}
use Rattle.module_job.specs.Groups.{AreKeys}
use Rattle.module_job.proofs.FirstShapes.{made_keys, map_twice}
use Rattle.verdict_tests.proofs.jobs.groups_of_one_key.Goals as goal

pub shape_groups-requires : goal.shape_groups-requires
shape_groups-requires c =
    let shapes = c.args.shapes.now in
    let all = take_all c.loop.index shapes c.loop-test.false in
    let keys : c.as_slice.result.now ≡ map (λ _. c.args.key) (map arc_value shapes) =
    c.as_slice.ensures.value ∙ c.loop.invariant ∙ ap (map (λ _. c.args.key)) all
    ∙ sym (map_twice arc_value (λ _. c.args.key) shapes) in
    subst (λ (ks : List (List ℕ)). AreKeys (map arc_value shapes) ks) (sym keys)
    (made_keys (map arc_value shapes) (λ _. c.args.key))
