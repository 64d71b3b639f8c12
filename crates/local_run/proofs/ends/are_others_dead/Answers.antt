use Rattle.local_run.proofs.Imports.{Planes, ap, ap₂, arith, refl, ◌*◌, ◌+◌, ◌/◌, ◌∙◌, ◌≡◌}
use Rattle.local_run.proofs.QuietLemmas.{number_below}
use Rattle.local_run.proofs.ends.are_others_dead.Goals as goal

pub returns : goal.returns
returns c = λ all x y lx ly must.
    let j = c.args.job.now in
    let long : c.cells_per_plane-cells.result ≡ (j.area.w / 2 + 1) * (j.area.h / 2 + 1) =
    c.cells_per_plane-cells.ensures.count_is_exact ∙ ap (λ (p : Planes). p.stride * p.rows) c.planes.ensures
    ∙ ap₂ (λ s r. s * r) c.requires.shows.size.1 c.requires.shows.size.2 in
    let below = number_below j.area (1 + x) (1 + y) c.requires.job_ready.job.even.w c.requires.job_ready.job.even.h
    (omega arith) (omega arith) in
    c.loop-k.invariant (1 + x) (1 + y) (omega arith) (omega arith) (omega (arith, below, long)) x y refl refl lx ly must
