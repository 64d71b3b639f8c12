use Rattle.border_match.proofs.Imports.{Box2, IsJob, JobView, Some, arc_value, jobs_of, length}
use Rattle.border_match.proofs.Imports.{slice_get, subst, sym, ℕ, ◌+◌, ◌<◌, ◌≡◌, ◌≤◌}
use Rattle.border_match.proofs.Cells.{job_at, owner_within}
use Rattle.border_match.proofs.NearModules.{owner_holds, owner_noted, with_among, with_below, with_keeps}
use Rattle.border_match.proofs.borders.Borders.add_other_owner.Goals as goal
use Rattle.lemmas.specs.Bounds.{max_side}

-- The cells of the box have one owner, whose number is there.
-- the box of a job is within the limits
within_limits : (j : JobView) (a : Box2) → a ≡ j.area → IsJob j → (a.x + a.w ≤ max_side) × (a.y + a.h ≤ max_side)
within_limits j a same good =
    let P : Box2 → Type 0 = λ a. (a.x + a.w ≤ max_side) × (a.y + a.h ≤ max_side) in
    subst P (sym same) (good.width.2, good.height.2)

pub returns : goal.returns
returns c =
    let b = c.args.self.now in
    let x = c.args.cell.x in let y = c.args.cell.y in
    let number = c.owner-number.result in
    let owner = c.deref.result.now in
    let near = c.args.near.now.items in
    let new = c.add_number_once.new.near.items in
    let is = c.in_ok-add_number_once.ensures in
    let lt : number < length b.jobs.now =
    subst (λ (n : ℕ). n < length b.jobs.now) (sym c.owner-number.ensures)
    (owner_within b x y c.requires.borders_ready c.requires.cell_inside) in
    let got : slice_get (jobs_of b) number ≡ Some owner =
    job_at arc_value b.jobs.now number _ owner lt c.deref.ensures in
    let same = c.area.ensures.area in
    record {
      owners_listed = owner_noted b new number owner c.area.result c.requires.borders_ready same got
          (with_among near new number is);
      holds = owner_holds b x y owner c.area.result c.requires.borders_ready c.requires.cell_inside same
          (subst (λ (n : ℕ). slice_get (jobs_of b) n ≡ Some owner) c.owner-number.ensures got);
      fits_max_side = within_limits owner c.area.result same c.area.ensures.job_valid;
      numbers_kept = with_keeps near new number is;
      numbers_exist = with_below b near new number is c.requires.numbers_exist lt;
    }
