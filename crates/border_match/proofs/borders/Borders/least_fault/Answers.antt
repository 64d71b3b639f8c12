use Rattle.border_match.proofs.Imports.{AreHaloEventMarks, subst, sym, ◌∙◌}
use Rattle.border_match.proofs.Least.{least_by_three}
use Rattle.border_match.proofs.Marks.{fault_unmarked, written_back}
use Rattle.border_match.proofs.borders.Borders.least_fault.Goals as goal

pub returns : goal.returns
returns c =
    let b = c.args.self.now in
    let marked = c.least_with_edges_of_modules-by_edges.ensures.marked in
    let back = written_back c.least_with_edges_of_modules-by_edges.new.seen _ c.deref-2.result.now c.in_ok-seen.seen.len
    (c.in_ok-seen.ensures.len ∙ c.halo_event_count.ensures ∙ sym marked.sized) c.deref-2.ensures.value in
    least_by_three _ _ _ _ _ _ _ c.least_with_edges_of_modules-by_edges.ensures.better
    c.least_with_unmarked_halo_events-by_halo.ensures
    c.least_with_star_faults.ensures
    (λ h f. fault_unmarked b c.deref-2.result.now h c.requires.borders_ready
    (subst (AreHaloEventMarks b) back marked) f)
