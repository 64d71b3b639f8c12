use Rattle.module_job.proofs.Imports.{ap, arith, length, slice_get, sym, unwrap_or, ◌*◌, ◌+◌, ◌<◌, ◌∙◌}
use Rattle.lemmas.proofs.Common.{get_or_read}
use Rattle.module_job.specs.SparseNumbers.{sparse_view}
use Rattle.module_job.proofs.SparseLists.{number_near}
use Rattle.module_job.proofs.sparse_numbers.SparseNumbers.at_near.Goals as goal

pub returns-then-index-place : goal.returns-then-index-place
returns-then-index-place c =
    let a = c.self.inside in
    let long : 2 * c.args.near + 1 < length a.entries.items = omega (arith, c.if-near-len.true, c.len.ensures) in
    let here = get_or_read a.entries.items _ _ (omega (arith, long)) c.index.ensures 0 in
    let next = get_or_read a.entries.items _ _ long c.index-then-index-place.ensures 0 in
    next
    ∙ number_near c.args.place c.args.near (sparse_view a) a.entries.items c.self.invariant.entries long
    (sym here ∙ c.if-index-place.true)
    ∙ ap (λ l. unwrap_or (slice_get l c.args.place) 0) c.self.view_is
