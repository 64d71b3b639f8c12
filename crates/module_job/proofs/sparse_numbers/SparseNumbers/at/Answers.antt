use Rattle.module_job.proofs.Imports.{ap, arith, common_steps, length, slice_get, sym, unwrap_or, unwrap_or-slice_get}
use Rattle.module_job.proofs.Imports.{◌*◌, ◌+◌, ◌<◌, ◌∙◌, ◌≡◌}
use Rattle.lemmas.proofs.Common.{get_or_read}
use Rattle.module_job.specs.SparseNumbers.{sparse_view}
use Rattle.module_job.proofs.SparseLists.{count_numbers, none_left, none_there, number_found, past, rank}
use Rattle.module_job.proofs.sparse_numbers.SparseNumbers.at.Goals as goal

pub returns-then-self-place : goal.returns-then-self-place
returns-then-self-place c = grind (arith, common_steps, past)

pub returns-then-not-is_marked : goal.returns-then-not-is_marked
returns-then-not-is_marked c = grind (arith, common_steps, unwrap_or-slice_get)

pub returns-then-index-place : goal.returns-then-index-place
returns-then-index-place c =
    let a = c.self.inside in
    let ns = sparse_view a in
    let lt : c.args.place < length ns = omega (arith, c.if-self-place.false, count_numbers a.count 0 a.entries.items) in
    let start : 2 * c.count_entries_before-at.result ≡ rank c.args.place ns =
    c.count_entries_before-at.ensures.length_prefixed ns (c.deref-2.ensures.value ∙ c.self.invariant.entries) in
    let size = ap length c.deref-2.ensures.value in
    let long : 2 * c.count_entries_before-at.result + 1 < length a.entries.items =
    omega (arith, size, c.deref-2.ensures.len, c.len-2.ensures, c.if-at-len.true) in
    let here = get_or_read a.entries.items _ _ (omega (arith, long)) c.index.ensures 0 in
    let next = get_or_read a.entries.items _ _ long c.index-then-index-place.ensures 0 in
    next
    ∙ number_found c.args.place (2 * c.count_entries_before-at.result) ns a.entries.items lt c.self.invariant.entries
    start
    (sym here ∙ c.if-index-place.true)
    ∙ ap (λ l. unwrap_or (slice_get l c.args.place) 0) c.self.view_is

pub returns : goal.returns
returns c = grind (arith, common_steps, count_numbers, rank, get_or_read, none_there, none_left)
