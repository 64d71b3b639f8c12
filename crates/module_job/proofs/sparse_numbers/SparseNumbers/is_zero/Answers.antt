use Rattle.module_job.proofs.Imports.{ap, nat_eq, slice_get, sym, unwrap_or, ◌∙◌, ◌≡◌, arith}
use Rattle.bbm_rule.specs.Rows.{cell_at}
use Rattle.module_job.specs.SparseNumbers.{sparse_view}
use Rattle.module_job.proofs.SparseLists.{unmarked_is_zero}
use Rattle.module_job.proofs.sparse_numbers.SparseNumbers.is_zero.Goals as goal

pub returns-then-place-len : goal.returns-then-place-len
returns-then-place-len c =
    let a = c.self.inside in
    let mark : c.is_marked.result ≡ cell_at a.marks.items c.args.place =
    c.is_marked.ensures ∙ ap (λ l. cell_at l c.args.place) c.deref.ensures.value in
    unmarked_is_zero c.is_marked.result (sparse_view a) c.args.place
    (λ none. c.self.invariant.unmarked c.args.place (omega (arith, c.if-place-len.true, c.len.ensures))
    (sym mark ∙ none))
    (λ none. mark ∙ c.self.invariant.marked c.args.place none)
    ∙ ap (λ l. nat_eq (unwrap_or (slice_get l c.args.place) 0) 0) c.self.view_is
