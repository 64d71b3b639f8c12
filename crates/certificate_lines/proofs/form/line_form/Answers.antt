use Rattle.certificate_lines.proofs.Imports.{Bool, None, Some, ap, arith, bytes_eq, codes, common_steps, false, form_of}
use Rattle.certificate_lines.proofs.Imports.{sym, take, true, words_of, ◌∙◌, ◌≡◌}
use Rattle.certificate_lines.proofs.BorderText.{edge_line, halo_line}
use Rattle.certificate_lines.proofs.form.line_form.Goals.{else-not-is_edge-via-else-not-is_edge}
use Rattle.certificate_lines.proofs.form.line_form.Goals.{else-not-is_edge-via-then-not-is_edge+else-not-begins_as_halo}
use Rattle.certificate_lines.proofs.form.line_form.Goals as goal

both : (b : Bool) → b ≡ true → b ≡ false → ⊥
both b h k = cc

pub returns-in_err-border : goal.returns-in_err-border
returns-in_err-border c =
    let l = c.line-bytes.result.now in
    let form : None ≡ form_of (words_of l) = elim c.else-not-is_edge.branch [
      | else-not-is_edge-via-then-not-is_edge+else-not-begins_as_halo b ↦ halo_line l None
          (sym b.begins_as_halo.ensures ∙ b.if-not-begins_as_halo.false) c.in_err-border.ensures
      | else-not-is_edge-via-else-not-is_edge b ↦ edge_line l None
          (sym c.begins_as_edge-is_edge.ensures ∙ b.if-not-is_edge.false) c.in_err-border.ensures
    ] in
    c.from_residual.ensures ∙ form ∙ ap (λ t. form_of (words_of t)) c.line-bytes.ensures

pub returns-then-is_edge : goal.returns-then-is_edge
returns-then-is_edge c =
    edge_line c.line-bytes.result.now (Some c.in_ok-border.border)
    (sym c.begins_as_edge-is_edge.ensures ∙ c.if-is_edge.true) c.in_ok-border.ensures
    ∙ ap (λ t. form_of (words_of t)) c.line-bytes.ensures

pub returns-else-is_edge : goal.returns-else-is_edge
returns-else-is_edge c =
    let l = c.line-bytes.result.now in
    let halo : bytes_eq (take 5 l) (codes "halo ") ≡ true = grind (arith, common_steps, both) in
    halo_line l (Some c.in_ok-border.border) halo c.in_ok-border.ensures
    ∙ ap (λ t. form_of (words_of t)) c.line-bytes.ensures
