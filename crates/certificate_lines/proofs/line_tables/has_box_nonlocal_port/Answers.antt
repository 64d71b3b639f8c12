use Rattle.certificate_lines.proofs.Imports.{ap, ap₂, arith, is_nonlocal_signal, port_at, pos, rectangle_cells, refl}
use Rattle.certificate_lines.proofs.Imports.{sym, ◌+◌, ◌||◌, ◌∙◌}
use Rattle.certificate_lines.proofs.TableLemmas.{none_in_rows, rows_named}
use Rattle.certificate_lines.proofs.line_tables.has_box_nonlocal_port.Goals as goal

pub loop-y-preserved : goal.loop-y-preserved
loop-y-preserved c =
    ap₂ (λ a b. a || b) c.loop-y.invariant c.has_row_nonlocal_port-lacks.ensures
    ∙ rows_named (λ d. is_nonlocal_signal c.args.ports.now.circuit c.args.known.now.wires
    (port_at c.args.ports.now.ports d.x d.y)) c.args.area.x c.args.area.w c.args.area.y c.loop-y.y (omega arith)

pub returns-then-are_rows_without_port : goal.returns-then-are_rows_without_port
unfolding rectangle_cells
returns-then-are_rows_without_port c =
    let b = c.args.area in
    let circuit = c.args.ports.now.circuit in
    let known = c.args.known.now.wires in
    sym (none_in_rows (λ d. is_nonlocal_signal circuit known (port_at c.args.ports.now.ports d.x d.y)) b.x b.w b.y b.h
    (λ m k lm lk. ap (is_nonlocal_signal circuit known) (c.if-are_rows_without_port.ensures refl m lm (pos (b.x + k)))))
