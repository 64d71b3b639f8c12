use Rattle.circuit.proofs.Imports.{ap, sym, words_of, ◌∙◌}
use Rattle.section_text.specs.Feeds.{line_bytes}
use Rattle.circuit.proofs.GateLines.{gate_entry_is, gate_of}
use Rattle.circuit.proofs.form.gate_entry_of.Goals as goal

pub returns-in_err-ins : goal.returns-in_err-ins
returns-in_err-ins c = rw c.from_residual-in_err-ins.ensures
    (ap (gate_of c.in_ok-kind.kind) c.in_err-ins.ensures
    ∙ gate_entry_is (words_of (line_bytes c.args.feed.now c.args.line.now)) c.in_ok-kind.kind _ _ _
    c.words_before_names-from.ensures.count c.ins.ensures.count c.outs.ensures.count
    (sym c.gate_kind_of.ensures ∙ c.in_ok-kind.was))

pub returns : goal.returns
returns c =
    ap (gate_of c.in_ok-kind.kind) c.in_ok-ins.ensures
    ∙ gate_entry_is (words_of (line_bytes c.args.feed.now c.args.line.now)) c.in_ok-kind.kind _ _ _
    c.words_before_names-from.ensures.count c.ins.ensures.count c.outs.ensures.count
    (sym c.gate_kind_of.ensures ∙ c.in_ok-kind.was)
