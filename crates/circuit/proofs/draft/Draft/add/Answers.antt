use Rattle.circuit.proofs.Imports.{CircuitLine, IsNoInputAfterGate, List, None, [], ap, arith, common_steps}
use Rattle.circuit.proofs.Imports.{consume_fault, consumed, define_fault, defined, exceeds_largest_limit, false}
use Rattle.circuit.proofs.Imports.{gate_of, gate_with_outs_from, length, length-map, map, number, rules, subst, sym}
use Rattle.circuit.proofs.Imports.{take, with_marks_set, ℕ, ◌++◌, ◌∙◌, ◌∷◌, ◌≡◌}
use Rattle.circuit.specs.DraftView.{DraftView}
use Rattle.circuit.proofs.Drafts.{added}
use Rattle.circuit.proofs.WireMarks.{marks_reach}
use Rattle.circuit.proofs.draft.Draft.add.Goals as goal

pub mark_wires_consumed-requires : goal.mark_wires_consumed-requires
mark_wires_consumed-requires c = grind (arith, common_steps, length-map, marks_reach)

pub invariant_of-self-then-is_gate : goal.invariant_of-self-then-is_gate
invariant_of-self-then-is_gate c =
    let entries : c.push_line_and_gate.new.entries.items ≡ c.self.inside.entries.items ++ c.args.entry ∷ [] =
    search rules in
    let wires : c.define_wires.new.wires.keys ≡ c.self.inside.wires.keys ++ c.args.entry.outs = search rules in
    let outs_pass : define_fault c.self.inside.wires.keys c.args.entry.outs ≡ None = search rules in
    let wired : map gate_of c.push_line_and_gate.new.wired.items
    ≡ map gate_of c.self.inside.wired.items
    ++ gate_with_outs_from c.args.entry.kind c.in-Ok.ins (length c.self.inside.wires.keys) = search rules in
    let used : c.mark_wires_consumed.new.consumed.items ≡ with_marks_set (take (length c.args.entry.ins) c.in-Ok.ins)
    (c.self.inside.consumed.items ++ map (λ (n : List ℕ). false) c.args.entry.outs) = search rules in
    let lines_are = ap (λ (d : DraftView). d.lines) c.self.view_is in
    let entries_are = sym lines_are in
    added c.self.inside _ c.args.entry c.in-Ok.ins c.self.invariant (record {
      entries = entries;
      wires = wires;
      used = used;
      limit = ap (λ (l : List CircuitLine). exceeds_largest_limit l c.args.entry) lines_are
          ∙ sym c.if-exceeds_largest_limit.ensures;
      ins_pass = subst (λ (l : List CircuitLine). consume_fault (defined l) (consumed l) c.args.entry.ins ≡ None)
          entries_are (search rules);
      outs_pass = outs_pass;
      fits = c.requires.fits;
      inputs_first = subst (λ (l : List CircuitLine). IsNoInputAfterGate l c.args.entry) entries_are
          c.requires.inputs_first;
      numbered = subst (λ (l : List CircuitLine).
          take (length c.args.entry.ins) c.in-Ok.ins ≡ map (number (defined l)) c.args.entry.ins)
          entries_are (search rules);
      wired = wired;
      gates = search rules;
    })

pub invariant_of-self-else-is_gate : goal.invariant_of-self-else-is_gate
invariant_of-self-else-is_gate c =
    let entries : c.push_line_and_gate.new.entries.items ≡ c.self.inside.entries.items ++ c.args.entry ∷ [] =
    search rules in
    let wires : c.define_wires.new.wires.keys ≡ c.self.inside.wires.keys ++ c.args.entry.outs = search rules in
    let outs_pass : define_fault c.self.inside.wires.keys c.args.entry.outs ≡ None = search rules in
    let wired : map gate_of c.push_line_and_gate.new.wired.items
    ≡ map gate_of c.self.inside.wired.items
    ++ gate_with_outs_from c.args.entry.kind c.in-Ok.ins (length c.self.inside.wires.keys) = search rules in
    let used : c.mark_wires_consumed.new.consumed.items ≡ with_marks_set (take (length c.args.entry.ins) c.in-Ok.ins)
    (c.self.inside.consumed.items ++ map (λ (n : List ℕ). false) c.args.entry.outs) = search rules in
    let lines_are = ap (λ (d : DraftView). d.lines) c.self.view_is in
    let entries_are = sym lines_are in
    added c.self.inside _ c.args.entry c.in-Ok.ins c.self.invariant (record {
      entries = entries;
      wires = wires;
      used = used;
      limit = ap (λ (l : List CircuitLine). exceeds_largest_limit l c.args.entry) lines_are
          ∙ sym c.if-exceeds_largest_limit.ensures;
      ins_pass = subst (λ (l : List CircuitLine). consume_fault (defined l) (consumed l) c.args.entry.ins ≡ None)
          entries_are (search rules);
      outs_pass = outs_pass;
      fits = c.requires.fits;
      inputs_first = subst (λ (l : List CircuitLine). IsNoInputAfterGate l c.args.entry) entries_are
          c.requires.inputs_first;
      numbered = subst (λ (l : List CircuitLine).
          take (length c.args.entry.ins) c.in-Ok.ins ≡ map (number (defined l)) c.args.entry.ins)
          entries_are (search rules);
      wired = wired;
      gates = search rules;
    })
