use Rattle.certificate.proofs.Imports.{CircuitLine, Gate, List, Some, ap, arith, circuit_of, gate_of}
use Rattle.certificate.proofs.Imports.{CertView, is_inverse, is_kept, length, map, module_lines, modules_of, netlist_of}
use Rattle.certificate.proofs.Imports.{setting_of, slice_get, sym, unkept, ◌∙◌, ◌≡◌}
use Rattle.certificate_lines.proofs.StoredLemmas.{modules_stored}
use Rattle.certificate.proofs.KeepLemmas.{unkept_more, unkept_all}
use Rattle.certificate.proofs.MeantLines.{unkept_gates_meant}
use Rattle.certificate.proofs.cert.Cert.unkept.Goals as goal

pub loop-number-preserved : goal.loop-number-preserved
loop-number-preserved c =
    let s = c.args.self.now in
    let circuit = circuit_of c.self.inside.circuit.now in
    let same = ap (λ s. s.circuit) c.self.view_is in
    let gs : List Gate = (netlist_of s.circuit).gates in
    let count : c.gates-count.result ≡ length gs =
    c.gates-count.ensures.count ∙ ap (λ (l : List CircuitLine). length (netlist_of l).gates) same in
    let at : slice_get gs c.loop-number.number ≡ Some (gate_of c.gate-gate.result) =
    ap (slice_get gs) (sym c.of.ensures)
    ∙ ap (λ (l : List CircuitLine). slice_get (netlist_of l).gates c.of.result) (sym same) ∙ c.gate-gate.ensures in
    let kept : c.is_kept-keeps.result ≡ is_kept (modules_of s.entries) c.loop-number.number =
    c.is_kept-keeps.ensures ∙ c.in_ok-kept.ensures circuit c.loop-number.number
    ∙ ap (λ ms. is_kept (map (module_lines circuit) ms) c.loop-number.number) c.deref.ensures.value
    ∙ ap (λ ms. is_kept ms c.loop-number.number) (sym (modules_stored circuit c.self.inside.modules.items))
    ∙ ap (λ (s : CertView). is_kept (modules_of s.entries) c.loop-number.number) c.self.view_is in
    unkept_more (unkept (setting_of s.circuit s.layout) (modules_of s.entries)) c.loop-number.gates.items
    c.push_if_unkept_inverse.new.gates.items (modules_of s.entries) gs c.loop-number.number
    (gate_of c.gate-gate.result) c.is_inverse.result c.is_kept-keeps.result
    (let test = c.loop-number-test.true in omega (arith, test, count)) at
    (c.is_inverse.ensures ∙ ap is_inverse c.kind.ensures.same_kind) kept c.in_ok-push_if_unkept_inverse.ensures
    c.loop-number.invariant

pub returns : goal.returns
returns c =
    let s = c.args.self.now in
    let same = ap (λ s. s.circuit) c.self.view_is in
    let count : c.gates-count.result ≡ length (netlist_of s.circuit).gates =
    c.gates-count.ensures.count ∙ ap (λ (l : List CircuitLine). length (netlist_of l).gates) same in
    unkept_all (unkept (setting_of s.circuit s.layout) (modules_of s.entries)) c.loop-number.gates.items
    (modules_of s.entries) (netlist_of s.circuit).gates c.loop-number.number
    (let test = c.loop-number-test.false in omega (arith, test, count)) c.loop-number.invariant
    ∙ sym (unkept_gates_meant s.version (setting_of s.circuit s.layout) (modules_of s.entries))
