use Rattle.circuit.proofs.Imports.{CircuitLine, Gate, GateWires, List, Option, ap, ap₂, arith, defined, gate_of}
use Rattle.circuit.proofs.Imports.{gates_of, get_or, length, length-map, map, option_map, refl, slice_get}
use Rattle.circuit.proofs.Imports.{slice_get-map, slice_get_read, sym, ◌<◌, ◌∙◌, ◌≡◌}
use Rattle.circuit.proofs.netlist.Circuit.gate.Goals as goal

pub bounds-as_slice-number : goal.bounds-as_slice-number
bounds-as_slice-number c =
    let same : map gate_of c.self.inside.wired.items ≡ gates_of (defined c.args.self.now) c.args.self.now =
    c.self.invariant.wired ∙ ap (λ (l : List CircuitLine). gates_of (defined l) l) c.self.view_is in
    omega (
      arith,
      c.number.ensures,
      c.requires,
      length-map c.self.inside.wired.items gate_of,
      ap length same,
      ap length c.as_slice.ensures.value,
    )

pub returns : goal.returns
returns c =
    let kept : List GateWires = c.self.inside.wired.items in
    let same : map gate_of kept ≡ gates_of (defined c.args.self.now) c.args.self.now =
    c.self.invariant.wired ∙ ap (λ (l : List CircuitLine). gates_of (defined l) l) c.self.view_is in
    let within : c.args.gate < length kept = omega (arith, c.requires, length-map kept gate_of, ap length same) in
    let is : c.index-as_slice-number.result ≡ get_or kept c.args.gate c.index-as_slice-number.result =
    c.index-as_slice-number.is ∙ ap₂
    (λ (l : List GateWires) k. get_or l k c.index-as_slice-number.result) c.as_slice.ensures.value c.number.ensures in
    ap (λ (gs : List Gate). slice_get gs c.args.gate) (sym same) ∙ slice_get-map gate_of kept c.args.gate
    ∙ ap (λ (o : Option GateWires). option_map gate_of o)
    (slice_get_read kept (length kept) c.args.gate c.index-as_slice-number.result refl within is)
