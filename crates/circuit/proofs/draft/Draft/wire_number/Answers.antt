-- The wire at the place of a guess has the name that stands there.
use Rattle.circuit.proofs.Imports.{AreGoodCircuitLines, CircuitLine, List, Some, ap, defined, has, number, refl}
use Rattle.circuit.proofs.Imports.{slice_get, subst, sym, true, ℕ, ◌∙◌, ◌≡◌}
use Rattle.circuit.specs.DraftView.{DraftView}
use Rattle.circuit.proofs.Naming.{wires_are_own}
use Rattle.circuit.proofs.Places.{position_number}
use Rattle.circuit.proofs.draft.Draft.wire_number.Goals as goal

-- the names of a draft are those of its lines
own_at : (keys : List (List ℕ)) (items lines : List CircuitLine) (place : ℕ) (name : List ℕ) → keys ≡ defined items →
    items ≡ lines → AreGoodCircuitLines items → slice_get keys place ≡ Some name →
    (number (defined lines) name ≡ place) × (has (defined lines) name ≡ true)
own_at keys items lines place name are same good at =
    wires_are_own lines (subst AreGoodCircuitLines same good) place name
    (sym (ap (λ l. slice_get l place) (are ∙ ap defined same)) ∙ at)

pub returns-then-is_name_at-clause-number : goal.returns-then-is_name_at-clause-number
returns-then-is_name_at-clause-number c =
    let own = own_at c.as_slice.result.now c.self.inside.entries.items c.args.self.now.lines c.guess-likely.result
    c.args.name.now (c.as_slice.ensures.keys ∙ c.self.invariant.wires)
    (ap (λ (d : DraftView). d.lines) c.self.view_is) c.self.invariant.good
    (c.if-is_name_at.ensures.name refl) in
    ap (λ k. Some k) (sym own.0) ∙ sym (position_number (defined c.args.self.now.lines) c.args.name.now own.1)

pub returns-then-is_name_at-clause-found : goal.returns-then-is_name_at-clause-found
returns-then-is_name_at-clause-found c =
    let own = own_at c.as_slice.result.now c.self.inside.entries.items c.args.self.now.lines c.guess-likely.result
    c.args.name.now (c.as_slice.ensures.keys ∙ c.self.invariant.wires)
    (ap (λ (d : DraftView). d.lines) c.self.view_is) c.self.invariant.good
    (c.if-is_name_at.ensures.name refl) in
    sym own.1
