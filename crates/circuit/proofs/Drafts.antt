-- A draft with one more line.
use Rattle.circuit.proofs.Imports.{Bool, CircuitLine, HasNameCountOfKind, IsNoInputAfterGate, List, None, Some, []}
use Rattle.circuit.proofs.Imports.{arith, bytes_eq, common_steps, cond, consume_fault, consumed, define_fault, defined}
use Rattle.circuit.proofs.Imports.{exceeds_largest_limit, false, gate_count, gate_of, gate_with_outs_from, get_or, has}
use Rattle.circuit.proofs.Imports.{is_gate, length, limit_or_name_code, map, number, position, take, true}
use Rattle.circuit.proofs.Imports.{with_marks_set, ℕ, ◌++◌, ◌+◌, ◌∷◌, ◌≡◌, ◌≤◌}
use Rattle.lemmas.proofs.Common.{◌&&◌, nat_le, leb-false, ltb-false, or_parts}
use Rattle.circuit.specs.declared.draft.Draft.TheInside.{Inside}
use Rattle.circuit.specs.DraftView.{AreDraftFields}
use Rattle.circuit.proofs.Bridging.{gates_push, good_push, defined_push, count_append}
use Rattle.circuit.proofs.Places.{found_number}
use Rattle.circuit.proofs.WireMarks.{mark_read, marks_push}
use Rattle.lemmas.specs.Bounds.{max_gates, max_wires}

no_fault : (entries : List CircuitLine) (r : CircuitLine) → exceeds_largest_limit entries r ≡ false →
    consume_fault (defined entries) (consumed entries) r.ins ≡ None → define_fault (defined entries) r.outs ≡ None →
    limit_or_name_code entries r ≡ None
unfolding limit_or_name_code
no_fault entries r limit ins outs = rw (limit, ins) outs

-- what is known of the new fields
pub record Added (a b : Inside) (r : CircuitLine) (numbers : List ℕ) : Type 0 where
  pub entries : b.entries.items ≡ a.entries.items ++ r ∷ []
  pub wires : b.wires.keys ≡ a.wires.keys ++ r.outs
  pub used : b.consumed.items ≡ with_marks_set (take (length r.ins) numbers)
      (a.consumed.items ++ map (λ _. false) r.outs)
  pub limit : exceeds_largest_limit a.entries.items r ≡ false
  pub ins_pass : consume_fault (defined a.entries.items) (consumed a.entries.items) r.ins ≡ None
  pub outs_pass : define_fault a.wires.keys r.outs ≡ None
  pub fits : HasNameCountOfKind r
  pub inputs_first : IsNoInputAfterGate a.entries.items r
  pub numbered : take (length r.ins) numbers ≡ map (number (defined a.entries.items)) r.ins
  pub wired : map gate_of b.wired.items
      ≡ map gate_of a.wired.items ++ gate_with_outs_from r.kind numbers (length a.wires.keys)
  pub gates : b.gates ≡ a.gates + cond (is_gate r.kind) 1 0

few : (entries : List CircuitLine) (r : CircuitLine) → exceeds_largest_limit entries r ≡ false →
    (length (defined entries) + length r.outs ≤ max_wires)
    × ((is_gate r.kind && nat_le max_gates (gate_count entries)) ≡ false)
few entries r e = grind (arith, common_steps, or_parts, ltb-false)

few_more : (b : Bool) (n : ℕ) → (b && nat_le max_gates n) ≡ false → n ≤ max_gates → n + cond b 1 0 ≤ max_gates
few_more true n e h = let l = leb-false max_gates n e in omega arith
few_more false n e h = omega arith

pub added : (a b : Inside) (r : CircuitLine) (numbers : List ℕ) → AreDraftFields a → Added a b r numbers →
    AreDraftFields b
added a b r numbers is new =
    grind (arith, common_steps, no_fault, good_push, few, count_append, defined_push, marks_push, few_more, gates_push)

-- the mark that is read by the number of a name
pub mark_of_line : (a : Inside) (entries : List CircuitLine) → AreDraftFields a → a.entries.items ≡ entries →
    (n : List ℕ) (i : ℕ) (b : Bool) → has (defined entries) n ≡ true →
    Some i ≡ position (bytes_eq n) a.wires.keys → b ≡ get_or a.consumed.items i b → b ≡ has (consumed entries) n
mark_of_line a entries is same n i b known at read = grind (arith, common_steps, mark_read, found_number)
