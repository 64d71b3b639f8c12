-- A layout that computes a circuit does so after it is moved
use Rattle.lemmas.proofs.Common.{IsFalse, arith, common_steps}
use Rattle.headline.proofs.Imports.{Bool, Circuit, CircuitLine, HaveNames, IsCorrect, IsDeadOutside, IsNamed, IsTrue}
use Rattle.headline.proofs.Imports.{List, LooksAsAsked, Pattern, Port, Some, State, Valuation, [], ap, circuit_of}
use Rattle.headline.proofs.Imports.{enlarged, has, in_cells, in_layout, in_rectangles, input_names, map, moved}
use Rattle.headline.proofs.Imports.{output_names, port_moved_by_two, pos, refl, run_under, slice_get}
use Rattle.headline.proofs.Imports.{slice_get-map, subst, sym, true, ℕ, ℤ, ◌+ℤ◌, ◌∙◌, ◌∷◌, ◌≡◌}
use Rattle.circuit.specs.Meaning.{values_by_name}
use Rattle.meaning.specs.Implements.{Computes, Implements, in_ports}
use Rattle.headline.proofs.MovedLines.{layout_enlarged}
use Rattle.headline.proofs.MovedPlanes.{any_map, by_moved, cells_moved, is_at_moved, rectangles_moved, run_moved}

-- ---- the names of the ports

names_same : (qs : List Port) → map (λ (q : Port). q.name) (map port_moved_by_two qs) ≡ map (λ (q : Port). q.name) qs
names_same [] = refl
names_same (q ∷ qs) = ap (λ l. q.name ∷ l) (names_same qs)

named_same : (qs : List Port) (names : List (List ℕ)) → HaveNames qs names → HaveNames (map port_moved_by_two qs) names
named_same qs names h n = ap (λ l. has l n) (names_same qs) ∙ h n

pub named_moved : (lines : List CircuitLine) (p : Pattern) → IsNamed lines p → IsNamed lines (moved p)
named_moved lines p h = record {
  ins = named_same p.ins (input_names lines) h.ins;
  outs = named_same p.outs (output_names lines) h.outs;
}

-- ---- the plane at the end

ports_moved : (qs : List Port) (x y : ℤ) →
    in_ports (map port_moved_by_two qs) (x +ℤ pos 2) (y +ℤ pos 2) ≡ in_ports qs x y
ports_moved qs x y = any_map port_moved_by_two _ _ (λ q. is_at_moved q.cell x y) qs

module _ (p : Pattern) (value : List ℕ → Bool) (s s' : State)
    (along : (x y : ℤ) → s' (x +ℤ pos 2) (y +ℤ pos 2) ≡ s x y) (looks : LooksAsAsked p value s) where
  outputs_moved : (i : ℕ) (q : Port) → slice_get (map port_moved_by_two p.outs) i ≡ Some q →
      s' q.cell.x q.cell.y ≡ value q.name
  outputs_moved i q at = grind (arith, common_steps, slice_get-map)

  pub looks_moved : LooksAsAsked (moved p) value s'
  looks_moved = record {
    mirrors = by_moved (λ x y. IsTrue (in_rectangles (moved p).mirrors x y) → IsTrue (s' x y)) (λ x y h.
        subst IsTrue (sym (along x y)) (looks.mirrors x y (subst IsTrue (rectangles_moved p.mirrors x y) h)));
    outputs = outputs_moved;
    elsewhere = by_moved (λ x y. IsFalse (in_rectangles (moved p).mirrors x y) → IsFalse (in_ports (moved p).outs x y) →
        IsFalse (in_cells (moved p).wastes x y) → IsFalse (s' x y)) (
        grind (arith, common_steps, rectangles_moved, ports_moved, cells_moved));
  }

-- ---- all runs

-- the run of the moved layout is the moved run
pub under_moved : (c : Circuit) (p : Pattern) (inputs : Valuation) (t : ℕ) (x y : ℤ) →
    run_under c (moved p) inputs t (x +ℤ pos 2) (y +ℤ pos 2) ≡ run_under c p inputs t x y
under_moved c p inputs t = run_moved p (values_by_name c inputs) t

implements_moved : (c : Circuit) (p : Pattern) → Implements c p → Implements c (moved p)
implements_moved c p h inputs =
    let own : Computes c p inputs = h inputs in
    record {
      values = own.values;
      satisfied = own.satisfied;
      looks = λ v satisfied. looks_moved p (values_by_name c v) (run_under c p inputs p.size.steps)
          (run_under c (moved p) inputs p.size.steps) (under_moved c p inputs p.size.steps) (own.looks v satisfied);
    }

stays_moved : (c : Circuit) (p : Pattern) (inputs : Valuation) (t : ℕ) → IsDeadOutside p.size (run_under c p inputs t) →
    IsDeadOutside (enlarged p.size) (run_under c (moved p) inputs t)
stays_moved c p inputs t inside =
    by_moved (λ x y. run_under c (moved p) inputs t x y ≡ true → in_layout (enlarged p.size) x
    y ≡ true) (λ x y live. layout_enlarged p.size x y (inside x y (sym (under_moved c p inputs t x y) ∙ live)))

-- a layout that computes the circuit does so after it is moved
pub correct_moved : (lines : List CircuitLine) (p : Pattern) → IsCorrect lines p → IsCorrect lines (moved p)
correct_moved lines p h = record {
  named = named_moved lines p h.named;
  implements = implements_moved (circuit_of lines) p h.implements;
  stays = λ inputs t early. stays_moved (circuit_of lines) p inputs t (h.stays inputs t early);
}
