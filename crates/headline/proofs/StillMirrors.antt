-- A mirror that touches the rim of its rectangle: its layout computes a circuit, and gets a yes after it is moved
use Rattle.headline.proofs.Imports.{Bool, CircuitLine, Gate, HasNoDelay, HasRoomToMove, IsCorrect, IsDesign, IsReportOf}
use Rattle.headline.proofs.Imports.{IsSmallDesign, List, LooksAsAsked, No, None, Pattern, Satisfies, Source, Spill}
use Rattle.headline.proofs.Imports.{State, TouchesRim, Valuation, [], ap, arith, cell_fault, cells_of}
use Rattle.headline.proofs.Imports.{cells_taken_at_start, codes, common_steps, design_text, false, has_taken_cell}
use Rattle.headline.proofs.Imports.{in_box, in_layout, in_ring, in_span, in_span-negsuc, inl, inr, ints, is_inside}
use Rattle.headline.proofs.Imports.{largest_limit_code, limit_or_name_code, negsuc, number, partner, parts_of, plane_at}
use Rattle.headline.proofs.Imports.{pos, rectangle_cells, refl, row, run, run_under, size_fault, span_from, span_parts}
use Rattle.headline.proofs.Imports.{start, step, subst, suc, sym, takes_cells_at_start, true, turned, zero, ℕ, ℤ, ◌&&◌}
use Rattle.headline.proofs.Imports.{◌+ℤ◌, ◌+◌, ◌-ℤ◌, ◌∙◌, ◌∷◌, ◌≡◌, ◌≤◌}
use Rattle.lemmas.proofs.Common.{next_neg}
use Rattle.bbm_rule.specs.Spans.{in_area}
use Rattle.bbm_rule.proofs.Spans.{even_span, in_span-pos, partner_near}
use Rattle.bbm_rule.proofs.Steps.{step_same}
use Rattle.pattern.specs.Lines.{AreGoodAfter}
use Rattle.bbm_rule.specs.Boxes.{has_neighbour_in_set}
use Rattle.headline.specs.MovedDesigns.{SomeDesignNeedsMove}
use Rattle.headline.proofs.AcceptedTexts.{no_of}
use Rattle.headline.proofs.MovedDesigns.{each_gets_yes}
use Rattle.headline.proofs.SomeReport.{some_report}
use Rattle.headline.proofs.WrittenDesigns.{each_is_decided}
use Rattle.circuit.specs.Bridge.{AreGoodCircuitLines, circuit_of, AreGoodAfter as AreGoodCircuit}

-- a constant that is spilled
abbrev constant : List CircuitLine
constant =
    record { kind = Gate (Source true); ins = []; outs = codes "a" ∷ [] }
    ∷ record { kind = Spill; ins = codes "a" ∷ []; outs = [] } ∷ []

-- a mirror of 2 by 2 cells at column 1 and row 0, for two steps, in a rectangle of 4 by 2 cells
abbrev rim_mirror : Pattern
rim_mirror = record {
  size = record { w = 4; h = 2; steps = 2 };
  mirrors = record { x = 1; y = 0; w = 2; h = 2 } ∷ [];
  balls = [];
  ins = [];
  outs = [];
  wastes = [];
}

-- ---- the mirror stays

abbrev mirror : State
mirror x y = in_area 1 0 2 2 x y

-- the rows of a block are alike
rows_stay : (a b c : Bool) → turned (a && b) (c && b) (c && b) (a && b) ≡ (a && b)
unfolding turned
rows_stay a b c = grind (arith, common_steps)

-- its columns are alike
columns_stay : (a b d : Bool) → turned (a && b) (a && d) (a && b) (a && d) ≡ (a && b)
unfolding turned
columns_stay a b d = grind (arith, common_steps)

beyond : (k : ℕ) → in_span 1 2 (pos (3 + k)) ≡ false
beyond k = grind (arith, common_steps, in_span-pos)

-- the partners of a number beyond the span are not in it
far : (k : ℕ) → in_span 1 2 (partner 1 (pos (4 + k))) ≡ false
far k = elim (partner_near 1 (pos (4 + k))) [
  | inl up ↦ ap (in_span 1 2) (up ∙ above k) ∙ beyond (k + 2)
  | inr down ↦ ap (in_span 1 2) (down ∙ below k) ∙ beyond k
]
  where
    above : (k : ℕ) → pos (4 + k) +ℤ pos 1 ≡ pos (3 + (k + 2))
    above k = omega (arith, ints)

    below : (k : ℕ) → pos (4 + k) -ℤ pos 1 ≡ pos (3 + k)
    below k = omega (arith, ints)

negative : (k : ℕ) → in_span 1 2 (partner 1 (negsuc (suc k))) ≡ false
negative k = grind (arith, common_steps, partner_near, next_neg, in_span-negsuc)

odd_span : (z : ℤ) → in_span 1 2 (partner 1 z) ≡ in_span 1 2 z
unfolding partner in_span
odd_span (pos (suc (suc (suc (suc k))))) = grind (arith, common_steps, far, beyond)
odd_span (negsuc (suc k)) = negative k ∙ sym (in_span-negsuc 1 2 (suc k))
odd_span _ = refl

even_stays : (x y : ℤ) → step 0 mirror x y ≡ mirror x y
unfolding step
even_stays x y = grind (arith, common_steps, even_span, rows_stay)

odd_stays : (x y : ℤ) → step 1 mirror x y ≡ mirror x y
unfolding step
odd_stays x y = grind (arith, common_steps, odd_span, columns_stay)

at_start : (on : List ℕ → Bool) (x y : ℤ) → start rim_mirror on x y ≡ mirror x y
unfolding start in_box
at_start on x y = grind (arith, common_steps)

-- a step of a plane that looks like the mirror
next : (t : ℕ) (s : State) (x y : ℤ) → ((x y : ℤ) → s x y ≡ mirror x y) → step t s x y ≡ step t mirror x y
next t s x y h = grind (arith, common_steps, step_same)

stays : (on : List ℕ → Bool) (t : ℕ) → t ≤ 2 → (x y : ℤ) → plane_at rim_mirror on t x y ≡ mirror x y
unfolding run
stays on zero few x y = at_start on x y
stays on (suc zero) few x y = next 0 (start rim_mirror on) x y (at_start on) ∙ even_stays x y
stays on (suc (suc zero)) few x y = grind (arith, common_steps, next, at_start, even_stays, odd_stays)
stays on (suc (suc (suc t))) few x y = absurd (omega (arith, few))

-- ---- the layout computes the circuit

abbrev always_on : Valuation
always_on w = true

satisfied : (inputs : Valuation) → Satisfies (circuit_of constant).netlist inputs always_on
unfolding number row
satisfied inputs = grind (arith, common_steps)

looks : (value : List ℕ → Bool) (s : State) → ((x y : ℤ) → s x y ≡ mirror x y) → LooksAsAsked rim_mirror value s
unfolding in_box
looks value s same = grind (arith, common_steps)

inside : (x y : ℤ) → mirror x y ≡ true → in_layout rim_mirror.size x y ≡ true
inside x y h = grind (arith, common_steps, span_parts, span_from, in_span-negsuc)

mirror_correct : IsCorrect constant rim_mirror
mirror_correct = record {
  named = record { ins = λ n. refl; outs = λ n. refl };
  implements = λ inputs. record {
    values = always_on;
    satisfied = satisfied inputs;
    looks = λ v ok. looks _ (run_under (circuit_of constant) rim_mirror inputs 2) (stays _ 2 (omega arith));
  };
  stays = λ inputs t few x y live. inside x y (sym (stays _ t few x y) ∙ live);
}

-- ---- its lines keep the rules

constant_good : AreGoodCircuitLines constant
unfolding AreGoodCircuit limit_or_name_code
constant_good = grind (arith, common_steps)

mirror_size : size_fault rim_mirror.size ≡ None
unfolding size_fault
mirror_size = refl

mirror_good : AreGoodAfter rim_mirror.size [] (parts_of rim_mirror)
unfolding takes_cells_at_start cells_taken_at_start cell_fault cells_of is_inside has_taken_cell largest_limit_code
    rectangle_cells
mirror_good = (refl, refl, tt)

mirror_design : IsDesign constant rim_mirror
mirror_design = grind (arith, common_steps, constant_good, mirror_size, mirror_good)

no_delay : HasNoDelay constant
no_delay zero steps a b e = grind (arith, common_steps)
no_delay (suc k) steps a b e = absurd cc

room : HasRoomToMove constant rim_mirror
room = record { wide = omega arith; high = omega arith; short = omega arith; inputs = omega arith; gates = omega arith }

small : IsSmallDesign constant rim_mirror
small = grind (arith, common_steps)

-- ---- it touches its rim

touches : TouchesRim constant rim_mirror
unfolding in_span in_box in_ring has_neighbour_in_set
touches = record {
  inputs = always_on;
  time = 1;
  x = pos 1;
  y = pos 0;
  touch = record { odd = refl; early = omega arith; rim = refl; live = stays _ 1 (omega arith) (pos 1) (pos 0) };
}

pub needs_room : SomeDesignNeedsMove
needs_room =
    let text = design_text constant rim_mirror in
    let r = some_report text in
    let decided = each_is_decided constant rim_mirror r.0 r.1 mirror_design small r.2 in
    let no : r.1 ≡ No = no_of r.1 (λ e. (decided.1.0 e).2 touches) decided.0 in
    record {
      circuit = constant;
      layout = rim_mirror;
      design = mirror_design;
      room = room;
      correct = mirror_correct;
      no_delay = no_delay;
      touches = touches;
      output = r.0;
      reported = subst (IsReportOf text r.0) no r.2;
      gets_yes = each_gets_yes constant rim_mirror mirror_design room mirror_correct no_delay;
    }
