-- Whether a job has a fault does not depend on the local valuation that is taken
use Rattle.local_run.proofs.Imports.{AreGatesOrdered, Bool, Contains, Demand, Edge, End, Fault, HasFaultWitness}
use Rattle.local_run.proofs.Imports.{IsDemandWireBelow}
use Rattle.local_run.proofs.Imports.{IsFaultUnderValues, IsJob, IsStopFault, JobView, Kind, List, MeetsDemand, Moment}
use Rattle.local_run.proofs.Imports.{NamesOnlyOwnWires, Stop, Valuation, [], and_from, and_parts, ap, arith, cases_Bool}
use Rattle.local_run.proofs.Imports.{common_steps, false, inl, inr, is_first, is_moment_at, local_run, moment_total}
use Rattle.local_run.proofs.Imports.{props, refl, same_Some, slice_get-get_or, subst, suc, sym, three_ways, true}
use Rattle.local_run.proofs.Imports.{true≢false, wires, zero, ℕ, ℤ, ∥∥₁_elim, ∥∥₁_map, ◌<◌, ◌∙◌, ◌∷◌, ◌≡◌, ◌≢◌, ◌⊎◌}
use Rattle.lemmas.proofs.Common.{eqb-true, nothing_prop}
use Rattle.circuit.proofs.Valuations.{at_most_one}
use Rattle.module_box.specs.LocalValues.{IsLocalValuation}
use Rattle.bbm_rule.proofs.SameCells.{cell_same, cell_itself}
use Rattle.local_run.specs.Laws.{OneValuationDecidesFault}
use Rattle.local_run.proofs.LocalRuns.{AgreeBelow, live_same, run_same}
use Rattle.local_run.proofs.OwnWires.{demand_below}
use Rattle.module_job.specs.declared.job.Stop as listed
use Rattle.module_job.proofs.OwnSignals.{edge_below}

-- ---- the same fault under valuations that agree
meets_same : (n : ℕ) (u u' : Valuation) (d : Demand) (b : Bool) → AgreeBelow n u u' → IsDemandWireBelow n d →
    MeetsDemand u d b → MeetsDemand u' d b
meets_same n u u' d b h1 h2 h3 = grind (arith, common_steps)

own_stop : (j : JobView) (s : listed.Stop) → NamesOnlyOwnWires j → Contains j.stops s → s.wire < wires j.locals.netlist
own_stop j s own h = subst (λ (r : listed.Stop). r.wire < wires j.locals.netlist) h.2 (own.stops h.0 s h.1)

pub fault_same : (j : JobView) (u u' : Valuation) (t : ℕ) (kind : Kind) (x y : ℤ) → NamesOnlyOwnWires j →
    AgreeBelow (wires j.locals.netlist) u u' → IsFaultUnderValues j u t kind x y → IsFaultUnderValues j u' t kind x y
fault_same j u u' t Edge x y own same f = grind (arith, common_steps, run_same, live_same, edge_below)
fault_same j u u' t Stop x y own same f = grind (arith, common_steps, run_same, own_stop)
fault_same j u u' t End x y own same f = grind (arith, common_steps, meets_same, demand_below, run_same)

-- ---- so any local valuation tells
not_prop : (j : JobView) (u : Valuation) (t w : ℕ) (x y : ℤ) → IsProp (local_run j u t x y ≢ u w)
not_prop j u t w x y = Prim.hlevel props

-- a stop at the moment, or none
found_stop : (stops : List listed.Stop) (t : ℕ) (x y : ℤ) →
    ((s : listed.Stop) × Contains stops s × (is_moment_at s.at t x y ≡ true))
    ⊎ ((s : listed.Stop) → Contains stops s → ¬ (is_moment_at s.at t x y ≡ true))
found_stop [] t x y = inr (λ s h e. let lt = h.1 in absurd (omega (arith, lt)))
found_stop (r ∷ stops) t x y = elim (cases_Bool (is_moment_at r.at t x y)) [
  | inl e ↦ inl (r, (zero, omega arith, refl), e)
  | inr n ↦ elim (found_stop stops t x y) [
    | inl f ↦ inl (f.0, (suc f.1.0, (let lt = f.1.1 in omega (arith, lt)), f.1.2), f.2)
    | inr none ↦ inr (λ s h e. later s h e n none)
  ]
]
  where
    later : (s : listed.Stop) → Contains (r ∷ stops) s → is_moment_at s.at t x y ≡ true →
        is_moment_at r.at t x y ≡ false →
        ((q : listed.Stop) → Contains stops q → ¬ (is_moment_at q.at t x y ≡ true)) → ⊥
    later s (zero, lt, is) e n none =
        true≢false (sym e ∙ ap (λ (q : listed.Stop). is_moment_at q.at t x y) (sym is) ∙ n)
    later s (suc k, lt, is) e n none = none s (k, omega (arith, lt), is) e

-- stops at one moment are one stop
one_stop : (j : JobView) (r s : listed.Stop) → IsJob j → Contains j.stops r → Contains j.stops s → r.at ≡ s.at → r ≡ s
one_stop j r s is hr hs same =
    grind (arith, common_steps, slice_get-get_or, three_ways, is_first, moment_total, same_Some)

is_moment : (m : Moment) (t : ℕ) (x y : ℤ) → is_moment_at m t x y ≡ true →
    m ≡ record { time = t; cell = record { x = x; y = y } }
is_moment m t x y h = grind (arith, common_steps, and_parts, eqb-true, cell_same)

then_moment : (j : JobView) (u : Valuation) (t : ℕ) (x y : ℤ) (f : IsStopFault j u t x y) →
    f.stop.at ≡ record { time = t; cell = record { x = x; y = y } }
then_moment j u t x y f i = record { time = f.time i; cell = record { x = f.column i; y = f.row i } }

its_then : (j : JobView) (u : Valuation) (t : ℕ) (x y : ℤ) (f : IsStopFault j u t x y) →
    is_moment_at f.stop.at t x y ≡ true
its_then j u t x y f = grind (arith, common_steps, then_moment, and_from, cell_itself)

-- so a fault of a stop that there is can be found
stop_told : (j : JobView) (u : Valuation) (t : ℕ) (x y : ℤ) → IsJob j → ∥ IsStopFault j u t x y ∥₁ →
    IsStopFault j u t x y
stop_told j u t x y is some = elim (found_stop j.stops t x y) [
  | inl f ↦
      let m = is_moment f.0.at t x y f.2 in
      record {
        stop = f.0;
        is_listed = f.1;
        time = ap (λ (n : Moment). n.time) m;
        column = ap (λ (n : Moment). n.cell.x) m;
        row = ap (λ (n : Moment). n.cell.y) m;
        differs = ∥∥₁_elim some (not_prop j u t f.0.wire x y) (λ g.
            subst (λ (s : listed.Stop). local_run j u t x y ≢ u s.wire)
            (one_stop j g.stop f.0 is g.is_listed f.1 (then_moment j u t x y g ∙ sym m)) g.differs);
      }
  | inr none ↦ absurd (∥∥₁_elim some nothing_prop (λ g. none g.stop g.is_listed (its_then j u t x y g)))
]

told : (j : JobView) (u : Valuation) (t : ℕ) (kind : Kind) (x y : ℤ) → IsJob j →
    ∥ IsFaultUnderValues j u t kind x y ∥₁ → IsFaultUnderValues j u t kind x y
told j u t Stop x y is some = stop_told j u t x y is some
told j u t _ x y is some = ∥∥₁_elim some (Prim.hlevel props) (λ f. f)

moved : (j : JobView) (f : Fault) (u : Valuation) → IsJob j →
    AreGatesOrdered j.locals.netlist.given j.locals.netlist.gates → IsLocalValuation j.locals f.assignment u →
    HasFaultWitness j f → IsFaultUnderValues j u f.time f.kind f.cell.x f.cell.y
moved j f u is ordered local h =
    fault_same j h.values u f.time f.kind f.cell.x f.cell.y is.own
    (λ w l. at_most_one j.locals.netlist _ h.values u ordered h.local local w l) h.differs

pub decided : OneValuationDecidesFault
decided j f u is ordered small local = (
  (λ h. told j u f.time f.kind f.cell.x f.cell.y is (∥∥₁_map h.shown (moved j f u is ordered local))),
  (λ h. record { in_range = small; shown = ∣ record { values = u; local = local; differs = h } ∣₁ }),
)
