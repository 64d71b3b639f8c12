-- The tests of equality answer whether two jobs are equal.
use Rattle.module_job.proofs.Imports.{Bool, Decides, Decides-eqb, Demand, List, None, Option, ShapeView, Some, Stop, ap}
use Rattle.module_job.proofs.Imports.{arith, both, common_steps, job_of_shape, lists, nat_eq, pointwise, refl}
use Rattle.module_job.proofs.Imports.{same_demand, same_job, same_shape, same_signal, shape_of, signal_decides, suc}
use Rattle.module_job.proofs.Imports.{sym, zero, ℕ, ◌&&◌, ◌∙◌, ◌≡◌}
use Rattle.lemmas.proofs.Common.{false, true}
use Rattle.module_box.proofs.EqualTests.{options, cell_decides, signals_decides, locals_decides, netlists_decide}
use Rattle.module_box.specs.Equality.{same_cell}
use Rattle.bbm_rule.specs.declared.block.Box2.{Box2}
use Rattle.module_job.specs.Equality.{same_box, demand_kind_number, demand_wire, same_stop}
use Rattle.module_job.specs.Laws.{JobEqualityDecides, ShapeEqualityDecides}
use Rattle.module_job.proofs.ShapeParts.{shape_placed}
use Rattle.module_job.specs.declared.job.Demand.TheVariants as Demanded
use Rattle.module_job.specs.contracts.job.StopPartialEq.TheImpl as stops

-- the derived test is this
and_apart : (p q r : Bool) → ((p && q) && r) ≡ (p && (q && r))
and_apart p q r = grind (arith, common_steps)

stop_test : (a b : Stop) → stops.eq-value.it a b ≡ same_stop a b
stop_test a b = and_apart (nat_eq a.at.time b.at.time) (same_cell a.at.cell b.at.cell) (nat_eq a.wire b.wire)

-- ---- and they decide

box_decides : (a b : Box2) → Decides (same_box a b) (a ≡ b)
box_decides a b = grind (arith, common_steps, both)

demand_from : ℕ → Option ℕ → Demand
demand_from zero w = Demanded.Dead
demand_from (suc zero) w = Demanded.Live
demand_from (suc (suc zero)) None = Demanded.Any
demand_from (suc (suc zero)) (Some w) = Demanded.Wire w
demand_from (suc (suc (suc n))) w = Demanded.Any

demand_back : (a : Demand) → demand_from (demand_kind_number a) (demand_wire a) ≡ a
unfolding demand_from
demand_back a = grind (arith, common_steps)

pub demand_decides : (a b : Demand) → Decides (same_demand a b) (a ≡ b)
demand_decides a b = grind (arith, common_steps, both, options, demand_back, demand_from)

stop_decides : (a b : Stop) → Decides (same_stop a b) (a ≡ b)
stop_decides a b = grind (arith, common_steps, both, cell_decides)

pub jobs_decide : JobEqualityDecides
jobs_decide j k =
    both _ _
    (both {R = ((((j.area ≡ k.area) × (j.steps ≡ k.steps)) × (j.locals ≡ k.locals))
    × ((j.starts ≡ k.starts) × (j.demands ≡ k.demands))) × ((j.edges ≡ k.edges) × (j.halos ≡ k.halos))} _ _
    (both {R = (((j.area ≡ k.area) × (j.steps ≡ k.steps)) × (j.locals ≡ k.locals))
    × ((j.starts ≡ k.starts) × (j.demands ≡ k.demands))} _ _
    (both {R = ((j.area ≡ k.area) × (j.steps ≡ k.steps)) × (j.locals ≡ k.locals)} _ _
    (both {R = (j.area ≡ k.area) × (j.steps ≡ k.steps)} _ _ (box_decides j.area k.area) (Decides-eqb j.steps k.steps)
    (λ p q. (p, q)) (λ p. p.0) (λ p. p.1))
    (locals_decides j.locals k.locals) (λ p q. (p, q)) (λ p. p.0) (λ p. p.1))
    (both {R = (j.starts ≡ k.starts) × (j.demands ≡ k.demands)} _ _ (lists same_signal signal_decides j.starts k.starts)
    (lists same_demand demand_decides j.demands k.demands) (λ p q. (p, q)) (λ p. p.0) (λ p. p.1))
    (λ p q. (p, q)) (λ p. p.0) (λ p. p.1))
    (both {R = (j.edges ≡ k.edges) × (j.halos ≡ k.halos)} _ _ (signals_decides j.edges k.edges)
    (signals_decides j.halos k.halos) (λ p q. (p, q)) (λ p. p.0) (λ p. p.1))
    (λ p q. (p, q)) (λ p. p.0) (λ p. p.1))
    (both {R = (j.stops ≡ k.stops) × (j.kept ≡ k.kept)} _ _ (lists same_stop stop_decides j.stops k.stops)
    (lists nat_eq Decides-eqb j.kept k.kept) (λ p q. (p, q)) (λ p. p.0) (λ p. p.1))
    (grind (arith, common_steps))
    (λ e. (
      (
        ((ap (λ l. l.area) e, ap (λ l. l.steps) e), ap (λ l. l.locals) e),
        (ap (λ l. l.starts) e, ap (λ l. l.demands) e),
      ),
      (ap (λ l. l.edges) e, ap (λ l. l.halos) e),
    ))
    (λ e. (ap (λ l. l.stops) e, ap (λ l. l.kept) e))

pub shapes_decide : ShapeEqualityDecides
shapes_decide s t =
    both _ _
    (both {R = (((((s.width ≡ t.width) × (s.height ≡ t.height)) × (s.steps ≡ t.steps)) × (s.netlist ≡ t.netlist))
    × ((s.starts ≡ t.starts) × (s.demands ≡ t.demands))) × ((s.edges ≡ t.edges) × (s.halos ≡ t.halos))} _ _
    (both {R = ((((s.width ≡ t.width) × (s.height ≡ t.height)) × (s.steps ≡ t.steps)) × (s.netlist ≡ t.netlist))
    × ((s.starts ≡ t.starts) × (s.demands ≡ t.demands))} _ _
    (both {R = (((s.width ≡ t.width) × (s.height ≡ t.height)) × (s.steps ≡ t.steps)) × (s.netlist ≡ t.netlist)} _ _
    (both {R = ((s.width ≡ t.width) × (s.height ≡ t.height)) × (s.steps ≡ t.steps)} _ _
    (both {R = (s.width ≡ t.width) × (s.height ≡ t.height)} _ _ (Decides-eqb s.width t.width)
    (Decides-eqb s.height t.height) (λ p q. (p, q)) (λ p. p.0) (λ p. p.1))
    (Decides-eqb s.steps t.steps) (λ p q. (p, q)) (λ p. p.0) (λ p. p.1))
    (netlists_decide s.netlist t.netlist) (λ p q. (p, q)) (λ p. p.0) (λ p. p.1))
    (both {R = (s.starts ≡ t.starts) × (s.demands ≡ t.demands)} _ _ (lists same_signal signal_decides s.starts t.starts)
    (lists same_demand demand_decides s.demands t.demands) (λ p q. (p, q)) (λ p. p.0) (λ p. p.1))
    (λ p q. (p, q)) (λ p. p.0) (λ p. p.1))
    (both {R = (s.edges ≡ t.edges) × (s.halos ≡ t.halos)} _ _ (signals_decides s.edges t.edges)
    (signals_decides s.halos t.halos) (λ p q. (p, q)) (λ p. p.0) (λ p. p.1))
    (λ p q. (p, q)) (λ p. p.0) (λ p. p.1))
    (both {R = (s.stops ≡ t.stops) × (s.kept ≡ t.kept)} _ _ (lists same_stop stop_decides s.stops t.stops)
    (lists nat_eq Decides-eqb s.kept t.kept) (λ p q. (p, q)) (λ p. p.0) (λ p. p.1))
    (grind (arith, common_steps))
    (λ e. (
      (
        (((ap (λ l. l.width) e, ap (λ l. l.height) e), ap (λ l. l.steps) e), ap (λ l. l.netlist) e),
        (ap (λ l. l.starts) e, ap (λ l. l.demands) e),
      ),
      (ap (λ l. l.edges) e, ap (λ l. l.halos) e),
    ))
    (λ e. (ap (λ l. l.stops) e, ap (λ l. l.kept) e))

-- ---- two jobs are the same exactly where corner, wires, gates and shape are

-- two tests of the same fact
one_fact : {P : Type 0} (a b : Bool) → Decides a P → Decides b P → a ≡ b
one_fact true true d e = refl
one_fact false false d e = refl
one_fact true false d e = grind (arith, common_steps)
one_fact false true d e = grind (arith, common_steps)

parts_decide : (x y x' y' : ℕ) (ws gs ws' gs' : List ℕ) (s t : ShapeView) →
    Decides ((((nat_eq x x' && nat_eq y y') && pointwise nat_eq ws ws') && pointwise nat_eq gs gs') && same_shape s t)
    (job_of_shape x y ws gs s ≡ job_of_shape x' y' ws' gs' t)
parts_decide x y x' y' ws gs ws' gs' s t =
    both _ _
    (both {R = (((x ≡ x') × (y ≡ y')) × (ws ≡ ws')) × (gs ≡ gs')} _ _
    (both {R = ((x ≡ x') × (y ≡ y')) × (ws ≡ ws')} _ _
    (both {R = (x ≡ x') × (y ≡ y')} _ _ (Decides-eqb x x') (Decides-eqb y y') (λ p q. (p, q)) (λ p. p.0) (λ p. p.1))
    (lists nat_eq Decides-eqb ws ws') (λ p q. (p, q)) (λ p. p.0) (λ p. p.1))
    (lists nat_eq Decides-eqb gs gs') (λ p q. (p, q)) (λ p. p.0) (λ p. p.1))
    (shapes_decide s t)
    (λ p shape i. job_of_shape (p.0.0.0 i) (p.0.0.1 i) (p.0.1 i) (p.1 i) (shape i))
    (grind (arith, common_steps))
    (λ e. sym (shape_placed x y ws gs s) ∙ ap shape_of e ∙ shape_placed x' y' ws' gs' t)

pub parts_tell : (x y x' y' : ℕ) (ws gs ws' gs' : List ℕ) (s t : ShapeView) →
    ((((nat_eq x x' && nat_eq y y') && pointwise nat_eq ws ws') && pointwise nat_eq gs gs') && same_shape s t)
    ≡ same_job (job_of_shape x y ws gs s) (job_of_shape x' y' ws' gs' t)
parts_tell x y x' y' ws gs ws' gs' s t =
    one_fact _ _ (parts_decide x y x' y' ws gs ws' gs' s t)
    (jobs_decide (job_of_shape x y ws gs s) (job_of_shape x' y' ws' gs' t))
