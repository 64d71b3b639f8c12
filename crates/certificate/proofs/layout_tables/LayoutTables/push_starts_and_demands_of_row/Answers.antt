use Rattle.certificate.proofs.Imports.{AddsStartsAndDemands, Dead, Live, One, Zero, arith, circuit_of, common_steps}
use Rattle.certificate.proofs.Imports.{row_cells, subst, ℕ, ◌-◌, ◌≡◌, ◌≤◌}
use Rattle.certificate.proofs.CellRows.{add_cell, add_same, cast_inside}
use Rattle.certificate.proofs.layout_tables.LayoutTables.push_starts_and_demands_of_row.Goals as goal

pub returns-then-named-end : goal.returns-then-named-end
returns-then-named-end c =
    let circuit = circuit_of c.args.self.now.circuit in
    let all : c.next_occupied_column-named.result - c.args.area.x ≡ c.args.area.w =
    omega (arith, c.if-named-end.true) in
    subst (λ (n : ℕ). AddsStartsAndDemands circuit c.args.self.now.layout c.args.locals.now
    (row_cells c.args.area.x n c.args.y)
    c.args.lists.now c.push_dead.new.self) all
    (add_same circuit c.args.self.now.layout c.args.locals.now c.args.lists.now c.loop-x.lists c.push_dead.new.self
    c.args.area.x c.loop-x.x c.args.y c.loop-x.invariant.from c.loop-x.invariant.added Zero Dead
    c.next_occupied_column-named.result c.next_occupied_column-named.ensures.range.0 c.in_ok-push_dead.ensures.starts
    c.in_ok-push_dead.ensures.demands c.next_occupied_column-named.ensures.starts
    c.next_occupied_column-named.ensures.demands tt tt)

pub start_at-requires : goal.start_at-requires
start_at-requires c = grind (arith, common_steps, cast_inside)

pub demand_at-requires : goal.demand_at-requires
demand_at-requires c = grind (arith, common_steps, cast_inside)

pub loop-x-preserved : goal.loop-x-preserved
loop-x-preserved c =
    let circuit = circuit_of c.args.self.now.circuit in
    let named = c.next_occupied_column-named.result in
    let dead = add_same circuit c.args.self.now.layout c.args.locals.now c.args.lists.now c.loop-x.lists
    c.push_dead.new.self c.args.area.x c.loop-x.x c.args.y c.loop-x.invariant.from c.loop-x.invariant.added Zero Dead
    named
    c.next_occupied_column-named.ensures.range.0 c.in_ok-push_dead.ensures.starts c.in_ok-push_dead.ensures.demands
    c.next_occupied_column-named.ensures.starts c.next_occupied_column-named.ensures.demands tt tt in
    record {
      from =
          omega (
            arith,
            c.loop-x.invariant.from,
            c.next_occupied_column-named.ensures.range,
            c.next_nonmirror_column-x.ensures.range,
          );
      most = c.next_nonmirror_column-x.ensures.range.1;
      added = add_same circuit c.args.self.now.layout c.args.locals.now c.args.lists.now c.push_dead.new.self
          c.push_live.new.self c.args.area.x named c.args.y
          (omega (arith, c.loop-x.invariant.from, c.next_occupied_column-named.ensures.range)) dead One Live
          c.next_nonmirror_column-x.result c.next_nonmirror_column-x.ensures.range.0 c.in_ok-push_live.ensures.starts
          c.in_ok-push_live.ensures.demands c.next_nonmirror_column-x.ensures.starts
          c.next_nonmirror_column-x.ensures.demands tt
          tt;
    }

pub loop-x-preserved-then-x-named : goal.loop-x-preserved-then-x-named
loop-x-preserved-then-x-named c =
    let circuit = circuit_of c.args.self.now.circuit in
    let named = c.next_occupied_column-named.result in
    let from : c.args.area.x ≤ named =
    omega (arith, c.loop-x.invariant.from, c.next_occupied_column-named.ensures.range) in
    let dead = add_same circuit c.args.self.now.layout c.args.locals.now c.args.lists.now c.loop-x.lists
    c.push_dead.new.self c.args.area.x c.loop-x.x c.args.y c.loop-x.invariant.from c.loop-x.invariant.added Zero Dead
    named
    c.next_occupied_column-named.ensures.range.0 c.in_ok-push_dead.ensures.starts c.in_ok-push_dead.ensures.demands
    c.next_occupied_column-named.ensures.starts c.next_occupied_column-named.ensures.demands tt tt in
    let mirrors = add_same circuit c.args.self.now.layout c.args.locals.now c.args.lists.now c.push_dead.new.self
    c.push_live.new.self c.args.area.x named c.args.y from dead One Live c.next_nonmirror_column-x.result
    c.next_nonmirror_column-x.ensures.range.0 c.in_ok-push_live.ensures.starts c.in_ok-push_live.ensures.demands
    c.next_nonmirror_column-x.ensures.starts c.next_nonmirror_column-x.ensures.demands tt tt in
    let before = subst (λ (n : ℕ). AddsStartsAndDemands circuit c.args.self.now.layout c.args.locals.now
    (row_cells c.args.area.x (n - c.args.area.x) c.args.y) c.args.lists.now c.push_live.new.self)
    c.if-x-named.true mirrors in
    record {
      from = omega (arith, from);
      most = omega (arith, c.next_occupied_column-named.ensures.range, c.if-named-end.false);
      added = add_cell circuit c.args.self.now.layout c.args.locals.now c.args.lists.now c.push_live.new.self
          c.push.new.self c.args.area.x named c.args.y from before c.start_at.result c.demand_at.result
          (omega (arith, c.next_occupied_column-named.ensures.range, c.requires.columns, c.if-named-end.false))
          c.requires.row.2 c.in_ok-push.ensures.starts c.in_ok-push.ensures.demands c.start_at.ensures.same_signal
          c.start_at.ensures.below c.demand_at.ensures.same_demand c.demand_at.ensures.below;
    }
