use Rattle.core_book.proofs.Imports.{CoreView, IsCore, after_claim, ap, arc_value, arith, common_steps, core_view}
use Rattle.core_book.proofs.Imports.{draws_after_claim, draws_of, job_count_of, length, length-map, length-set}
use Rattle.core_book.proofs.Imports.{lists_of, next_unless_seat_finished, set, subst, sym, ℕ, ◌<◌, ◌∙◌, ◌≡◌}
use Rattle.lemmas.proofs.Common.{Global, Vec, map-set, map-set_same}
use Rattle.core_book.proofs.CoreSteps.{claim-core, drawn-at, left-claim, next-few}
use Rattle.core_book.proofs.machine.Core.claim.Goals.{After-index_mut, After-next_claim, at-After-next_claim}
use Rattle.core_book.proofs.machine.Core.claim.Goals as goal

pub next_claim-requires : goal.next_claim-requires
next_claim-requires c =
    let is = c.self.invariant in
    let seats : length (lists_of c.self.inside.draws.items) ≡ length c.self.inside.draws.items =
    length-map c.self.inside.draws.items (λ v. v.items) in
    omega (arith, next-few _ is.core, is.numbers, is.seats, seats)

-- the seat is one of the seats, by the fields
seated : (c : After-index_mut) → c.args.seat < length (core_view c.self.inside).draws
seated c = subst (λ (v : CoreView). c.args.seat < length v.draws) (sym c.self.view_is) c.requires

inside : (c : After-index_mut) → c.args.seat < length c.self.inside.draws.items
inside c = omega (arith, seated c, length-map c.self.inside.draws.items (λ (v : Vec ℕ Global). v.items))

count : (c : After-index_mut) → length c.jobs-count.result.now ≡ job_count_of (core_view c.self.inside)
count c = sym (length-map c.jobs-count.result.now arc_value) ∙ ap length c.jobs-count.ensures

was : (c : After-index_mut) → c.index_mut.result.now.items ≡ draws_of (core_view c.self.inside) c.args.seat
was c = drawn-at (λ (v : Vec ℕ Global). v.items) c.self.inside.draws.items c.args.seat c.index_mut.result.now
    (inside c) c.index_mut.ensures.value

-- the lists are as before, where no memory was found
kept : (c : After-next_claim) → c.next_claim.new.drawn.items ≡ c.index_mut.result.now.items →
    lists_of (set c.self.inside.draws.items c.args.seat c.next_claim.new.drawn) ≡ lists_of c.self.inside.draws.items
kept c same = map-set_same (λ (v : Vec ℕ Global). v.items) c.self.inside.draws.items c.args.seat c.next_claim.new.drawn
    c.index_mut.result.now (same ∙ ap (λ (v : Vec ℕ Global). v.items) c.index_mut.ensures.value)

pub invariant_of-self : goal.invariant_of-self
invariant_of-self c = grind (arith, common_steps, kept, length-set)

pub returns-in_default-clause-unchanged : goal.returns-in_default-clause-unchanged
returns-in_default-clause-unchanged c =
    grind (arith, common_steps, kept, c.self.inside, c.in_default.ensures.unchanged, c.self.view_is)

-- what a claim leaves
left : (c : After-next_claim) (next : ℕ) →
    next ≡ next_unless_seat_finished (length c.jobs-count.result.now) c.index_mut.result.now.items c.self.inside.next
    → c.next_claim.new.drawn.items
    ≡ draws_after_claim (length c.jobs-count.result.now) c.index_mut.result.now.items c.self.inside.next
    → record (core_view c.self.inside)
    { next = next; draws = lists_of (set c.self.inside.draws.items c.args.seat c.next_claim.new.drawn) }
    ≡ after_claim (core_view c.self.inside) c.args.seat
left c next next_is drawn_is = grind (arith, common_steps, at-After-next_claim, left-claim, count, was, map-set)

pub invariant_of-self-2 : goal.invariant_of-self-2
invariant_of-self-2 c =
    let is = c.self.invariant in
    let d = (goal.at.invariant_of-self-2 c).After-next_claim in
    let e = (goal.at.invariant_of-self-2 c).After-index_mut in
    record {
      core = subst IsCore (sym (left d c.in-Ok.next c.in-Ok.ensures.next c.in-Ok.ensures.draws))
          (claim-core (core_view c.self.inside) c.args.seat (seated e) is.core);
      numbers = is.numbers;
      seats = omega (arith, is.seats, length-set c.self.inside.draws.items c.args.seat c.next_claim.new.drawn);
    }

pub returns-clause-after : goal.returns-clause-after
returns-clause-after c = grind (arith, common_steps, left)
