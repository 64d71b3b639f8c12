-- One more line of each kind.
use Rattle.pattern.proofs.Imports.{[], arith, common_steps, parts_of, pattern_of, sym, ◌++◌, ◌∷◌, ◌≡◌}
use Rattle.pattern.proofs.Added.{with_mirror, with_ball, with_in, with_out, with_waste, good_more}
use Rattle.pattern.proofs.layout.Layout.add.Goals as goal

after_mirror : (c : goal.In_ok-push-in-Mirror) →
    parts_of (record (pattern_of c.self.inside) { mirrors = c.push.new.self.items })
    ≡ parts_of c.args.self.now ++ c.args.part ∷ []
after_mirror c = with_mirror (pattern_of c.self.inside) c.args.self.now
    (sym c.self.view_is) c.args.part c.requires.order c.in-Mirror.rectangle c.push.new.self.items c.in-Mirror.is
    c.in_ok-push-in-Mirror.ensures.items

pub invariant_of-self : goal.invariant_of-self
invariant_of-self c = grind (arith, common_steps, good_more, after_mirror)

pub returns-in_ok-push-in-Mirror-clause-parts : goal.returns-in_ok-push-in-Mirror-clause-parts
returns-in_ok-push-in-Mirror-clause-parts c = after_mirror c

after_ball : (c : goal.In_ok-push-in-Ball) →
    parts_of (record (pattern_of c.self.inside) { balls = c.push-in-Ball.new.self.items })
    ≡ parts_of c.args.self.now ++ c.args.part ∷ []
after_ball c = with_ball (pattern_of c.self.inside) c.args.self.now
    (sym c.self.view_is) c.args.part c.requires.order c.in-Ball.cell c.push-in-Ball.new.self.items c.in-Ball.is
    c.in_ok-push-in-Ball.ensures.items

pub invariant_of-self-in-Continue-branch-2 : goal.invariant_of-self-in-Continue-branch-2
invariant_of-self-in-Continue-branch-2 c = grind (arith, common_steps, good_more, after_ball)

pub returns-in_ok-push-in-Ball-clause-parts : goal.returns-in_ok-push-in-Ball-clause-parts
returns-in_ok-push-in-Ball-clause-parts c = after_ball c

after_in : (c : goal.In_ok-push-in-In) →
    parts_of (record (pattern_of c.self.inside) { ins = c.push-in-In.new.self.items })
    ≡ parts_of c.args.self.now ++ c.args.part ∷ []
after_in c = with_in (pattern_of c.self.inside) c.args.self.now
    (sym c.self.view_is) c.args.part c.requires.order c.in-In.port c.push-in-In.new.self.items c.in-In.is
    c.in_ok-push-in-In.ensures.items

pub invariant_of-self-in-Continue-branch-3 : goal.invariant_of-self-in-Continue-branch-3
invariant_of-self-in-Continue-branch-3 c = grind (arith, common_steps, good_more, after_in)

pub returns-in_ok-push-in-In-clause-parts : goal.returns-in_ok-push-in-In-clause-parts
returns-in_ok-push-in-In-clause-parts c = after_in c

after_out : (c : goal.In_ok-push-in-Out) →
    parts_of (record (pattern_of c.self.inside) { outs = c.push-in-Out.new.self.items })
    ≡ parts_of c.args.self.now ++ c.args.part ∷ []
after_out c = with_out (pattern_of c.self.inside) c.args.self.now
    (sym c.self.view_is) c.args.part c.requires.order c.in-Out.port c.push-in-Out.new.self.items c.in-Out.is
    c.in_ok-push-in-Out.ensures.items

pub invariant_of-self-in-Continue-branch-4 : goal.invariant_of-self-in-Continue-branch-4
invariant_of-self-in-Continue-branch-4 c = grind (arith, common_steps, good_more, after_out)

pub returns-in_ok-push-in-Out-clause-parts : goal.returns-in_ok-push-in-Out-clause-parts
returns-in_ok-push-in-Out-clause-parts c = after_out c

after_waste : (c : goal.In_ok-push-in-Waste) →
    parts_of (record (pattern_of c.self.inside) { wastes = c.push-in-Waste.new.self.items })
    ≡ parts_of c.args.self.now ++ c.args.part ∷ []
after_waste c = with_waste (pattern_of c.self.inside) c.args.self.now
    (sym c.self.view_is) c.args.part c.requires.order c.in-Waste.cell c.push-in-Waste.new.self.items c.in-Waste.is
    c.in_ok-push-in-Waste.ensures.items

pub invariant_of-self-in-Continue-branch-5 : goal.invariant_of-self-in-Continue-branch-5
invariant_of-self-in-Continue-branch-5 c = grind (arith, common_steps, good_more, after_waste)
