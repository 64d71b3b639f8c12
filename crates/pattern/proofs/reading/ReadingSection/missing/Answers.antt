-- Each name that is asked for was seen.
use Rattle.pattern.proofs.Imports.{List, None, Some, SomethingMissing, ap, ap₂, arith, common_steps, false, has}
use Rattle.pattern.proofs.Imports.{list_all, missing_port_fault, parts_of, port_name_lists, subst, sym, true, ℕ, ◌&&◌}
use Rattle.pattern.proofs.Imports.{◌∙◌, ◌≡◌}
use Rattle.pattern.specs.Readings.{ReadingView}
use Rattle.pattern.specs.Lines.{allows_any_name}
use Rattle.pattern.proofs.ReadingLemmas.{none_missing, missing_by}
use Rattle.pattern.proofs.reading.ReadingSection.missing.Goals as goal

pub returns-in-Any : goal.returns-in-Any
returns-in-Any c = grind (arith, common_steps, none_missing)

pub returns-then-has_ins-has_outs : goal.returns-then-has_ins-has_outs
returns-then-has_ins-has_outs c =
    let ins = c.has_all_names-has_ins.ensures
    ∙ ap (list_all (λ (n : List ℕ). has c.self.inside.seen_ins.keys n)) c.deref.ensures.value in
    let outs = c.has_all_names-has_outs.ensures
    ∙ ap (list_all (λ (n : List ℕ). has c.self.inside.seen_outs.keys n)) c.deref-in-Only.ensures.value in
    let only = ap (λ p. allows_any_name (port_name_lists p)) c.in-Only.is in
    let both = sym (ap₂ (λ a b. a && b) ins outs) ∙ c.if-has_ins-has_outs.true in
    subst (λ (r : ReadingView). None ≡ missing_port_fault r.ports (parts_of r.layout)) c.self.view_is
    (missing_by c.self.inside.ports.now
    (parts_of c.self.inside.draft) c.in-Only.ins c.in-Only.outs c.self.inside.seen_ins.keys c.self.inside.seen_outs.keys
    c.in-Only.is (c.self.invariant.seen_ins only) (c.self.invariant.seen_outs only) true both)

pub returns-else-has_ins-has_outs : goal.returns-else-has_ins-has_outs
returns-else-has_ins-has_outs c =
    let ins = c.has_all_names-has_ins.ensures
    ∙ ap (list_all (λ (n : List ℕ). has c.self.inside.seen_ins.keys n)) c.deref.ensures.value in
    let outs = c.has_all_names-has_outs.ensures
    ∙ ap (list_all (λ (n : List ℕ). has c.self.inside.seen_outs.keys n)) c.deref-in-Only.ensures.value in
    let only = ap (λ p. allows_any_name (port_name_lists p)) c.in-Only.is in
    let both = sym (ap₂ (λ a b. a && b) ins outs) ∙ c.if-has_ins-has_outs.false in
    subst (λ (r : ReadingView). Some SomethingMissing ≡ missing_port_fault r.ports (parts_of r.layout)) c.self.view_is
    (missing_by c.self.inside.ports.now
    (parts_of c.self.inside.draft) c.in-Only.ins c.in-Only.outs c.self.inside.seen_ins.keys c.self.inside.seen_outs.keys
    c.in-Only.is (c.self.invariant.seen_ins only) (c.self.invariant.seen_outs only) false both)
