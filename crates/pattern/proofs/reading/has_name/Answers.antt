use Rattle.pattern.proofs.Imports.{List, [], get_or, length, subst, sym, ℕ, ◌<◌, ◌∙◌, ◌≡◌}
use Rattle.pattern.proofs.NameSets.{has_at}
use Rattle.pattern.proofs.reading.has_name.Goals as goal

pub returns-in-Some : goal.returns-in-Some
returns-in-Some c =
    let keys = c.as_slice.ensures.keys in
    let at = c.in-Some.ensures.lookup.3 in
    sym (has_at c.args.set.now.keys c.guess-place.result c.in-Some.likely.now c.args.name.now
    (subst (λ (ks : List (List ℕ)). c.guess-place.result < length ks) keys at.0)
    (subst (λ (ks : List (List ℕ)). c.in-Some.likely.now ≡ get_or ks c.guess-place.result []) keys (at.1 []))
    (sym c.eq.ensures ∙ c.if-eq.true))
