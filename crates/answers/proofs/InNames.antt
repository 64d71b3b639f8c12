-- The names of the input cells.
use Rattle.lemmas.proofs.Common.{[], ◌++◌, ◌∷◌, ◌≡◌, List, ap, append-nil, flat_map, map, refl, flat_map-append}
use Rattle.pattern.specs.declared.layout_line.LayoutLine.{LayoutLine}
use Rattle.pattern.specs.declared.layout_line.LayoutLine.TheVariants.{Mirror, Ball, In, Out, Waste}
use Rattle.pattern.specs.declared.layout_line.Port.{Port}
use Rattle.pattern.specs.Layout.{Pattern, parts_of}
use Rattle.answers.specs.RunText.{input_name_of_line}

none_of : {X : Type 0} (f : X → LayoutLine) → ((x : X) → input_name_of_line (f x) ≡ []) → (xs : List X) →
    flat_map input_name_of_line (map f xs) ≡ []
none_of f none [] = refl
none_of f none (x ∷ xs) = rw (none x, none_of f none xs) refl

names_of : (ports : List Port) → flat_map input_name_of_line (map In ports) ≡ map (λ p. p.name) ports
names_of [] = refl
names_of (p ∷ ports) = ap (λ ns. p.name ∷ ns) (names_of ports)

pub in_names_are : (p : Pattern) → flat_map input_name_of_line (parts_of p) ≡ map (λ q. q.name) p.ins
in_names_are p =
    rw (
      flat_map-append input_name_of_line (map Mirror p.mirrors)
          (map Ball p.balls ++ (map In p.ins ++ (map Out p.outs ++ map Waste p.wastes))),
      flat_map-append input_name_of_line (map Ball p.balls) (map In p.ins ++ (map Out p.outs ++ map Waste p.wastes)),
      flat_map-append input_name_of_line (map In p.ins) (map Out p.outs ++ map Waste p.wastes),
      flat_map-append input_name_of_line (map Out p.outs) (map Waste p.wastes),
      none_of Mirror (λ r. refl) p.mirrors,
      none_of Ball (λ c. refl) p.balls,
      none_of Out (λ q. refl) p.outs,
      none_of Waste (λ c. refl) p.wastes,
      names_of p.ins,
    )
    (simp append-nil refl)
