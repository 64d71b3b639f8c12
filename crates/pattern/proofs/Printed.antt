-- The lists of a layout, printed one after the other, are its text.
use Rattle.pattern.proofs.Imports.{List, Pattern, ap, append_assoc, arith, cell_words, codes, common_steps, flat_map}
use Rattle.pattern.proofs.Imports.{flat_map-append, layout_text, line_text, parts_of, port_words, box_words, refl}
use Rattle.pattern.proofs.Imports.{size_words, ℕ, ◌++◌, ◌≡◌}
use Rattle.lemmas.proofs.Common.{flat_map-map}
use Rattle.pattern.specs.Text.{part_text}

module _ (p : Pattern) where
  mirrors : List ℕ
  mirrors = flat_map (λ r. line_text (codes "mirror") (box_words r)) p.mirrors

  balls : List ℕ
  balls = flat_map (λ c. line_text (codes "ball") (cell_words c)) p.balls

  ins : List ℕ
  ins = flat_map (λ q. line_text (codes "in") (port_words q)) p.ins

  outs : List ℕ
  outs = flat_map (λ q. line_text (codes "out") (port_words q)) p.outs

  wastes : List ℕ
  wastes = flat_map (λ c. line_text (codes "waste") (cell_words c)) p.wastes

  parts_text : flat_map part_text (parts_of p) ≡ mirrors ++ (balls ++ (ins ++ (outs ++ wastes)))
  unfolding mirrors balls ins outs wastes
  parts_text = grind (arith, common_steps, flat_map-append, mirrors, balls, ins, outs, wastes, flat_map-map)

  regroup : (s m b i o w e : List ℕ) →
      ((((((s ++ m) ++ b) ++ i) ++ o) ++ w) ++ e) ≡ (s ++ (m ++ (b ++ (i ++ (o ++ w))))) ++ e
  regroup s m b i o w e = ap (λ l. l ++ e) (simp append_assoc refl)

  pub printed : (a b c d k f g : List ℕ) → a ≡ line_text (codes "layout") (size_words p.size)
      → b ≡ a ++ flat_map (λ r. line_text (codes "mirror") (box_words r)) p.mirrors
      → c ≡ b ++ flat_map (λ c. line_text (codes "ball") (cell_words c)) p.balls
      → d ≡ c ++ flat_map (λ q. line_text (codes "in") (port_words q)) p.ins
      → k ≡ d ++ flat_map (λ q. line_text (codes "out") (port_words q)) p.outs
      → f ≡ k ++ flat_map (λ c. line_text (codes "waste") (cell_words c)) p.wastes
      → g ≡ f ++ codes "end\n" → g ≡ layout_text p
  unfolding layout_text mirrors balls ins outs wastes
  printed a b c d k f g ea eb ec ed ek ef eg =
      grind (arith, common_steps, wastes, outs, ins, balls, mirrors, regroup, parts_text)
