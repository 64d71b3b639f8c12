-- The wires that modules lack of the edge lines beside them, and the local wires of each module
use Rattle.certificate_lines.proofs.Imports.{AreLinesInBox, AreLocalWiresOfModules, Bool, BorderLine, Box2, Circuit}
use Rattle.certificate_lines.proofs.Imports.{IsModule, List, ModuleLines, Setting, Some, [], and_parts, ap, ap₂, arith}
use Rattle.certificate_lines.proofs.Imports.{change_last, common_steps, cond-false, cond-true, edges, false, filter}
use Rattle.certificate_lines.proofs.Imports.{flat_map, in_halo, is_nonlocal_signal, known, lacks_wire_of_some_edge}
use Rattle.certificate_lines.proofs.Imports.{last_of, length, length-map, length_push, list_any, map, map-append}
use Rattle.certificate_lines.proofs.Imports.{nat_lt, refl, slice_get, suc, sym, true, whole, zero, ℕ, ◌++◌, ◌+◌, ◌<◌}
use Rattle.certificate_lines.proofs.Imports.{◌||◌, ◌∙◌, ◌∷◌, ◌≡◌, ◌≤◌}
use Rattle.lemmas.proofs.Common.{same_from_push}
use Rattle.bbm_rule.specs.Boxes.{in_ring}
use Rattle.certificate_lines.specs.Versions.{edge_lines_beside, has_nonlocal_edge_wire_beside}
use Rattle.module_box.proofs.BoxCells.{in_rectangle}
use Rattle.module_box.proofs.Rising.{at_end}
use Rattle.certificate_lines.proofs.Lists.{some_is}

-- ---- tests of two lists

or_exchange : (a b c d : Bool) → ((a || b) || (c || d)) ≡ ((a || c) || (b || d))
or_exchange a b c d = grind (arith, common_steps)

module _ {X : Type 0} where
  pub any_either : (f g : X → Bool) (xs : List X) → list_any (λ x. f x || g x) xs ≡ (list_any f xs || list_any g xs)
  any_either f g [] = refl
  any_either f g (x ∷ xs) = ap (λ b. (f x || g x) || b) (any_either f g xs)
      ∙ or_exchange (f x) (g x) (list_any f xs) (list_any g xs)

  pub none_any : (xs : List X) → list_any (λ x. false) xs ≡ false
  none_any [] = refl
  none_any (x ∷ xs) = none_any xs

  pub any_same : (f g : X → Bool) (xs : List X) → ((x : X) → f x ≡ g x) → list_any f xs ≡ list_any g xs
  any_same f g [] h = refl
  any_same f g (x ∷ xs) h = ap₂ (λ a b. a || b) (h x) (any_same f g xs h)

pub any_swap : {X Y : Type 0} (f : X → Y → Bool) (xs : List X) (ys : List Y) →
    list_any (λ x. list_any (λ y. f x y) ys) xs ≡ list_any (λ y. list_any (λ x. f x y) xs) ys
any_swap f [] ys = sym (none_any ys)
any_swap f (x ∷ xs) ys = ap (λ b. list_any (λ y. f x y) ys || b) (any_swap f xs ys)
    ∙ sym (any_either (λ y. f x y) (λ y. list_any (λ z. f z y) xs) ys)

-- ---- some module lacks a wire

module _ (g : Setting) (ms : List ModuleLines) where
  long_beside : (area : Box2) → nat_lt 1 g.size.steps ≡ true →
      filter (λ (e : BorderLine). in_halo area e.cell.x e.cell.y) (flat_map edges ms) ≡ edge_lines_beside g ms area
  unfolding edge_lines_beside
  long_beside area long = sym (cond-true _ _ _ long)

  short_beside : (area : Box2) → nat_lt 1 g.size.steps ≡ false → edge_lines_beside g ms area ≡ []
  unfolding edge_lines_beside
  short_beside area short = cond-false _ _ _ short

  pub lacked : (es : List BorderLine) → es ≡ flat_map edges ms → nat_lt 1 g.size.steps ≡ true →
      list_any (lacks_wire_of_some_edge g.circuit es) ms ≡ has_nonlocal_edge_wire_beside g ms
  unfolding has_nonlocal_edge_wire_beside
  lacked es are long =
      ap (λ ds. list_any (lacks_wire_of_some_edge g.circuit ds) ms) are
      ∙ any_same (lacks_wire_of_some_edge g.circuit (flat_map edges ms))
      (λ m. list_any (λ e. is_nonlocal_signal g.circuit (known g.circuit m) e.signal) (edge_lines_beside g ms m.area))
      ms (λ m. ap (list_any (λ e. is_nonlocal_signal g.circuit (known g.circuit m) e.signal)) (long_beside m.area long))

  pub none_lacked : nat_lt 1 g.size.steps ≡ false → false ≡ has_nonlocal_edge_wire_beside g ms
  unfolding has_nonlocal_edge_wire_beside
  none_lacked short =
      sym (any_same (λ m. list_any (λ e. is_nonlocal_signal g.circuit (known g.circuit m) e.signal)
      (edge_lines_beside g ms m.area))
      (λ m. false) ms (λ m.
      ap (list_any (λ e. is_nonlocal_signal g.circuit (known g.circuit m) e.signal)) (short_beside m.area short))
      ∙ none_any ms)

-- ---- the local wires of each module

-- a list whose last element changes
record Split {X : Type 0} (f : X → X) (xs : List X) (x : X) : Type 0 where
  start : List X
  was : xs ≡ start ++ x ∷ []
  now : change_last f xs ≡ start ++ f x ∷ []

split_last : {X : Type 0} (f : X → X) (xs : List X) (x : X) → last_of xs ≡ Some x → Split f xs x
unfolding last_of change_last
split_last f [] x e = absurd cc
split_last f (y ∷ []) x e =
    record { start = []; was = ap (λ z. z ∷ []) (some_is y x e); now = ap (λ z. f z ∷ []) (some_is y x e) }
split_last f (y ∷ z ∷ xs) x e =
    let rest = split_last f (z ∷ xs) x e in
    record { start = y ∷ rest.start; was = ap (λ l. y ∷ l) rest.was; now = ap (λ l. y ∷ l) rest.now }

pub wires_more : (c : Circuit) (f : ModuleLines → ModuleLines) (ms : List ModuleLines) (m : ModuleLines)
    (earlier : List (List ℕ)) (local more : List ℕ) → last_of ms ≡ Some m → known c (f m) ≡ known c m ++ more →
    AreLocalWiresOfModules c ms earlier local → AreLocalWiresOfModules c (change_last f ms) earlier (local ++ more)
wires_more c f ms m earlier local more last is h =
    let s = split_last f ms m last in
    let parts = same_from_push earlier ([] ∷ map (known c) s.start) local (known c m)
    (h ∙ ap (λ l. [] ∷ map (known c) l) s.was ∙ ap (λ l. [] ∷ l) (map-append (known c) s.start (m ∷ []))) in
    grind (arith, common_steps, map-append)

left : {X : Type 0} (xs ys : List X) (k : ℕ) → k < length xs → slice_get (xs ++ ys) k ≡ slice_get xs k
left [] ys k lt = absurd (omega (arith, lt))
left (x ∷ xs) ys zero lt = refl
left (x ∷ xs) ys (suc k) lt = left xs ys k (omega (arith, lt))

module _ (c : Circuit) (ms : List ModuleLines) (earlier : List (List ℕ)) (local : List ℕ)
    (h : AreLocalWiresOfModules c ms earlier local) (k : ℕ) where
  wires_at : slice_get (map (known c) ms) k ≡ slice_get (earlier ++ local ∷ []) (k + 1)
  wires_at = grind (arith, common_steps)

  pub earlier_wires : k + 1 < length earlier → slice_get (map (known c) ms) k ≡ slice_get earlier (k + 1)
  earlier_wires lt = wires_at ∙ left earlier (local ∷ []) (k + 1) lt

  pub last_wires : k < length ms → length earlier ≤ k + 1 → slice_get (map (known c) ms) k ≡ Some local
  last_wires lt le =
      let one = length_push earlier local in
      let both = ap length h in
      let same = length-map ms (known c) in
      let n : k + 1 ≡ length earlier = omega (arith, one, both, same, lt, le) in
      wires_at ∙ ap (slice_get (earlier ++ local ∷ [])) n ∙ at_end earlier local

-- ---- the edge lines of all modules

pub edge_inside : (g : Setting) (m : ModuleLines) → IsModule g m → AreLinesInBox (whole g.size) (edges m)
unfolding in_ring
edge_inside g m good k d lt = grind (arith, common_steps, and_parts, in_rectangle)
