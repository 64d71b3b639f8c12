-- Lists of the places of edge lines, as places are added
use Rattle.certificate.proofs.Imports.{AddsEdgePlacesInHalo, AreOwnersAndListsReady, Bool, Box2, Cell, EdgePlace}
use Rattle.certificate.proofs.Imports.{IsEvenBox, IsInnerCell, List, Some, StoredBorder, StoredModule, [], and_from}
use Rattle.certificate.proofs.Imports.{and_parts, ap, append-nil, append_assoc, arith, cases_Bool, common_steps}
use Rattle.certificate.proofs.Imports.{cond-false, cond-true, edge_lines_at, edge_lines_at_place, eqb-true, false}
use Rattle.certificate.proofs.Imports.{filter, flat_map-append, get_or, if◌then◌else◌, in_box, in_halo, in_span, length}
use Rattle.certificate.proofs.Imports.{line_cell, list_at_or_empty, map, not, option_to_list, pos, rectangle, refl}
use Rattle.certificate.proofs.Imports.{slice_get, some_is, suc, sym, take, take_more, true, true_from_not, zero, ℕ, ℤ}
use Rattle.certificate.proofs.Imports.{◌&&◌, ◌++◌, ◌+ℤ◌, ◌+◌, ◌<◌, ◌||◌, ◌∙◌, ◌∷◌, ◌≡◌}
use Rattle.lemmas.proofs.Common.{◌-ℤ◌, slice_set, eqb-false, filter-append}
use Rattle.bbm_rule.specs.Plane.{partner}
use Rattle.bbm_rule.proofs.Spans.{partner_near}
use Rattle.module_box.specs.Tiling.{IsTilingOwnerTable, OwnersView, owner_of}
use Rattle.bbm_rule.proofs.RingTests.{ring_read}
use Rattle.certificate_lines.proofs.OddBlocks.{halo_either}
use Rattle.certificate.specs.HaloPlaces.{AddsPlaceIfBoxPasses}

-- ---- one list of several

module _ {X : Type 0} (f : X → List EdgePlace) where
  pub list_written : (xs : List X) (n : ℕ) (v : X) → n < length xs → list_at_or_empty (map f (slice_set xs n v)) n ≡ f v
  list_written [] n v lt = absurd (omega arith)
  list_written (x ∷ xs) zero v lt = refl
  list_written (x ∷ xs) (suc n) v lt = list_written xs n v (omega arith)

  pub list_left : (xs : List X) (n i : ℕ) (v : X) → (i ≡ n → ⊥) →
      list_at_or_empty (map f (slice_set xs n v)) i ≡ list_at_or_empty (map f xs) i
  list_left [] n i v ne = refl
  list_left (x ∷ xs) zero zero v ne = absurd (ne refl)
  list_left (x ∷ xs) zero (suc i) v ne = refl
  list_left (x ∷ xs) (suc n) zero v ne = refl
  list_left (x ∷ xs) (suc n) (suc i) v ne = list_left xs n i v (λ e. ne (ap suc e))

  pub list_read : (xs : List X) (n : ℕ) (v : X) → n < length xs → v ≡ get_or xs n v →
      list_at_or_empty (map f xs) n ≡ f v
  list_read [] n v lt is = absurd (omega arith)
  list_read (x ∷ xs) zero v lt is = ap f (sym is)
  list_read (x ∷ xs) (suc n) v lt is = list_read xs n v (omega arith) is

  -- one more empty list
  pub list_pushed : (xs : List X) (y : X) → ((i : ℕ) → list_at_or_empty (map f xs) i ≡ []) → f y ≡ [] → (i : ℕ) →
      list_at_or_empty (map f (xs ++ y ∷ [])) i ≡ []
  list_pushed [] y h e zero = e
  list_pushed [] y h e (suc i) = refl
  list_pushed (x ∷ xs) y h e zero = h 0
  list_pushed (x ∷ xs) y h e (suc i) = list_pushed xs y (λ j. h (suc j)) e i

-- ---- a place more for the box that has a cell

module _ (boxes : List Box2) (o : OwnersView) (good : IsTilingOwnerTable o boxes) (x y : ℤ)
    (inside : in_box (rectangle o) x y ≡ true) where
  same_box : (i : ℕ) (b a : Box2) → slice_get boxes i ≡ Some b → slice_get boxes (owner_of o x y) ≡ Some a →
      i ≡ owner_of o x y → b ≡ a
  same_box i b a at own is = some_is b a (sym at ∙ ap (slice_get boxes) is ∙ own)

  module _ (q : Box2 → Bool) (a : Box2) (own : slice_get boxes (owner_of o x y) ≡ Some a) (place : EdgePlace) where
    pub one_place : (old new : List (List EdgePlace)) → q a ≡ false → length new ≡ length old →
        list_at_or_empty new (owner_of o x y) ≡ list_at_or_empty old (owner_of o x y) ++ place ∷ [] →
        ((i : ℕ) → (i ≡ owner_of o x y → ⊥) → list_at_or_empty new i ≡ list_at_or_empty old i) →
        AddsPlaceIfBoxPasses boxes (λ b. in_box b x y && not (q b)) place old new
    one_place old new free count here others =
        grind (arith, common_steps, cases_Bool, eqb-true, same_box, cond-true, eqb-false, append-nil, cond-false)

pub same_test : (boxes : List Box2) (p q : Box2 → Bool) (place : EdgePlace) (old new : List (List EdgePlace)) →
    ((b : Box2) → p b ≡ q b) → AddsPlaceIfBoxPasses boxes p place old new → AddsPlaceIfBoxPasses boxes q place old new
same_test boxes p q place old new same h = grind (arith, common_steps)

-- ---- a place more for each box that has a cell in its halo

at_most_one : (r s t : Bool) (p : EdgePlace) (l : List EdgePlace) → (r && s) ≡ false → (r && t) ≡ false →
    (s && t) ≡ false → ((l ++ (if r then p ∷ [] else [])) ++ (if s then p ∷ [] else [])) ++ (if t then p ∷ [] else [])
    ≡ l ++ (if r || s || t then p ∷ [] else [])
at_most_one r s t p l h1 h2 h3 = grind (arith, common_steps, append-nil)

first_second : (a a' b b' : Bool) →
    (((a' && b) && not ((a && b) || false)) && ((a && b') && not ((a && b) || ((a' && b) || false)))) ≡ false
first_second a a' b b' = grind arith

first_third : (a a' b b' : Bool) →
    (((a' && b) && not ((a && b) || false))
    && ((a' && b') && not ((a && b) || ((a' && b) || ((a && b') || false))))) ≡ false
first_third a a' b b' = grind arith

second_third : (a a' b b' : Bool) →
    (((a && b') && not ((a && b) || ((a' && b) || false)))
    && ((a' && b') && not ((a && b) || ((a' && b) || ((a && b') || false))))) ≡ false
second_third a a' b b' = grind arith

one_of_three : (a a' b b' : Bool) →
    (((a' && b) && not ((a && b) || false)) || ((a && b') && not ((a && b) || ((a' && b) || false)))
    || ((a' && b') && not ((a && b) || ((a' && b) || ((a && b') || false)))))
    ≡ (not (a && b) && ((a || a') && (b || b')))
one_of_three a a' b b' = grind arith

module _ (x y : ℤ) where
  abbrev x' : ℤ
  x' = partner 1 x

  abbrev y' : ℤ
  y' = partner 1 y

  abbrev pub side : Box2 → Bool
  side b = in_box b x' y && not (in_box b x y || false)

  abbrev pub above : Box2 → Bool
  above b = in_box b x y' && not (in_box b x y || (in_box b x' y || false))

  abbrev pub corner : Box2 → Bool
  corner b = in_box b x' y' && not (in_box b x y || (in_box b x' y || (in_box b x y' || false)))

  pub beside_places : (boxes : List Box2) (place : EdgePlace) (old l m new : List (List EdgePlace)) →
      ((k : ℕ) (b : Box2) → slice_get boxes k ≡ Some b → IsEvenBox b) → AddsPlaceIfBoxPasses boxes side place old l →
      AddsPlaceIfBoxPasses boxes above place l m → AddsPlaceIfBoxPasses boxes corner place m new →
      AddsPlaceIfBoxPasses boxes (λ b. in_halo b x y) place old new
  unfolding in_box
  beside_places boxes place old l m new even s a c = record {
    count = c.count ∙ a.count ∙ s.count;
    each = λ i b at.
        let u = in_span b.x b.w x in let u' = in_span b.x b.w x' in
        let v = in_span b.y b.h y in let v' = in_span b.y b.h y' in
        c.each i b at ∙ ap (λ k. k ++ (if corner b then place ∷ [] else [])) (grind (arith, common_steps, above))
        ∙ at_most_one (side b) (above b) (corner b) place (list_at_or_empty old i)
        (first_second u u' v v') (first_third u u' v v') (second_third u u' v v')
        ∙ ap (λ t. list_at_or_empty old i ++ (if t then place ∷ [] else []))
        (one_of_three u u' v v' ∙ halo_either b x y (even i b at));
  }

-- ---- cells that are not in the ring

partner_in : (f n : ℕ) (z : ℤ) → in_span f n (z -ℤ pos 1) ≡ true → in_span f n (z +ℤ pos 1) ≡ true →
    in_span f n (partner 1 z) ≡ true
partner_in f n z below above = grind (arith, common_steps, partner_near, above)

-- the cells of its block at odd times are in the box too
pub inner_block : (b : Box2) (c : Cell) → IsInnerCell b c →
    (in_box b (partner 1 c.x) c.y ≡ true) × (in_box b c.x (partner 1 c.y) ≡ true)
    × (in_box b (partner 1 c.x) (partner 1 c.y) ≡ true)
unfolding in_box
inner_block b c inner =
    let here = and_parts (in_span b.x b.w c.x) (in_span b.y b.h c.y) inner.0 in
    let all = true_from_not _ (grind (arith, common_steps, ring_read)) in
    let both = and_parts _ _ all in
    let px = and_parts _ _ both.0 in let py = and_parts _ _ both.1 in
    let ax = partner_in b.x b.w c.x px.0 px.1 in let ay = partner_in b.y b.h c.y py.0 py.1 in
    (and_from _ _ ax here.1, and_from _ _ here.0 ay, and_from _ _ ax ay)

-- ---- the edge lines at the places

edges_more : (ms : List StoredModule) (l : List EdgePlace) (t : Bool) (place : EdgePlace) (e : StoredBorder) →
    edge_lines_at_place ms place ≡ e ∷ [] →
    edge_lines_at ms (l ++ (if t then place ∷ [] else [])) ≡ edge_lines_at ms l ++ (if t then e ∷ [] else [])
edges_more ms l true place e at = grind (arith, common_steps, flat_map-append)
edges_more ms l false place e at = ap (edge_lines_at ms) (append-nil l) ∙ sym (append-nil (edge_lines_at ms l))

-- the lines at a place of a module
pub place_found : (ms : List StoredModule) (m : StoredModule) (p : EdgePlace) → slice_get ms p.number ≡ Some m →
    edge_lines_at_place ms p ≡ option_to_list (slice_get m.edges.items p.line)
place_found ms m p at = grind (arith, common_steps, option_to_list, slice_get, append-nil)

module _ (ms : List StoredModule) (boxes : List Box2) where
  pub edge_placed : (place : EdgePlace) (e : StoredBorder) (old new : List (List EdgePlace)) →
      edge_lines_at_place ms place ≡ e ∷ [] →
      AddsPlaceIfBoxPasses boxes (λ b. in_halo b (line_cell e).x (line_cell e).y) place old new →
      AddsEdgePlacesInHalo ms boxes (e ∷ []) old new
  edge_placed place e old new at h = record {
    count = h.count;
    each = λ i b box. ap (edge_lines_at ms) (h.each i b box)
        ∙ edges_more ms (list_at_or_empty old i) (in_halo b (line_cell e).x (line_cell e).y) place e at;
  }

  pub edges_then : (more next : List StoredBorder) (old l new : List (List EdgePlace)) →
      AddsEdgePlacesInHalo ms boxes more old l →
      AddsEdgePlacesInHalo ms boxes next l new → AddsEdgePlacesInHalo ms boxes (more ++ next) old new
  edges_then more next old l new h k = record {
    count = k.count ∙ h.count;
    each = λ i b box.
        let keep = λ (e : StoredBorder). in_halo b (line_cell e).x (line_cell e).y in
        k.each i b box ∙ ap (λ m. m ++ filter keep next) (h.each i b box)
        ∙ append_assoc (edge_lines_at ms (list_at_or_empty old i)) (filter keep more) (filter keep next)
        ∙ ap (λ m. edge_lines_at ms (list_at_or_empty old i) ++ m) (sym (filter-append keep more next));
  }

-- ---- tables and lists

pub still_ready : (boxes : List Box2) (o : OwnersView) (old new : List (List EdgePlace)) →
    AreOwnersAndListsReady boxes o old → length new ≡ length old → AreOwnersAndListsReady boxes o new
still_ready boxes o old new h same = grind (arith, common_steps)

pub taken_one : {X : Type 0} (xs : List X) (i : ℕ) (x : X) → i < length xs → x ≡ get_or xs i x →
    take i xs ++ x ∷ [] ≡ take (i + 1) xs
taken_one xs i x lt is = grind (arith, common_steps, take_more)
