-- The signals of a halo's cells by the edge lines beside a module
use Rattle.certificate.proofs.Imports.{AllTimesSignal, AreModules, BorderLine, Box2, Cell, Circuit, In, Less, List}
use Rattle.certificate.proofs.Imports.{ModuleLines, Option, Setting, Signal, Some, TimedSignal, Zero, [], all_times_at}
use Rattle.certificate.proofs.Imports.{ap, ap₂, arith, border_line_cmp, cases_Bool, cell_same, common_steps, cond-false}
use Rattle.certificate.proofs.Imports.{cond-true, edge_lines_beside, edges, event_at, event_if_timed, false, filter}
use Rattle.certificate.proofs.Imports.{filter_in, flat_map, in_box, in_filter, in_flat, in_halo, in_ordered, inl, inr}
use Rattle.certificate.proofs.Imports.{is_cell_at, line_signals, mapped_at, nat_lt, nat_tests, one_or_named_wire}
use Rattle.certificate.proofs.Imports.{ordered_in, pairs_filter, placed, refl, rising_same, signal_at}
use Rattle.certificate.proofs.Imports.{signal_if_starred, slice_get, some_is, sorted_border_lines, subst, sym, true}
use Rattle.certificate.proofs.Imports.{unwrap_or, ℕ, ℤ, ◌++◌, ◌<◌, ◌∙◌, ◌∷◌, ◌≡◌}
use Rattle.lemmas.proofs.Common.{◌%◌, and-false}
use Rattle.certificate.specs.Laws.{HaloCarriesOwnersEdge}
use Rattle.certificate_lines.proofs.LineOrder.{flat_in}
use Rattle.certificate.proofs.FullModules.{beside_in, edge_cell, edges_rising, full_halos, full_rises, in_beside}
use Rattle.certificate.proofs.FullModules.{stands}

-- ---- what lines say of a cell is what those for the cell say

unfoldable pub at_cell : ℤ → ℤ → List BorderLine → List BorderLine
at_cell x y es = filter (λ e. is_cell_at e.cell x y) es

pub all_times_past : (e : BorderLine) (time : Option ℕ) (s : Signal) (rest : List AllTimesSignal) (x y : ℤ) →
    is_cell_at e.cell x y ≡ false → all_times_at (signal_if_starred e time s ++ rest) x y ≡ all_times_at rest x y
unfolding all_times_at
all_times_past e time s rest x y h1 = grind (arith, common_steps, cond-false)

pub event_past : (e : BorderLine) (time : Option ℕ) (s : Signal) (rest : List TimedSignal) (t : ℕ) (x y : ℤ) →
    is_cell_at e.cell x y ≡ false → event_at (event_if_timed e time s ++ rest) t x y ≡ event_at rest t x y
unfolding event_at
event_past e time s rest t x y h1 = grind (arith, common_steps, cond-false, and-false)

all_times_on : (e : BorderLine) (time : Option ℕ) (s : Signal) (rest other : List AllTimesSignal) (x y : ℤ) →
    all_times_at rest x y ≡ all_times_at other x y →
    all_times_at (signal_if_starred e time s ++ rest) x y ≡ all_times_at (signal_if_starred e time s ++ other) x y
unfolding all_times_at
all_times_on e time s rest other x y h1 = grind (arith, common_steps)

event_on : (e : BorderLine) (time : Option ℕ) (s : Signal) (rest other : List TimedSignal) (t : ℕ) (x y : ℤ) →
    event_at rest t x y ≡ event_at other t x y →
    event_at (event_if_timed e time s ++ rest) t x y ≡ event_at (event_if_timed e time s ++ other) t x y
unfolding event_at
event_on e time s rest other t x y h1 = grind (arith, common_steps)

-- in a list that is read from its front
module _ {X : Type 0} (line : BorderLine → List X) (look : List X → Option Signal) (x y : ℤ)
    (past : (e : BorderLine) (rest : List X) → is_cell_at e.cell x y ≡ false → look (line e ++ rest) ≡ look rest)
    (on : (e : BorderLine) (rest other : List X) → look rest ≡ look other →
    look (line e ++ rest) ≡ look (line e ++ other)) where
  there : (es : List BorderLine) → look (flat_map line es) ≡ look (flat_map line (at_cell x y es))
  unfolding at_cell
  there [] = refl
  there (e ∷ es) = elim (cases_Bool (is_cell_at e.cell x y)) [
    | inl here ↦ on e _ _ (there es) ∙ ap (λ l. look (flat_map line l)) (sym (cond-true _ _ _ here))
    | inr other ↦ past e _ other ∙ there es ∙ ap (λ l. look (flat_map line l)) (sym (cond-false _ _ _ other))
  ]

module _ (c : Circuit) (x y : ℤ) where
  signal_there : (t : ℕ) (es : List BorderLine) →
      signal_at (line_signals c es) t x y ≡ signal_at (line_signals c (at_cell x y es)) t x y
  unfolding signal_at
  signal_there t es = ap₂ (λ h e. unwrap_or h (unwrap_or e Zero))
      (there (λ e. signal_if_starred e e.time (one_or_named_wire c e.signal)) (λ l. all_times_at l x y) x y
      (λ e rest. all_times_past e e.time _ rest x y) (λ e rest other. all_times_on e e.time _ rest other x y) es)
      (there (λ e. event_if_timed e e.time (one_or_named_wire c e.signal)) (λ l. event_at l t x y) x y
      (λ e rest. event_past e e.time _ rest t x y) (λ e rest other. event_on e e.time _ rest other t x y) es)

  same_there : (t : ℕ) (es ds : List BorderLine) → at_cell x y es ≡ at_cell x y ds →
      signal_at (line_signals c es) t x y ≡ signal_at (line_signals c ds) t x y
  same_there t es ds h = signal_there t es ∙ ap (λ l. signal_at (line_signals c l) t x y) h ∙ sym (signal_there t ds)

-- ---- the lines for a cell of the halo are the owner's

one_below : (t n : ℕ) → t % 2 ≡ 1 → t < n → nat_lt 1 n ≡ true
one_below t n odd lt = grind (arith, nat_tests)

module _ (g : Setting) (ms : List ModuleLines) (good : AreModules g ms) (k : ℕ) (owner : ModuleLines)
    (numbered : slice_get ms k ≡ Some owner) (area : Box2) (x y : ℤ)
    (long : nat_lt 1 g.size.steps ≡ true) (halo : in_halo area x y ≡ true) (owned : in_box owner.area x y ≡ true) where
  abbrev here : Cell
  here = record { x = x; y = y }

  at_here : (e : BorderLine) → is_cell_at e.cell x y ≡ true → e.cell ≡ here
  at_here e h = cell_same e.cell here h

  -- a module with an edge line for the cell is the owner
  owns : (e : BorderLine) (n : ModuleLines) → In n ms → In e (edges n) → is_cell_at e.cell x y ≡ true → n ≡ owner
  owns e n i j at =
      let p = placed n ms i in
      let inside : in_box n.area x y ≡ true =
      subst (λ (c : Cell). in_box n.area c.x c.y ≡ true) (at_here e at) (edge_cell g ms good n e i j) in
      let same : p.0 ≡ k = good.tile.once x y p.0 k n.area owner.area
      (mapped_at (λ (m : ModuleLines). m.area) ms p.0 n p.1)
      (mapped_at (λ (m : ModuleLines). m.area) ms k owner numbered) inside owned in
      some_is n owner (sym p.1 ∙ ap (slice_get ms) same ∙ numbered)

  of_owner : (e : BorderLine) → In e (at_cell x y (sorted_border_lines (edge_lines_beside g ms area))) →
      In e (at_cell x y (edges owner))
  unfolding at_cell
  of_owner e i = grind (arith, common_steps, in_filter, in_beside, in_ordered, in_flat, filter_in, owns)

  of_halo : (e : BorderLine) → In e (at_cell x y (edges owner)) →
      In e (at_cell x y (sorted_border_lines (edge_lines_beside g ms area)))
  unfolding at_cell
  of_halo e i =
      let r = in_filter (λ (e : BorderLine). is_cell_at e.cell x y) e (edges owner) i in
      let inside : in_halo area e.cell.x e.cell.y ≡ true =
      subst (λ (c : Cell). in_halo area c.x c.y ≡ true) (sym (at_here e r.1)) halo in
      filter_in (λ (e : BorderLine). is_cell_at e.cell x y) e (sorted_border_lines (edge_lines_beside g ms area))
      (ordered_in e (edge_lines_beside g ms area)
      (beside_in g ms good area e long inside (flat_in edges e ms owner (stands ms k owner numbered) r.0))) r.1

  pub lines_there : at_cell x y (sorted_border_lines (edge_lines_beside g ms area)) ≡ at_cell x y (edges owner)
  unfolding at_cell
  lines_there =
      rising_same _ _
      (grind (arith, common_steps, pairs_filter, full_rises))
      (pairs_filter (λ d e. border_line_cmp d e ≡ Less) (λ (e : BorderLine). is_cell_at e.cell x y) (edges owner)
      (edges_rising owner.lines (good.each k owner numbered).order))
      of_owner of_halo

pub halo_is_edge_beside : HaloCarriesOwnersEdge
halo_is_edge_beside g ms good i k m owner t x y at numbered odd early halo owned =
    ap (λ es. signal_at (line_signals g.circuit es) t x y) (full_halos g ms good m)
    ∙ same_there g.circuit x y t (sorted_border_lines (edge_lines_beside g ms m.area)) (edges owner)
    (lines_there g ms good k owner numbered m.area x y (one_below t g.size.steps odd early) halo owned)
