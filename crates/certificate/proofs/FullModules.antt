-- The modules of version 2 as modules of version 1
use Rattle.certificate.proofs.Imports.{All, AreDistinct, AreLinesInOrder, AreModules, Bool, BorderLine, Box2, Cell}
use Rattle.certificate.proofs.Imports.{CertificateLine, Each, Equal, Halo, HasLocalPortWires, IfSome, In, IsModule}
use Rattle.certificate.proofs.Imports.{IsTrue, Less, List, ModuleLines, Option, Ordering, Pairs, Rises, Setting, Some}
use Rattle.certificate.proofs.Imports.{StarsExcludeLaterTimes, Stop, StopLine, Tile, [], all_in, any_at, ap, append-nil}
use Rattle.certificate.proofs.Imports.{ap₂, areas, arith, border_line_cmp, cases_Bool, cell_of, common_steps}
use Rattle.certificate.proofs.Imports.{cond-false, cond-true, cut_wires, cuts, each_in, edge_in, edge_lines_beside}
use Rattle.certificate.proofs.Imports.{edges, false, filter, filter_in, flat_map, gates, get_or, halo_in, halos}
use Rattle.certificate.proofs.Imports.{has_nonlocal_edge_wire_beside, in_box, in_each, in_filter, in_flat, in_halo}
use Rattle.certificate.proofs.Imports.{in_ordered, inl, inr, is_halo_line, is_haloless_version, is_local, is_lt}
use Rattle.certificate.proofs.Imports.{is_nonlocal_signal, keeps, known, length, length-map, line_cmp, list_all}
use Rattle.certificate.proofs.Imports.{list_any, local_wires, map, mapped_at, mapped_from, may_precede}
use Rattle.certificate.proofs.Imports.{modules_by_version, nat_lt, option_to_list, ordered_rises, pairs_filter, placed}
use Rattle.certificate.proofs.Imports.{precedes_halo_lines, rank_of, refl, slice_get, slice_get-get_or, some_is}
use Rattle.certificate.proofs.Imports.{sort_number_of, sorted_border_lines, stop_in, stops, subst, suc, sym, true}
use Rattle.certificate.proofs.Imports.{true≢false, whole, wire_of, with_halo_lines, without_halo_lines, zero, ℕ, ℤ}
use Rattle.certificate.proofs.Imports.{◌&&◌, ◌++◌, ◌<◌, ◌||◌, ◌∙◌, ◌∷◌, ◌≡◌, ◌≢◌, ◌≤◌}
use Rattle.std.proofs.lemmas.Simd.{map-map}
use Rattle.bbm_rule.proofs.CellOrder.{cell_exact}
use Rattle.certificate_lines.specs.Modules.{IsAllowedEdge, IsAllowedHalo, IsAllowedStop}
use Rattle.certificate_lines.proofs.LineOrder.{pairs_each, rising_distinct}
use Rattle.certificate_lines.proofs.Pairs.{each_append, each_at, pairs_append}
use Rattle.certificate.proofs.BorderOrder.{edges_rise, pairs_of_order}
use Rattle.lemmas.specs.Bounds.{max_modules}
use Rattle.bbm_rule.proofs.RingTests.{ring_in_box}

-- ---- lists

pub all_of_each : {A : Type 0} (P : A → Type 0) (xs : List A) → Each P xs → All P xs
all_of_each P xs e = λ i d lt. each_at P xs e i (get_or xs i d) (slice_get-get_or xs i d lt)

pub in_all : {A : Type 0} (P : A → Type 0) (xs : List A) → ((x : A) → In x xs → P x) → All P xs
in_all P xs h = all_of_each P xs (in_each P xs h)

pub stands : {A : Type 0} (xs : List A) (k : ℕ) (x : A) → slice_get xs k ≡ Some x → In x xs
unfolding In
stands [] k x e = absurd cc
stands (y ∷ ys) zero x e = inl (some_is y x e)
stands (y ∷ ys) (suc k) x e = inr (stands ys k x e)

-- what holds of each two elements by their places
pub pairs_by_place : {A : Type 0} (R : A → A → Type 0) (xs : List A) →
    ((i j : ℕ) (a b : A) → i < j → slice_get xs i ≡ Some a → slice_get xs j ≡ Some b → R a b) → Pairs R xs
unfolding Pairs
pairs_by_place R [] h = tt
pairs_by_place R (x ∷ xs) h = (
  in_each (R x) xs (λ y i. let p = placed y xs i in h 0 (suc p.0) x y (omega arith) refl p.1),
  pairs_by_place R xs (λ i j a b lt e f. h (suc i) (suc j) a b (omega (arith, lt)) e f),
)

-- ---- the lines of a module with other halo lines

-- what lines other than halo lines say is said without these
pub without_same : {X : Type 0} (f : CertificateLine → List X) → ((e : BorderLine) → f (Halo e) ≡ []) →
    (lines : List CertificateLine) → flat_map f (without_halo_lines lines) ≡ flat_map f lines
unfolding without_halo_lines is_halo_line
without_same f none [] = refl
without_same f none (Halo e ∷ lines) = without_same f none lines ∙ ap (λ xs. xs ++ flat_map f lines) (sym (none e))
without_same f none (i ∷ lines) = ap (λ xs. f i ++ xs) (without_same f none lines)

pub no_halo_left : (lines : List CertificateLine) → flat_map halo_in (without_halo_lines lines) ≡ []
unfolding without_halo_lines is_halo_line
no_halo_left [] = refl
no_halo_left (Halo e ∷ lines) = no_halo_left lines
no_halo_left (i ∷ lines) = no_halo_left lines

-- a function of lines that finds nothing in halo lines and stops
pub record IsOfEarly {X : Type 0} (f : CertificateLine → List X) : Type 0 where
  pub halo : (e : BorderLine) → f (Halo e) ≡ []
  pub stop : (s : StopLine) → f (Stop s) ≡ []

-- finds all that it finds in the early lines
early_same : {X : Type 0} (f : CertificateLine → List X) → IsOfEarly f → (lines : List CertificateLine) →
    flat_map f (filter precedes_halo_lines lines) ≡ flat_map f lines
unfolding precedes_halo_lines
early_same f none [] = refl
early_same f none (Halo e ∷ lines) = early_same f none lines ∙ ap (λ xs. xs ++ flat_map f lines) (sym (none.halo e))
early_same f none (Stop s ∷ lines) = early_same f none lines ∙ ap (λ xs. xs ++ flat_map f lines) (sym (none.stop s))
early_same f none (i ∷ lines) = ap (λ xs. f i ++ xs) (early_same f none lines)

-- the early lines have neither halo lines nor stops
early_halos : (lines : List CertificateLine) → flat_map halo_in (filter precedes_halo_lines lines) ≡ []
unfolding precedes_halo_lines
early_halos [] = refl
early_halos (Halo e ∷ lines) = early_halos lines
early_halos (i ∷ lines) = early_halos lines

early_stops : (lines : List CertificateLine) → flat_map stop_in (filter precedes_halo_lines lines) ≡ []
unfolding precedes_halo_lines
early_stops [] = refl
early_stops (Stop s ∷ lines) = early_stops lines
early_stops (i ∷ lines) = early_stops lines

nothing_in : {X Z Y : Type 0} (f : Y → List Z) (to : X → Y) → ((x : X) → f (to x) ≡ []) → (xs : List X) →
    flat_map f (map to xs) ≡ []
nothing_in f to none [] = refl
nothing_in f to none (x ∷ xs) = ap (λ l. l ++ flat_map f (map to xs)) (none x) ∙ nothing_in f to none xs

one_each : {X Y : Type 0} (f : Y → List X) (to : X → Y) → ((x : X) → f (to x) ≡ x ∷ []) → (xs : List X) →
    flat_map f (map to xs) ≡ xs
one_each f to one [] = refl
one_each f to one (x ∷ xs) = ap (λ l. l ++ flat_map f (map to xs)) (one x) ∙ ap (λ l. x ∷ l) (one_each f to one xs)

-- the lines of a module with these halo lines
abbrev pub lines_with_halos : List CertificateLine → List BorderLine → List CertificateLine
lines_with_halos lines hs = filter precedes_halo_lines lines ++ map Halo hs ++ map Stop (flat_map stop_in lines)

pub other_lines : {X : Type 0} (f : CertificateLine → List X) → IsOfEarly f →
    (lines : List CertificateLine) (hs : List BorderLine) → flat_map f (lines_with_halos lines hs) ≡ flat_map f lines
other_lines f none lines hs = grind (arith, common_steps, nothing_in, append-nil, early_same)

pub halo_lines : (lines : List CertificateLine) (hs : List BorderLine) →
    flat_map halo_in (lines_with_halos lines hs) ≡ hs
halo_lines lines hs = grind (arith, common_steps, early_halos, nothing_in, append-nil, one_each)

pub stop_lines : (lines : List CertificateLine) (hs : List BorderLine) →
    flat_map stop_in (lines_with_halos lines hs) ≡ flat_map stop_in lines
stop_lines lines hs = grind (arith, common_steps, early_stops, nothing_in, one_each)

-- ---- their order

all_of_tests : (test : CertificateLine → Bool) (lines : List CertificateLine) → Each (λ j. test j ≡ true) lines →
    list_all test lines ≡ true
unfolding Each
all_of_tests test [] e = refl
all_of_tests test (j ∷ lines) e = rw (e.0, all_of_tests test lines e.1) refl

order_of_pairs : (lines : List CertificateLine) → Pairs (λ i j. may_precede i j ≡ true) lines → AreLinesInOrder lines
unfolding AreLinesInOrder Pairs
order_of_pairs [] p = tt
order_of_pairs (i ∷ lines) p = (all_of_tests (may_precede i) lines p.0, order_of_pairs lines p.1)

less_is : (o : Ordering) (b : Bool) → o ≡ Less → (is_lt o || b) ≡ true
less_is o b h1 = grind (arith, common_steps)

halos_follow : (d e : BorderLine) → border_line_cmp d e ≡ Less → may_precede (Halo d) (Halo e) ≡ true
unfolding may_precede line_cmp rank_of sort_number_of cell_of border_line_cmp
halos_follow d e h = less_is _ _ h

before_halo : (i : CertificateLine) (e : BorderLine) → precedes_halo_lines i ≡ true → may_precede i (Halo e) ≡ true
unfolding may_precede line_cmp rank_of precedes_halo_lines
before_halo i e h1 = grind (arith, common_steps)

before_stop : (i : CertificateLine) (s : StopLine) → precedes_halo_lines i ≡ true → may_precede i (Stop s) ≡ true
unfolding may_precede line_cmp rank_of precedes_halo_lines
before_stop i s h1 = grind (arith, common_steps)

halo_before_stop : (e : BorderLine) (s : StopLine) → may_precede (Halo e) (Stop s) ≡ true
unfolding may_precede line_cmp rank_of
halo_before_stop e s = refl

each_mapped : {X : Type 0} (P : CertificateLine → Type 0) (to : X → CertificateLine) (xs : List X) →
    ((x : X) → In x xs → P (to x)) → Each P (map to xs)
unfolding Each In
each_mapped P to [] h = tt
each_mapped P to (x ∷ xs) h = (h x (inl refl), each_mapped P to xs (λ y i. h y (inr i)))

halo_pairs : (hs : List BorderLine) → Rises hs → Pairs (λ i j. may_precede i j ≡ true) (map Halo hs)
unfolding Pairs
halo_pairs [] p = tt
halo_pairs (d ∷ hs) p = grind (arith, common_steps, halo_pairs hs p.1, each_mapped, halos_follow, each_in)

-- the stops among lines
unfoldable is_stop : CertificateLine → Bool
is_stop (Stop s) = true
is_stop _ = false

stops_among : (lines : List CertificateLine) → filter is_stop lines ≡ map Stop (flat_map stop_in lines)
unfolding is_stop
stops_among [] = refl
stops_among (Stop s ∷ lines) = ap (λ l. Stop s ∷ l) (stops_among lines)
stops_among (i ∷ lines) = stops_among lines

pub full_order : (lines : List CertificateLine) (hs : List BorderLine) → AreLinesInOrder lines → Rises hs →
    AreLinesInOrder (lines_with_halos lines hs)
full_order lines hs o p =
    let may = λ (i j : CertificateLine). may_precede i j ≡ true in
    let early = filter precedes_halo_lines lines in
    let ss = flat_map stop_in lines in
    let pairs = pairs_of_order lines o in
    let is_early_one = λ (i : CertificateLine) (at : In i early). (in_filter precedes_halo_lines i lines at).1 in
    order_of_pairs (lines_with_halos lines hs)
    (pairs_append may (early ++ map Halo hs) (map Stop ss)
    (grind (arith, common_steps, pairs_append, pairs_filter, halo_pairs, in_each, each_mapped, before_halo))
    (subst (Pairs may) (stops_among lines) (pairs_filter may is_stop lines pairs))
    (grind (arith, common_steps, each_append, in_each, each_mapped, before_stop, halo_before_stop)))

-- ---- edge lines of several modules

-- no cell is in both
abbrev Apart : ModuleLines → ModuleLines → Type 0
Apart m n = (x y : ℤ) → in_box m.area x y ≡ true → in_box n.area x y ≡ true → ⊥

same_place : (d e : BorderLine) → border_line_cmp d e ≡ Equal → d.cell ≡ e.cell
unfolding border_line_cmp
same_place d e h = grind (arith, common_steps, cell_exact)

-- the edge lines of a module, as its lines are in order
pub edges_rising : (lines : List CertificateLine) → AreLinesInOrder lines → Rises (flat_map edge_in lines)
unfolding border_line_cmp
edges_rising lines o = grind (arith, common_steps, pairs_each, edges_rise)

pub full_areas : (g : Setting) (ms ns : List ModuleLines) → areas (map (with_halo_lines g ms) ns) ≡ areas ns
unfolding with_halo_lines
full_areas g ms ns = simp map-map

module _ (g : Setting) (ms : List ModuleLines) (good : AreModules g ms) where
  module_of : (m : ModuleLines) → In m ms → IsModule g m
  module_of m i = let p = placed m ms i in good.each p.0 m p.1

  pub edge_of : (m : ModuleLines) (e : BorderLine) → In m ms → In e (edges m) →
      IsAllowedEdge g m.area (known g.circuit m) e
  edge_of m e i j = all_in (IsAllowedEdge g m.area (known g.circuit m)) (edges m) (module_of m i).edge_lines e j

  pub edge_cell : (m : ModuleLines) (e : BorderLine) → In m ms → In e (edges m) → in_box m.area e.cell.x e.cell.y ≡ true
  edge_cell m e i j = ring_in_box m.area e.cell.x e.cell.y (edge_of m e i j).ring

  all_apart : Pairs Apart ms
  all_apart = pairs_by_place Apart ms (λ i j m n lt e f x y h k.
      let same = good.tile.once x y i j m.area n.area (mapped_at (λ (m : ModuleLines). m.area) ms i m e)
      (mapped_at (λ (m : ModuleLines). m.area) ms j n f) h k in omega (arith, lt, same))

  distinct_over : (ns : List ModuleLines) → Pairs Apart ns → ((n : ModuleLines) → In n ns → In n ms) →
      AreDistinct (flat_map edges ns)
  unfolding Pairs In
  distinct_over [] p some = tt
  distinct_over (m ∷ ns) p some =
      let here = some m (inl refl) in
      pairs_append (λ d e. border_line_cmp d e ≢ Equal) (edges m) (flat_map edges ns)
      (rising_distinct (edges m) (edges_rising m.lines (module_of m here).order))
      (distinct_over ns p.1 (λ n i. some n (inr i)))
      (in_each (λ d. Each (λ e. border_line_cmp d e ≢ Equal) (flat_map edges ns)) (edges m) (λ d at.
      in_each (λ e. border_line_cmp d e ≢ Equal) (flat_map edges ns) (λ e i same.
      let n = in_flat edges e ns i in
      let c : d.cell ≡ e.cell = same_place d e same in
      each_in (Apart m) ns p.0 n.0 n.1 e.cell.x e.cell.y
      (subst (λ (c : Cell). in_box m.area c.x c.y ≡ true) c (edge_cell m d here at))
      (edge_cell n.0 e (some n.0 (inr n.1)) n.2))))

  all_distinct : AreDistinct (flat_map edges ms)
  all_distinct = distinct_over ms all_apart (λ n i. i)

  pub in_beside : (area : Box2) (e : BorderLine) → In e (edge_lines_beside g ms area) →
      (nat_lt 1 g.size.steps ≡ true) × (in_halo area e.cell.x e.cell.y ≡ true) × In e (flat_map edges ms)
  unfolding edge_lines_beside In
  in_beside area e i = grind (arith, common_steps, cases_Bool, in_filter, cond-true, cond-false)

  pub beside_in : (area : Box2) (e : BorderLine) → nat_lt 1 g.size.steps ≡ true →
      in_halo area e.cell.x e.cell.y ≡ true → In e (flat_map edges ms) → In e (edge_lines_beside g ms area)
  unfolding edge_lines_beside
  beside_in area e long h i = grind (arith, common_steps, cond-true, filter_in)

  pub distinct_beside : (area : Box2) → AreDistinct (edge_lines_beside g ms area)
  unfolding edge_lines_beside Pairs
  distinct_beside area = grind (arith, common_steps, cases_Bool, cond-true, pairs_filter, all_distinct, cond-false)

  pub full_rises : (area : Box2) → Rises (sorted_border_lines (edge_lines_beside g ms area))
  full_rises area = ordered_rises (edge_lines_beside g ms area) (distinct_beside area)

  -- ---- a module with the edge lines beside it

  module _ (m : ModuleLines) where
    abbrev full : ModuleLines
    full = with_halo_lines g ms m

    pub full_area : full.area ≡ m.area
    unfolding with_halo_lines
    full_area = refl

    pub full_cuts : cuts full ≡ cuts m
    unfolding with_halo_lines
    full_cuts = grind (arith, common_steps, other_lines)

    pub full_gates : gates full ≡ gates m
    unfolding with_halo_lines
    full_gates = grind (arith, common_steps, other_lines)

    pub full_edges : edges full ≡ edges m
    unfolding with_halo_lines
    full_edges = grind (arith, common_steps, other_lines)

    pub full_halos : halos full ≡ sorted_border_lines (edge_lines_beside g ms m.area)
    unfolding with_halo_lines
    full_halos = halo_lines m.lines (sorted_border_lines (edge_lines_beside g ms m.area))

    pub full_keeps : keeps full ≡ keeps m
    unfolding with_halo_lines
    full_keeps = grind (arith, common_steps, other_lines)

    pub full_stops : stops full ≡ stops m
    unfolding with_halo_lines
    full_stops = stop_lines m.lines (sorted_border_lines (edge_lines_beside g ms m.area))

    pub full_wires : cut_wires g.circuit full ≡ cut_wires g.circuit m
    full_wires = ap (flat_map (λ n. option_to_list (wire_of g.circuit n))) full_cuts

    pub full_known : known g.circuit full ≡ known g.circuit m
    full_known = ap₂ (λ cs gs. local_wires g.circuit.netlist cs gs) full_wires full_gates

    one_or_local_wire : (s : Option (List ℕ)) → is_nonlocal_signal g.circuit (known g.circuit m) s ≡ false →
        IfSome s (λ name. IsTrue (is_local g.circuit (known g.circuit m) name))
    one_or_local_wire s h1 = grind (arith, common_steps)

    -- the edge lines beside it may be its halo lines
    halo_here : (e : BorderLine) → In e (edge_lines_beside g ms m.area) →
        is_nonlocal_signal g.circuit (known g.circuit m) e.signal ≡ false → IsAllowedHalo g m.area (known g.circuit m) e
    halo_here e i known_there =
        let b = in_beside m.area e i in
        let n = in_flat edges e ms b.2 in
        let is = edge_of n.0 e n.1 n.2 in
        let p = placed n.0 ms n.1 in
        record {
          halo = b.1;
          inside = good.tile.inside e.cell.x e.cell.y p.0 n.0.area
              (mapped_at (λ (m : ModuleLines). m.area) ms p.0 n.0 p.1) (edge_cell n.0 e n.1 n.2);
          border = record { time = is.border.time; signal = one_or_local_wire e.signal known_there };
        }

    pub full_good : In m ms → ((e : BorderLine) → In e (edge_lines_beside g ms m.area) →
        is_nonlocal_signal g.circuit (known g.circuit m) e.signal ≡ false) → IsModule g full
    unfolding with_halo_lines
    full_good at known_there =
        let is = module_of m at in
        record {
          even = is.even;
          wide = is.wide;
          high = is.high;
          inside = is.inside;
          named = ap length full_wires ∙ is.named ∙ ap length (sym full_cuts);
          local = grind (arith, common_steps, full, full_wires, full_gates);
          order = full_order m.lines (sorted_border_lines (edge_lines_beside g ms m.area)) is.order (full_rises m.area);
          keep_lines = grind (arith, common_steps, full, full_gates, full_keeps);
          unstarred = subst StarsExcludeLaterTimes (sym full_edges) is.unstarred;
          edge_lines = grind (arith, common_steps, full, full_known, full_edges);
          halo_lines = subst (λ ws. All (IsAllowedHalo g m.area ws) (halos full)) (sym full_known)
              (subst (All (IsAllowedHalo g m.area (known g.circuit m))) (sym full_halos)
              (in_all (IsAllowedHalo g m.area (known g.circuit m)) (sorted_border_lines (edge_lines_beside g ms m.area))
              (λ e i. let j = in_ordered e (edge_lines_beside g ms m.area) i in halo_here e j (known_there e j))));
          stop_lines = subst (λ ws. All (IsAllowedStop g m.area ws) (stops full)) (sym full_known)
              (subst (All (IsAllowedStop g m.area (known g.circuit m))) (sym full_stops) is.stop_lines);
        }

    pub full_ports : HasLocalPortWires g m → HasLocalPortWires g full
    unfolding with_halo_lines
    full_ports h = grind (arith, common_steps, full_known)

  -- ---- all modules

  none_passes : {A : Type 0} (test : A → Bool) (xs : List A) → list_any test xs ≡ false → (x : A) → In x xs →
      test x ≡ false
  none_passes test xs none x i = grind (arith, common_steps, cases_Bool, placed, true≢false, any_at)

  none_strange : has_nonlocal_edge_wire_beside g ms ≡ false → (m : ModuleLines) → In m ms → (e : BorderLine) →
      In e (edge_lines_beside g ms m.area) → is_nonlocal_signal g.circuit (known g.circuit m) e.signal ≡ false
  unfolding has_nonlocal_edge_wire_beside
  none_strange none m at e i = grind (arith, common_steps, none_passes)

  pub full_modules : has_nonlocal_edge_wire_beside g ms ≡ false → AreModules g (map (with_halo_lines g ms) ms)
  full_modules none = record {
    few = subst (λ n. n ≤ max_modules) (sym (length-map ms (with_halo_lines g ms))) good.few;
    each = λ k m e.
        let n = mapped_from (with_halo_lines g ms) ms k m e in
        let at = stands ms k n.0 n.1 in
        subst (IsModule g) n.2 (full_good n.0 at (none_strange none n.0 at));
    ports = λ k m e.
        let n = mapped_from (with_halo_lines g ms) ms k m e in
        subst (HasLocalPortWires g) n.2 (full_ports n.0 (good.ports k n.0 n.1));
    tile = subst (Tile (whole g.size)) (sym (full_areas g ms ms)) good.tile;
  }

-- the modules of either version have the boxes that the lines say
pub meant_areas : (version : ℕ) (g : Setting) (ms : List ModuleLines) →
    areas (modules_by_version version g ms) ≡ areas ms
unfolding modules_by_version
meant_areas version g ms = grind (arith, common_steps, cases_Bool, cond-true, full_areas, cond-false)

pub meant_old : (version : ℕ) (g : Setting) (ms : List ModuleLines) → is_haloless_version version ≡ false →
    modules_by_version version g ms ≡ ms
unfolding modules_by_version
meant_old version g ms e = cond-false _ _ _ e

pub meant_new : (version : ℕ) (g : Setting) (ms : List ModuleLines) → is_haloless_version version ≡ true →
    modules_by_version version g ms ≡ map (with_halo_lines g ms) ms
unfolding modules_by_version
meant_new version g ms e = cond-true _ _ _ e

pub meant_modules : (version : ℕ) (g : Setting) (ms : List ModuleLines) → AreModules g ms →
    (is_haloless_version version && has_nonlocal_edge_wire_beside g ms) ≡ false →
    AreModules g (modules_by_version version g ms)
unfolding modules_by_version
meant_modules version g ms good none = elim (cases_Bool (is_haloless_version version)) [
  | inl new ↦ subst (AreModules g) (sym (cond-true _ _ _ new))
      (full_modules g ms good (ap (λ b. b && has_nonlocal_edge_wire_beside g ms) (sym new) ∙ none))
  | inr old ↦ subst (AreModules g) (sym (cond-false _ _ _ old)) good
]
