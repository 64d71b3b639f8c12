-- The lines of stored modules, and the modules of these lines
use Rattle.certificate_lines.proofs.Imports.{Circuit, CertificateLine, List, ModuleLines, Option, Some, [], ap}
use Rattle.certificate_lines.proofs.Imports.{append-nil, append_assoc, arith, common_steps, cut_name_in, cuts, edge_in}
use Rattle.certificate_lines.proofs.Imports.{edges, flat_map, flat_map-append, gates, halo_in, kept_gate_in, map}
use Rattle.certificate_lines.proofs.Imports.{module_with_line, modules_of, refl, stop_in, sym, used_gate_in, Cut, Use}
use Rattle.certificate_lines.proofs.Imports.{Keep, Edge, Halo, Stop, Module, All, All-tail, map-append, BorderLine}
use Rattle.certificate_lines.proofs.Imports.{StopLine, get_or, last_of, slice_get, slice_get-get_or, slice_get_within}
use Rattle.certificate_lines.proofs.Imports.{subst, suc, ◌-◌, IfSome, last_module, mapped_from, option_map, ◌+◌, Counts}
use Rattle.certificate_lines.proofs.Imports.{line_counts_of, length-map, ◌++◌, ◌∙◌, ◌∷◌, ◌≡◌, ◌<◌, ℕ, length}
use Rattle.certificate_lines.proofs.Imports.{option_to_list}
use Rattle.certificate_lines.proofs.Imports.{wire_of, may_follow, rank_of, true, and_parts, ap₂, body_lines}
use Rattle.certificate_lines.proofs.Imports.{false_from_not, is_module_line, list_all, list_all-append, not}
use Rattle.lemmas.proofs.Common.{Global, Vec, slice_set, All-head, list_all-map}
use Rattle.std.proofs.Common.{Bor}
use Rattle.std.specs.Option.{option_copied}
use Rattle.certificate_lines.specs.Modules.{IsWithinLineLimit}
use Rattle.certificate_lines.specs.Rules.{timed_line_count}
use Rattle.certificate_lines.proofs.Growing.{last_by_place, last_mapped}
use Rattle.certificate_lines.proofs.Lists.{some_is}
use Rattle.certificate_lines.proofs.LineRanks.{only_uses, only_keeps, only_edges, only_halos, only_stops}
use Rattle.certificate_lines.proofs.ModuleLemmas.{none_before}
use Rattle.certificate_lines.proofs.ModuleSplit.{inner_other, split_module, split_other}
use Rattle.circuit.proofs.Naming.{place_position}
use Rattle.std.proofs.lemmas.List.Quantifiers.{position-Some}
use Rattle.std.proofs.lemmas.List.Elements.{All-set}
use Rattle.std.proofs.lemmas.List.Folds.{flat_map-map}
use Rattle.certificate_lines.specs.Entries.{cut_wires, halos, keeps, stops}
use Rattle.certificate_lines.specs.StoredModules.{HasCircuitWires, IsCircuitWire, border_line, body_lines_with}
use Rattle.certificate_lines.specs.StoredModules.{lines_of_modules, module_lines, module_lines_with, stop_line}
use Rattle.certificate_lines.specs.StoredModules.{wire_name}
use Rattle.certificate_lines.specs.declared.stored_module.StoredBorder.{StoredBorder}
use Rattle.certificate_lines.specs.declared.stored_module.StoredModule.{StoredModule}
use Rattle.certificate_lines.specs.declared.stored_module.StoredStop.{StoredStop}

-- ---- the lines of each kind

none_in : {X A : Type 0} (xs : List X) → ◌≡◌ {A = List A} (flat_map (λ x. []) xs) []
none_in [] = refl
none_in (x ∷ xs) = none_in xs

ones_in : {X A : Type 0} (h : X → A) (xs : List X) → flat_map (λ x. h x ∷ []) xs ≡ map h xs
ones_in h [] = refl
ones_in h (x ∷ xs) = ap (λ l. h x ∷ l) (ones_in h xs)

all_in : {X : Type 0} (xs : List X) → flat_map (λ x. x ∷ []) xs ≡ xs
all_in [] = refl
all_in (x ∷ xs) = ap (λ l. x ∷ l) (all_in xs)

module _ (c : Circuit) (m : StoredModule) (hs : List StoredBorder) where
  pub kinds : {A : Type 0} (f : CertificateLine → List A) → flat_map f (body_lines_with c m hs)
      ≡ flat_map (λ w. f (Cut (wire_name c w))) m.cuts.items ++ (flat_map (λ k. f (Use k)) m.gates.items
      ++ (flat_map (λ k. f (Keep k)) m.keeps.items ++ (flat_map (λ b. f (Edge (border_line c b))) m.edges.items
      ++ (flat_map (λ b. f (Halo (border_line c b))) hs ++ flat_map (λ s. f (Stop (stop_line c s))) m.stops.items))))
  kinds f = simp (flat_map-append, flat_map-map)

  pub cuts_with : cuts (module_lines_with c m hs) ≡ map (wire_name c) m.cuts.items
  cuts_with = kinds cut_name_in ∙ simp (none_in, ones_in, append-nil)

  pub gates_with : gates (module_lines_with c m hs) ≡ m.gates.items
  gates_with = kinds used_gate_in ∙ simp (none_in, all_in, append-nil)

  pub keeps_with : keeps (module_lines_with c m hs) ≡ m.keeps.items
  keeps_with = kinds kept_gate_in ∙ simp (none_in, all_in, append-nil)

  pub edges_with : edges (module_lines_with c m hs) ≡ map (border_line c) m.edges.items
  edges_with = kinds edge_in ∙ simp (none_in, ones_in, append-nil)

  pub halos_with : halos (module_lines_with c m hs) ≡ map (border_line c) hs
  halos_with = kinds halo_in ∙ simp (none_in, ones_in, append-nil)

  pub stops_with : stops (module_lines_with c m hs) ≡ map (stop_line c) m.stops.items
  stops_with = kinds stop_in ∙ simp (none_in, ones_in)

-- ---- how many lines there are

pub counts_stored : (c : Circuit) (m : StoredModule) → ◌≡◌ {A = Counts} (record {
  area = m.area;
  cuts = length m.cuts.items;
  gates = length m.gates.items;
  edges = length m.edges.items;
  halos = length m.halos.items;
  stops = length m.stops.items;
}) (line_counts_of (module_lines c m))
counts_stored c m = simp (cuts_with, gates_with, edges_with, halos_with, stops_with, length-map)

-- ---- the wires of the circuit

all_named : (c : Circuit) (ws : List ℕ) → All (IsCircuitWire c) ws →
    flat_map (λ n. option_to_list (wire_of c n)) (map (wire_name c) ws) ≡ ws
all_named c [] own = refl
all_named c (w ∷ ws) own =
    ap (λ o. option_to_list o ++ flat_map (λ n. option_to_list (wire_of c n)) (map (wire_name c) ws))
    (All-head (IsCircuitWire c) w ws own)
    ∙ ap (λ l. w ∷ l) (all_named c ws (All-tail (IsCircuitWire c) w ws own))

pub cut_wires_with : (c : Circuit) (m : StoredModule) (hs : List StoredBorder) → All (IsCircuitWire c) m.cuts.items →
    cut_wires c (module_lines_with c m hs) ≡ m.cuts.items
cut_wires_with c m hs own =
    ap (flat_map (λ n. option_to_list (wire_of c n))) (cuts_with c m hs) ∙ all_named c m.cuts.items own

pub wire_within : (c : Circuit) (w : ℕ) → IsCircuitWire c w → w < length c.names
wire_within c w own = grind (arith, common_steps, position-Some, place_position)

-- ---- the modules of the lines of modules

-- lines that begin no module are lines of the module before them
no_modules : (es rest : List CertificateLine) → list_all (λ i. not (is_module_line i)) es ≡ true →
    (body_lines (es ++ rest) ≡ es ++ body_lines rest) × (modules_of (es ++ rest) ≡ modules_of rest)
no_modules [] rest h = (refl, refl)
no_modules (i ∷ es) rest h =
    let both = and_parts (not (is_module_line i)) _ h in
    let other = false_from_not (is_module_line i) both.0 in
    let more = no_modules es rest both.1 in grind (arith, common_steps, inner_other, split_other)

all_true : {X : Type 0} (xs : List X) → list_all (λ x. true) xs ≡ true
all_true [] = refl
all_true (x ∷ xs) = all_true xs

are_body_lines : (c : Circuit) (m : StoredModule) →
    list_all (λ i. not (is_module_line i)) (module_lines c m).lines ≡ true
are_body_lines c m = simp (list_all-append, list_all-map, all_true)

module_first : (c : Circuit) (ms : List StoredModule) → body_lines (lines_of_modules c ms) ≡ []
unfolding body_lines
module_first c [] = refl
module_first c (m ∷ ms) = refl

pub modules_stored : (c : Circuit) (ms : List StoredModule) →
    modules_of (lines_of_modules c ms) ≡ map (module_lines c) ms
unfolding modules_of
modules_stored c [] = refl
modules_stored c (m ∷ ms) =
    let body = (module_lines c m).lines in
    let over = no_modules body (lines_of_modules c ms) (are_body_lines c m) in
    split_module m.area (body ++ lines_of_modules c ms)
    ∙ ap₂ (λ lines ns. record { area = m.area; lines = lines } ∷ ns)
    (over.0 ∙ ap (λ l. body ++ l) (module_first c ms) ∙ append-nil body) (over.1 ∙ modules_stored c ms)

-- ---- one more line of a module

pub nothing_mapped : {X Y : Type 0} (f : X → Y) (xs : List X) → map f xs ≡ [] → xs ≡ []
nothing_mapped f [] e = refl
nothing_mapped f (x ∷ xs) e = absurd cc

-- no lines of a later kind come before a line
record HasNoLater (m : StoredModule) (rank : ℕ) : Type 0 where
  gates : rank < 2 → m.gates.items ≡ []
  keeps : rank < 3 → m.keeps.items ≡ []
  edges : rank < 4 → m.edges.items ≡ []
  halos : rank < 5 → m.halos.items ≡ []
  stops : rank < 6 → m.stops.items ≡ []

no_later : (c : Circuit) (m : StoredModule) (i : CertificateLine) → may_follow (module_lines c m).lines i ≡ true →
    HasNoLater m (rank_of i)
no_later c m i follows =
    let hs = m.halos.items in
    record {
      gates = λ low. sym (gates_with c m hs) ∙ none_before used_gate_in 2 only_uses i low _ follows;
      keeps = λ low. sym (keeps_with c m hs) ∙ none_before kept_gate_in 3 only_keeps i low _ follows;
      edges = λ low. nothing_mapped (border_line c) _
          (sym (edges_with c m hs) ∙ none_before edge_in 4 only_edges i low _ follows);
      halos = λ low. nothing_mapped (border_line c) _
          (sym (halos_with c m hs) ∙ none_before halo_in 5 only_halos i low _ follows);
      stops = λ low. nothing_mapped (stop_line c) _
          (sym (stops_with c m hs) ∙ none_before stop_in 6 only_stops i low _ follows);
    }

-- each kind of line behind the others of its kind
module _ (c : Circuit) (m : StoredModule) where
  pub cut_added : (ws : Vec ℕ Global) (name : List ℕ) (w : ℕ) → wire_name c w ≡ name →
      ws.items ≡ m.cuts.items ++ w ∷ [] → may_follow (module_lines c m).lines (Cut name) ≡ true →
      module_lines c (record m { cuts = ws }) ≡ module_with_line (Cut name) (module_lines c m)
  unfolding rank_of
  cut_added ws name w is added follows =
      let none = no_later c m (Cut name) follows in
      grind (arith, common_steps, map-append)

  pub gate_added : (ks : Vec ℕ Global) (k : ℕ) → ks.items ≡ m.gates.items ++ k ∷ [] →
      may_follow (module_lines c m).lines (Use k) ≡ true →
      module_lines c (record m { gates = ks }) ≡ module_with_line (Use k) (module_lines c m)
  unfolding rank_of
  gate_added ks k added follows =
      let none = no_later c m (Use k) follows in
      grind (arith, common_steps, map-append)

  pub keep_added : (ks : Vec ℕ Global) (k : ℕ) → ks.items ≡ m.keeps.items ++ k ∷ [] →
      may_follow (module_lines c m).lines (Keep k) ≡ true →
      module_lines c (record m { keeps = ks }) ≡ module_with_line (Keep k) (module_lines c m)
  unfolding rank_of
  keep_added ks k added follows =
      let none = no_later c m (Keep k) follows in
      grind (arith, common_steps, map-append)

  pub edge_added : (bs : Vec StoredBorder Global) (d : BorderLine) (b : StoredBorder) → border_line c b ≡ d →
      bs.items ≡ m.edges.items ++ b ∷ [] → may_follow (module_lines c m).lines (Edge d) ≡ true →
      module_lines c (record m { edges = bs }) ≡ module_with_line (Edge d) (module_lines c m)
  unfolding rank_of
  edge_added bs d b is added follows =
      let none = no_later c m (Edge d) follows in
      grind (arith, common_steps, map-append)

  pub halo_added : (bs : Vec StoredBorder Global) (d : BorderLine) (b : StoredBorder) → border_line c b ≡ d →
      bs.items ≡ m.halos.items ++ b ∷ [] → may_follow (module_lines c m).lines (Halo d) ≡ true →
      module_lines c (record m { halos = bs }) ≡ module_with_line (Halo d) (module_lines c m)
  unfolding rank_of
  halo_added bs d b is added follows =
      let none = no_later c m (Halo d) follows in
      grind (arith, common_steps, map-append)

  pub stop_added : (ss : Vec StoredStop Global) (d : StopLine) (b : StoredStop) → stop_line c b ≡ d →
      ss.items ≡ m.stops.items ++ b ∷ [] →
      module_lines c (record m { stops = ss }) ≡ module_with_line (Stop d) (module_lines c m)
  stop_added ss d b is added = grind (arith, common_steps, map-append)

-- ---- one more line of the last module

-- the last element is the one that was read at the last place
pub last_is_at : {X : Type 0} (xs : List X) (i : ℕ) (x : X) → i ≡ length xs - 1 → 0 < length xs → x ≡ get_or xs i x →
    last_of xs ≡ Some x
last_is_at xs i x at some is = grind (arith, common_steps, last_by_place, slice_get, slice_get-get_or)

-- the module has these lines more
abbrev HasMore : Circuit → List CertificateLine → StoredModule → StoredModule → Type 0
HasMore c more m n = module_lines c n ≡ record (module_lines c m) { lines = (module_lines c m).lines ++ more }

last_more : (c : Circuit) (more : List CertificateLine) (m n : StoredModule) → HasMore c more m n →
    lines_of_modules c (n ∷ []) ≡ lines_of_modules c (m ∷ []) ++ more
last_more c more m n has = grind (arith, common_steps)

place_of_last : (n : ℕ) → suc (suc n) - 1 ≡ suc (suc n - 1)
place_of_last n = omega arith

set_more : (c : Circuit) (more : List CertificateLine) (ms : List StoredModule) (m n : StoredModule) →
    last_of ms ≡ Some m → HasMore c more m n →
    lines_of_modules c (slice_set ms (length ms - 1) n) ≡ lines_of_modules c ms ++ more
unfolding last_of
set_more c more [] m n last has = absurd cc
set_more c more (k ∷ []) m n last has =
    last_more c more k n (subst (λ l. HasMore c more l n) (sym (some_is k m last)) has)
set_more c more (k ∷ l ∷ ms) m n last has =
    ap (λ i. lines_of_modules c (slice_set (k ∷ l ∷ ms) i n)) (place_of_last (length ms))
    ∙ ap (λ es. (Module k.area ∷ (module_lines c k).lines) ++ es) (set_more c more (l ∷ ms) m n last has)
    ∙ sym (append_assoc (Module k.area ∷ (module_lines c k).lines) (lines_of_modules c (l ∷ ms)) more)

pub line_added : (c : Circuit) (i : CertificateLine) (ms : List StoredModule) (at : ℕ) (m n : StoredModule) →
    at ≡ length ms - 1 → 0 < length ms → m ≡ get_or ms at m → module_lines c n ≡ module_with_line i (module_lines c m) →
    lines_of_modules c (slice_set ms at n) ≡ lines_of_modules c ms ++ i ∷ []
line_added c i ms at m n is some got has =
    ap (λ k. lines_of_modules c (slice_set ms k n)) is
    ∙ set_more c (i ∷ []) ms m n (last_is_at ms at m is some got) has

pub lines_left : (c : Circuit) (ms : List StoredModule) (at : ℕ) (m n : StoredModule) →
    at ≡ length ms - 1 → 0 < length ms → m ≡ get_or ms at m → module_lines c n ≡ module_lines c m →
    lines_of_modules c (slice_set ms at n) ≡ lines_of_modules c ms
lines_left c ms at m n is some got same =
    ap (λ k. lines_of_modules c (slice_set ms k n)) is
    ∙ set_more c [] ms m n (last_is_at ms at m is some got) (same ∙ grind (arith, common_steps))
    ∙ append-nil (lines_of_modules c ms)

pub wires_kept : (c : Circuit) (ms : List StoredModule) (at : ℕ) (m n : StoredModule) → at < length ms →
    m ≡ get_or ms at m → (HasCircuitWires c m → HasCircuitWires c n) → All (HasCircuitWires c) ms →
    All (HasCircuitWires c) (slice_set ms at n)
wires_kept c ms at m n within is keeps own =
    All-set (HasCircuitWires c) ms at n (keeps (subst (HasCircuitWires c) (sym is) (own at m within))) own

-- ---- what the modules tell of the lines

module _ (c : Circuit) (m : StoredModule) where
  pub cut_count : length m.cuts.items ≡ length (cuts (module_lines c m))
  cut_count = simp (cuts_with, length-map)

  pub used_gates : m.gates.items ≡ gates (module_lines c m)
  used_gates = sym (gates_with c m m.halos.items)

  pub timed_count : length m.edges.items + length m.halos.items + length m.stops.items
      ≡ timed_line_count (module_lines c m)
  timed_count = simp (edges_with, halos_with, stops_with, length-map)

module _ (c : Circuit) (ms : List StoredModule) where
  pub last_stored : option_map (module_lines c) (last_of ms) ≡ last_module (lines_of_modules c ms)
  last_stored = sym (ap last_of (modules_stored c ms) ∙ last_mapped (module_lines c) ms)

  pub count_stored : length ms ≡ length (modules_of (lines_of_modules c ms))
  count_stored = simp (modules_stored, length-map)

pub copied_lines : (c : Circuit) (r : Option (Bor StoredModule)) →
    option_map (λ m. module_lines c m.now) r ≡ option_map (module_lines c) (option_copied r)
copied_lines c r = grind (arith, common_steps)

pub limit_found : (c : Circuit) (r : Option (Bor StoredModule)) (last : Option ModuleLines) →
    option_map (λ m. module_lines c m.now) r ≡ last → IfSome last IsWithinLineLimit →
    IfSome r (λ m. IsWithinLineLimit (module_lines c m.now))
limit_found c r last h1 h2 = grind (arith, common_steps)

pub module_written : (c : Circuit) (ms : List StoredModule) (k : ℕ) (m : ModuleLines) →
    slice_get (modules_of (lines_of_modules c ms)) k ≡ Some m →
    (n : StoredModule) × (slice_get ms k ≡ Some n) × (module_lines c n ≡ m)
module_written c ms k m at = mapped_from (module_lines c) ms k m
    (sym (ap (λ l. slice_get l k) (modules_stored c ms)) ∙ at)

pub area_at : (c : Circuit) (ms : List StoredModule) (k : ℕ) (m : ModuleLines) (n : StoredModule) →
    slice_get (modules_of (lines_of_modules c ms)) k ≡ Some m → n ≡ get_or ms k n → n.area ≡ m.area
area_at c ms k m n at is =
    let from = module_written c ms k m at in
    let within = slice_get_within ms k from.0 from.1 in
    let same : from.0 ≡ n = some_is from.0 n (sym from.1 ∙ slice_get-get_or ms k n within ∙ ap Some (sym is)) in
    ap (λ (l : StoredModule). l.area) (sym same) ∙ ap (λ (l : ModuleLines). l.area) from.2
