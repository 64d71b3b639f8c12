-- A module that is good stays so after one more line that is good.
use Rattle.certificate_lines.proofs.Imports.{All, All-nil, AreLocalLines, Bool, BorderLine, Box2, CertificateLine}
use Rattle.certificate_lines.proofs.Imports.{Circuit, Cut, Edge, Gate, Halo, IfSome, IsModule, IsModuleInLimits, IsTrue}
use Rattle.certificate_lines.proofs.Imports.{Keep, List, ModuleLines, None, Option, Setting, Some}
use Rattle.certificate_lines.proofs.Imports.{StarsExcludeLaterTimes, Stop, StopLine, Use, [], and_parts, ap, ap₂}
use Rattle.certificate_lines.proofs.Imports.{are_new_and_distinct, arith, common_steps, cut_name_in, cuts, edge_in}
use Rattle.certificate_lines.proofs.Imports.{edges, eqb-true, false, false_from_not, flat_map, gates, halo_in, in_box}
use Rattle.certificate_lines.proofs.Imports.{is_among, is_local, is_odd, is_star, is_starred_line_at, kept_gate_in}
use Rattle.certificate_lines.proofs.Imports.{known, length, length_push, list_all, list_any, local_wires, may_follow}
use Rattle.certificate_lines.proofs.Imports.{module_with_line, rank_of, nat_tests, not, option_to_list, refl, slice_get}
use Rattle.certificate_lines.proofs.Imports.{stop_in, subst, sym, true, true_from_not, used_gate_in, wire_of, ℕ, ◌%◌}
use Rattle.certificate_lines.proofs.Imports.{◌++◌, ◌<◌, ◌||◌, ◌∙◌, ◌∷◌, ◌≡◌, IsBodyLine, Module, append-nil}
use Rattle.certificate_lines.proofs.Imports.{code_but_for_order, ◌+◌, ◌≤◌}
use Rattle.lemmas.proofs.Common.{nat_le, at_most_by_test, below_by_test, All-append, All-cons, ◌≢◌}
use Rattle.certificate_lines.specs.Entries.{keeps, halos, stops, cut_wires}
use Rattle.certificate_lines.specs.Rules.{border_or_stop_line_code, cut_line_code, edge_line_code, halo_line_code}
use Rattle.certificate_lines.specs.Rules.{is_edge_place_and_time_allowed, is_halo_place_and_time_allowed}
use Rattle.certificate_lines.specs.Rules.{is_line_time_allowed, is_stop_place_and_time_allowed, keep_line_code}
use Rattle.certificate_lines.specs.Rules.{signal_fault, stop_line_code, timed_line_count, timed_line_limit}
use Rattle.certificate_lines.specs.Rules.{use_line_code, used_gate_fault, wire_fault}
use Rattle.certificate_lines.specs.Modules.{IsAllowedEdge, IsAllowedHalo, IsAllowedStop, MayGateBeKept}
use Rattle.std.proofs.Common.{length-append}
pub use Rattle.pattern.proofs.Added.{no_code}
use Rattle.certificate_lines.proofs.Growing.{flat_push, flat_same}
use Rattle.certificate_lines.proofs.LineRanks.{only_uses, only_keeps, only_edges, only_halos, only_stops}
use Rattle.certificate_lines.proofs.ModuleLemmas.{all_before, list_all_push, lower_uses, none_before, order_push}
use Rattle.certificate_lines.proofs.LocalLemmas.{local_cut, local_use}
use Rattle.section_text.proofs.Codes.{both_none}

-- ---- tests that a line passed

pub less : (a b : ℕ) → nat_le a b ≡ false → b < a
less a b e = grind (arith, nat_tests)

at_nil : {A : Type 0} (P : A → Type 0) (xs : List A) → xs ≡ [] → All P xs
at_nil P xs none = subst (All P) (sym none) (All-nil P)

pub all_one : {A : Type 0} (P : A → Type 0) (x : A) → P x → All P (x ∷ [])
all_one P x h = All-cons P x [] h (All-nil P)

-- ---- a cut

-- the wire of a cut that is good
pub record IsNewWire (c : Circuit) (local : List ℕ) (name : List ℕ) : Type 0 where
  pub wire : ℕ
  pub named : wire_of c name ≡ Some wire
  pub new : is_among local wire ≡ false

pub new_wire : (c : Circuit) (count : ℕ) (local : List ℕ) (name : List ℕ) → cut_line_code c count local name ≡ None →
    (count < 12) × IsNewWire c local name
unfolding cut_line_code
new_wire c count local name e = grind (arith, common_steps, both_none, less, no_code)

-- ---- lines with a time beside those with a `*`

first_free : (star here more : Bool) → (star || not (here || more)) ≡ true → (star || not here) ≡ true
first_free star here more h = grind arith

unstarred_push : (es : List BorderLine) (e : BorderLine) → StarsExcludeLaterTimes es →
    (is_star e.time || not (list_any (is_starred_line_at e.cell) es)) ≡ true → StarsExcludeLaterTimes (es ++ e ∷ [])
unfolding StarsExcludeLaterTimes
unstarred_push [] e u h = (refl, tt)
unstarred_push (d ∷ es) e u h = (
  list_all_push (λ e. is_star e.time || not (is_starred_line_at e.cell d)) es e u.0
      (first_free (is_star e.time) (is_starred_line_at e.cell d) (list_any (is_starred_line_at e.cell) es) h),
  unstarred_push es e u.1 (grind (arith, common_steps)),
)

free_time : (steps : ℕ) (starred : Bool) (t : Option ℕ) → is_line_time_allowed steps starred t ≡ true →
    (is_star t || not starred) ≡ true
unfolding is_line_time_allowed
free_time steps starred t h1 = grind (arith, common_steps, and_parts)

free_of_star : (g : Setting) (area : Box2) (starred : Bool) (e : BorderLine) →
    is_edge_place_and_time_allowed g.size area starred e ≡ true → (is_star e.time || not starred) ≡ true
unfolding is_edge_place_and_time_allowed
free_of_star g area starred e place = grind (arith, common_steps, free_time, and_parts)

-- ---- a cut or a used gate

-- such a line comes before the lines of the other kinds
module _ (g : Setting) (m : ModuleLines) (is : IsModule g m) (i : CertificateLine)
    (follows : may_follow m.lines i ≡ true) where
  abbrev more : ModuleLines
  more = module_with_line i m

  none_yet : {A : Type 0} (f : CertificateLine → List A) (rank : ℕ) →
      ((j : CertificateLine) → rank_of j ≢ rank → f j ≡ []) → rank_of i < rank → flat_map f more.lines ≡ []
  none_yet f rank only low =
      flat_same f m.lines i (only i (λ e. absurd (omega (arith, low, e))))
      ∙ none_before f rank only i low m.lines follows

  early_pushed : rank_of i < 3 → length (cut_wires g.circuit more) ≡ length (cuts more) →
      AreLocalLines g.circuit.netlist (cut_wires g.circuit more) (gates more) → IsModuleInLimits g more
  unfolding StarsExcludeLaterTimes
  early_pushed low named local =
      let edges_are = none_yet edge_in 4 only_edges (omega arith) in
      let halos_are = none_yet halo_in 5 only_halos (omega arith) in
      let stops_are = none_yet stop_in 6 only_stops (omega arith) in
      record {
        good = record {
          even = is.even;
          wide = is.wide;
          high = is.high;
          inside = is.inside;
          named = named;
          local = local;
          order = order_push m.lines i is.order follows;
          keep_lines = at_nil (MayGateBeKept g (gates more)) (keeps more) (none_yet kept_gate_in 3 only_keeps low);
          unstarred = subst StarsExcludeLaterTimes (sym edges_are) tt;
          edge_lines = at_nil (IsAllowedEdge g m.area (known g.circuit more)) (edges more) edges_are;
          halo_lines = at_nil (IsAllowedHalo g m.area (known g.circuit more)) (halos more) halos_are;
          stop_lines = at_nil (IsAllowedStop g m.area (known g.circuit more)) (stops more) stops_are;
        };
        few_borders = grind (arith, common_steps, edges_are, halos_are, stops_are);
      }

module _ (g : Setting) (m : ModuleLines) (is : IsModule g m) (n : List ℕ)
    (follows : may_follow m.lines (Cut n) ≡ true) where
  no_gates : gates m ≡ []
  unfolding rank_of
  no_gates = none_before used_gate_in 2 only_uses (Cut n) (omega arith) m.lines follows

  abbrev cut : ModuleLines
  cut = module_with_line (Cut n) m

  gates_are : gates cut ≡ []
  gates_are = flat_same used_gate_in m.lines (Cut n) refl ∙ no_gates

  module _ (w : ℕ) (named : wire_of g.circuit n ≡ Some w) where
    -- the local wires of a module that has no used gate
    known_none : known g.circuit m ≡ local_wires g.circuit.netlist (cut_wires g.circuit m) []
    known_none = ap (local_wires g.circuit.netlist (cut_wires g.circuit m)) no_gates

    pub known_cut : known g.circuit cut ≡ known g.circuit m ++ w ∷ []
    known_cut = grind (arith, common_steps, gates_are, known_none)

    cut_pushed : length (cuts m) < 12 → is_among (known g.circuit m) w ≡ false → IsModuleInLimits g cut
    unfolding rank_of
    cut_pushed few new =
        let before : AreLocalLines g.circuit.netlist (cut_wires g.circuit m) [] =
        subst (AreLocalLines g.circuit.netlist (cut_wires g.circuit m)) no_gates is.local in
        let room : length (cut_wires g.circuit m) < 12 = let e = is.named in omega (arith, e) in
        let after = local_cut g.circuit.netlist (cut_wires g.circuit m) w before room
        (ap (λ l. is_among l w) (sym known_none) ∙ new) in
        early_pushed g m is (Cut n) follows (omega arith)
        (grind (arith, common_steps, length_push, flat_push))
        (grind (arith, common_steps, cut, gates_are))

-- ---- a used gate

-- the gate that is used, where that is good
pub record IsGoodUse (c : Circuit) (local : List ℕ) (k : ℕ) : Type 0 where
  pub gate : Gate
  pub numbered : slice_get c.netlist.gates k ≡ Some gate
  pub ins : list_all (is_among local) gate.ins ≡ true
  pub outs : are_new_and_distinct local gate.outs ≡ true

gate_by : (local : List ℕ) (o : Option Gate) → used_gate_fault local o ≡ None →
    (g : Gate) × (o ≡ Some g) × (list_all (is_among local) g.ins ≡ true) × (are_new_and_distinct local g.outs ≡ true)
unfolding used_gate_fault
gate_by local None e = absurd cc
gate_by local (Some g) e = grind (arith, common_steps, both_none, true_from_not, no_code)

pub good_use : (c : Circuit) (count : ℕ) (local : List ℕ) (k : ℕ) → use_line_code c count local k ≡ None →
    (count < 64) × IsGoodUse c local k
unfolding use_line_code
good_use c count local k e = grind (arith, common_steps, both_none, gate_by, less, no_code)

module _ (g : Setting) (m : ModuleLines) (k : ℕ) where
  abbrev used : ModuleLines
  used = module_with_line (Use k) m

  cut_wires_use : cut_wires g.circuit used ≡ cut_wires g.circuit m
  cut_wires_use = ap (flat_map (λ n. option_to_list (wire_of g.circuit n))) (flat_same cut_name_in m.lines (Use k) refl)

  use_pushed : IsModule g m → may_follow m.lines (Use k) ≡ true → length (gates m) < 64 →
      IsGoodUse g.circuit (known g.circuit m) k → IsModuleInLimits g used
  unfolding rank_of
  use_pushed is follows few good =
      let lower = all_before used_gate_in (Use k) (λ j. j < k) (lower_uses k) m.lines follows in
      let after = local_use g.circuit.netlist (cut_wires g.circuit m)
      (gates m) k good.gate is.local good.numbered lower good.ins good.outs few in
      early_pushed g m is (Use k) follows (omega arith)
      (ap length cut_wires_use ∙ is.named ∙ sym (ap length (flat_same cut_name_in m.lines (Use k) refl)))
      (grind (arith, common_steps, used, cut_wires_use, flat_push))

-- ---- edge and halo lines

odd : (t : ℕ) → is_odd t ≡ true → t % 2 ≡ 1
odd t e = eqb-true (t % 2) 1 e

time_good : (steps : ℕ) (starred : Bool) (t : Option ℕ) → is_line_time_allowed steps starred t ≡ true →
    IfSome t (λ t. (t % 2 ≡ 1) × (t < steps))
unfolding is_line_time_allowed
time_good steps starred None e = tt
time_good steps starred (Some t) e = grind (arith, common_steps, and_parts, odd, below_by_test)

local_by : (c : Circuit) (local : List ℕ) (name : List ℕ) (o : Option ℕ) → wire_of c name ≡ o →
    wire_fault local o ≡ None → IsTrue (is_local c local name)
local_by c local name o h1 h2 = grind (arith, common_steps, true_from_not, no_code)

-- a signal that is good is `1` or names a wire that is local
pub signal_good : (c : Circuit) (local : List ℕ) (s : Option (List ℕ)) → signal_fault c local s ≡ None →
    IfSome s (λ name. IsTrue (is_local c local name))
unfolding signal_fault
signal_good c local s h1 = grind (arith, common_steps, local_by)

-- what the tests of an edge or halo line say
pub record IsGoodBorder (c : Circuit) (count : ℕ) (local : List ℕ) (placed : Bool)
    (signal : Option (List ℕ)) : Type 0 where
  pub few : count < timed_line_limit
  pub place : placed ≡ true
  pub names : signal_fault c local signal ≡ None

pub good_border : (c : Circuit) (count : ℕ) (local : List ℕ) (placed : Bool) (signal : Option (List ℕ)) →
    border_or_stop_line_code c count local placed signal ≡ None → IsGoodBorder c count local placed signal
unfolding border_or_stop_line_code
good_border c count local placed signal e = grind (arith, common_steps, both_none, less, no_code, true_from_not)

edge_good : (g : Setting) (area : Box2) (local : List ℕ) (count : ℕ) (starred : Bool) (e : BorderLine) →
    IsGoodBorder g.circuit count local (is_edge_place_and_time_allowed g.size area starred e) e.signal →
    IsAllowedEdge g area local e
unfolding is_edge_place_and_time_allowed
edge_good g area local count starred e good =
    grind (arith, common_steps, and_parts, false_from_not, time_good, signal_good)

halo_good : (g : Setting) (area : Box2) (local : List ℕ) (count : ℕ) (starred : Bool) (e : BorderLine) →
    IsGoodBorder g.circuit count local (is_halo_place_and_time_allowed g.size area starred e) e.signal →
    IsAllowedHalo g area local e
unfolding is_halo_place_and_time_allowed
halo_good g area local count starred e good = grind (arith, common_steps, and_parts, time_good, signal_good)

stop_good : (g : Setting) (area : Box2) (local : List ℕ) (count : ℕ) (s : StopLine) →
    IsGoodBorder g.circuit count local (is_stop_place_and_time_allowed g.size area s) (Some s.wire) →
    IsAllowedStop g area local s
unfolding is_stop_place_and_time_allowed
stop_good g area local count s good =
    let parts = and_parts (in_box area s.cell.x s.cell.y) (nat_le s.time g.size.steps) good.place in
    record {
      time = at_most_by_test s.time g.size.steps parts.1;
      inside = parts.0;
      wire = signal_good g.circuit local (Some s.wire) good.names;
    }

module _ (g : Setting) (m : ModuleLines) where
  pub good_edge : (e : BorderLine) → edge_line_code g m e ≡ None → IsAllowedEdge g m.area (known g.circuit m) e
  good_edge e code = edge_good g m.area _ _ _ e (good_border _ _ _ _ _ code)

  pub good_halo : (e : BorderLine) → halo_line_code g m e ≡ None → IsAllowedHalo g m.area (known g.circuit m) e
  good_halo e code = halo_good g m.area _ _ _ e (good_border _ _ _ _ _ code)

  pub good_stop : (s : StopLine) → stop_line_code g m s ≡ None → IsAllowedStop g m.area (known g.circuit m) s
  good_stop s code = stop_good g m.area _ _ s (good_border _ _ _ _ _ code)

-- ---- a kept gate

pub keep_good : (g : Setting) (used : List ℕ) (k : ℕ) → keep_line_code g.circuit used k ≡ None → MayGateBeKept g used k
unfolding keep_line_code
keep_good g mine k e = grind (arith, common_steps, both_none, true_from_not, no_code)

-- ---- a line that cuts and uses nothing

-- what such a line adds is good
module _ (g : Setting) (m : ModuleLines) where
  keeps_in : (i : CertificateLine) → code_but_for_order g m i ≡ None → All (MayGateBeKept g (gates m)) (kept_gate_in i)
  keeps_in (Keep k) good = all_one (MayGateBeKept g (gates m)) k (keep_good g (gates m) k good)
  keeps_in i good = All-nil (MayGateBeKept g (gates m))

  edges_in : (i : CertificateLine) → code_but_for_order g m i ≡ None →
      All (IsAllowedEdge g m.area (known g.circuit m)) (edge_in i)
  edges_in (Edge e) good = all_one (IsAllowedEdge g m.area (known g.circuit m)) e (good_edge g m e good)
  edges_in i good = All-nil (IsAllowedEdge g m.area (known g.circuit m))

  halos_in : (i : CertificateLine) → code_but_for_order g m i ≡ None →
      All (IsAllowedHalo g m.area (known g.circuit m)) (halo_in i)
  halos_in (Halo e) good = all_one (IsAllowedHalo g m.area (known g.circuit m)) e (good_halo g m e good)
  halos_in i good = All-nil (IsAllowedHalo g m.area (known g.circuit m))

  stops_in : (i : CertificateLine) → code_but_for_order g m i ≡ None →
      All (IsAllowedStop g m.area (known g.circuit m)) (stop_in i)
  stops_in (Stop s) good = all_one (IsAllowedStop g m.area (known g.circuit m)) s (good_stop g m s good)
  stops_in i good = All-nil (IsAllowedStop g m.area (known g.circuit m))

  stars_in : (i : CertificateLine) → code_but_for_order g m i ≡ None → StarsExcludeLaterTimes (edges m) →
      StarsExcludeLaterTimes (edges m ++ edge_in i)
  stars_in i h1 h2 = grind (arith, common_steps, unstarred_push, free_of_star, good_border, append-nil)

  few_in : (i : CertificateLine) → code_but_for_order g m i ≡ None → timed_line_count m ≤ timed_line_limit →
      timed_line_count m + length (edge_in i) + length (halo_in i) + length (stop_in i) ≤ timed_line_limit
  few_in i h1 h2 = grind (arith, common_steps, less, good_border)

-- it leaves the local wires
module _ (g : Setting) (m : ModuleLines) (i : CertificateLine) (no_cut : cut_name_in i ≡ [])
    (no_use : used_gate_in i ≡ []) where
  cuts_same : cuts (module_with_line i m) ≡ cuts m
  cuts_same = flat_same cut_name_in m.lines i no_cut

  cut_wires_same : cut_wires g.circuit (module_with_line i m) ≡ cut_wires g.circuit m
  cut_wires_same = ap (flat_map (λ n. option_to_list (wire_of g.circuit n))) cuts_same

  gates_same : gates (module_with_line i m) ≡ gates m
  gates_same = flat_same used_gate_in m.lines i no_use

  pub known_same : known g.circuit (module_with_line i m) ≡ known g.circuit m
  known_same = ap₂ (λ cs gs. local_wires g.circuit.netlist cs gs) cut_wires_same gates_same

  all_more : {A : Type 0} (f : CertificateLine → List A) (P : A → Type 0) → All P (flat_map f m.lines) → All P (f i) →
      All P (flat_map f (m.lines ++ i ∷ []))
  all_more f P before new =
      subst (All P) (sym (flat_push f m.lines i)) (All-append P (flat_map f m.lines) (f i) before new)

  late_pushed : IsModuleInLimits g m → may_follow m.lines i ≡ true → code_but_for_order g m i ≡ None →
      IsModuleInLimits g (module_with_line i m)
  late_pushed written follows good =
      let is = written.good in
      let more = module_with_line i m in
      record {
        good = record {
          even = is.even;
          wide = is.wide;
          high = is.high;
          inside = is.inside;
          named = grind (arith, common_steps, cut_wires_same, cuts_same);
          local = grind (arith, common_steps, cut_wires_same, gates_same);
          order = order_push m.lines i is.order follows;
          keep_lines = subst (λ gs. All (MayGateBeKept g gs) (keeps more)) (sym gates_same)
              (all_more kept_gate_in (MayGateBeKept g (gates m)) is.keep_lines (keeps_in g m i good));
          unstarred = subst StarsExcludeLaterTimes (sym (flat_push edge_in m.lines i))
              (stars_in g m i good is.unstarred);
          edge_lines = subst (λ ws. All (IsAllowedEdge g m.area ws) (edges more)) (sym known_same)
              (all_more edge_in (IsAllowedEdge g m.area (known g.circuit m)) is.edge_lines (edges_in g m i good));
          halo_lines = subst (λ ws. All (IsAllowedHalo g m.area ws) (halos more)) (sym known_same)
              (all_more halo_in (IsAllowedHalo g m.area (known g.circuit m)) is.halo_lines (halos_in g m i good));
          stop_lines = subst (λ ws. All (IsAllowedStop g m.area ws) (stops more)) (sym known_same)
              (all_more stop_in (IsAllowedStop g m.area (known g.circuit m)) is.stop_lines (stops_in g m i good));
        };
        few_borders = simp (flat_push, length-append)
            (let few = few_in g m i good written.few_borders in omega (arith, few));
      }

-- ---- any line of a module

pub pushed : (g : Setting) (m : ModuleLines) → IsModuleInLimits g m → (i : CertificateLine) → IsBodyLine i →
    may_follow m.lines i ≡ true → code_but_for_order g m i ≡ None → IsModuleInLimits g (module_with_line i m)
pushed g m is (Module b) body follows good = absurd body
pushed g m is (Cut n) body follows good =
    let words = new_wire g.circuit _ _ n good in
    cut_pushed g m is.good n follows words.1.wire words.1.named words.0 words.1.new
pushed g m is (Use k) body follows good =
    let words = good_use g.circuit _ _ k good in
    use_pushed g m k is.good follows words.0 words.1
pushed g m is i body follows good = late_pushed g m i refl refl is follows good
