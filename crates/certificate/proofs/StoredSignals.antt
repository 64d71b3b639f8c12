-- What the lines of a module that is kept ask for, by the numbers of its wires
use Rattle.certificate.proofs.Imports.{All, All-head, All-tail, AreBorderLinesRising, AreLocalLines, BorderLine}
use Rattle.certificate.proofs.Imports.{Circuit, CircuitLine, HasCircuitWire, HasLocalWire, IfSome, IsCircuitWire}
use Rattle.certificate.proofs.Imports.{IsGoodModule, IsTrue, IsWithinMaxSize, LayoutHeader, List, LocalNet, ModuleLines}
use Rattle.certificate.proofs.Imports.{None, Option, Pairs, Pattern, Setting, Signal, Some, StopLine, StoredBorder}
use Rattle.certificate.proofs.Imports.{StoredModule, StoredStop, [], ap, ap₂, arith, border_line, border_line_cmp}
use Rattle.certificate.proofs.Imports.{cell_at, circuit_of, common_steps, cuts, edges, event_if_timed, flat_map, get_or}
use Rattle.certificate.proofs.Imports.{halos, is_among, is_local, keeps, known, length, length-map, line_signals}
use Rattle.certificate.proofs.Imports.{local_wires, map, mapped_at, module_lines_with, netlist_of, one_or_named_wire}
use Rattle.certificate.proofs.Imports.{one_or_wire, option_map, refl, setting_of, signal_if_starred, size_fault}
use Rattle.certificate.proofs.Imports.{stop_line, stops, stops_of_lines, stored_signals, stored_stop, subst, suc, sym}
use Rattle.certificate.proofs.Imports.{unnamed_line, wire_name, zero, ℕ, ◌++◌, ◌+◌, ◌<◌, ◌∙◌, ◌∷◌, ◌≡◌, ◌≤◌}
use Rattle.lemmas.proofs.Common.{all_unmapped}
use Rattle.certificate_lines.specs.Modules.{IsAllowedEdge, IsAllowedHalo, IsAllowedStop, MayGateBeKept}
use Rattle.certificate_lines.proofs.Pairs.{pairs_at}
use Rattle.certificate_lines.proofs.StoredLemmas.{cut_wires_with, cuts_with, edges_with, gates_with, halos_with}
use Rattle.certificate_lines.proofs.StoredLemmas.{keeps_with, stops_with}
use Rattle.certificate.specs.Jobs.{stop_with_wire_number}
use Rattle.certificate.proofs.JobLemmas.{within_512, within_layout}
use Rattle.certificate.proofs.NearLines.{low_edges, low_halos, low_stops}
use Rattle.certificate.proofs.BorderOrder.{Before, edges_rise, halos_rise}
use Rattle.lemmas.specs.Bounds.{max_side}

pub all_at : {A : Type 0} (P : A → Type 0) (xs : List A) → All P xs → (i : ℕ) (x : A) → i < length xs →
    x ≡ get_or xs i x → P x
all_at P xs h i x lt is = subst P (sym is) (h i x lt)

pub item_is : {A : Type 0} (xs : List A) (i : ℕ) (d : A) → i < length xs → get_or xs i d ≡ get_or xs i (get_or xs i d)
item_is [] i d lt = absurd (omega (arith, lt))
item_is (x ∷ xs) zero d lt = refl
item_is (x ∷ xs) (suc i) d lt = item_is xs i d (omega (arith, lt))

-- ---- signals and stops

own_signal : (c : Circuit) (w : Option ℕ) → IfSome w (IsCircuitWire c) →
    one_or_wire w ≡ one_or_named_wire c (option_map (wire_name c) w)
own_signal c w h1 = grind (arith, common_steps)

same_all_times : (d e : BorderLine) (t : Option ℕ) (s : Signal) → d.cell ≡ e.cell →
    signal_if_starred d t s ≡ signal_if_starred e t s
same_all_times d e t s h1 = grind (arith, common_steps)

same_events : (d e : BorderLine) (t : Option ℕ) (s : Signal) → d.cell ≡ e.cell →
    event_if_timed d t s ≡ event_if_timed e t s
same_events d e t s h1 = grind (arith, common_steps)

module _ (c : Circuit) where
  said_flat : {X : Type 0} (f : BorderLine → Option ℕ → Signal → List X) → ((d e : BorderLine) (t : Option ℕ)
      (s : Signal) → d.cell ≡ e.cell → f d t s ≡ f e t s) → (bs : List StoredBorder) → All (HasCircuitWire c) bs →
      flat_map (λ b. f (unnamed_line b) b.time (one_or_wire b.wire)) bs
      ≡ flat_map (λ e. f e e.time (one_or_named_wire c e.signal)) (map (border_line c) bs)
  said_flat f same [] own = refl
  said_flat f same (b ∷ bs) own =
      ap₂ (λ xs ys. xs ++ ys)
      (same (unnamed_line b) (border_line c b) b.time (one_or_wire b.wire) refl
      ∙ ap (f (border_line c b) b.time) (own_signal c b.wire (All-head (HasCircuitWire c) b bs own)))
      (said_flat f same bs (All-tail (HasCircuitWire c) b bs own))

  said_signals : (bs : List StoredBorder) → All (HasCircuitWire c) bs →
      stored_signals bs ≡ line_signals c (map (border_line c) bs)
  said_signals bs own = λ i. record {
    all_times = said_flat signal_if_starred same_all_times bs own i;
    events = said_flat event_if_timed same_events bs own i;
  }

  said_stops : (ss : List StoredStop) → All (λ s. IsCircuitWire c s.wire) ss →
      map stored_stop ss ≡ stops_of_lines c (map (stop_line c) ss)
  said_stops [] own = refl
  said_stops (s ∷ ss) own =
      ap₂ (λ xs ys. xs ++ ys)
      (sym (ap (stop_with_wire_number (stop_line c s))
      (All-head (λ (q : StoredStop). IsCircuitWire c q.wire) s ss own)))
      (said_stops ss (All-tail (λ (q : StoredStop). IsCircuitWire c q.wire) s ss own))

  known_wire : (ws : List ℕ) (w : Option ℕ) → IfSome w (IsCircuitWire c) →
      IfSome (option_map (wire_name c) w) (λ name. IsTrue (is_local c ws name)) → IfSome w (λ v. IsTrue (is_among ws v))
  known_wire ws w h1 h2 = grind (arith, common_steps)

  rising : (bs : List StoredBorder) → Pairs Before (map (border_line c) bs) → AreBorderLinesRising bs
  unfolding border_line_cmp
  rising bs p = record {
    rises = λ i j a b lt ea eb. pairs_at Before (map (border_line c) bs) p i j (border_line c a) (border_line c b) lt
        (mapped_at (border_line c) bs i a ea) (mapped_at (border_line c) bs j b eb);
  }

-- ---- a good module with these halo lines

module _ {cs : List CircuitLine} {p : Pattern} {m : StoredModule} {hs : List StoredBorder}
    (good : IsGoodModule cs p m hs) where
  abbrev c : Circuit
  c = circuit_of cs

  abbrev g : Setting
  g = setting_of cs p

  abbrev lines : ModuleLines
  lines = module_lines_with (circuit_of cs) m hs

  pub local_lines : AreLocalLines (netlist_of cs) m.cuts.items m.gates.items
  local_lines = grind (arith, common_steps, cut_wires_with, gates_with)

  pub known_wires : {ls : List CircuitLine} {ws cw us : List ℕ} → ls ≡ cs → cw ≡ m.cuts.items → us ≡ m.gates.items →
      ws ≡ local_wires (netlist_of ls) cw us → ws ≡ known c lines
  known_wires circuit cuts uses are =
      are ∙ (λ i. local_wires (netlist_of (circuit i)) (cuts i) (uses i))
      ∙ sym (ap₂ (local_wires (netlist_of cs)) (cut_wires_with c m hs good.wires.cuts) (gates_with c m hs))

  pub cut_count : length m.cuts.items ≡ length (cuts lines)
  cut_count = sym (ap length (cuts_with c m hs) ∙ length-map m.cuts.items (wire_name c))

  pub keeps_used : All (λ k. IsTrue (is_among m.gates.items k)) m.keeps.items
  keeps_used k d lt =
      (subst (All (MayGateBeKept g m.gates.items)) (keeps_with c m hs)
      (subst (λ us. All (MayGateBeKept g us) (keeps lines)) (gates_with c m hs) good.lines.keep_lines) k d lt).among

  pub edges_rising : AreBorderLinesRising m.edges.items
  edges_rising = grind (arith, common_steps, rising, edges_with, edges_rise)

  pub halos_rising : AreBorderLinesRising hs
  halos_rising = rising c hs (subst (Pairs Before) (halos_with c m hs) (halos_rise lines.lines good.lines.order))

  pub edges_say : stored_signals m.edges.items ≡ line_signals c (edges lines)
  edges_say = said_signals c m.edges.items good.wires.edges ∙ ap (line_signals c) (sym (edges_with c m hs))

  pub halos_say : stored_signals hs ≡ line_signals c (halos lines)
  halos_say = said_signals c hs good.halo_wires ∙ ap (line_signals c) (sym (halos_with c m hs))

  pub stops_say : map stored_stop m.stops.items ≡ stops_of_lines c (stops lines)
  stops_say = said_stops c m.stops.items good.wires.stops ∙ ap (stops_of_lines c) (sym (stops_with c m hs))

  -- what holds of all edge lines, halo lines or stops
  of_edges : (P : BorderLine → Type 0) → All P (edges lines) → All (λ b. P (border_line c b)) m.edges.items
  of_edges P h = all_unmapped P (border_line c) m.edges.items (subst (All P) (edges_with c m hs) h)

  of_halos : (P : BorderLine → Type 0) → All P (halos lines) → All (λ b. P (border_line c b)) hs
  of_halos P h = all_unmapped P (border_line c) hs (subst (All P) (halos_with c m hs) h)

  of_stops : (P : StopLine → Type 0) → All P (stops lines) → All (λ s. P (stop_line c s)) m.stops.items
  of_stops P h = all_unmapped P (stop_line c) m.stops.items (subst (All P) (stops_with c m hs) h)

  -- they name wires that the module knows
  module _ (l : LocalNet) (are : l.circuit_wires ≡ known c lines) where
    named : (s : Option (List ℕ)) → IfSome s (λ name. IsTrue (is_local c (known c lines) name)) →
        IfSome s (λ name. IsTrue (is_local c l.circuit_wires name))
    named s h = subst (λ ws. IfSome s (λ name. IsTrue (is_local c ws name))) (sym are) h

    pub edges_local : All (HasLocalWire l) m.edges.items
    edges_local k d lt =
        known_wire c l.circuit_wires (get_or m.edges.items k d).wire (good.wires.edges k d lt)
        (named _ (of_edges (IsAllowedEdge g m.area (known c lines)) good.lines.edge_lines k d lt).border.signal)

    pub halos_local : All (HasLocalWire l) hs
    halos_local k d lt =
        known_wire c l.circuit_wires (get_or hs k d).wire (good.halo_wires k d lt)
        (named _ (of_halos (IsAllowedHalo g m.area (known c lines)) good.lines.halo_lines k d lt).border.signal)

    pub stops_local : All (λ s. IsTrue (is_among l.circuit_wires s.wire)) m.stops.items
    stops_local k d lt =
        known_wire c l.circuit_wires (Some (get_or m.stops.items k d).wire) (good.wires.stops k d lt)
        (named (Some (wire_name c (get_or m.stops.items k d).wire))
        (of_stops (IsAllowedStop g m.area (known c lines)) good.lines.stop_lines k d lt).wire)

  -- and their cells lie within 4096 columns and rows
  module _ {s : LayoutHeader} (is : s ≡ p.size) (limits : size_fault s ≡ None) where
    pub low_edge_cells : All (λ b. IsWithinMaxSize (cell_at b.column b.row)) m.edges.items
    low_edge_cells = of_edges (λ e. IsWithinMaxSize e.cell) (low_edges g lines s is limits good.lines)

    pub low_halo_cells : All (λ b. IsWithinMaxSize (cell_at b.column b.row)) hs
    low_halo_cells = of_halos (λ e. IsWithinMaxSize e.cell) (low_halos g lines s is limits good.lines)

    pub low_stop_cells : All (λ t. IsWithinMaxSize (cell_at t.column t.row)) m.stops.items
    low_stop_cells = of_stops (λ e. IsWithinMaxSize e.cell) (low_stops g lines s is limits good.lines)

    pub corner_within : (m.area.x ≤ max_side) × (m.area.y ≤ max_side)
    corner_within =
        let w = within_512 g lines s is limits good.lines in
        let right = w.0 in
        let bottom = w.1 in
        (omega (arith, right), omega (arith, bottom))

    pub inside_layout : ((m.area.x + m.area.w ≤ p.size.w) × (m.area.x + m.area.w ≤ max_side))
        × ((m.area.y + m.area.h ≤ p.size.h) × (m.area.y + m.area.h ≤ max_side))
    inside_layout = within_layout g lines s is limits good.lines
