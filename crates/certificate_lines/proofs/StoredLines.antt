-- A good line is one that a module can store
use Rattle.certificate_lines.proofs.Imports.{All, Box2, Cell, CertificateLine, Circuit, Cut, Edge, Gate, Halo, IfSome}
use Rattle.certificate_lines.proofs.Imports.{IsBodyLine, IsModule, IsTrue, Keep, LayoutHeader, LineKey, List, Module}
use Rattle.certificate_lines.proofs.Imports.{ModuleLines, None, Option, Setting, Some, Stop, Use, [], arith}
use Rattle.certificate_lines.proofs.Imports.{bytes_eq-Decides, code_but_for_order, common_steps, edge_in, false≢true}
use Rattle.certificate_lines.proofs.Imports.{flat_map-append, gates, halo_in, in_box, in_box_nats, is_local}
use Rattle.certificate_lines.proofs.Imports.{is_local_wire, is_some, key_of, key_or_first, known, last_body_line}
use Rattle.certificate_lines.proofs.Imports.{last_module, last_of, length, may_follow, module_line_code, modules_of}
use Rattle.certificate_lines.proofs.Imports.{option_map, refl, size_fault, size_sides, slice_get, slice_get_within}
use Rattle.certificate_lines.proofs.Imports.{subst, sym, true, whole, wire_of, ℕ, ℤ, ◌++◌, ◌<◌, ◌∙◌, ◌∷◌, ◌≡◌, ◌≤◌}
use Rattle.lemmas.proofs.Common.{All-push, low_number}
use Rattle.std.specs.Option.{option_and_then}
use Rattle.std.proofs.lemmas.List.Quantifiers.{position-Some}
use Rattle.circuit.proofs.Naming.{place_position}
use Rattle.certificate_lines.specs.BuilderView.{AreLinesAndWiresTracked, IsEdgeHaloOrStopLine, wires_made_local}
use Rattle.certificate_lines.specs.BuilderView.{AreTrackedModules, IsWireOfLine, IsWithinMaxSize, MayBeStored}
use Rattle.certificate_lines.specs.Entries.{wire_name_in_line}
use Rattle.certificate_lines.specs.Rules.{is_inverse_gate}
use Rattle.certificate_lines.specs.StoredModules.{HasCircuitWires, IsCircuitWire, lines_of_modules, module_lines}
use Rattle.certificate_lines.specs.StoredModules.{wire_name}
use Rattle.certificate_lines.specs.declared.stored_module.StoredModule.{StoredModule}
use Rattle.certificate_lines.proofs.Keeping.{AreStarsWith, IsGoodLine, with_border, with_inner, with_module}
use Rattle.module_box.proofs.BoxCells.{in_rectangle}
use Rattle.certificate_lines.proofs.ModulePushes.{good_edge, good_halo, good_stop, good_use, keep_good, new_wire}
use Rattle.certificate_lines.proofs.StoredLemmas.{count_stored, last_stored}
use Rattle.module_box.specs.Tiling.{OwnersView, PutsBox}
use Rattle.lemmas.specs.Bounds.{max_gates}
use Rattle.bbm_rule.proofs.RingTests.{ring_in_box}

-- ---- the wire of a name

wire_named : (c : Circuit) (n : List ℕ) (w : ℕ) → wire_of c n ≡ Some w → wire_name c w ≡ n
wire_named c n w e = grind (arith, common_steps, position-Some, place_position, bytes_eq-Decides)

local_is_some : (local : List ℕ) (wire : Option ℕ) → IsTrue (is_local_wire local wire) → IsTrue (is_some wire)
local_is_some local wire h1 = grind (arith, common_steps)

signal_named : (c : Circuit) (local : List ℕ) (signal : Option (List ℕ)) →
    IfSome signal (λ n. IsTrue (is_local c local n)) → IfSome signal (λ n. IsTrue (is_some (wire_of c n)))
signal_named c local signal h1 = grind (arith, common_steps, local_is_some)

-- the name in a line whose words are good
named_words : (g : Setting) (m : ModuleLines) (i : CertificateLine) → code_but_for_order g m i ≡ None →
    IfSome (wire_name_in_line i) (λ n. IsTrue (is_some (wire_of g.circuit n)))
named_words g m (Cut n) e = subst (λ o. IsTrue (is_some o)) (sym (new_wire _ _ _ n e).1.named) refl
named_words g m (Edge b) e = signal_named g.circuit (known g.circuit m) b.signal (good_edge g m b e).border.signal
named_words g m (Halo b) e = signal_named g.circuit (known g.circuit m) b.signal (good_halo g m b e).border.signal
named_words g m (Stop s) e = local_is_some (known g.circuit m) (wire_of g.circuit s.wire) (good_stop g m s e).wire
named_words g m _ e = tt

found_by : (c : Circuit) (n : List ℕ) (found : Option ℕ) → wire_of c n ≡ found → IsTrue (is_some found) →
    (option_map (wire_name c) found ≡ Some n) × IfSome found (IsCircuitWire c)
found_by c n found h1 h2 = grind (arith, common_steps, false≢true, wire_named)

found : (c : Circuit) (name : Option (List ℕ)) → IfSome name (λ n. IsTrue (is_some (wire_of c n))) →
    (option_map (wire_name c) (option_and_then (wire_of c) name) ≡ name)
    × IfSome (option_and_then (wire_of c) name) (IsCircuitWire c)
found c None named = (refl, tt)
found c (Some n) named = found_by c n (wire_of c n) refl named

-- so the wire that was found for it is that of the line
pub named_line : (g : Setting) (m : ModuleLines) (i : CertificateLine) (wire : Option ℕ) →
    code_but_for_order g m i ≡ None →
    wire ≡ option_and_then (wire_of g.circuit) (wire_name_in_line i) → IsWireOfLine g.circuit i wire
named_line g m i wire good is =
    let all = found g.circuit (wire_name_in_line i) (named_words g m i good) in
    subst (IsWireOfLine g.circuit i) (sym is) (record { name = all.0; own = all.1 })

-- ---- the numbers of a line

pub max_size : (s : LayoutHeader) (x y : ℤ) → size_fault s ≡ None → in_box (whole s) x y ≡ true →
    IsWithinMaxSize (record { x = x; y = y })
max_size s x y sized inside =
    let sides = size_sides s sized in
    grind (arith, common_steps, in_box_nats, low_number)

wire_there : (f : ℕ → List ℕ) (wire : Option ℕ) (n : List ℕ) → option_map f wire ≡ Some n → IsTrue (is_some wire)
wire_there f wire n h1 = grind (arith, common_steps)

gate_there : (gates : List Gate) (k : ℕ) (found : Option Gate) → slice_get gates k ≡ found →
    IsTrue (is_inverse_gate found) → k < length gates
gate_there gates k found h1 h2 = grind (arith, common_steps, false≢true, slice_get_within)

pub may_store : (g : Setting) (m : ModuleLines) (i : CertificateLine) (wire : Option ℕ) → IsModule g m →
    size_fault g.size ≡ None → length g.circuit.netlist.gates ≤ max_gates → IsBodyLine i →
    code_but_for_order g m i ≡ None → IsWireOfLine g.circuit i wire → MayBeStored i wire
may_store g m (Module b) wire is sized few body good own = absurd body
may_store g m (Cut n) wire is sized few body good own = wire_there (wire_name g.circuit) wire n own.name
may_store g m (Use k) wire is sized few body good own = grind (arith, common_steps, good_use, slice_get_within)
may_store g m (Keep k) wire is sized few body good own =
    let within = gate_there g.circuit.netlist.gates k _ refl (keep_good g (gates m) k good).inverse in
    omega (arith, within, few)
may_store g m (Edge e) wire is sized few body good own =
    max_size g.size e.cell.x e.cell.y sized (in_rectangle g.size.w g.size.h m.area e.cell.x e.cell.y is.inside
    (ring_in_box m.area e.cell.x e.cell.y (good_edge g m e good).ring))
may_store g m (Halo e) wire is sized few body good own =
    max_size g.size e.cell.x e.cell.y sized (good_halo g m e good).inside
may_store g m (Stop s) wire is sized few body good own = (
  max_size g.size s.cell.x s.cell.y sized
      (in_rectangle g.size.w g.size.h m.area s.cell.x s.cell.y is.inside (good_stop g m s good).inside),
  wire_there (wire_name g.circuit) wire s.wire own.name,
)

-- ---- the last of the modules that are kept

some_by : (c : Circuit) (ms : List StoredModule) (m : ModuleLines) → option_map (module_lines c) (last_of ms) ≡ Some m →
    0 < length ms
unfolding last_of
some_by c [] m e = absurd cc
some_by c (n ∷ ms) m e = omega arith

pub some_module : (c : Circuit) (ms : List StoredModule) (m : ModuleLines) →
    last_module (lines_of_modules c ms) ≡ Some m → 0 < length ms
some_module c ms m last = some_by c ms m (last_stored c ms ∙ last)

follows_by : (c : Circuit) (last : Option StoredModule) (m : ModuleLines) (i : CertificateLine) →
    option_map (module_lines c) last ≡ Some m → may_follow m.lines i ≡ true →
    IfSome last (λ n. may_follow (module_lines c n).lines i ≡ true)
follows_by c None m i e h = tt
follows_by c (Some n) m i e h = grind (arith, common_steps)

pub follows_last : (c : Circuit) (ms : List StoredModule) (m : ModuleLines) (i : CertificateLine) →
    last_module (lines_of_modules c ms) ≡ Some m → may_follow m.lines i ≡ true →
    IfSome (last_of ms) (λ n. may_follow (module_lines c n).lines i ≡ true)
follows_last c ms m i last h = follows_by c (last_of ms) m i (last_stored c ms ∙ last) h

-- ---- what is kept of modules, after one more line or none

module _ (g : Setting) (ms new : List StoredModule) (owners : OwnersView) (key : LineKey) (earlier : List (List ℕ))
    (local : List ℕ) (e h : List Cell) (was : AreTrackedModules g ms owners key earlier local e h)
    (own : All (HasCircuitWires g.circuit) new) where
  pub kept_left : lines_of_modules g.circuit new ≡ lines_of_modules g.circuit ms →
      AreTrackedModules g new owners key earlier local e h
  kept_left same = record {
    tracked = subst (λ es. AreLinesAndWiresTracked g es owners (last_body_line es) key earlier local e h)
        (sym same) was.tracked;
    wires = own;
  }

  module _ (i : CertificateLine) (good : IsGoodLine g (lines_of_modules g.circuit ms) i)
      (more : lines_of_modules g.circuit new ≡ lines_of_modules g.circuit ms ++ i ∷ []) (e' h' : List Cell)
      (stars : AreStarsWith edge_in i e e')
      (halo_stars : AreStarsWith halo_in i h h') where
    pub kept_border : IsEdgeHaloOrStopLine i → AreTrackedModules g new owners (key_of i) earlier local e' h'
    kept_border border = record {
      tracked = subst (λ es. AreLinesAndWiresTracked g es owners (last_body_line es) (key_of i) earlier local e' h')
          (sym more)
          (with_border g _ owners _ key earlier local e h was.tracked i border good e' h' stars halo_stars);
      wires = own;
    }

    pub kept_body : IsBodyLine i →
        AreTrackedModules g new owners (key_of i) earlier (local ++ wires_made_local g.circuit i) e' h'
    kept_body body = record {
      tracked = subst (λ es. AreLinesAndWiresTracked g es owners (last_body_line es) (key_of i) earlier
          (local ++ wires_made_local g.circuit i) e' h') (sym more)
          (with_inner g _ owners _ key earlier local e h was.tracked i body good e' h' stars halo_stars);
      wires = own;
    }

-- ---- what is kept of modules, after one more module

begun_lines : (c : Circuit) (ms : List StoredModule) (n : StoredModule) (b : Box2) →
    module_lines c n ≡ record { area = b; lines = [] } →
    lines_of_modules c (ms ++ n ∷ []) ≡ lines_of_modules c ms ++ Module b ∷ []
begun_lines c ms n b empty = grind (arith, common_steps, flat_map-append)

pub kept_module : (g : Setting) (ms new : List StoredModule) (owners : OwnersView) (key : LineKey)
    (earlier : List (List ℕ)) (local : List ℕ) (e h : List Cell) →
    AreTrackedModules g ms owners key earlier local e h →
    (n : StoredModule) → new ≡ ms ++ n ∷ [] → (b : Box2) → module_lines g.circuit n ≡ record { area = b; lines = [] } →
    HasCircuitWires g.circuit n → (new_owners : OwnersView) →
    module_line_code g (modules_of (lines_of_modules g.circuit ms)) (last_module (lines_of_modules g.circuit ms)) b
    ≡ None → (number : ℕ) → number ≡ length ms → PutsBox b number owners new_owners →
    AreTrackedModules g new new_owners (key_or_first None) (earlier ++ local ∷ []) [] [] []
kept_module g ms new owners key earlier local e h was n are b empty own new_owners good number is puts =
    subst (λ l. AreTrackedModules g l new_owners (key_or_first None) (earlier ++ local ∷ []) [] [] []) (sym are)
    (record {
      tracked = subst (λ es. AreLinesAndWiresTracked g es new_owners (last_body_line es) (key_or_first None)
          (earlier ++ local ∷ []) [] [] []) (sym (begun_lines g.circuit ms n b empty))
          (with_module g _ owners _ key earlier local e h was.tracked new_owners b good number
          (is ∙ count_stored g.circuit ms) puts);
      wires = All-push (HasCircuitWires g.circuit) ms n was.wires own;
    })
