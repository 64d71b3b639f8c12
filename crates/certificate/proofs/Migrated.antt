-- Lines that are good are good without the halo lines
use Rattle.certificate.proofs.Imports.{AreFaultless, AreModules, Bool, BorderLine, Box2, CertificateLine, Circuit, Cut}
use Rattle.certificate.proofs.Imports.{Edge, Halo, Keep, List, Module, ModuleLines, None, Option, Setting, Some, Stop}
use Rattle.certificate.proofs.Imports.{Use, [], add_line, and_parts, ap, append-nil, ap₂, areas, arith, both_none}
use Rattle.certificate.proofs.Imports.{certificate_grammar, change_last, common_steps, cut_name_in, cuts, edge_in}
use Rattle.certificate.proofs.Imports.{edge_lines_beside, edges, end_fault, entry_fault, false, filter, flat_map, fold}
use Rattle.certificate.proofs.Imports.{gates, halos, has_nonlocal_edge_wire_beside, has_nonlocal_port, is_halo_line}
use Rattle.certificate.proofs.Imports.{is_last_module_incomplete, is_nonlocal_signal, known, last_module, last_of}
use Rattle.certificate.proofs.Imports.{length, length-map, list_all, list_any, map, map-append, may_precede}
use Rattle.certificate.proofs.Imports.{module_with_line, modules_by_version, modules_of, nat_le, nat_tests, no_code}
use Rattle.certificate.proofs.Imports.{not, option_map, precedes_halo_lines, refl, stop_in, stops, sym, true}
use Rattle.certificate.proofs.Imports.{true_from_not, used_gate_in, with_halo_lines, without_halo_lines, ℕ, ◌++◌, ◌||◌}
use Rattle.certificate.proofs.Imports.{◌∙◌, ◌∷◌, ◌≡◌, ◌≤◌}
use Rattle.lemmas.proofs.Common.{filter-append}
use Rattle.std.proofs.lemmas.Simd.{map-map}
use Rattle.section_text.specs.Codes.{code_if}
use Rattle.certificate.specs.Laws.{AreFaultlessLines, HalolessLinesStayGood, HalolessSectionIsVersionTwo, IsSectionOf}
use Rattle.certificate_lines.specs.Orders.{may_follow}
use Rattle.certificate_lines.specs.Rules.{cut_line_code, use_line_code, keep_line_code, timed_line_count}
use Rattle.certificate_lines.specs.Rules.{border_or_stop_line_code, body_line_code, line_fault, module_line_code}
use Rattle.certificate_lines.specs.Rules.{module_box_code, module_limit_fault, code_but_for_order}
use Rattle.certificate_lines.specs.Versions.{AreGoodLines, haloless_module}
use Rattle.certificate_lines.proofs.Growing.{last_mapped, map_changed, unchanged}
use Rattle.section_text.specs.declared.code.RefusalCode.{RefusalCode}
use Rattle.certificate.proofs.FullModules.{meant_new, no_halo_left, without_same}
use Rattle.certificate.proofs.Soundness.{faultless_modules, passed_line}
use Rattle.section_text.specs.declared.limits.Limits.{Limits}
use Rattle.section_text.proofs.Codes.{none_both}

pub without_append : (xs ys : List CertificateLine) →
    without_halo_lines (xs ++ ys) ≡ without_halo_lines xs ++ without_halo_lines ys
unfolding without_halo_lines
without_append xs ys = filter-append (λ i. not (is_halo_line i)) xs ys

-- ---- the modules of lines without halo lines

alone : (i : CertificateLine) → is_halo_line i ≡ false → without_halo_lines (i ∷ []) ≡ i ∷ []
unfolding without_halo_lines is_halo_line
alone i h1 = grind (arith, common_steps)

stored_line : (i : CertificateLine) → is_halo_line i ≡ false → (m : ModuleLines) →
    haloless_module (module_with_line i m) ≡ module_with_line i (haloless_module m)
unfolding haloless_module without_halo_lines is_halo_line
stored_line i other m = grind (arith, common_steps, without_append, alone)

dropped_line : (e : BorderLine) (m : ModuleLines) → haloless_module (module_with_line (Halo e) m) ≡ haloless_module m
unfolding haloless_module without_halo_lines is_halo_line
dropped_line e m = grind (arith, common_steps, without_append, append-nil)

inner_step : (i : CertificateLine) → is_halo_line i ≡ false → (ms : List ModuleLines) →
    map haloless_module (change_last (module_with_line i) ms)
    ≡ change_last (module_with_line i) (map haloless_module ms)
inner_step i other ms = map_changed haloless_module (module_with_line i) (module_with_line i) (stored_line i other) ms

halo_step : (e : BorderLine) (ms : List ModuleLines) →
    map haloless_module (change_last (module_with_line (Halo e)) ms) ≡ map haloless_module ms
halo_step e ms = map_changed haloless_module (module_with_line (Halo e)) (λ m. m) (dropped_line e) ms
    ∙ unchanged (map haloless_module ms)

module_step : (b : Box2) (ms : List ModuleLines) →
    map haloless_module (ms ++ record { area = b; lines = [] } ∷ [])
    ≡ map haloless_module ms ++ record { area = b; lines = [] } ∷ []
unfolding haloless_module without_halo_lines
module_step b ms = map-append haloless_module ms (record { area = b; lines = [] } ∷ [])

modules_on : (es : List CertificateLine) (ms : List ModuleLines) →
    fold add_line (map haloless_module ms) (without_halo_lines es) ≡ map haloless_module (fold add_line ms es)
unfolding without_halo_lines is_halo_line add_line
modules_on [] ms = refl
modules_on (Module b ∷ es) ms =
    grind (arith, common_steps, modules_on es (ms ++ record { area = b; lines = [] } ∷ []), module_step)
modules_on (Halo e ∷ es) ms =
    grind (arith, common_steps, modules_on es (change_last (module_with_line (Halo e)) ms), halo_step)
modules_on (i ∷ es) ms =
    ap (λ l. fold add_line l (without_halo_lines es)) (sym (inner_step i refl ms))
    ∙ modules_on es (change_last (module_with_line i) ms)

pub modules_without : (es : List CertificateLine) →
    modules_of (without_halo_lines es) ≡ map haloless_module (modules_of es)
unfolding modules_of
modules_without es = modules_on es []

areas_stripped : (ms : List ModuleLines) → areas (map haloless_module ms) ≡ areas ms
unfolding haloless_module
areas_stripped ms = simp map-map

-- ---- what is said of a module is said of it without halo lines

module _ (g : Setting) (m : ModuleLines) where
  cuts_kept : cuts (haloless_module m) ≡ cuts m
  unfolding haloless_module
  cuts_kept = without_same cut_name_in (λ e. refl) m.lines

  gates_kept : gates (haloless_module m) ≡ gates m
  unfolding haloless_module
  gates_kept = without_same used_gate_in (λ e. refl) m.lines

  pub edges_kept : edges (haloless_module m) ≡ edges m
  unfolding haloless_module
  edges_kept = without_same edge_in (λ e. refl) m.lines

  stops_kept : stops (haloless_module m) ≡ stops m
  unfolding haloless_module
  stops_kept = without_same stop_in (λ e. refl) m.lines

  pub known_kept : known g.circuit (haloless_module m) ≡ known g.circuit m
  known_kept = grind (arith, common_steps, cuts_kept, gates_kept)

  lacks_kept : has_nonlocal_port g (haloless_module m) ≡ has_nonlocal_port g m
  unfolding has_nonlocal_port haloless_module
  lacks_kept = grind (arith, common_steps, known_kept)

  fewer_halos : length (halos (haloless_module m)) ≡ 0
  unfolding haloless_module
  fewer_halos = ap length (no_halo_left m.lines)

  fewer : timed_line_count (haloless_module m) ≤ timed_line_count m
  fewer = let e = ap length edges_kept in let h = fewer_halos in let s = ap length stops_kept in omega (arith, e, h, s)

  area_kept : (haloless_module m).area ≡ m.area
  unfolding haloless_module
  area_kept = refl

incomplete_kept : (g : Setting) (o : Option ModuleLines) →
    is_last_module_incomplete g (option_map haloless_module o) ≡ is_last_module_incomplete g o
incomplete_kept g None = refl
incomplete_kept g (Some m) = lacks_kept g m

-- ---- lines that may follow more may follow less

follow_less : (lines : List CertificateLine) (i : CertificateLine) → may_follow lines i ≡ true →
    may_follow (without_halo_lines lines) i ≡ true
unfolding may_follow without_halo_lines is_halo_line
follow_less [] i h = refl
follow_less (Halo e ∷ lines) i h =
    follow_less lines i (and_parts (may_precede (Halo e) i) (list_all (λ j. may_precede j i) lines) h).1
follow_less (k ∷ lines) i h =
    let both = and_parts (may_precede k i) (list_all (λ j. may_precede j i) lines) h in
    rw (both.0, follow_less lines i both.1) refl

coded : (b : Bool) (code : RefusalCode) → b ≡ false → code_if b code ≡ None
coded b code h1 = grind (arith, common_steps)

smaller : (limit n k : ℕ) → n ≤ k → nat_le limit k ≡ false → nat_le limit n ≡ false
smaller limit n k le h = grind (arith, nat_tests)

border_less : (c : Circuit) (n k : ℕ) (local : List ℕ) (placed : Bool) (s : Option (List ℕ)) → n ≤ k →
    border_or_stop_line_code c k local placed s ≡ None → border_or_stop_line_code c n local placed s ≡ None
unfolding border_or_stop_line_code
border_less c n k local placed s le h = grind (arith, common_steps, both_none, none_both, coded, smaller, no_code)

words_kept : (g : Setting) (m : ModuleLines) (i : CertificateLine) → is_halo_line i ≡ false →
    code_but_for_order g m i ≡ None → code_but_for_order g (haloless_module m) i ≡ None
unfolding is_halo_line haloless_module
words_kept g m (Module b) o h = refl
words_kept g m (Cut n) o h = ap₂ (λ cs ws. cut_line_code g.circuit (length cs) ws n) (cuts_kept g m) (known_kept g m)
    ∙ h
words_kept g m (Use k) o h = ap₂ (λ gs ws. use_line_code g.circuit (length gs) ws k) (gates_kept g m) (known_kept g m)
    ∙ h
words_kept g m (Keep k) o h = ap (λ gs. keep_line_code g.circuit gs k) (gates_kept g m) ∙ h
words_kept g m (Edge e) o h = grind (arith, common_steps, border_less, fewer, edges_kept, known_kept)
words_kept g m (Halo e) o h = absurd cc
words_kept g m (Stop s) o h = grind (arith, common_steps, border_less, fewer, known_kept)

line_kept : (g : Setting) (m : ModuleLines) (i : CertificateLine) → is_halo_line i ≡ false → line_fault g m i ≡ None →
    line_fault g (haloless_module m) i ≡ None
unfolding haloless_module
line_kept g m i o h = grind (arith, common_steps, both_none, none_both, follow_less, true_from_not, no_code, words_kept)

inner_kept : (g : Setting) (p : Option ModuleLines) (i : CertificateLine) → is_halo_line i ≡ false →
    body_line_code g p i ≡ None → body_line_code g (option_map haloless_module p) i ≡ None
inner_kept g p i h1 h2 = grind (arith, common_steps, line_kept)

module _ (g : Setting) (before : List CertificateLine) where
  present_without : last_module (without_halo_lines before) ≡ option_map haloless_module (last_module before)
  present_without = ap last_of (modules_without before) ∙ last_mapped haloless_module (modules_of before)

  module_kept : (b : Box2) → module_line_code g (modules_of before) (last_module before) b ≡ None →
      module_line_code g (modules_of (without_halo_lines before)) (last_module (without_halo_lines before)) b ≡ None
  unfolding module_line_code module_box_code
  module_kept b h = rw (
    modules_without before,
    last_mapped haloless_module (modules_of before),
    incomplete_kept g (last_module before),
    length-map (modules_of before) haloless_module,
    areas_stripped (modules_of before),
  ) h

  inner_line : (i : CertificateLine) → is_halo_line i ≡ false → body_line_code g (last_module before) i ≡ None →
      body_line_code g (last_module (without_halo_lines before)) i ≡ None
  inner_line i o h = ap (λ p. body_line_code g p i) present_without ∙ inner_kept g (last_module before) i o h

  entry_kept : (i : CertificateLine) → is_halo_line i ≡ false → entry_fault g before i ≡ None →
      entry_fault g (without_halo_lines before) i ≡ None
  unfolding entry_fault is_halo_line
  entry_kept i h1 h2 = grind (arith, common_steps, module_kept, inner_line)

  pub end_kept : end_fault g before ≡ None → end_fault g (without_halo_lines before) ≡ None
  unfolding end_fault
  end_kept h = rw (
    modules_without before,
    last_mapped haloless_module (modules_of before),
    incomplete_kept g (last_module before),
    areas_stripped (modules_of before),
  ) h

-- ---- all lines

without_one : (before : List CertificateLine) (i : CertificateLine) → is_halo_line i ≡ false →
    without_halo_lines (before ++ i ∷ []) ≡ without_halo_lines before ++ i ∷ []
unfolding is_halo_line without_halo_lines
without_one before i h1 = grind (arith, common_steps, without_append)

good_more : (g : Setting) (i : CertificateLine) (es before : List CertificateLine) → is_halo_line i ≡ false →
    entry_fault g before i ≡ None → AreGoodLines g (without_halo_lines (before ++ i ∷ [])) (without_halo_lines es) →
    AreGoodLines g (without_halo_lines before) (i ∷ without_halo_lines es)
good_more g i es before o good later = grind (arith, common_steps, entry_kept, without_one)

pub good_on : (g : Setting) (es before : List CertificateLine) → AreGoodLines g before es →
    AreGoodLines g (without_halo_lines before) (without_halo_lines es)
unfolding without_halo_lines is_halo_line
good_on g [] before good = tt
good_on g (Halo e ∷ es) before good = grind (arith, common_steps, good_on g es (before ++ Halo e ∷ []) good.1)
good_on g (i ∷ es) before good = good_more g i es before refl good.0 (good_on g es (before ++ i ∷ []) good.1)

pub good_without_halos : HalolessLinesStayGood
unfolding without_halo_lines
good_without_halos g es good = record {
  lines = good_on g es [] good.lines;
  end = end_kept g es good.end;
}

-- ---- the modules of version 2 that the lines without halo lines make

edges_stripped : (g : Setting) (ms : List ModuleLines) → flat_map edges (map haloless_module ms) ≡ flat_map edges ms
edges_stripped g [] = refl
edges_stripped g (m ∷ ms) = ap₂ (λ xs ys. xs ++ ys) (edges_kept g m) (edges_stripped g ms)

beside_stripped : (g : Setting) (ms : List ModuleLines) (area : Box2) →
    edge_lines_beside g (map haloless_module ms) area ≡ edge_lines_beside g ms area
unfolding edge_lines_beside
beside_stripped g ms area = grind (arith, common_steps, edges_stripped)

early_without : (lines : List CertificateLine) →
    filter precedes_halo_lines (without_halo_lines lines) ≡ filter precedes_halo_lines lines
unfolding without_halo_lines is_halo_line precedes_halo_lines
early_without [] = refl
early_without (Halo e ∷ lines) = early_without lines
early_without (Stop s ∷ lines) = early_without lines
early_without (i ∷ lines) = ap (λ l. i ∷ l) (early_without lines)

full_same : (g : Setting) (ms : List ModuleLines) (m : ModuleLines) →
    with_halo_lines g (map haloless_module ms) (haloless_module m) ≡ with_halo_lines g ms m
unfolding with_halo_lines haloless_module
full_same g ms m = grind (arith, common_steps, early_without, beside_stripped, stops_kept)

fulls_same : (g : Setting) (ms ns : List ModuleLines) →
    map (with_halo_lines g (map haloless_module ms)) (map haloless_module ns) ≡ map (with_halo_lines g ms) ns
fulls_same g ms [] = refl
fulls_same g ms (n ∷ ns) = ap₂ (λ x xs. x ∷ xs) (full_same g ms n) (fulls_same g ms ns)

pub migrated_modules : (g : Setting) (es : List CertificateLine) →
    modules_by_version 2 g (modules_of (without_halo_lines es))
    ≡ map (with_halo_lines g (modules_of es)) (modules_of es)
migrated_modules g es = grind (arith, common_steps, meant_new, modules_without, fulls_same)

lacks_one : (g : Setting) (ms : List ModuleLines) (m : ModuleLines) →
    list_any (λ e. is_nonlocal_signal g.circuit (known g.circuit (haloless_module m)) e.signal)
    (edge_lines_beside g (map haloless_module ms) (haloless_module m).area)
    ≡ list_any (λ e. is_nonlocal_signal g.circuit (known g.circuit m) e.signal) (edge_lines_beside g ms m.area)
lacks_one g ms m =
    ap₂ (λ ws es. list_any (λ (e : BorderLine). is_nonlocal_signal g.circuit ws e.signal) es) (known_kept g m)
    (ap (edge_lines_beside g (map haloless_module ms)) (area_kept g m) ∙ beside_stripped g ms m.area)

lacks_all : (g : Setting) (ms ns : List ModuleLines) →
    list_any (λ m. list_any (λ e. is_nonlocal_signal g.circuit (known g.circuit m) e.signal)
    (edge_lines_beside g (map haloless_module ms) m.area)) (map haloless_module ns)
    ≡ list_any (λ m. list_any (λ e. is_nonlocal_signal g.circuit (known g.circuit m) e.signal)
    (edge_lines_beside g ms m.area)) ns
lacks_all g ms [] = refl
lacks_all g ms (n ∷ ns) = ap₂ (λ a b. a || b) (lacks_one g ms n) (lacks_all g ms ns)

pub migrated_lacks : (g : Setting) (es : List CertificateLine) →
    has_nonlocal_edge_wire_beside g (modules_of (without_halo_lines es))
    ≡ has_nonlocal_edge_wire_beside g (modules_of es)
unfolding has_nonlocal_edge_wire_beside
migrated_lacks g es = ap (has_nonlocal_edge_wire_beside g) (modules_without es)
    ∙ lacks_all g (modules_of es) (modules_of es)

-- ---- sections of either version

good_of : (l : Limits) (g : Setting) (es before : List CertificateLine) → AreFaultlessLines l g 1 before es →
    AreGoodLines g before es
good_of l g [] before h = tt
good_of l g (i ∷ es) before h = ((passed_line l g 1 before i h.0).1, good_of l g es (before ++ i ∷ []) h.1)

-- no module is one too many
abbrev AreFewModules : Limits → Setting → List CertificateLine → List CertificateLine → Type 0
AreFewModules l g before [] = Unit {0}
AreFewModules l g before (i ∷ es) = (module_limit_fault l g before i ≡ None) × AreFewModules l g (before ++ i ∷ []) es

few_of : (l : Limits) (g : Setting) (es before : List CertificateLine) → AreFaultlessLines l g 1 before es →
    AreFewModules l g before es
few_of l g [] before h = tt
few_of l g (i ∷ es) before h = ((passed_line l g 1 before i h.0).0, few_of l g es (before ++ i ∷ []) h.1)

few_kept : (l : Limits) (g : Setting) (before : List CertificateLine) (i : CertificateLine) →
    module_limit_fault l g before i ≡ None → module_limit_fault l g (without_halo_lines before) i ≡ None
unfolding module_limit_fault
few_kept l g before i h1 = grind (arith, common_steps, modules_without, last_mapped, incomplete_kept, length-map)

few_more : (l : Limits) (g : Setting) (i : CertificateLine) (es before : List CertificateLine) →
    is_halo_line i ≡ false → module_limit_fault l g before i ≡ None →
    AreFewModules l g (without_halo_lines (before ++ i ∷ [])) (without_halo_lines es) →
    AreFewModules l g (without_halo_lines before) (i ∷ without_halo_lines es)
few_more l g i es before o few later = grind (arith, common_steps, few_kept, without_one)

few_on : (l : Limits) (g : Setting) (es before : List CertificateLine) → AreFewModules l g before es →
    AreFewModules l g (without_halo_lines before) (without_halo_lines es)
unfolding without_halo_lines is_halo_line
few_on l g [] before few = tt
few_on l g (Halo e ∷ es) before few = grind (arith, common_steps, few_on l g es (before ++ Halo e ∷ []) few.1)
few_on l g (i ∷ es) before few = few_more l g i es before refl few.0 (few_on l g es (before ++ i ∷ []) few.1)

few_without : (l : Limits) (g : Setting) (es : List CertificateLine) → AreFewModules l g [] es →
    AreFewModules l g [] (without_halo_lines es)
unfolding without_halo_lines
few_without l g es few = few_on l g es [] few

faultless_two : (l : Limits) (g : Setting) (es before : List CertificateLine) →
    AreGoodLines g before (without_halo_lines es) → AreFewModules l g before (without_halo_lines es) →
    AreFaultlessLines l g 2 before (without_halo_lines es)
unfolding without_halo_lines is_halo_line
faultless_two l g [] before h few = tt
faultless_two l g (Halo e ∷ es) before h few = faultless_two l g es before h few
faultless_two l g (i ∷ es) before h few =
    grind (arith, common_steps, none_both, faultless_two l g es (before ++ i ∷ []) h.1 few.1)

pub section_without_halos : HalolessSectionIsVersionTwo
section_without_halos l g es is knows =
    let good = good_without_halos g es (grind (arith, common_steps, good_of, both_none)) in
    grind (arith, common_steps, faultless_two, few_without, few_of, none_both, coded, migrated_lacks)

pub faultless_lines : (l : Limits) (g : Setting) (v : ℕ) (es before : List CertificateLine) →
    AreFaultlessLines l g v before es → AreFaultless (certificate_grammar l g) v before es
faultless_lines l g v [] before h = tt
faultless_lines l g v (i ∷ es) before h = (h.0, faultless_lines l g v es (before ++ i ∷ []) h.1)

pub section_modules : (l : Limits) (g : Setting) (v : ℕ) (es : List CertificateLine) → IsSectionOf l g v es →
    AreModules g (modules_of es)
section_modules l g v es is = faultless_modules l g v es
    (record { header = is.header; each = faultless_lines l g v es [] is.lines; end = is.end })
