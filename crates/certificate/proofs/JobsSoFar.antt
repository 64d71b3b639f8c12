-- The halo lines of modules of version 2, and the jobs of the modules before a module
use Rattle.certificate.proofs.Imports.{All, AreGoodModules, AreModules, Box2, Circuit, CircuitLine, Cut, Edge}
use Rattle.certificate.proofs.Imports.{EdgePlace, Halo, HasCircuitWire, HasCircuitWires, HasLocalPortWires}
use Rattle.certificate.proofs.Imports.{HaveEdgePlacesFromModule, IsGoodModule, IsJobOf, IsModule, JobView, Keep, List}
use Rattle.certificate.proofs.Imports.{ModuleLines, Pattern, Setting, Some, Stop, StoredBorder, StoredModule, Use, []}
use Rattle.certificate.proofs.Imports.{all_module_lines, ap, append-nil, append_assoc, arith, body_lines_with}
use Rattle.certificate.proofs.Imports.{border_line, circuit_of, common_steps, edge_lines_at, edge_lines_beside, false}
use Rattle.certificate.proofs.Imports.{filter, get_or, get_or_from_slice_get, has_nonlocal_edge_wire_beside, inl, inr}
use Rattle.certificate.proofs.Imports.{length, length-map, list_at_or_empty, map, mapped_at, mapped_from, module_lines}
use Rattle.certificate.proofs.Imports.{module_lines_with, precedes_halo_lines, refl, setting_of, slice_get}
use Rattle.certificate.proofs.Imports.{slice_get_within, some_is, sorted_border_lines, stop_line, subst, sym, wire_name}
use Rattle.certificate.proofs.Imports.{with_halo_lines, ℕ, ◌++◌, ◌+◌, ◌<◌, ◌∙◌, ◌∷◌, ◌≡◌, ◌≤◌}
use Rattle.lemmas.proofs.Common.{Bool, filter-append, length_push, slice_get_read, true}
use Rattle.module_box.proofs.Rising.{pushed}
use Rattle.certificate.specs.Jobs.{AreJobsOf}
use Rattle.certificate_lines.proofs.StoredLemmas.{stops_with}
use Rattle.certificate.proofs.FullModules.{full_modules}
use Rattle.certificate_lines.specs.declared.certificate_line.CertificateLine.{CertificateLine}
use Rattle.std.proofs.lemmas.Simd.{map-map}
use Rattle.certificate.proofs.StoredSignals.{all_at}

-- ---- the halo lines of a module

filter_all : {X : Type 0} (p : CertificateLine → Bool) (f : X → CertificateLine) → ((x : X) → p (f x) ≡ true) →
    (xs : List X) → filter p (map f xs) ≡ map f xs
filter_all p f passes [] = refl
filter_all p f passes (x ∷ xs) = grind (arith, common_steps, filter_all p f passes xs)

filter_none : {X : Type 0} (p : CertificateLine → Bool) (f : X → CertificateLine) → ((x : X) → p (f x) ≡ false) →
    (xs : List X) → filter p (map f xs) ≡ []
filter_none p f fails [] = refl
filter_none p f fails (x ∷ xs) = grind (arith, common_steps, filter_none p f fails xs)

-- the lines before the halo lines
early_lines : (c : Circuit) (m : StoredModule) → filter precedes_halo_lines (body_lines_with c m m.halos.items)
    ≡ map (λ w. Cut (wire_name c w)) m.cuts.items ++ (map Use m.gates.items ++ (map Keep m.keeps.items
    ++ map (λ b. Edge (border_line c b)) m.edges.items))
unfolding precedes_halo_lines
early_lines c m =
    simp (
      filter-append precedes_halo_lines,
      filter_all precedes_halo_lines (λ w. Cut (wire_name c w)) (λ w. refl),
      filter_all precedes_halo_lines Use (λ k. refl),
      filter_all precedes_halo_lines Keep (λ k. refl),
      filter_all precedes_halo_lines (λ b. Edge (border_line c b)) (λ b. refl),
      filter_none precedes_halo_lines (λ b. Halo (border_line c b)) (λ b. refl),
      filter_none precedes_halo_lines (λ s. Stop (stop_line c s)) (λ s. refl),
      append-nil,
    )

pub with_halos_stored : (g : Setting) (ms : List ModuleLines) (m : StoredModule) (hs : List StoredBorder) →
    map (border_line g.circuit) hs ≡ sorted_border_lines (edge_lines_beside g ms m.area) →
    module_lines_with g.circuit m hs ≡ with_halo_lines g ms (module_lines g.circuit m)
unfolding with_halo_lines
with_halos_stored g ms m hs are = grind (arith, common_steps, early_lines, map-map, stops_with, append_assoc)

pub element_at : {X : Type 0} (xs : List X) (i : ℕ) (x : X) → i < length xs → x ≡ get_or xs i x →
    slice_get xs i ≡ Some x
element_at xs i x lt is = slice_get_read xs (length xs) i x refl lt is

-- ---- the lists of places that are left

module _ (g : Setting) (ms : List StoredModule) where
  pub one_list_less : {X : Type 0} (f : X → List EdgePlace) (done : ℕ) (old new : List X) → length new ≡ length old →
      ((i : ℕ) → (i ≡ done → ⊥) → list_at_or_empty (map f new) i ≡ list_at_or_empty (map f old) i) →
      HaveEdgePlacesFromModule g ms done (map f old) → HaveEdgePlacesFromModule g ms (done + 1) (map f new)
  one_list_less f done old new count others h = grind (arith, common_steps, length-map)

-- a module as it is written is good
pub good_at : {cs : List CircuitLine} {p : Pattern} {ms : List StoredModule} {m : StoredModule} (k : ℕ) →
    AreGoodModules cs p ms → slice_get ms k ≡ Some m → IsGoodModule cs p m m.halos.items
good_at {cs} {p} {ms} {m} k good at =
    let own = all_at (HasCircuitWires (circuit_of cs)) ms good.wires k m (slice_get_within ms k m at)
    (sym (get_or_from_slice_get ms k m m at)) in
    let there = mapped_at (module_lines (circuit_of cs)) ms k m at in
    record {
      wires = own;
      halo_wires = own.halos;
      lines = good.modules.each k _ there;
      ports = good.modules.ports k _ there;
    }

-- the module of this number with these halo lines is what version 2 means by it, and it is good
pub record IsFullModule (cs : List CircuitLine) (p : Pattern) (ms : List StoredModule) (m : StoredModule)
    (hs : List StoredBorder) : Type 0 where
  pub full : module_lines_with (circuit_of cs) m hs
      ≡ with_halo_lines (setting_of cs p) (all_module_lines cs ms) (module_lines (circuit_of cs) m)
  pub good : IsGoodModule cs p m hs

-- by the places of these lines
pub full_module : {cs : List CircuitLine} {p : Pattern} {ms : List StoredModule} {lists : List (List EdgePlace)} {k : ℕ}
    {m : StoredModule} {places : List EdgePlace} {hs : List StoredBorder} → AreGoodModules cs p ms →
    has_nonlocal_edge_wire_beside (setting_of cs p) (all_module_lines cs ms) ≡ false →
    HaveEdgePlacesFromModule (setting_of cs p) ms k lists → slice_get ms k ≡ Some m →
    list_at_or_empty lists k ≡ places →
    ((g : Setting) (area : Box2) → AreModules g (map (module_lines g.circuit) ms) →
    map (border_line g.circuit) (edge_lines_at ms places) ≡ edge_lines_beside g (map (module_lines g.circuit) ms) area →
    map (border_line g.circuit) hs ≡ sorted_border_lines (edge_lines_beside g (map (module_lines g.circuit) ms) area)) →
    All (HasCircuitWire (circuit_of cs)) hs → IsFullModule cs p ms m hs
full_module {cs} {p} {ms} {lists} {k} {m} {places} {hs} good complete left at taken sorted own =
    let g = setting_of cs p in
    let all = all_module_lines cs ms in
    let there = mapped_at (with_halo_lines g all) all k _ (mapped_at (module_lines (circuit_of cs)) ms k m at) in
    let each = full_modules g all good.modules complete in
    let full = with_halos_stored g all m hs (sorted g m.area good.modules
    (ap (λ ps. map (border_line g.circuit) (edge_lines_at ms ps)) (sym taken) ∙ left.each k m (omega arith) at)) in
    record {
      full = full;
      good = record {
        wires = (good_at k good at).wires;
        halo_wires = own;
        lines = subst (IsModule g) (sym full) (each.each k _ there);
        ports = subst (HasLocalPortWires g) (sym full) (each.ports k _ there);
      };
    }

-- ---- the jobs of the modules before a module

-- the modules before this number have their jobs, where a module means what f says
pub record PartJobs (c : Circuit) (p : Pattern) (f : ModuleLines → ModuleLines) (ms : List ModuleLines) (done : ℕ)
    (js : List JobView) : Type 0 where
  pub count : length js ≡ done
  pub few : done ≤ length ms
  pub each : (i : ℕ) (m : ModuleLines) (j : JobView) → slice_get ms i ≡ Some m → slice_get js i ≡ Some j →
      IsJobOf c p (f m) j

module _ (c : Circuit) (p : Pattern) (f : ModuleLines → ModuleLines) (ms : List ModuleLines) where
  pub one_part_more : (done : ℕ) (js : List JobView) (m : ModuleLines) (j : JobView) → slice_get ms done ≡ Some m →
      IsJobOf c p (f m) j → PartJobs c p f ms done js → PartJobs c p f ms (done + 1) (js ++ j ∷ [])
  one_part_more done js m j at is h = record {
    count = length_push js j ∙ ap (λ n. n + 1) h.count;
    few = let w = slice_get_within ms done m at in omega (arith, w);
    each = λ i n k a e. elim (pushed js j i k e) [
      | inl before ↦ h.each i n k a before
      | inr last ↦ grind (arith, common_steps, some_is)
    ];
  }

  pub parts_done : (done : ℕ) (js : List JobView) → length ms ≤ done → PartJobs c p f ms done js →
      AreJobsOf c p (map f ms) js
  parts_done done js le h = record {
    count = let a = h.count in let few = h.few in let l = length-map ms f in omega (arith, a, few, l, le);
    each = λ k m j a e. let n = mapped_from f ms k m a in
        subst (λ x. IsJobOf c p x j) n.2 (h.each k n.0 j n.1 e);
  }
