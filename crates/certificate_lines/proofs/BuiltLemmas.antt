-- The modules so far, after one more module and after one more line.
use Rattle.certificate_lines.proofs.Imports.{AreBoxesDisjoint, AreGoodModulesSoFar, AreLinesInOrder}
use Rattle.certificate_lines.proofs.Imports.{AreModulesWithOwners, Box2, Cell, CertificateLine, IsEvenBox, IsInside}
use Rattle.certificate_lines.proofs.Imports.{IsModule, IsModuleInLimits, LayoutHeader, List, ModuleLines, None, Option}
use Rattle.certificate_lines.proofs.Imports.{RefusalCode, Setting, Some, StarsExcludeLaterTimes, [], ap, areas, arith}
use Rattle.certificate_lines.proofs.Imports.{change_last, common_steps, false, has_nonlocal_port, in_box, inl, inr}
use Rattle.certificate_lines.proofs.Imports.{is_last_module_incomplete, last_of, length, length-map, length_push}
use Rattle.certificate_lines.proofs.Imports.{map-append, module_box_code, module_line_code, module_with_line, nat_tests}
use Rattle.certificate_lines.proofs.Imports.{none_at, pushed, rectangle_cells, refl, slice_get, slice_get_within, subst}
use Rattle.certificate_lines.proofs.Imports.{sym, true, true≢false, ℕ, ℤ, ◌%◌, ◌++◌, ◌+◌, ◌-◌, ◌<◌, ◌∙◌, ◌∷◌, ◌≡◌, ◌≤◌}
use Rattle.lemmas.proofs.Common.{or_parts}
use Rattle.certificate_lines.specs.Rules.{is_bad_box_side, overlaps_earlier_box, in_boxes}
use Rattle.certificate_lines.proofs.Growing.{areas_changed, length_changed, changed_at, last_at, last_by_place}
use Rattle.certificate_lines.proofs.Lists.{any_at}
use Rattle.certificate_lines.proofs.ModulePushes.{no_code, less}
use Rattle.certificate_lines.proofs.PortLemmas.{has_cell}
use Rattle.module_box.specs.Tiling.{OwnersView, PutsBox}
use Rattle.bbm_rule.proofs.RectangleLemmas.{in_box_cells}
use Rattle.lemmas.specs.Bounds.{max_modules}
use Rattle.section_text.proofs.Codes.{both_none}

-- ---- a box that is good

pub record IsGoodBox (s : LayoutHeader) (b : Box2) : Type 0 where
  pub even : IsEvenBox b
  pub wide : (2 ≤ b.w) × (b.w ≤ 64)
  pub high : (2 ≤ b.h) × (b.h ≤ 64)
  pub inside : IsInside s.w s.h b

side : (n : ℕ) → is_bad_box_side n ≡ false → (n % 2 ≡ 0) × (2 ≤ n) × (n ≤ 64)
side n e = (grind (arith, nat_tests), grind (arith, nat_tests), grind (arith, nat_tests))

-- what the tests of a `module` line say
pub record IsGoodModule (g : Setting) (ms : List ModuleLines) (before : Option ModuleLines) (b : Box2) : Type 0 where
  pub complete : is_last_module_incomplete g before ≡ false
  pub few : length ms < max_modules
  pub box : IsGoodBox g.size b
  pub free : overlaps_earlier_box (areas ms) b ≡ false

-- what the tests of a box by itself say
pub record PassesAlone (g : Setting) (count : ℕ) (before : Option ModuleLines) (b : Box2) : Type 0 where
  pub complete : is_last_module_incomplete g before ≡ false
  pub few : count < max_modules
  pub box : IsGoodBox g.size b

pub passes_alone : (g : Setting) (count : ℕ) (before : Option ModuleLines) (b : Box2) →
    module_box_code g count before b ≡ None → PassesAlone g count before b
unfolding module_box_code
passes_alone g count before b e = grind (arith, common_steps, both_none, or_parts, no_code, less)

pub good_module : (g : Setting) (ms : List ModuleLines) (before : Option ModuleLines) (b : Box2) →
    module_line_code g ms before b ≡ None → IsGoodModule g ms before b
unfolding module_line_code
good_module g ms before b e = grind (arith, common_steps, both_none, passes_alone, no_code)

-- ---- the code of a `module` line

pub early_fault : (g : Setting) (ms : List ModuleLines) (before : Option ModuleLines) (b : Box2) (code : RefusalCode) →
    module_box_code g (length ms) before b ≡ Some code → module_line_code g ms before b ≡ Some code
unfolding module_line_code
early_fault g ms before b code e = rw e refl

-- a module without lines
begun_module : (g : Setting) (b : Box2) → IsGoodBox g.size b → IsModule g (record { area = b; lines = [] })
unfolding AreLinesInOrder StarsExcludeLaterTimes
begun_module g b good = grind (arith, common_steps, none_at)

begun : (g : Setting) (b : Box2) → IsGoodBox g.size b → IsModuleInLimits g (record { area = b; lines = [] })
begun g b good = record { good = begun_module g b good; few_borders = omega arith }

-- ---- one more box

areas_push : (ms : List ModuleLines) (m : ModuleLines) → areas (ms ++ m ∷ []) ≡ areas ms ++ m.area ∷ []
areas_push ms m = map-append (λ (k : ModuleLines). k.area) ms (m ∷ [])

at_cell : ℤ → ℤ → Cell
at_cell x y = record { x = x; y = y }

-- a cell of a box that is free lies in no earlier box
free_cell : (boxes : List Box2) (b : Box2) → overlaps_earlier_box boxes b ≡ false → (x y : ℤ) (i : ℕ) (d : Box2) →
    slice_get boxes i ≡ Some d → in_box d x y ≡ true → in_box b x y ≡ true → ⊥
unfolding at_cell
free_cell boxes b free x y i d e here inside =
    let among : in_boxes boxes x y ≡ true = any_at (λ (k : Box2). in_box k x y) boxes i d e here in
    true≢false (sym (has_cell (λ c. in_boxes boxes c.x c.y) (rectangle_cells b) (at_cell x y)
    (in_box_cells b x y ∙ inside) among) ∙ free)

apart_push : (boxes : List Box2) (b : Box2) → AreBoxesDisjoint boxes → overlaps_earlier_box boxes b ≡ false →
    AreBoxesDisjoint (boxes ++ b ∷ [])
apart_push boxes b apart free = grind (arith, common_steps, pushed, free_cell)

pub last_is : (ms : List ModuleLines) (i : ℕ) (m : ModuleLines) → i + 1 ≡ length ms → slice_get ms i ≡ Some m →
    last_of ms ≡ Some m
last_is ms i m at e = sym (last_by_place ms) ∙ ap (slice_get ms) (let p : length ms - 1 ≡ i = omega (arith, at) in p)
    ∙ e

-- the modules so far
module _ (g : Setting) (ms : List ModuleLines) where
  pub sound_none : AreGoodModulesSoFar g []
  sound_none = grind (arith, common_steps, none_at)

  abbrev new_module : Box2 → ModuleLines
  new_module b = record { area = b; lines = [] }

  ported_push : (b : Box2) → ((i : ℕ) (m : ModuleLines) → i + 1 < length ms → slice_get ms i ≡ Some m →
      has_nonlocal_port g m ≡ false) → is_last_module_incomplete g (last_of ms) ≡ false
      → (i : ℕ) (m : ModuleLines) → i + 1 < length (ms ++ new_module b ∷ []) →
      slice_get (ms ++ new_module b ∷ []) i ≡ Some m → has_nonlocal_port g m ≡ false
  ported_push b before complete i m lt e = grind (arith, common_steps, pushed, slice_get_within, length_push, last_is)

  pub module_sound : (b : Box2) → AreGoodModulesSoFar g ms → IsGoodModule g ms (last_of ms) b →
      AreGoodModulesSoFar g (ms ++ new_module b ∷ [])
  module_sound b sound good = record {
    few = let n = length_push ms (new_module b) in let f = good.few in omega (arith, n, f);
    each = λ k m e. elim (pushed ms (new_module b) k m e) [
      | inl old ↦ sound.each k m old
      | inr new ↦ subst (IsModuleInLimits g) new.1 (begun g b good.box)
    ];
    apart = subst AreBoxesDisjoint (sym (areas_push ms (new_module b))) (apart_push (areas ms) b sound.apart good.free);
    ported = ported_push b sound.ported good.complete;
  }

  pub module_built : (b : Box2) (old new : OwnersView) → AreModulesWithOwners g ms old →
      IsGoodModule g ms (last_of ms) b → (number : ℕ) → number ≡ length ms → PutsBox b number old new →
      AreModulesWithOwners g (ms ++ new_module b ∷ []) new
  module_built b old new built good number is puts = grind (arith, common_steps, module_sound, areas_push, length-map)

  -- one more line of the last module
  pub line_sound : (i : CertificateLine) → AreGoodModulesSoFar g ms →
      ((m : ModuleLines) → last_of ms ≡ Some m → IsModuleInLimits g m → IsModuleInLimits g (module_with_line i m)) →
      AreGoodModulesSoFar g (change_last (module_with_line i) ms)
  line_sound i sound grows = record {
    few = let n = length_changed (module_with_line i) ms in let f = sound.few in omega (arith, n, f);
    each = λ k m e. elim (changed_at (module_with_line i) ms k m e) [
      | inl old ↦ sound.each k m old.1
      | inr new ↦ subst (IsModuleInLimits g) (sym new.3)
          (grows new.0 new.2 (let at = last_at ms new.0 new.2 in sound.each at.0 new.0 at.2))
    ];
    apart = subst AreBoxesDisjoint (sym (areas_changed i ms)) sound.apart;
    ported = grind (arith, common_steps, changed_at, length_changed);
  }

  pub line_built : (i : CertificateLine) (o : OwnersView) → AreModulesWithOwners g ms o →
      ((m : ModuleLines) → last_of ms ≡ Some m → IsModuleInLimits g m → IsModuleInLimits g (module_with_line i m)) →
      AreModulesWithOwners g (change_last (module_with_line i) ms) o
  line_built i o built grows = record {
    sound = line_sound i built.sound grows;
    owners = grind (arith, common_steps, areas_changed);
  }
