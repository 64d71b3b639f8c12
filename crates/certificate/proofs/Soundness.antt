-- Lines that are good one after the other make good modules.
use Rattle.certificate.proofs.Imports.{All, AreFaultless, AreModules, Box2, CertificateLine, HasLocalPortWires}
use Rattle.certificate.proofs.Imports.{IsFaultless, List, Module, ModuleLines, None, PastLimit, Setting, Some}
use Rattle.certificate.proofs.Imports.{SomethingMissing, Tile, [], add_line, any_at, append-nil, append_assoc, areas}
use Rattle.certificate.proofs.Imports.{arith, both_none, certificate_grammar, common_steps, end_fault, entry_fault}
use Rattle.certificate.proofs.Imports.{eqb-true, false, has_nonlocal_edge_wire_beside, has_nonlocal_port, in_box}
use Rattle.certificate.proofs.Imports.{is_haloless_version, is_last_module_incomplete, last_module, last_of, leaves_gap}
use Rattle.certificate.proofs.Imports.{mapped_from, modules_of, no_code, or_parts, rectangle_cells, slice_get}
use Rattle.certificate.proofs.Imports.{slice_get-get_or, slice_get_within, some_is, subst, sym, true, true_from_not}
use Rattle.certificate.proofs.Imports.{true≢false, whole, ℕ, ◌&&◌, ◌++◌, ◌+◌, ◌==◌, ◌||◌, ◌∙◌, ◌∷◌, ◌≡◌, ◌≤◌}
use Rattle.lemmas.proofs.Common.{or_cases}
use Rattle.section_text.specs.declared.limits.Limits.{Limits}
use Rattle.module_box.specs.Tiling.{IsInside}
use Rattle.certificate_lines.specs.Rules.{in_boxes, module_limit_fault}
use Rattle.certificate_lines.specs.Modules.{IsWithinLineLimit}
use Rattle.certificate_lines.specs.BuilderView.{AreGoodModulesSoFar, IsBodyLine, IsModuleInLimits}
use Rattle.certificate_lines.proofs.BuiltLemmas.{good_module, line_sound, module_sound, sound_none, last_is}
use Rattle.certificate_lines.proofs.Growing.{body_step, modules_push}
use Rattle.certificate_lines.proofs.Keeping.{good_line, IsGoodLine}
use Rattle.module_box.proofs.BoxCells.{in_rectangle}
use Rattle.certificate_lines.proofs.Lists.{passed}
use Rattle.certificate_lines.proofs.ModulePushes.{pushed}
use Rattle.certificate_lines.proofs.PortLemmas.{cell_passes}
use Rattle.bbm_rule.proofs.RectangleLemmas.{in_box_cells}

module _ (g : Setting) (es : List CertificateLine) (sound : AreGoodModulesSoFar g (modules_of es)) where
  -- one more line of the last module
  inner_sound : (i : CertificateLine) → IsBodyLine i → IsGoodLine g es i →
      AreGoodModulesSoFar g (modules_of (es ++ i ∷ []))
  inner_sound i body good =
      let grows = λ (is : IsModuleInLimits g good.module_lines).
      pushed g good.module_lines is i body good.follows good.words in
      subst (AreGoodModulesSoFar g) (sym (modules_push es i ∙ body_step i body (modules_of es)))
      (line_sound g (modules_of es) i sound (λ m some. grind (arith, common_steps, some_is)))

  sound_push : (i : CertificateLine) → entry_fault g es i ≡ None → AreGoodModulesSoFar g (modules_of (es ++ i ∷ []))
  unfolding entry_fault add_line
  sound_push (Module b) e = grind (arith, common_steps, modules_push, module_sound, good_module)
  sound_push i e = inner_sound i tt (good_line g es i e)

-- a line without a fault passes the tests of a line, and that of the limits of its text
pub passed_line : (l : Limits) (g : Setting) (v : ℕ) (before : List CertificateLine) (i : CertificateLine) →
    (certificate_grammar l g).item_fault v before i ≡ None →
    (module_limit_fault l g before i ≡ None) × (entry_fault g before i ≡ None)
passed_line l g v before i e = grind (arith, common_steps, both_none)

sound_all : (l : Limits) (g : Setting) (v : ℕ) (more before : List CertificateLine) →
    AreGoodModulesSoFar g (modules_of before) →
    AreFaultless (certificate_grammar l g) v before more → AreGoodModulesSoFar g (modules_of (before ++ more))
sound_all l g v [] before sound good = subst (λ l. AreGoodModulesSoFar g (modules_of l)) (sym (append-nil before)) sound
sound_all l g v (i ∷ more) before sound good =
    subst (λ l. AreGoodModulesSoFar g (modules_of l)) (append_assoc before (i ∷ []) more)
    (sound_all l g v more (before ++ i ∷ [])
    (sound_push g before sound i (passed_line l g v before i good.0).1) good.1)

none_sound : (g : Setting) → AreGoodModulesSoFar g (modules_of [])
unfolding modules_of
none_sound g = sound_none g []

-- ---- the end

module _ (g : Setting) (ms : List ModuleLines) (sound : AreGoodModulesSoFar g ms) where
  tiles : leaves_gap g.size (areas ms) ≡ false → Tile (whole g.size) (areas ms)
  tiles full = record {
    covered = λ x y h.
        let there : in_boxes (areas ms) x y ≡ true =
        cell_passes (λ c. in_boxes (areas ms) c.x c.y) (rectangle_cells (whole g.size)) (record { x = x; y = y })
        (true_from_not _ full)
        (in_box_cells (whole g.size) x y ∙ h) in
        let p = passed (λ (b : Box2). in_box b x y) (areas ms) there in
        (p.place, p.element, p.stands, p.passes);
    once = sound.apart.once;
    inside = λ x y i b e h.
        let m = mapped_from (λ (m : ModuleLines). m.area) ms i b e in
        in_rectangle g.size.w g.size.h b x y
        (subst (IsInside g.size.w g.size.h) m.2 (sound.each i m.0 m.1).good.inside) h;
  }

  has_ports : (m : ModuleLines) → has_nonlocal_port g m ≡ false → HasLocalPortWires g m
  unfolding has_nonlocal_port
  has_ports m none = grind (arith, common_steps, true≢false, any_at)

  all_ported : is_last_module_incomplete g (last_of ms) ≡ false → (k : ℕ) (m : ModuleLines) → slice_get ms k ≡ Some m →
      has_nonlocal_port g m ≡ false
  all_ported whole k m e = grind (arith, common_steps, slice_get_within, last_is)

  pub good_modules : is_last_module_incomplete g (last_of ms) ≡ false → leaves_gap g.size (areas ms) ≡ false →
      AreModules g ms
  good_modules complete full = record {
    few = sound.few;
    each = λ k m e. (sound.each k m e).good;
    ports = λ k m e. has_ports m (all_ported complete k m e);
    tile = tiles full;
  }

one_or_two : (v : ℕ) → (v == 1 || v == 2) ≡ true → (1 ≤ v) × (v ≤ 2)
one_or_two v e = grind (arith, common_steps, or_cases, eqb-true)

-- the version of what was read
pub read_version : (l : Limits) (g : Setting) (v : ℕ) (es : List CertificateLine) →
    IsFaultless (certificate_grammar l g) v es → (1 ≤ v) × (v ≤ 2)
read_version l g v es good = one_or_two v (true_from_not _ (no_code _ PastLimit good.header))

-- and in version 2 each module knows the wires of the edge lines beside it
pub read_complete : (l : Limits) (g : Setting) (v : ℕ) (es : List CertificateLine) →
    IsFaultless (certificate_grammar l g) v es →
    (is_haloless_version v && has_nonlocal_edge_wire_beside g (modules_of es)) ≡ false
read_complete l g v es good = no_code _ SomethingMissing (both_none (end_fault g es) _ good.end).1

pub faultless_modules : (l : Limits) (g : Setting) (v : ℕ) (es : List CertificateLine) →
    IsFaultless (certificate_grammar l g) v es → AreModules g (modules_of es)
unfolding end_fault
faultless_modules l g v es good =
    let sound = sound_all l g v es [] (none_sound g) good.each in
    let parts = or_parts (is_last_module_incomplete g (last_module es)) (leaves_gap g.size (areas (modules_of es)))
    (no_code _ SomethingMissing (both_none (end_fault g es) _ good.end).0) in
    good_modules g (modules_of es) sound parts.0 parts.1

-- and each has few lines
pub faultless_lines : (l : Limits) (g : Setting) (v : ℕ) (es : List CertificateLine) →
    IsFaultless (certificate_grammar l g) v es → All IsWithinLineLimit (modules_of es)
faultless_lines l g v es good =
    let sound = sound_all l g v es [] (none_sound g) good.each in
    λ k d lt. (sound.each k _ (slice_get-get_or (modules_of es) k d lt)).few_borders
