-- The tables of the lines after one more line.
use Rattle.certificate_lines.proofs.Imports.{AreLinesInOrder, AreLocalWiresOfModules, AreModulesWithOwners, Bool}
use Rattle.certificate_lines.proofs.Imports.{BorderLine, Box2, Cell, CertificateLine, Circuit, Cut, IfSome, IsBodyLine}
use Rattle.certificate_lines.proofs.Imports.{IsModule, IsModuleInLimits, LineKey, List, Module, ModuleLines, None}
use Rattle.certificate_lines.proofs.Imports.{Option, OutOfOrder, Port, RefusalCode, Setting, Some, Use, [], add_line}
use Rattle.certificate_lines.proofs.Imports.{ap, append-nil, arith, body_line_code, change_last, code_but_for_order}
use Rattle.certificate_lines.proofs.Imports.{code_if, common_steps, edge_in, false, halo_in, has_nonlocal_port, in_box}
use Rattle.certificate_lines.proofs.Imports.{is_last_module_incomplete, is_local, is_starred_line_at, key_of}
use Rattle.certificate_lines.proofs.Imports.{key_or_first, known, last_body_line, last_module, last_of, length}
use Rattle.certificate_lines.proofs.Imports.{list_any, may_follow, module_line_code, module_with_line, modules_of, not}
use Rattle.certificate_lines.proofs.Imports.{option_map, option_to_list, or_else, refl, same_cell, size_fault}
use Rattle.certificate_lines.proofs.Imports.{size_sides, subst, sym, true, true_from_not, ℕ, ◌&&◌, ◌++◌, ◌+◌, ◌||◌, ◌∙◌}
use Rattle.certificate_lines.proofs.Imports.{◌∷◌, ◌≡◌, ◌≤◌}
use Rattle.certificate_lines.specs.Modules.{IsWithinLineLimit}
use Rattle.certificate_lines.specs.Rules.{line_fault}
use Rattle.certificate_lines.specs.BuilderView.{AreLinesAndWiresTracked, AreLinesTracked, IsEdgeHaloOrStopLine}
use Rattle.certificate_lines.specs.BuilderView.{IsLastModuleTracked, wires_made_local}
use Rattle.certificate_lines.proofs.BuiltLemmas.{module_built, line_built, good_module}
use Rattle.certificate_lines.proofs.Growing.{modules_push, last_at, last_pushed, last_changed, body_step}
use Rattle.certificate_lines.proofs.Lists.{some_is}
use Rattle.certificate_lines.proofs.OrderLemmas.{inner_pushed, key_pushed, module_key, module_pushed}
use Rattle.certificate_lines.proofs.LackedWires.{wires_more}
use Rattle.certificate_lines.proofs.ModulePushes.{no_code, new_wire, good_use, known_cut, known_same, pushed}
use Rattle.module_box.specs.Tiling.{IsPartialOwnerTable, OwnersView, PutsBox}
use Rattle.lemmas.specs.Bounds.{max_side}
use Rattle.section_text.proofs.Codes.{both_none}

-- ---- the last module

pub mapped_some : {X Y : Type 0} (f : X → Y) (o : Option X) (y : Y) → option_map f o ≡ Some y →
    (x : X) × (o ≡ Some x) × (y ≡ f x)
mapped_some f o y h1 = grind (arith, common_steps, some_is)

-- ---- a line of the last module

-- what the tests of a line of a module say
pub record IsGoodLine (g : Setting) (es : List CertificateLine) (i : CertificateLine) : Type 0 where
  pub module_lines : ModuleLines
  pub last : last_module es ≡ Some module_lines
  pub follows : may_follow module_lines.lines i ≡ true
  pub words : code_but_for_order g module_lines i ≡ None

good_by : (g : Setting) (es : List CertificateLine) (i : CertificateLine) (o : Option ModuleLines) →
    last_module es ≡ o → body_line_code g o i ≡ None → IsGoodLine g es i
good_by g es i None is e = absurd cc
good_by g es i (Some m) is e = grind (arith, common_steps, both_none, true_from_not, no_code)

pub good_line : (g : Setting) (es : List CertificateLine) (i : CertificateLine) →
    body_line_code g (last_module es) i ≡ None → IsGoodLine g es i
good_line g es i e = good_by g es i (last_module es) refl e

-- it makes wires local
made_local : (g : Setting) (m : ModuleLines) → IsModule g m → (i : CertificateLine) → IsBodyLine i →
    may_follow m.lines i ≡ true → code_but_for_order g m i ≡ None →
    known g.circuit (module_with_line i m) ≡ known g.circuit m ++ wires_made_local g.circuit i
made_local g m is (Module b) inner follows good = absurd inner
made_local g m is (Cut n) inner follows good =
    let words = (new_wire g.circuit _ _ n good).1 in
    known_cut g m is n follows words.wire words.named
    ∙ ap (λ o. known g.circuit m ++ option_to_list o) (sym words.named)
made_local g m is (Use k) inner follows good = grind (arith, common_steps, good_use)
made_local g m is i inner follows good = known_same g m i refl refl ∙ sym (append-nil (known g.circuit m))

-- a list of the cells of starred lines, after one more line
abbrev pub AreStarsWith : (CertificateLine → List BorderLine) → CertificateLine → List Cell → List Cell → Type 0
AreStarsWith f i old new = (c : Cell) →
    list_any (same_cell c) new ≡ (list_any (same_cell c) old || list_any (is_starred_line_at c) (f i))

module _ (g : Setting) (es : List CertificateLine) (owners : OwnersView) (last : Option CertificateLine)
    (local : List ℕ) (e h : List Cell)
    (kept : AreLinesTracked g es owners last local e h) where
  pub last_written : (m : ModuleLines) → last_module es ≡ Some m → IsModuleInLimits g m
  last_written m some = let at = last_at (modules_of es) m some in kept.built.sound.each at.0 m at.2

  pub last_good : (m : ModuleLines) → last_module es ≡ Some m → IsModule g m
  last_good m some = (last_written m some).good

  pub last_limit : IfSome (last_module es) IsWithinLineLimit
  last_limit = within (last_module es) (λ m some. (last_written m some).few_borders)
    where
      within : (o : Option ModuleLines) → ((m : ModuleLines) → o ≡ Some m → IsWithinLineLimit m) →
          IfSome o IsWithinLineLimit
      within o h1 = grind (arith, common_steps)

  pub last_known : (m : ModuleLines) → last_module es ≡ Some m → local ≡ known g.circuit m
  last_known m some = (kept.last_module m some).wires

  -- whether the last module is complete
  pub lacks : (m : ModuleLines) → last_module es ≡ Some m →
      list_any (λ p. in_box m.area p.cell.x p.cell.y && not (is_local g.circuit local p.name)) g.ports
      ≡ is_last_module_incomplete g (last_module es)
  unfolding has_nonlocal_port
  lacks m some =
      ap (λ l. list_any (λ (p : Port). in_box m.area p.cell.x p.cell.y && not (is_local g.circuit l p.name)) g.ports)
      (kept.last_module m some).wires
      ∙ ap (is_last_module_incomplete g) (sym some)

  -- its box is in the rectangle
  pub last_fits : (m : ModuleLines) → last_module es ≡ Some m → size_fault g.size ≡ None →
      (m.area.x + m.area.w ≤ max_side) × (m.area.y + m.area.h ≤ max_side)
  last_fits m some sized =
      let inside = (last_good m some).inside in
      let sides = size_sides g.size sized in
      grind (arith, common_steps)

  follows_by : (m : ModuleLines) (i : CertificateLine) (b : Bool) → last_module es ≡ Some m →
      ((lines : List CertificateLine) → AreLinesInOrder lines → last_of lines ≡ last → b ≡ may_follow lines i) →
      b ≡ may_follow m.lines i
  follows_by m i b some f = f m.lines (last_good m some).order (kept.last_module m some).final

  inner_is : (m : ModuleLines) (i : CertificateLine) → last_module es ≡ Some m →
      line_fault g m i ≡ body_line_code g (last_module es) i
  inner_is m i some = ap (λ o. body_line_code g o i) (sym some)

  pub too_late : (m : ModuleLines) (i : CertificateLine) (b : Bool) → last_module es ≡ Some m →
      ((lines : List CertificateLine) → AreLinesInOrder lines → last_of lines ≡ last → b ≡ may_follow lines i) →
      b ≡ false → Some OutOfOrder ≡ body_line_code g (last_module es) i
  too_late m i b some f late =
      let not_after : may_follow m.lines i ≡ false = sym (follows_by m i b some f) ∙ late in
      ap (λ a. or_else (code_if (not a) OutOfOrder) (code_but_for_order g m i)) (sym not_after) ∙ inner_is m i some

  pub in_place : (m : ModuleLines) (i : CertificateLine) (b : Bool) (code : Option RefusalCode) →
      last_module es ≡ Some m →
      ((lines : List CertificateLine) → AreLinesInOrder lines → last_of lines ≡ last → b ≡ may_follow lines i) →
      b ≡ true
      → code ≡ code_but_for_order g m i → code ≡ body_line_code g (last_module es) i
  in_place m i b code some f good words =
      let after : may_follow m.lines i ≡ true = sym (follows_by m i b some f) ∙ good in
      grind (arith, common_steps, inner_is)

  -- ---- one more line of the last module

  module _ (i : CertificateLine) (inner : IsBodyLine i) (good : IsGoodLine g es i) where
    pub after_line : modules_of (es ++ i ∷ []) ≡ change_last (module_with_line i) (modules_of es)
    after_line = modules_push es i ∙ body_step i inner (modules_of es)

    pub wires_after : known g.circuit (module_with_line i good.module_lines)
        ≡ known g.circuit good.module_lines ++ wires_made_local g.circuit i
    wires_after = grind (arith, common_steps, made_local, last_good)

    the_same : (m : ModuleLines) → last_module es ≡ Some m → good.module_lines ≡ m
    the_same m some = some_is good.module_lines m (sym good.last ∙ some)

    last_after : (e' h' : List Cell) → AreStarsWith edge_in i e e' → AreStarsWith halo_in i h h' →
        IsLastModuleTracked g good.module_lines last local e h →
        IsLastModuleTracked g (module_with_line i good.module_lines) (Some i)
        (local ++ wires_made_local g.circuit i) e' h'
    last_after e' h' stars halo_stars p = grind (arith, common_steps, last_pushed, wires_after)

    pub kept_inner : (e' h' : List Cell) → AreStarsWith edge_in i e e' → AreStarsWith halo_in i h h' →
        AreLinesTracked g (es ++ i ∷ []) owners (Some i) (local ++ wires_made_local g.circuit i) e' h'
    kept_inner e' h' stars halo_stars = record {
      built = subst (λ ms. AreModulesWithOwners g ms owners) (sym after_line)
          (line_built g (modules_of es) i owners kept.built
          (λ m some. subst (λ k. IsModuleInLimits g k → IsModuleInLimits g (module_with_line i k))
          (the_same m some) (λ is. pushed g good.module_lines is i inner good.follows good.words)));
      last_module = λ m' some.
          let r = mapped_some (module_with_line i) (last_module es) m'
          (sym (ap last_of after_line ∙ last_changed (module_with_line i) (modules_of es)) ∙ some) in
          let here = last_after e' h' stars halo_stars (kept.last_module good.module_lines good.last) in
          subst (λ k. IsLastModuleTracked g k (Some i) (local ++ wires_made_local g.circuit i) e' h')
          (ap (module_with_line i) (the_same r.0 r.1) ∙ sym r.2) here;
    }

  -- ---- one more module

  module _ (new_owners : OwnersView) (b : Box2) where
    begun_lines : ModuleLines
    begun_lines = record { area = b; lines = [] }

    begun_present : IsLastModuleTracked g begun_lines None [] [] []
    unfolding begun_lines last_of
    begun_present = grind (arith, common_steps)

    pub kept_module : module_line_code g (modules_of es) (last_module es) b ≡ None → (number : ℕ) →
        number ≡ length (modules_of es) → PutsBox b number owners new_owners →
        AreLinesTracked g (es ++ Module b ∷ []) new_owners None [] [] []
    unfolding begun_lines add_line
    kept_module good number is puts =
        let more : modules_of (es ++ Module b ∷ []) ≡ modules_of es ++ begun_lines ∷ [] = modules_push es (Module b) in
        record {
          built = grind (arith, common_steps, module_built, good_module);
          last_module = grind (arith, common_steps, some_is, begun_lines, last_pushed, begun_present);
        }

-- ---- edge, halo and stop lines

pub border_is_inner : (i : CertificateLine) → IsEdgeHaloOrStopLine i → IsBodyLine i
border_is_inner i h1 = grind (arith, common_steps)

border_wires : (c : Circuit) (i : CertificateLine) → IsEdgeHaloOrStopLine i → wires_made_local c i ≡ []
border_wires c i h1 = grind (arith, common_steps)

-- ---- with the wires of all modules

pub with_none : (g : Setting) (owners : OwnersView) → owners.width ≡ g.size.w → owners.height ≡ g.size.h →
    IsPartialOwnerTable owners [] → (e h : List Cell) → (key : LineKey) → key ≡ key_or_first None →
    AreLinesAndWiresTracked g [] owners (last_body_line []) key [] [] e h
unfolding modules_of last_of
with_none g owners w high dead e h key first = grind (arith, common_steps)

module _ (g : Setting) (es : List CertificateLine) (owners : OwnersView) (last : Option CertificateLine)
    (key : LineKey) (earlier : List (List ℕ)) (local : List ℕ) (e h : List Cell)
    (was : AreLinesAndWiresTracked g es owners last key earlier local e h) where
  pub with_inner : (i : CertificateLine) → IsBodyLine i → (good : IsGoodLine g es i) → (e' h' : List Cell) →
      AreStarsWith edge_in i e e' → AreStarsWith halo_in i h h' →
      AreLinesAndWiresTracked g (es ++ i ∷ []) owners (last_body_line (es ++ i ∷ [])) (key_of i) earlier
      (local ++ wires_made_local g.circuit i) e' h'
  with_inner i inner good e' h' stars halo_stars =
      subst (λ l. AreLinesAndWiresTracked g (es ++ i ∷ []) owners l (key_of i) earlier
      (local ++ wires_made_local g.circuit i) e' h')
      (sym (inner_pushed es i inner)) (record {
        kept = kept_inner g es owners last local e h was.kept i inner good e' h' stars halo_stars;
        wires = subst (λ ms. AreLocalWiresOfModules g.circuit ms earlier (local ++ wires_made_local g.circuit i))
            (sym (after_line g es owners last local e h was.kept i inner good))
            (wires_more g.circuit (module_with_line i) (modules_of es) good.module_lines earlier local
            (wires_made_local g.circuit i) good.last
            (wires_after g es owners last local e h was.kept i inner good) was.wires);
        key_is = key_pushed es i;
      })

  pub with_border : (i : CertificateLine) → IsEdgeHaloOrStopLine i → (good : IsGoodLine g es i) → (e' h' : List Cell) →
      AreStarsWith edge_in i e e' → AreStarsWith halo_in i h h' →
      AreLinesAndWiresTracked g (es ++ i ∷ []) owners (last_body_line (es ++ i ∷ [])) (key_of i) earlier local e' h'
  with_border i border good e' h' stars halo_stars =
      subst (λ l. AreLinesAndWiresTracked g (es ++ i ∷ []) owners (last_body_line (es ++ i ∷ []))
      (key_of i) earlier l e' h')
      (ap (λ w. local ++ w) (border_wires g.circuit i border) ∙ append-nil local)
      (with_inner i (border_is_inner i border) good e' h' stars halo_stars)

  pub with_module : (new_owners : OwnersView) (b : Box2) →
      module_line_code g (modules_of es) (last_module es) b ≡ None →
      (number : ℕ) → number ≡ length (modules_of es) → PutsBox b number owners new_owners
      → AreLinesAndWiresTracked g (es ++ Module b ∷ []) new_owners
      (last_body_line (es ++ Module b ∷ [])) (key_or_first None) (earlier ++ local ∷ []) [] [] []
  unfolding add_line
  with_module new_owners b good number is puts =
      subst (λ l. AreLinesAndWiresTracked g (es ++ Module b ∷ []) new_owners
      l (key_or_first None)
      (earlier ++ local ∷ []) [] [] []) (sym (module_pushed es b)) (record {
        kept = kept_module g es owners last local e h was.kept new_owners b good number is puts;
        wires = grind (arith, common_steps, modules_push);
        key_is = module_key es b;
      })
