-- A text has a report
use Rattle.std.proofs.Common.{arith}
use Rattle.headline.proofs.Imports.{AreFaultless, AreModules, Ball, Bundle, CertView, HasAnAnswerToEachText, In}
use Rattle.headline.proofs.Imports.{IsFaultless, IsReportOf, IsVerdictOn, LayoutHeader, LayoutLine, List, Mirror, None}
use Rattle.headline.proofs.Imports.{Ok, Option, Out, Pattern, PortNameLists, SaysReport, Setting, Some, Verdict, Waste}
use Rattle.headline.proofs.Imports.{[], ap, append-nil, append_assoc, bundle_of, certificate_grammar, common_steps}
use Rattle.headline.proofs.Imports.{faultless_modules, layout_grammar, layout_line_fault, layout_section, line_fault}
use Rattle.headline.proofs.Imports.{meant_modules, modules_in, modules_of, no_code_first, parts_of, port_names_of}
use Rattle.headline.proofs.Imports.{read_complete, refl, report_text, setting_of, size_fault, subst, sym}
use Rattle.headline.proofs.Imports.{verdict_outcome, ℕ, ◌++◌, ◌∙◌, ◌∷◌, ◌≡◌}
use Rattle.pattern.specs.Lines.{order_fault}
use Rattle.pattern.proofs.Added.{with_ball, with_in, with_mirror, with_out, with_waste}
use Rattle.soundness.proofs.SomeVerdict.{some_verdict}
use Rattle.headline.proofs.SomeAnswer.{SaysSomething, answered_always}
use Rattle.headline.proofs.YesIsRight.{bundle_good, certificate_faultless}
use Rattle.section_text.specs.declared.limits.Limits.{Limits}
use Rattle.meaning.specs.Design.{text_limits}
use Rattle.section_text.proofs.Codes.{no_code_second}

-- ---- a layout from its lines

-- a layout of this size with these lines
HasLines : LayoutHeader → List LayoutLine → Type 0
HasLines s parts = (p : Pattern) × (layout_section p ≡ (s, parts))

with_part : (p : Pattern) (part : LayoutLine) → order_fault (parts_of p) part ≡ None →
    HasLines p.size (parts_of p ++ part ∷ [])
unfolding HasLines
with_part p (Mirror r) e = let more = p.mirrors ++ r ∷ [] in
    (record p { mirrors = more }, ap (λ l. (p.size, l)) (with_mirror p p refl (Mirror r) e r more refl refl))
with_part p (Ball c) e = let more = p.balls ++ c ∷ [] in
    (record p { balls = more }, ap (λ l. (p.size, l)) (with_ball p p refl (Ball c) e c more refl refl))
with_part p (In q) e = let more = p.ins ++ q ∷ [] in
    (record p { ins = more }, ap (λ l. (p.size, l)) (with_in p p refl (In q) e q more refl refl))
with_part p (Out q) e = let more = p.outs ++ q ∷ [] in
    (record p { outs = more }, ap (λ l. (p.size, l)) (with_out p p refl (Out q) e q more refl refl))
with_part p (Waste c) e = let more = p.wastes ++ c ∷ [] in
    (record p { wastes = more }, ap (λ l. (p.size, l)) (with_waste p p refl (Waste c) e c more refl refl))

follows : (ports : Option PortNameLists) (s : LayoutHeader) (before : List LayoutLine) (part : LayoutLine) →
    layout_line_fault ports s before part ≡ None → order_fault before part ≡ None
unfolding layout_line_fault line_fault
follows ports s before part e = no_code_first (order_fault before part) _ (no_code_first _ _ e)

more_parts : (l : Limits) (ports : Option PortNameLists) (s : LayoutHeader) (before parts : List LayoutLine) →
    HasLines s before → AreFaultless (layout_grammar l ports) s before parts → HasLines s (before ++ parts)
unfolding HasLines
more_parts l ports s before [] has good = subst (HasLines s) (sym (append-nil before)) has
more_parts l ports s before (part ∷ parts) has good =
    subst (HasLines s) (append_assoc before (part ∷ []) parts)
    (more_parts l ports s (before ++ part ∷ []) parts (next has) good.1)
  where
    next : HasLines s before → HasLines s (before ++ part ∷ [])
    next (p, same) =
        let are : parts_of p ≡ before = ap (λ (v : LayoutHeader × List LayoutLine). v.1) same in
        let one = with_part p part
        (subst (λ l. order_fault l part ≡ None) (sym are)
        (follows ports s before part (no_code_second _ _ (no_code_second _ _ good.0)))) in
        (one.0, one.1 ∙ ap (λ (v : LayoutHeader × List LayoutLine). (v.0, v.1 ++ part ∷ [])) same)

pub some_layout : (l : Limits) (ports : Option PortNameLists) (s : LayoutHeader) (parts : List LayoutLine) →
    IsFaultless (layout_grammar l ports) s parts → (p : Pattern) × (layout_section p ≡ (s, parts))
unfolding HasLines
some_layout l ports s parts good =
    let empty : Pattern = record { size = s; mirrors = []; balls = []; ins = []; outs = []; wastes = [] } in
    more_parts l ports s [] parts (empty, refl) good.each

-- ---- the report

-- a bundle that is read, and a layout of its lines
module _ (text : List ℕ) (b : Bundle) (e : bundle_of text ≡ Ok b) (p : Pattern)
    (same : layout_section p ≡ (b.size, b.parts)) where
  abbrev pub certificate_by : CertView
  certificate_by = record { circuit = b.circuit; layout = p; version = b.version; entries = b.entries }

  abbrev g : Setting
  g = setting_of b.circuit p

  faultless : IsFaultless (certificate_grammar (text_limits text) g) b.version b.entries
  faultless = certificate_faultless text b p e same

  pub modules_good : AreModules g (modules_in certificate_by)
  modules_good = meant_modules b.version g (modules_of b.entries)
      (faultless_modules (text_limits text) g b.version b.entries faultless)
      (read_complete (text_limits text) g b.version b.entries faultless)

  pub limits : size_fault p.size ≡ None
  limits = grind (arith, common_steps, (bundle_good text b e))

  -- a verdict on its modules is reported
  pub reported_by : (v : Verdict) → IsVerdictOn certificate_by v →
      SaysReport b (report_text certificate_by v) (verdict_outcome v)
  reported_by v is = grind (arith, common_steps)

reported : (text : List ℕ) (b : Bundle) → bundle_of text ≡ Ok b → SaysSomething SaysReport b
reported text b e =
    let own = some_layout (text_limits text) (Some (port_names_of b.circuit)) b.size b.parts
    (bundle_good text b e).layout in
    let c = certificate_by text b e own.0 own.1 in
    let good = modules_good text b e own.0 own.1 in
    let judged = some_verdict b.circuit own.0 (modules_in c) (bundle_good text b e).circuit
    (limits text b e own.0 own.1) good in
    record {
      output = report_text c judged.verdict;
      outcome = verdict_outcome judged.verdict;
      is = grind (arith, common_steps);
    }

pub some_report : HasAnAnswerToEachText IsReportOf
some_report text = answered_always SaysReport (bundle_of text) (λ b e. reported text b e)
