-- What was read makes good modules.
use Rattle.certificate.proofs.Imports.{All, AreModules, CertificateLine, HasCircuitWires, List, Setting, ap, arith}
use Rattle.certificate.proofs.Imports.{common_steps, false, has_nonlocal_edge_wire_beside, is_haloless_version}
use Rattle.certificate.proofs.Imports.{lines_of_modules}
use Rattle.certificate.proofs.Imports.{map, module_lines, modules_of, setting_of, subst, sym, ℕ, ◌&&◌, ◌∙◌, ◌≡◌}
use Rattle.section_text.proofs.Good.{reads_faultless}
use Rattle.section_text.specs.Section.{Reads}
use Rattle.certificate_lines.specs.Modules.{IsWithinLineLimit}
use Rattle.certificate_lines.specs.BuilderView.{IsModuleOwnerTable}
use Rattle.certificate_lines.proofs.StoredLemmas.{modules_stored}
use Rattle.certificate.specs.Grammars.{certificate_grammar, certificate_section, version_number}
use Rattle.certificate.proofs.ReadModules.{fails_as, owners_read, reads_as}
use Rattle.certificate.proofs.Soundness.{faultless_lines, faultless_modules, read_complete}
use Rattle.certificate.proofs.reading.read_certificate_within.Goals as goal

pub invariant_of-result : goal.invariant_of-result
invariant_of-result c =
    let g = setting_of c.args.circuit.now c.args.layout.now in
    let read = c.read_lines-read.result in
    let version = version_number read.1 in
    let view : Unit {0} → ℕ × List CertificateLine = λ u. (version, read.2.entries) in
    let begun : c.in-Ok-new.builder.setting ≡ g = grind (arith, common_steps) in
    let same = c.read_lines-read.ensures.same_setting ∙ begun in
    let ms = c.into_parts-modules.result.modules.items in
    let faultless = reads_faultless _ _ _ _ _ (subst (Reads (certificate_grammar c.args.limits g) view c.args.feed.now
    c.read_lines-read.new.feed) c.in-Ok-read.is
    (subst (λ s. Reads (certificate_grammar c.args.limits s) view c.args.feed.now
    c.read_lines-read.new.feed read.0) begun c.read_lines-read.ensures.reads)) in
    let are : modules_of read.2.entries ≡ map (module_lines g.circuit) ms =
    ap modules_of (sym c.into_parts-modules.ensures.entries
    ∙ ap (λ (s : Setting). lines_of_modules s.circuit ms) same)
    ∙ modules_stored g.circuit ms in
    let modules = subst (AreModules g) are (faultless_modules c.args.limits g _ _ faultless) in
    record {
      good = record {
        wires = subst (λ (s : Setting). All (HasCircuitWires s.circuit) ms) same c.into_parts-modules.ensures.wires;
        modules = modules;
        few_lines = subst (All IsWithinLineLimit) are (faultless_lines c.args.limits g _ _ faultless);
      };
      complete = subst (λ ns. (is_haloless_version version && has_nonlocal_edge_wire_beside g ns) ≡ false) are
          (read_complete c.args.limits g version _ faultless);
      owners = owners_read c.args.circuit.now c.args.layout.now _ c.into_parts-modules.result.owners
          (subst (λ ns. IsModuleOwnerTable g ns c.into_parts-modules.result.owners) are
          (subst (λ (s : Setting). IsModuleOwnerTable s (modules_of read.2.entries) c.into_parts-modules.result.owners)
          same
          c.into_parts-modules.ensures.owners)) modules.tile;
      ports = c.in-Ok.ensures;
    }

pub returns-in-Ok-read-clause-reads : goal.returns-in-Ok-read-clause-reads
returns-in-Ok-read-clause-reads c =
    let g = setting_of c.args.circuit.now c.args.layout.now in
    let read = c.read_lines-read.result in
    let view : Unit {0} → ℕ × List CertificateLine = λ u. (version_number read.1, read.2.entries) in
    let begun : c.in-Ok-new.builder.setting ≡ g = grind (arith, common_steps) in
    let same = c.read_lines-read.ensures.same_setting ∙ begun in
    let ms = c.into_parts-modules.result.modules.items in
    reads_as (certificate_grammar c.args.limits g) view certificate_section c.args.feed.now c.read_lines-read.new.feed
    c.in-Ok-read.field-0 _
    (subst (Reads (certificate_grammar c.args.limits g) view c.args.feed.now c.read_lines-read.new.feed) c.in-Ok-read.is
    (subst (λ s. Reads (certificate_grammar c.args.limits s) view c.args.feed.now c.read_lines-read.new.feed read.0)
    begun
    c.read_lines-read.ensures.reads))
    (ap (λ (es : List CertificateLine). (version_number read.1, es))
    (sym c.into_parts-modules.ensures.entries ∙ ap (λ (s : Setting). lines_of_modules s.circuit ms) same))

pub returns-clause-reads : goal.returns-clause-reads
returns-clause-reads c =
    let g = setting_of c.args.circuit.now c.args.layout.now in
    let read = c.read_lines-read.result in
    let view : Unit {0} → ℕ × List CertificateLine = λ u. (version_number read.1, read.2.entries) in
    let begun : c.in-Ok-new.builder.setting ≡ g = grind (arith, common_steps) in
    fails_as (certificate_grammar c.args.limits g) view certificate_section c.args.feed.now c.read_lines-read.new.feed _
    (subst (Reads (certificate_grammar c.args.limits g) view c.args.feed.now c.read_lines-read.new.feed) c.in-Err.is
    (subst (λ s. Reads (certificate_grammar c.args.limits s) view c.args.feed.now c.read_lines-read.new.feed read.0)
    begun
    c.read_lines-read.ensures.reads))
