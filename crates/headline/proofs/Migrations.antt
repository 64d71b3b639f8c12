-- The output of `migrate` says what was read, in version 2.
use Rattle.headline.proofs.Imports.{AreFaultless, AreLines, Bool, Bundle, CertificateLine, CircuitLine, End, Grammar}
use Rattle.headline.proofs.Imports.{Header, IsFaultless, IsMigrationOf, IsSection, Item, LayoutHeader, LayoutLine, List}
use Rattle.headline.proofs.Imports.{None, Ok, Option, Pattern, Refusal, RefusalCode, Result, SaysBundle, SaysDesign}
use Rattle.headline.proofs.Imports.{Setting, Some, Yes, [], ap, append-nil, append_assoc, ap₂, arith, bundle_of}
use Rattle.headline.proofs.Imports.{bundle_text, bundle_with_limits, bytes_after_last_line_feed, certificate_grammar}
use Rattle.headline.proofs.Imports.{certificate_section_text, circuit_grammar, clean_both, code_if, codes, common_steps}
use Rattle.headline.proofs.Imports.{false, flat_map, flat_map-append, if◌then◌else◌, is_word_at, layout_grammar}
use Rattle.headline.proofs.Imports.{layout_of, layout_section_text, length, length-append, length-map, lines_again}
use Rattle.headline.proofs.Imports.{lines_of, migrate_of, migrated_bundle, nothing_follows, number_after_keyword}
use Rattle.headline.proofs.Imports.{number_at, number_of, one_line, one_section, or_else, parts_of, port_names_of}
use Rattle.headline.proofs.Imports.{read_faultless, refl, section_made, section_said, setting_of, subst, sym, take}
use Rattle.headline.proofs.Imports.{take-append-drop, text_said, true, value_if_at_end, with_line_feed}
use Rattle.headline.proofs.Imports.{without_halo_lines, words_of, ℕ, ◌++◌, ◌+◌, ◌∙◌, ◌∷◌, ◌≡◌}
use Rattle.lemmas.proofs.Common.{drop-append_seam}
use Rattle.section_text.specs.Sections.{section_then}
use Rattle.section_text.proofs.Again.{drop_clean, lines_clean}
use Rattle.section_text.proofs.Joined.{at_the_end}
use Rattle.section_text.proofs.MadeSections.{clean_left, clean_right, forms, items_said}
use Rattle.certificate_lines.specs.Versions.{is_halo_line}
use Rattle.answers.proofs.KeptLines.{with_other, without_halo}
use Rattle.headline.specs.Migration.{MigrationCopiesVersionTwo, MigrationIsIdempotent, MigrationKeepsAllButHalos}
use Rattle.headline.proofs.YesIsRight.{bundle_good, in_sections, not_refused, past_circuit, past_layout}
use Rattle.circuit.specs.Forms.{form_of as circuit_form}
use Rattle.circuit.specs.Text.{circuit_text, form_text as circuit_line}
use Rattle.circuit.proofs.Spelling.{form_line as circuit_spelled}
use Rattle.pattern.specs.Forms.{form_of as layout_form}
use Rattle.pattern.specs.Text.{form_text as layout_line}
use Rattle.pattern.proofs.Spelling.{form_line as layout_spelled}
use Rattle.certificate_lines.specs.Forms.{form_of as certificate_form}
use Rattle.certificate.specs.Text.{form_text as certificate_line}
use Rattle.certificate.proofs.Spelling.{form_line as certificate_spelled}
use Rattle.section_text.specs.declared.limits.Limits.{Limits}
use Rattle.section_text.specs.declared.limits.Limits.TheVariants.{First}
use Rattle.section_text.specs.Limits.{limits_line_count, limits_of}
use Rattle.meaning.specs.Design.{front_text, section_lines, text_limits}
use Rattle.meaning.proofs.Fronts.{HasFront, first_limits, front_and_lines, has_front}

-- ---- a text by its sections

-- the lines of a text are the sections of a bundle, and no byte follows them
pub record HasSections (text : List ℕ) (b : Bundle) : Type 0 where
  pub first : List (List ℕ)
  pub second : List (List ℕ)
  pub third : List (List ℕ)
  pub lines : section_lines text ≡ first ++ (second ++ third)
  pub rest : bytes_after_last_line_feed text ≡ []
  pub circuit_is : IsSection circuit_form first tt b.circuit
  pub layout_is : IsSection layout_form second b.size b.parts
  pub certificate_is : IsSection certificate_form third b.version b.entries

-- no line of them has a fault
pub record IsGoodBundle (l : Limits) (b : Bundle) : Type 0 where
  pub circuit : IsFaultless (circuit_grammar l) tt b.circuit
  pub layout : IsFaultless (layout_grammar l (Some (port_names_of b.circuit))) b.size b.parts
  pub certificate : IsFaultless
      (certificate_grammar l (setting_of b.circuit (layout_of b.size b.parts))) b.version b.entries

pub sections_read : (text : List ℕ) (b : Bundle) → bundle_of text ≡ Ok b → HasSections text b
sections_read text b e =
    let l : Limits = text_limits text in
    let r = in_sections text b e in
    let i = length b.circuit + 2 in
    let j = length b.parts + 2 in
    let n = length b.entries + 2 in
    let later = past_circuit text b in
    let last = past_layout text b in
    let whole : take n last ≡ last =
    sym (append-nil (take n last)) ∙ ap (λ ls. take n last ++ ls) (sym r.nothing_more) ∙ take-append-drop n last in
    record {
      first = take i (section_lines text);
      second = take j later;
      third = take n last;
      lines = grind (arith, common_steps, take-append-drop);
      rest = r.ended;
      circuit_is = section_said (circuit_grammar l) (limits_line_count l) (section_lines text) tt b.circuit r.circuit;
      layout_is = section_said (layout_grammar l (Some (port_names_of b.circuit))) _ later b.size b.parts r.layout;
      certificate_is = section_said
          (certificate_grammar l (setting_of b.circuit (layout_of b.size b.parts))) _ last b.version b.entries
          r.certificate;
    }

pub good_read : (text : List ℕ) (b : Bundle) → bundle_of text ≡ Ok b → IsGoodBundle (text_limits text) b
good_read text b e =
    let l : Limits = text_limits text in
    let r = in_sections text b e in
    record {
      circuit = read_faultless (circuit_grammar l) (limits_line_count l) (section_lines text) tt b.circuit r.circuit;
      layout = (bundle_good text b e).layout;
      certificate = read_faultless (certificate_grammar l (setting_of b.circuit (layout_of b.size b.parts))) _ _
          b.version
          b.entries r.certificate;
    }

-- ---- and such a text is read

section_length : {H I : Type 0} (g : Grammar H I) (ls : List (List ℕ)) (h : H) (items : List I) →
    IsSection g.form ls h items → length ls ≡ length items + 2
section_length {H = H} {I = I} g ls h items e = grind (arith, common_steps, length-map, length-append)

then_made : {H I B : Type 0} (g : Grammar H I) (n : ℕ) (ls others lines : List (List ℕ)) (h : H) (items : List I)
    (next : H → List I → ℕ → List (List ℕ) → Result B Refusal) → lines ≡ ls ++ others → IsSection g.form ls h items →
    IsFaultless g h items → section_then g n lines next ≡ next h items (n + (length items + 2)) others
then_made g n ls others lines h items next e is good = grind (arith, section_made, section_length, drop-append_seam)

module _ (l : Limits) (text : List ℕ) where
  abbrev ended : List CircuitLine → LayoutHeader → List LayoutLine → ℕ → List CertificateLine → ℕ → List (List ℕ) →
      Result Bundle Refusal
  ended circuit size parts version entries k last =
      value_if_at_end k last (bytes_after_last_line_feed text)
      (record { circuit = circuit; size = size; parts = parts; version = version; entries = entries })

  abbrev after_layout : List CircuitLine → LayoutHeader → List LayoutLine → ℕ → List (List ℕ) → Result Bundle Refusal
  after_layout circuit size parts m later =
      section_then (certificate_grammar l (setting_of circuit (layout_of size parts))) m later
      (ended circuit size parts)

  abbrev after_circuit : Unit {0} → List CircuitLine → ℕ → List (List ℕ) → Result Bundle Refusal
  after_circuit _ circuit n ahead =
      section_then (layout_grammar l (Some (port_names_of circuit))) n ahead (after_layout circuit)

pub bundle_made : (text : List ℕ) (b : Bundle) → HasSections text b → IsGoodBundle (text_limits text) b →
    bundle_of text ≡ Ok b
unfolding bundle_of bundle_with_limits
bundle_made text b s good =
    let l : Limits = text_limits text in
    let i = length b.circuit + 2 in
    let j = length b.parts + 2 in
    let n = length b.entries + 2 in
    then_made (circuit_grammar l) (limits_line_count l) s.first (s.second ++ s.third) (section_lines text) tt b.circuit
    (after_circuit l text) s.lines s.circuit_is good.circuit
    ∙ then_made (layout_grammar l (Some (port_names_of b.circuit))) (limits_line_count l + i) s.second s.third
    (s.second ++ s.third) b.size b.parts (after_layout l text b.circuit) refl s.layout_is good.layout
    ∙ then_made (certificate_grammar l (setting_of b.circuit (layout_of b.size b.parts)))
    (limits_line_count l + i + j) s.third [] s.third b.version b.entries (ended l text b.circuit b.size b.parts)
    (sym (append-nil s.third)) s.certificate_is good.certificate
    ∙ at_the_end (limits_line_count l + i + j + n) [] (bytes_after_last_line_feed text) b refl s.rest

-- ---- they are those of one bundle

pub one_bundle : (text : List ℕ) (b d : Bundle) → HasSections text b → HasSections text d → b ≡ d
one_bundle text b d s t =
    let first = one_section circuit_form s.first t.first (s.second ++ s.third)
    (t.second ++ t.third) tt tt b.circuit d.circuit (sym s.lines ∙ t.lines) s.circuit_is t.circuit_is in
    let second = one_section layout_form s.second t.second s.third t.third b.size d.size b.parts d.parts first.others
    s.layout_is t.layout_is in
    let third = one_section certificate_form s.third t.third [] [] b.version d.version b.entries d.entries
    (ap (λ ls. ls ++ []) second.others) s.certificate_is t.certificate_is in
    let circuit = first.items in
    let size = second.header in
    let parts = second.items in
    let version = third.header in
    let entries = third.items in
    λ k. record { circuit = circuit k; size = size k; parts = parts k; version = version k; entries = entries k }

-- what the text of a bundle says is what the bundle has
pub record IsSaid (b : Bundle) (circuit : List CircuitLine) (layout : Pattern) (version : ℕ)
    (certificate : List CertificateLine) : Type 0 where
  pub circuit_is : b.circuit ≡ circuit
  pub size_is : b.size ≡ layout.size
  pub parts_are : b.parts ≡ parts_of layout
  pub version_is : b.version ≡ version
  pub entries_are : b.entries ≡ certificate

pub said_so : (text : List ℕ) (b : Bundle) (circuit : List CircuitLine) (layout : Pattern)
    (certificate : List CertificateLine) → HasSections text b → (says : SaysBundle text circuit layout certificate) →
    IsSaid b circuit layout says.version certificate
said_so text b circuit layout certificate s says =
    let d = says.design in
    let first = one_section circuit_form s.first d.first (s.second ++ s.third)
    (d.second ++ d.others) tt tt b.circuit circuit (sym s.lines ∙ d.lines) s.circuit_is d.circuit_is in
    let second = one_section layout_form s.second d.second s.third d.others b.size layout.size b.parts
    (parts_of layout) first.others s.layout_is d.layout_is in
    let third = one_section certificate_form s.third says.third [] says.rest b.version says.version b.entries
    certificate (append-nil s.third ∙ second.others ∙ says.lines) s.certificate_is says.certificate_is in
    grind (arith, common_steps)

-- ---- the text of sections

sections_text : (b : Bundle) (first second third : List (List ℕ)) → IsSection circuit_form first tt b.circuit →
    IsSection layout_form second b.size b.parts → IsSection certificate_form third b.version b.entries
    → flat_map with_line_feed (first ++ (second ++ third)) ≡ bundle_text b
unfolding bundle_text layout_section_text certificate_section_text circuit_text
sections_text b first second third c l k =
    let setting : Setting = setting_of b.circuit (layout_of b.size b.parts) in
    let one = text_said (circuit_grammar First) circuit_line circuit_spelled first tt b.circuit c
    ∙ sym (append_assoc (circuit_line (Header tt)) (flat_map (λ i. circuit_line (Item i)) b.circuit)
    (circuit_line End)) in
    let two = text_said (layout_grammar First None) layout_line layout_spelled second b.size b.parts l
    ∙ sym (append_assoc (layout_line (Header b.size)) (flat_map (λ i. layout_line (Item i)) b.parts)
    (layout_line End)) in
    let three = text_said (certificate_grammar First setting) certificate_line certificate_spelled third b.version
    b.entries k
    ∙ sym (append_assoc (certificate_line (Header b.version)) (flat_map (λ i. certificate_line (Item i)) b.entries)
    (certificate_line End)) in
    flat_map-append with_line_feed first (second ++ third)
    ∙ ap (λ t. flat_map with_line_feed first ++ t) (flat_map-append with_line_feed second third)
    ∙ sym (append_assoc (flat_map with_line_feed first) (flat_map with_line_feed second)
    (flat_map with_line_feed third))
    ∙ ap₂ (λ a t. a ++ t) (ap₂ (λ a t. a ++ t) one two) three

-- a text that has only these sections is spelled in the one way
pub text_is : (text : List ℕ) (b : Bundle) → HasSections text b → text ≡ front_text (text_limits text) ++ bundle_text b
text_is text b s =
    front_and_lines text ∙ ap (λ t. front_text (text_limits text) ++ t)
    (grind (arith, common_steps, append-nil, sections_text))

-- ---- the lines of a certificate other than its halo lines

record Kept (items : List CertificateLine) : Type 0 where
  pub lines : List (List ℕ)
  pub said : forms certificate_form lines ≡ items_said certificate_form (without_halo_lines items)
  pub clean : AreLines lines

keep : (i : CertificateLine) (items : List CertificateLine) (line : List ℕ) (b : Bool) → is_halo_line i ≡ b →
    certificate_form (words_of line) ≡ Some (Item i) → AreLines (line ∷ []) → Kept items → Kept (i ∷ items)
keep i items line true e is clean more = grind (arith, common_steps, items_said, without_halo)
keep i items line false e is clean more = record {
  lines = line ∷ more.lines;
  said = ap₂ (λ a t. a ∷ t) is more.said ∙ ap (items_said certificate_form) (sym (with_other i items e));
  clean = (clean.0, more.clean);
}

kept : (items : List CertificateLine) (ls : List (List ℕ)) →
    forms certificate_form ls ≡ items_said certificate_form items → AreLines ls → Kept items
unfolding without_halo_lines
kept [] ls e clean = record { lines = ls; said = e; clean = clean }
kept (i ∷ items) ls e clean =
    let one = one_line certificate_form (Some (Item i)) (items_said certificate_form items) ls e in
    let own : AreLines (one.line ∷ one.rest) = subst AreLines one.lines clean in
    keep i items one.line (is_halo_line i) refl one.first_form (own.0, tt) (kept items one.rest one.other_forms own.1)

-- the header line of version 2
header : List ℕ
header = codes "certificate 2"

header_said : certificate_form (words_of header) ≡ Some (Header 2)
unfolding header certificate_form is_word_at number_after_keyword number_at number_of
header_said = refl

header_clean : AreLines (header ∷ [])
unfolding header
header_clean = grind (arith, common_steps)

-- ---- the text that is written has sections

pub migrated_sections : (l : Limits) (text : List ℕ) (b : Bundle) → HasSections text b →
    (text_limits (front_text l ++ migrate_of b) ≡ l) × HasSections (front_text l ++ migrate_of b) (migrated_bundle b)
migrated_sections l text b s =
    let clean : AreLines (s.first ++ (s.second ++ s.third)) =
    subst AreLines s.lines (drop_clean (limits_line_count (text_limits text)) (lines_of text) (lines_clean text)) in
    let later = clean_right s.first (s.second ++ s.third) clean in
    let one = one_line certificate_form (Some (Header b.version))
    (items_said certificate_form b.entries) s.third s.certificate_is in
    let own : AreLines (one.line ∷ one.rest) = subst AreLines one.lines (clean_right s.second s.third later) in
    let k = kept b.entries one.rest one.other_forms own.1 in
    let third = header ∷ k.lines in
    let certificate_is : IsSection certificate_form third 2 (without_halo_lines b.entries) =
    ap₂ (λ a t. a ∷ t) header_said k.said in
    let all = s.first ++ (s.second ++ third) in
    let all_clean : AreLines all =
    clean_both s.first (s.second ++ third) (clean_left s.first (s.second ++ s.third) clean)
    (clean_both s.second third (clean_left s.second s.third later) (header_clean.0, k.clean)) in
    let is : migrate_of b ≡ flat_map with_line_feed all =
    sym (sections_text (migrated_bundle b) s.first s.second third s.circuit_is s.layout_is certificate_is) in
    let lines : lines_of (migrate_of b) ≡ all = ap lines_of is ∙ lines_again all all_clean in
    let front : HasFront l (migrate_of b) = has_front l (migrate_of b)
    (ap limits_of lines ∙ first_limits s.first (s.second ++ third) b.circuit s.circuit_is) in
    grind (arith, common_steps, nothing_follows)

-- ---- what a migration tells

pub record IsMigrated (text output : List ℕ) : Type 0 where
  pub bundle : Bundle
  pub read : bundle_of text ≡ Ok bundle
  pub says : output ≡ front_text (text_limits text) ++ migrate_of bundle

pub was_migrated : (text output : List ℕ) → IsMigrationOf text output Yes → IsMigrated text output
was_migrated text output says = grind (arith, common_steps, not_refused)

twice_on : (i : CertificateLine) (es : List CertificateLine) (b : Bool) → is_halo_line i ≡ b →
    without_halo_lines (without_halo_lines es) ≡ without_halo_lines es →
    without_halo_lines (without_halo_lines (i ∷ es)) ≡ without_halo_lines (i ∷ es)
twice_on i es true e more = ap without_halo_lines (without_halo i es e) ∙ more ∙ sym (without_halo i es e)
twice_on i es false e more = grind (arith, common_steps, with_other)

without_twice : (es : List CertificateLine) → without_halo_lines (without_halo_lines es) ≡ without_halo_lines es
unfolding without_halo_lines
without_twice [] = refl
without_twice (i ∷ es) = twice_on i es (is_halo_line i) refl (without_twice es)

pub migrates_once : MigrationIsIdempotent
migrates_once text output again first second =
    let a = was_migrated text output first in
    let b = was_migrated output again second in
    let l : Limits = text_limits text in
    let made = migrated_sections l text a.bundle (sections_read text a.bundle a.read) in
    let limits : text_limits output ≡ l = ap text_limits a.says ∙ made.0 in
    let same : b.bundle ≡ migrated_bundle a.bundle =
    one_bundle output b.bundle (migrated_bundle a.bundle) (sections_read output b.bundle b.read)
    (subst (λ t. HasSections t (migrated_bundle a.bundle)) (sym a.says) made.1) in
    grind (arith, common_steps, without_twice)

-- ---- version 2 has no halo lines

no_code : (b : Bool) (code : RefusalCode) (more : Option RefusalCode) → or_else (code_if b code) more ≡ None → b ≡ false
no_code b code more h1 = grind (arith, common_steps)

no_halos : (l : Limits) (g : Setting) (before es : List CertificateLine) →
    AreFaultless (certificate_grammar l g) 2 before es → without_halo_lines es ≡ es
unfolding without_halo_lines
no_halos l g before [] good = refl
no_halos l g before (i ∷ es) good = grind (arith, with_other, no_code, (no_halos l g (before ++ i ∷ []) es good.1))

-- a bundle of version 2 is its own migration
pub in_place : (l : Limits) (b : Bundle) → IsGoodBundle l b → b.version ≡ 2 → migrated_bundle b ≡ b
in_place l b good two = grind (arith, common_steps, no_halos)

pub unchanged : (text output : List ℕ) (m : IsMigrated text output) → m.bundle.version ≡ 2 → output ≡ text
unchanged text output m two =
    m.says ∙ ap (λ d. front_text (text_limits text) ++ bundle_text d)
    (in_place (text_limits text) m.bundle (good_read text m.bundle m.read) two)
    ∙ sym (text_is text m.bundle (sections_read text m.bundle m.read))

pub keeps_version_two : MigrationCopiesVersionTwo
keeps_version_two text output circuit layout certificate migrates says =
    let m = was_migrated text output migrates in
    unchanged text output m ((said_so text m.bundle circuit layout certificate
    (sections_read text m.bundle m.read) says.says).version_is ∙ says.of_version)

-- ---- what is written says the same

pub says_design : (text output : List ℕ) (circuit : List CircuitLine) (layout : Pattern) → IsMigrated text output →
    SaysDesign text circuit layout → SaysDesign output circuit layout
says_design text output circuit layout m d =
    let b = m.bundle in
    let read = sections_read text b m.read in
    let s = (migrated_sections (text_limits text) text b read).1 in
    let first = one_section circuit_form read.first d.first (read.second ++ read.third)
    (d.second ++ d.others) tt tt b.circuit circuit (sym read.lines ∙ d.lines) read.circuit_is d.circuit_is in
    let second = one_section layout_form read.second d.second read.third d.others b.size layout.size b.parts
    (parts_of layout) first.others read.layout_is d.layout_is in
    record {
      first = s.first;
      second = s.second;
      others = s.third;
      lines = ap section_lines m.says ∙ s.lines;
      circuit_is = subst (IsSection circuit_form s.first tt) first.items s.circuit_is;
      layout_is = subst (IsSection layout_form s.second layout.size) second.items
          (subst (λ size. IsSection layout_form s.second size b.parts) second.header s.layout_is);
    }

pub says_the_same : MigrationKeepsAllButHalos
unfolding says_design
says_the_same text output circuit layout certificate migrates says =
    let m = was_migrated text output migrates in
    let b = m.bundle in
    let read = sections_read text b m.read in
    let is = said_so text b circuit layout certificate read says in
    let s = (migrated_sections (text_limits text) text b read).1 in
    let bundle : SaysBundle output circuit layout (without_halo_lines certificate) = record {
      design = says_design text output circuit layout m says.design;
      version = 2;
      third = s.third;
      rest = [];
      lines = sym (append-nil s.third);
      certificate_is = subst (λ es. IsSection certificate_form s.third 2 (without_halo_lines es)) is.entries_are
          s.certificate_is;
    } in
    record { says = bundle; of_version = refl }
