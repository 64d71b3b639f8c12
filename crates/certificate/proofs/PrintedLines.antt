-- The text of a certificate
use Rattle.certificate.proofs.Imports.{CertView, Circuit, List, Module, Some, StoredBorder, StoredModule, StoredStop}
use Rattle.certificate.proofs.Imports.{[], ap, append_assoc, arith, body_lines_with, border_line, certificate_text}
use Rattle.certificate.proofs.Imports.{codes, common_steps, entry_text, flat_map, flat_map-append, get_or}
use Rattle.certificate.proofs.Imports.{get_or_from_slice_get, length, lines_of_modules, slice_get, stop_line, take}
use Rattle.certificate.proofs.Imports.{wire_name, ℕ, ◌++◌, ◌+◌, ◌<◌, ◌∷◌, ◌≡◌}
use Rattle.certificate_lines.proofs.StoredLemmas.{kinds}
use Rattle.std.specs.Fmt.{decimal}
use Rattle.section_text.specs.Spelling.{line_text}
use Rattle.pattern.specs.Text.{box_words}
use Rattle.certificate_lines.proofs.FlatParts.{flat_more}
use Rattle.certificate.specs.Text.{border_words, stop_words}

-- the name of a wire
pub name_found : (c : Circuit) (w : ℕ) (name : List ℕ) → slice_get c.names w ≡ Some name → wire_name c w ≡ name
name_found c w name at = get_or_from_slice_get c.names w name [] at

-- the text of a module, part by part
module_text : (c : Circuit) (m : StoredModule) (hs : List StoredBorder) →
    flat_map entry_text (Module m.area ∷ body_lines_with c m hs)
    ≡ line_text (codes "module") (box_words m.area)
    ++ (flat_map (λ w. line_text (codes "cut") (wire_name c w ∷ [])) m.cuts.items
    ++ (flat_map (λ k. line_text (codes "use") (decimal k ∷ [])) m.gates.items
    ++ (flat_map (λ k. line_text (codes "keep") (decimal k ∷ [])) m.keeps.items
    ++ (flat_map (λ b. line_text (codes "edge") (border_words (border_line c b))) m.edges.items
    ++ (flat_map (λ b. line_text (codes "halo") (border_words (border_line c b))) hs
    ++ flat_map (λ s. line_text (codes "stop") (stop_words (stop_line c s))) m.stops.items)))))
module_text c m hs = ap (λ l. line_text (codes "module") (box_words m.area) ++ l) (kinds c m hs entry_text)

pub module_printed : {a b d e f g new cs us ks : List ℕ} {es : List StoredBorder} {ss : List StoredStop}
    (c : Circuit) (m : StoredModule) (hs : List StoredBorder) (old : List ℕ) →
    a ≡ old ++ line_text (codes "module") (box_words m.area) →
    b ≡ a ++ flat_map (λ w. line_text (codes "cut") (wire_name c w ∷ [])) cs → cs ≡ m.cuts.items →
    d ≡ b ++ flat_map (λ k. line_text (codes "use") (decimal k ∷ [])) us → us ≡ m.gates.items →
    e ≡ d ++ flat_map (λ k. line_text (codes "keep") (decimal k ∷ [])) ks → ks ≡ m.keeps.items →
    f ≡ e ++ flat_map (λ b. line_text (codes "edge") (border_words (border_line c b))) es → es ≡ m.edges.items →
    g ≡ f ++ flat_map (λ b. line_text (codes "halo") (border_words (border_line c b))) hs →
    new ≡ g ++ flat_map (λ s. line_text (codes "stop") (stop_words (stop_line c s))) ss → ss ≡ m.stops.items →
    new ≡ old ++ flat_map entry_text (Module m.area ∷ body_lines_with c m hs)
module_printed c m hs old ia ib cuts id uses ie keeps ie' edges ig inew stops = grind (arith, common_steps, module_text)

-- one module more
pub module_more : (c : Circuit) (ms : List StoredModule) (i : ℕ) (m : StoredModule) → i < length ms →
    m ≡ get_or ms i m → flat_map entry_text (lines_of_modules c (take (i + 1) ms))
    ≡ flat_map entry_text (lines_of_modules c (take i ms))
    ++ flat_map entry_text (Module m.area ∷ body_lines_with c m m.halos.items)
module_more c ms i m lt is = grind (arith, common_steps, flat_more, flat_map-append)

-- the text of a certificate
pub certificate_printed : (s : CertView) (old a b new : List ℕ) →
    a ≡ old ++ line_text (codes "certificate") (decimal s.version ∷ []) →
    b ≡ a ++ flat_map entry_text s.entries → new ≡ b ++ line_text (codes "end") [] → new ≡ old ++ certificate_text s
unfolding certificate_text
certificate_printed s old a b new ia ib inew = grind (arith, common_steps, append_assoc)
