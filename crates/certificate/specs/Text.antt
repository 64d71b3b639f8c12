-- The text of a certificate: each line spelled in the one way.
use Rattle.std.specs.Prelude.{ℕ, List, [], ◌∷◌, ◌++◌, Option, Some, None, codes}
use Rattle.std.specs.List.{flat_map}
use Rattle.std.specs.Fmt.{decimal}
use Rattle.section_text.specs.Spelling.{line_text}
use Rattle.section_text.specs.declared.section.Form.TheVariants.{Header, Item, End}
use Rattle.pattern.specs.Text.{box_words, cell_words}
use Rattle.certificate_lines.specs.declared.certificate_line.BorderLine.{BorderLine}
use Rattle.certificate_lines.specs.declared.certificate_line.CertificateLine.{CertificateLine}
use Rattle.certificate_lines.specs.declared.certificate_line.StopLine.{StopLine}
use Rattle.certificate_lines.specs.declared.certificate_line.CertificateLine.TheVariants.{Module, Cut, Use, Keep, Edge}
use Rattle.certificate_lines.specs.declared.certificate_line.CertificateLine.TheVariants.{Halo, Stop}
use Rattle.certificate_lines.specs.Forms.{CertificateForm}
use Rattle.certificate.specs.Grammars.{CertView}

-- a time, or `*` for every odd time
abbrev pub star_or_time_word : Option ℕ → List ℕ
star_or_time_word None = codes "*"
star_or_time_word (Some t) = decimal t

-- the name of a wire, or the constant `1`
abbrev pub one_or_name_word : Option (List ℕ) → List ℕ
one_or_name_word None = codes "1"
one_or_name_word (Some name) = name

-- the words of an edge or halo line behind the keyword
abbrev pub border_words : BorderLine → List (List ℕ)
border_words e = star_or_time_word e.time ∷ (cell_words e.cell ++ one_or_name_word e.signal ∷ [])

-- the words of a stop behind the keyword
abbrev pub stop_words : StopLine → List (List ℕ)
stop_words s = decimal s.time ∷ s.wire ∷ cell_words s.cell

-- the line of an entry
abbrev pub entry_text : CertificateLine → List ℕ
entry_text (Module b) = line_text (codes "module") (box_words b)
entry_text (Cut name) = line_text (codes "cut") (name ∷ [])
entry_text (Use number) = line_text (codes "use") (decimal number ∷ [])
entry_text (Keep number) = line_text (codes "keep") (decimal number ∷ [])
entry_text (Edge e) = line_text (codes "edge") (border_words e)
entry_text (Halo e) = line_text (codes "halo") (border_words e)
entry_text (Stop s) = line_text (codes "stop") (stop_words s)

-- the text of a line, by its form
abbrev pub form_text : CertificateForm → List ℕ
form_text (Header version) = line_text (codes "certificate") (decimal version ∷ [])
form_text (Item entry) = entry_text entry
form_text End = line_text (codes "end") []

-- the text of a certificate, from its header line to its `end` line
unfoldable pub certificate_text : CertView → List ℕ
certificate_text c = line_text (codes "certificate") (decimal c.version ∷ []) ++ flat_map entry_text c.entries
    ++ line_text (codes "end") []
