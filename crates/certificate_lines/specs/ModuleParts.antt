-- The lines of one module
use Rattle.std.specs.Prelude.{Bool, true, false, if◌then◌else◌, IsTrue, List, [], ◌∷◌}
use Rattle.std.specs.List.{All}
use Rattle.bbm_rule.specs.Boxes.{in_box}
use Rattle.bbm_rule.specs.declared.block.Box2.{Box2}
use Rattle.certificate_lines.specs.declared.certificate_line.BorderLine.{BorderLine}
use Rattle.certificate_lines.specs.declared.certificate_line.CertificateLine.{CertificateLine}
use Rattle.certificate_lines.specs.declared.certificate_line.CertificateLine.TheVariants.{Module}

-- whether the line begins a module
abbrev pub is_module_line : CertificateLine → Bool
is_module_line (Module b) = true
is_module_line _ = false

-- the lines before the next `module` line
unfoldable pub body_lines : List CertificateLine → List CertificateLine
body_lines [] = []
body_lines (i ∷ entries) = if is_module_line i then [] else i ∷ body_lines entries

-- each of these lines is for a cell of the box
abbrev pub AreLinesInBox : Box2 → List BorderLine → Type 0
AreLinesInBox area es = All (λ e. IsTrue (in_box area e.cell.x e.cell.y)) es
