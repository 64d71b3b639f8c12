-- The meaning of a no of `check` if the certificate is plain: one module that is the whole rectangle.
--
-- Read before: all that meaning/specs/Headline.antt and Stops.antt name; certificate_lines/specs/Entries.antt up to
-- `kept_gate_in` (the lines of a module); soundness/specs/PlainCertificates.antt from `IsPlainModule` to `TouchesRim`.
use Rattle.std.specs.Prelude.{◌≡◌, ◌⊎◌, ℕ, List, [], ◌∷◌}
use Rattle.circuit.specs.declared.circuit_line.CircuitLine.{CircuitLine}
use Rattle.pattern.specs.Layout.{Pattern}
use Rattle.certificate_lines.specs.Entries.{ModuleLines, modules_of}
use Rattle.certificate_lines.specs.declared.certificate_line.CertificateLine.{CertificateLine}
use Rattle.soundness.specs.PlainCertificates.{IsPlainModule, TouchesRim}
use Rattle.meaning.specs.Design.{SaysDesign}
use Rattle.meaning.specs.Headline.{IsRight}
use Rattle.headline.specs.Stops.{HasRightStops, SaysBundle}

-- The text says a circuit, a layout and the lines of a certificate, which make one module, and the module is plain.
pub record SaysPlainCertificate (text : List ℕ) : Type 0 where
  pub circuit : List CircuitLine
  pub layout : Pattern
  pub certificate : List CertificateLine
  pub says : SaysBundle text circuit layout certificate
  pub one : ModuleLines
  pub modules : modules_of certificate ≡ one ∷ []
  pub plain : IsPlainModule circuit layout one

-- the text says a circuit and then a layout that touches its rim
pub record HasRimTouch (text : List ℕ) : Type 0 where
  pub circuit : List CircuitLine
  pub layout : Pattern
  pub says : SaysDesign text circuit layout
  pub touches : TouchesRim circuit layout

-- the layout does not compute the circuit, or the stops are not right, or the layout touches its rim
abbrev pub IsWrongText : List ℕ → Type 0
IsWrongText text = (¬ IsRight text) ⊎ ((¬ HasRightStops text) ⊎ HasRimTouch text)

-- if the text is plain, it is wrong
abbrev pub IsWrongIfPlain : List ℕ → Type 0
IsWrongIfPlain text = SaysPlainCertificate text → IsWrongText text
