-- The meaning of a yes of `check` for stops, delays and meetings, of texts and bytes alone. Texts without `stop` lines
-- do not need this file.
--
-- Read before: all that meaning/specs/Headline.antt names; certificate_lines/specs/Entries.antt up to `stop_in` and
-- Forms.antt (what a line of a certificate says); certificate/specs/Times.antt up to `stop_times_of_wire` and
-- Arrivals.antt up to `AreOnTime` (delays and meetings); soundness/specs/OnTime.antt (`StopHolds`).
use Rattle.std.specs.Prelude.{◌≡◌, ℕ, List, ◌++◌}
use Rattle.std.specs.List.{All, flat_map}
use Rattle.section_text.specs.SaidSection.{IsSection}
use Rattle.circuit.specs.Bridge.{circuit_of}
use Rattle.circuit.specs.declared.circuit_line.CircuitLine.{CircuitLine}
use Rattle.pattern.specs.Layout.{Pattern}
use Rattle.certificate.specs.Arrivals.{AreOnTime}
use Rattle.certificate_lines.specs.Entries.{stop_in}
use Rattle.certificate_lines.specs.Forms.{form_of as certificate_form}
use Rattle.certificate_lines.specs.declared.certificate_line.CertificateLine.{CertificateLine}
use Rattle.soundness.specs.OnTime.{StopHolds}
use Rattle.meaning.specs.Design.{SaysDesign}

-- The text says this circuit and this layout, and goes on with the lines of this certificate.
pub record SaysBundle (text : List ℕ) (circuit : List CircuitLine) (layout : Pattern)
    (certificate : List CertificateLine) : Type 0 where
  pub design : SaysDesign text circuit layout
  pub version : ℕ
  pub third : List (List ℕ)
  pub rest : List (List ℕ)
  pub lines : design.others ≡ third ++ rest
  pub certificate_is : IsSection certificate_form third version certificate

-- Each stop of the text's certificate holds on the whole plane, for all values of the inputs; and by its stops each
-- delay takes as many steps as it says, and the inputs of each gate meet. The circuit and the layout are those of
-- `IsRight`, since a text says one of each (`SaysOneDesign`).
pub record HasRightStops (text : List ℕ) : Type 0 where
  pub circuit : List CircuitLine
  pub layout : Pattern
  pub certificate : List CertificateLine
  pub says : SaysBundle text circuit layout certificate
  pub stops : All (StopHolds (circuit_of circuit) layout) (flat_map stop_in certificate)
  pub on_time : AreOnTime (circuit_of circuit) (flat_map stop_in certificate)
