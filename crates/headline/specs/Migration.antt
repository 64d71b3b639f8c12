-- The facts that `migrate` keeps, of texts alone.
use Rattle.std.specs.Prelude.{◌≡◌, ℕ, List}
use Rattle.circuit.specs.declared.circuit_line.CircuitLine.{CircuitLine}
use Rattle.pattern.specs.Layout.{Pattern}
use Rattle.certificate_lines.specs.Versions.{without_halo_lines}
use Rattle.certificate_lines.specs.declared.certificate_line.CertificateLine.{CertificateLine}
use Rattle.answers.specs.declared.outcome.Outcome.TheVariants.{Yes}
use Rattle.answers.specs.CheckText.{IsReportOf}
use Rattle.answers.specs.MigrateText.{IsMigrationOf}
use Rattle.meaning.specs.Design.{SaysDesign}
use Rattle.headline.specs.Stops.{SaysBundle}

-- the text says this circuit, this layout and these lines of a certificate of this version
pub record SaysInVersion (version : ℕ) (text : List ℕ) (circuit : List CircuitLine) (layout : Pattern)
    (certificate : List CertificateLine) : Type 0 where
  pub says : SaysBundle text circuit layout certificate
  pub of_version : says.version ≡ version

-- a text of version 2 is written as it is, byte for byte
abbrev pub MigrationCopiesVersionTwo : Type 0
MigrationCopiesVersionTwo = (text output : List ℕ) (circuit : List CircuitLine) (layout : Pattern)
    (certificate : List CertificateLine) →
    IsMigrationOf text output Yes → SaysInVersion 2 text circuit layout certificate → output ≡ text

-- The text that `migrate` writes is of version 2. It says the circuit and the layout that were read, and the lines of
-- the certificate other than its halo lines.
abbrev pub MigrationKeepsAllButHalos : Type 0
MigrationKeepsAllButHalos = (text output : List ℕ) (circuit : List CircuitLine) (layout : Pattern)
    (certificate : List CertificateLine) →
    IsMigrationOf text output Yes → SaysBundle text circuit layout certificate →
    SaysInVersion 2 output circuit layout (without_halo_lines certificate)

-- what is written is migrated to itself, if it is not refused
abbrev pub MigrationIsIdempotent : Type 0
MigrationIsIdempotent = (text output again : List ℕ) → IsMigrationOf text output Yes → IsMigrationOf output again Yes →
    again ≡ output

-- The output is reported with the outcome yes, and says each circuit and layout that the text says.
pub record IsYesWithSameDesign (text output : List ℕ) : Type 0 where
  pub report : List ℕ
  pub reported : IsReportOf output report Yes
  pub design : (circuit : List CircuitLine) (layout : Pattern) → SaysDesign text circuit layout →
      SaysDesign output circuit layout

-- what is reported with the outcome yes is so too after it is migrated
abbrev pub MigrationKeepsYes : Type 0
MigrationKeepsYes = (text report output : List ℕ) → IsReportOf text report Yes → IsMigrationOf text output Yes →
    IsYesWithSameDesign text output
