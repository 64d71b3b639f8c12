-- The work on a certificate before its modules run: its book, and the faults of its borders.
use Rattle.std.specs.Prelude.{◌≡◌, ◌≤◌, ◌++◌, ℕ, List, drop, length, take}
use Rattle.std.specs.List.{flat_map}
use Rattle.sha2.specs.Sha256.{sha256}
use Rattle.section_text.specs.Feeds.{FeedView}
use Rattle.section_text.specs.Section.{with_line_feed}
use Rattle.section_text.specs.Words.{lines_of}
use Rattle.border_match.specs.BorderFaults.{AreBorderFaultsOf}
use Rattle.certificate.specs.Grammars.{CertView}
use Rattle.certificate.specs.Text.{certificate_text}
use Rattle.core_book.specs.Book.{BookView, new_book}
use Rattle.core_book.specs.Concluding.{AreJobsOfCertificate, modules, setting}
use Rattle.check_main.specs.declared.preparing.Prepared.{Prepared}

-- the bytes of the lines that were taken
abbrev pub taken_bytes : FeedView → List ℕ
taken_bytes f = flat_map with_line_feed (take f.taken (lines_of f.text))

-- these bytes follow the lines that were taken
abbrev pub FollowsTakenLines : FeedView → List ℕ → Type 0
FollowsTakenLines f rest = taken_bytes f ++ rest ≡ f.text

-- the lines that were taken are the text of the certificate, from this byte on
pub record IsCertificateTextFrom (f : FeedView) (from : ℕ) (c : CertView) : Type 0 where
  pub within : from ≤ length (taken_bytes f)
  pub bytes : drop from (taken_bytes f) ≡ certificate_text c

-- a new book of the jobs of a certificate, under its digest
pub record IsNewBookOf (c : CertView) (b : BookView) : Type 0 where
  pub digest : b.digest ≡ sha256 (certificate_text c)
  pub jobs : AreJobsOfCertificate c b.jobs
  pub is_new : b ≡ new_book b.digest b.jobs

-- a new book of the certificate, and the faults of its borders
pub record IsPreparedFor (c : CertView) (prepared : Prepared) : Type 0 where
  pub book : IsNewBookOf c prepared.state
  pub borders : AreBorderFaultsOf (setting c) (modules c) prepared.borders.items
