-- The names from outside this folder that two or more proofs of this crate use, in one file to import them from.
pub use Rattle.answers.specs.declared.outcome.Outcome.{Outcome}
pub use Rattle.answers.specs.declared.outcome.Outcome.TheVariants.{No, Refused, Yes}
pub use Rattle.certificate.proofs.Imports.{IfOk-weaker}
pub use Rattle.check_main.specs.Program.{RanCommand, YesPromises}
pub use Rattle.check_main.specs.Status.{status_for}
pub use Rattle.check_main.specs.declared.fault.CheckFault.{CheckFault}
pub use Rattle.check_main.specs.declared.fault.CheckFault.TheVariants.{Memory, Read, TooLong, Write}
pub use Rattle.check_main.specs.declared.front.Streams.{Streams}
pub use Rattle.clap.specs.Walk.{Text}
pub use Rattle.clap.specs.Words.{Kinds, fault_of}
pub use Rattle.command_line.specs.CommandLine.{IsAccepted, asked_by, bbmcheck_app}
pub use Rattle.command_line.specs.declared.Request.TheVariants.{Check}
pub use Rattle.core_book.specs.Concluding.{AreJobsOfCertificate}
pub use Rattle.headline.proofs.Imports.{CertView, Err, List, None, Ok, Option, Result, Some, [], ap, arith, drop, false}
pub use Rattle.headline.proofs.Imports.{inl, inr, length, length-append, map, refl, subst, suc, sym, take, true, zero}
pub use Rattle.headline.proofs.Imports.{ℕ, ◌++◌, ◌+◌, ◌<◌, ◌∙◌, ◌∷◌, ◌≡◌, ◌≢◌, ◌≤◌, ◌⊎◌}
unfoldable pub use Rattle.headline.proofs.Imports.{certificate_text}
pub use Rattle.headline.specs.Plain.{IsWrongIfPlain}
pub use Rattle.headline.specs.ReportLines.{LinesHaveMeaning, RelatesReadToWritten}
pub use Rattle.headline.specs.RightInFull.{IsRightInFull}
pub use Rattle.headline.specs.SmallDesigns.{IsNoSmallDesignText}
pub use Rattle.lemmas.proofs.Common.{Appends, Consumes, IfErr, IfOk, OnOk}
pub use Rattle.meaning.specs.Streams.{HoldsOfKnownInput, YesMeans}
pub use Rattle.section_text.proofs.Imports.{FeedView}
pub use Rattle.section_text.specs.Limits.{own_text_limit}
