-- The answers to a question about a bundle.
use Rattle.std.specs.Prelude.{ℕ, List}
use Rattle.section_text.specs.declared.limits.Limits.{Limits}
use Rattle.answers.specs.declared.bundle.Question.{Question}
use Rattle.answers.specs.declared.bundle.Question.TheVariants.{Modules, Migration}
use Rattle.answers.specs.declared.outcome.Outcome.{Outcome}
use Rattle.answers.specs.BundleText.{Bundle}
use Rattle.answers.specs.MigrateText.{SaysMigration}
use Rattle.answers.specs.ModulesText.{SaysModules}

-- the output and the outcome are the answer to the question about a bundle that was read, with these limits
abbrev pub AnswersQuestion : Limits → Question → Bundle → List ℕ → Outcome → Type 0
AnswersQuestion l Modules bundle output outcome = SaysModules bundle output outcome
AnswersQuestion l Migration bundle output outcome = SaysMigration l bundle output outcome
