-- The answer of each command.
use Rattle.std.specs.Prelude.{ℕ, List}
use Rattle.command_line.specs.declared.Request.{Request}
use Rattle.command_line.specs.declared.Request.TheVariants.{Check, Run, Value, Modules, Migrate}
use Rattle.answers.specs.declared.outcome.Outcome.{Outcome}
use Rattle.answers.specs.CheckText.{IsReportOf}
use Rattle.answers.specs.MigrateText.{IsMigrationOf}
use Rattle.answers.specs.ModulesText.{IsModulesAnswerOf}
use Rattle.answers.specs.RunText.{IsRunAnswerOf}
use Rattle.answers.specs.ValueText.{IsValueAnswerOf}

-- the output is right for the text, and so is the outcome
abbrev pub IsAnswerTo : Request → List ℕ → List ℕ → Outcome → Type 0
IsAnswerTo Check = IsReportOf
IsAnswerTo Run = IsRunAnswerOf
IsAnswerTo Value = IsValueAnswerOf
IsAnswerTo Modules = IsModulesAnswerOf
IsAnswerTo Migrate = IsMigrationOf
