-- A text has one listing of modules, and one migration.
use Rattle.headline.proofs.Imports.{HasAtMostOneAnswerToEachText, IsMigrationOf, IsModulesAnswerOf, arith, common_steps}
use Rattle.headline.proofs.OneAnswer.{answered_once}

pub one_list : HasAtMostOneAnswerToEachText IsModulesAnswerOf
one_list text output output' outcome outcome' h h' = grind (arith, common_steps, answered_once)

pub one_migration : HasAtMostOneAnswerToEachText IsMigrationOf
one_migration text output output' outcome outcome' h h' = grind (arith, common_steps, answered_once)
