use Rattle.headline.proofs.AcceptedMigrations.{migration_is-accepted}
use Rattle.headline.proofs.Migrations.{keeps_version_two, migrates_once, says_the_same}
use Rattle.headline.proofs.laws.migration_keeps_what_is_accepted.Goals as goal

pub returns : goal.returns
returns c =
    record {
      unchanged = keeps_version_two;
      says_the_same = says_the_same;
      migration_idempotent = migrates_once;
      accepted = migration_is-accepted;
    }
