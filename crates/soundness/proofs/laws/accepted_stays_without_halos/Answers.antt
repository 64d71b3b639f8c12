use Rattle.soundness.proofs.Migrated.{migration_accepted, without_halos_accepted}
use Rattle.soundness.proofs.laws.accepted_stays_without_halos.Goals as goal

pub returns-clause-modules : goal.returns-clause-modules
returns-clause-modules c = without_halos_accepted

pub returns-clause-migration : goal.returns-clause-migration
returns-clause-migration c = migration_accepted
