use Rattle.certificate.proofs.FullModules.{meant_modules}
use Rattle.certificate.proofs.Migrated.{good_without_halos, section_without_halos}
use Rattle.certificate.proofs.laws.version_2_maps_to_version_1.Goals as goal

pub returns-clause-modules : goal.returns-clause-modules
returns-clause-modules c = meant_modules

pub returns-clause-good : goal.returns-clause-good
returns-clause-good c = good_without_halos

pub returns-clause-section : goal.returns-clause-section
returns-clause-section c = section_without_halos
