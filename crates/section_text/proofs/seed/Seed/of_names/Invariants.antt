use Rattle.section_text.proofs.Imports.{take}
use Rattle.sha2.specs.Hashers.{Holds512}
use Rattle.section_text.specs.Seeding.{seed_text}
use Rattle.section_text.proofs.seed.Seed.of_names.Given as goal

abbrev pub invariant-loop-name : goal.invariant-loop-name
invariant-loop-name l = Holds512 l.hasher (seed_text (take l.name-index l.names))
