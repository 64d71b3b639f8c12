-- The modules so far are hashed.
use Rattle.certificate.proofs.Imports.{List, circuit_of, entry_text, flat_map, lines_of_modules, take, ℕ, ◌++◌}
use Rattle.sha2.specs.Hashers.{Holds256}
use Rattle.certificate.proofs.digest.hash_modules.Given as goal

abbrev pub invariant-loop-module : goal.invariant-loop-module
invariant-loop-module l = (m : List ℕ) → Holds256 l.fn.hasher m → Holds256 l.hasher
    (m ++ flat_map entry_text (lines_of_modules (circuit_of l.circuit) (take l.module-index l.modules)))
