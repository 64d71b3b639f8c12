-- The meaning of a `Seed` in clauses.
use Rattle.std.specs.Prelude.{ℕ, List, [], ◌∷◌, ◌++◌}
use Rattle.std.specs.List.{flat_map}
use Rattle.std.specs.declared.hash.DefaultHasher.{DefaultHasher}
use Rattle.std.specs.Hash.DefaultHasher as sip
use Rattle.section_text.specs.declared.seed.Seed.{Seed}

-- the hasher that it makes
abbrev pub initial_hasher : Seed → DefaultHasher
initial_hasher s = s.initial

-- the seed of some bytes: SipHash with keys 0 that was fed them
abbrev pub seed_of : List ℕ → Seed
seed_of bytes = record { initial = sip.write sip.initial bytes }

-- names as one text, each with a space behind it
abbrev pub seed_text : List (List ℕ) → List ℕ
seed_text names = flat_map (λ name. name ++ 32 ∷ []) names
