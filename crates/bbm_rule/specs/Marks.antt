-- Marks on numbers: a bit for each
use Rattle.std.specs.Prelude.{◌≡◌, ◌≢◌, ℕ, List, false}
use Rattle.bbm_rule.specs.Rows.{cell_at}

-- whether number u has no mark: a mark is a set bit, and the bits of the words are numbered one word after the other
abbrev pub IsNumberUnmarked : List ℕ → ℕ → Type 0
IsNumberUnmarked marks u = cell_at marks u ≡ false

-- one more number is marked
abbrev pub MarksOneNumber : ℕ → List ℕ → List ℕ → Type 0
MarksOneNumber at old new = (u : ℕ) → IsNumberUnmarked new u → IsNumberUnmarked old u × (u ≢ at)
