-- Pairs of rows that a turn leaves as they are
use Rattle.std.specs.Prelude.{ℕ, ◌+◌, ◌*◌, ◌<◌, List}
use Rattle.bbm_rule.specs.Rows.{TurnsRowPart}
use Rattle.bbm_rule.specs.Marks.{IsNumberUnmarked}

-- the pairs of rows without a mark stay when they are turned: r pairs of rows of s cells, the first at place p
abbrev pub AreUnmarkedRowPairsStable : ℕ → ℕ → ℕ → List ℕ → List ℕ → Type 0
AreUnmarkedRowPairsStable p s r marks words =
    (i : ℕ) → i < r → IsNumberUnmarked marks i → TurnsRowPart (p + 2 * (i * s)) s s words words
