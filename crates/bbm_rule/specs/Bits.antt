-- The bits of a number
use Rattle.std.specs.Prelude.{ℕ, ◌≡◌, ◌==◌, ◌<◌, Bool, false}
use Rattle.std.specs.Int.{bit_at}

-- whether bit i of a number is set
unfoldable pub bit : ℕ → ℕ → Bool
bit a i = bit_at a i == 1

-- no bit is set
abbrev pub HasNoSetBit : ℕ → Type 0
HasNoSetBit n = (j : ℕ) → bit n j ≡ false

-- both words have the same bits
abbrev pub AreSameBits : ℕ → ℕ → Type 0
AreSameBits a b = (j : ℕ) → j < 64 → bit b j ≡ bit a j
