-- The first limits are those of old, and the second ones let in more.
use Rattle.circuit.proofs.Imports.{Bool, None, Option, RefusalCode, arith, common_steps, limit_or_name_code}
use Rattle.circuit.proofs.Imports.{or_else, true, ℕ, ◌≡◌}
use Rattle.lemmas.proofs.Common.{nat_le, nat_lt, ◌&&◌, ◌||◌}
use Rattle.section_text.specs.Codes.{code_if}
use Rattle.section_text.specs.declared.code.RefusalCode.TheVariants.{PastLimit}
use Rattle.circuit.specs.Laws.{FirstLimitsAreUnchanged, SecondLimitsAreWider}
use Rattle.section_text.proofs.Codes.{no_code_second}

-- what is past the second limits is past the first ones
past_first : (g : Bool) (x y : ℕ) → (nat_lt 65000 x || (g && nat_le 16384 y)) ≡ true →
    (nat_lt 4096 x || (g && nat_le 1024 y)) ≡ true
past_first g x y e = grind (arith, common_steps)

pub first_limits_are_unchanged : FirstLimitsAreUnchanged
unfolding limit_or_name_code
first_limits_are_unchanged entries r = grind (arith, common_steps, past_first)

-- a test that is made twice
twice : (d b : Bool) (rest : Option RefusalCode) → or_else (code_if (d || b) PastLimit) rest ≡ None →
    or_else (code_if b PastLimit) (or_else (code_if (d || b) PastLimit) rest) ≡ None
twice d b rest h1 = grind (arith, common_steps)

pub second_limits_are_wider : SecondLimitsAreWider
unfolding limit_or_name_code
second_limits_are_wider entries r e = grind (arith, common_steps, twice, no_code_second)
