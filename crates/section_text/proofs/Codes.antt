-- Codes of refusal: what it says that there is none.
use Rattle.lemmas.proofs.Common.{Bool, None, Option, not, true, ◌≡◌}
use Rattle.section_text.specs.Codes.{code_if, or_else}
use Rattle.section_text.specs.declared.code.RefusalCode.{RefusalCode}
use native.Mathlib.Omega.{arith}
use Rattle.std.proofs.lemmas.Grind.{common_steps}

pub both_none : (a b : Option RefusalCode) → or_else a b ≡ None → (a ≡ None) × (b ≡ None)
both_none a b h1 = grind (arith, common_steps)

pub none_both : (a b : Option RefusalCode) → a ≡ None → b ≡ None → or_else a b ≡ None
none_both a b h1 h2 = grind (arith, common_steps)

pub no_code_first : (a b : Option RefusalCode) → or_else a b ≡ None → a ≡ None
no_code_first a b h1 = grind (arith, common_steps)

pub no_code_second : (a b : Option RefusalCode) → or_else a b ≡ None → b ≡ None
no_code_second a b h1 = grind (arith, common_steps)

pub no_code : (b : Bool) (code : RefusalCode) → code_if (not b) code ≡ None → b ≡ true
no_code b code h1 = grind (arith, common_steps)
