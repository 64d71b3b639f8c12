-- The first byte of a kind, as a search for it finds it, and where a list is searched in two parts.
use Rattle.section_text.proofs.Imports.{Bool, List, None, Option, Some, arith, common_steps, false, length, nat_tests}
use Rattle.section_text.proofs.Imports.{position, true, ℕ, ◌==◌, ◌≡◌}
use Rattle.lemmas.proofs.Common.{position_or_len, position_or_len_is}
use Rattle.memchr.specs.Find.{IsFirstByte, is_byte}

fails : (b : Bool) → (b ≡ true → ⊥) → b ≡ false
fails b h1 = grind (arith, common_steps)

pub first_is_position : (byte : ℕ) (text : List ℕ) (found : Option ℕ) → IsFirstByte (is_byte byte) text found →
    found ≡ position (λ b. b == byte) text
first_is_position byte text None none =
    let all : position_or_len (λ b. b == byte) text ≡ length text =
    position_or_len_is (λ b. b == byte) text (length text) 0 (omega arith) (λ k lt. fails _ (none k (omega arith) lt))
    (λ lt. absurd (omega arith)) in
    grind (arith, nat_tests, all)
first_is_position byte text (Some at) first = grind (arith, common_steps, position_or_len_is, fails, nat_tests)
