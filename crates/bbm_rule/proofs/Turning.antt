-- The bitwise formula of a turn.
use Rattle.bbm_rule.proofs.Imports.{AreFlipBitsForTurn, Bool, HasNoSetBit, List, [], and-false, arith, bit, bit_and}
use Rattle.bbm_rule.proofs.Imports.{bit_or, bit_xor, common_steps, eqb-true, false, get_or, nat_eq, refl, true, turned}
use Rattle.bbm_rule.proofs.Imports.{turned_block_number, ℕ, ◌&&◌, ◌<◌, ◌||◌, ◌∷◌, ◌≡◌}
use Rattle.lemmas.proofs.Common.{and-true}
use Rattle.bbm_rule.specs.Words.{AreCornerWordsTurned}
use Rattle.bbm_rule.proofs.BitLemmas.{holds_below, below_from_test, xor, bit-and, bit-or, bit-xor}

-- where a block is one that is not as it was, and the flips of the two diagonals
abbrev pub changed_of : ℕ → ℕ → ℕ → ℕ → ℕ
changed_of ul ur ll lr = bit_xor (bit_or ul lr) (bit_or ur ll)

abbrev pub main_flips_of : ℕ → ℕ → ℕ → ℕ → ℕ
main_flips_of ul ur ll lr = bit_xor (changed_of ul ur ll lr) (bit_and (changed_of ul ur ll lr) (bit_xor ur ll))

abbrev pub anti_flips_of : ℕ → ℕ → ℕ → ℕ → ℕ
anti_flips_of ul ur ll lr = bit_xor (changed_of ul ur ll lr) (bit_and (changed_of ul ur ll lr) (bit_xor ul lr))

-- one bit of each answer
by_cases_ul : (a b c d : Bool) → xor a (xor (xor (a || d) (b || c)) (xor (a || d) (b || c) && xor b c)) ≡ turned a d b c
unfolding turned
by_cases_ul a b c d = grind (arith, common_steps)

by_cases_ur : (a b c d : Bool) → xor b (xor (xor (a || d) (b || c)) (xor (a || d) (b || c) && xor a d)) ≡ turned b c a d
unfolding turned
by_cases_ur a b c d = grind (arith, common_steps)

by_cases_ll : (a b c d : Bool) → xor c (xor (xor (a || d) (b || c)) (xor (a || d) (b || c) && xor a d)) ≡ turned c b d a
unfolding turned
by_cases_ll a b c d = grind (arith, common_steps)

by_cases_lr : (a b c d : Bool) → xor d (xor (xor (a || d) (b || c)) (xor (a || d) (b || c) && xor b c)) ≡ turned d a c b
unfolding turned
by_cases_lr a b c d = grind (arith, common_steps)

pub words_turned : (ul ur ll lr : ℕ) →
    AreCornerWordsTurned ul ur ll lr (bit_xor ul (main_flips_of ul ur ll lr)) (bit_xor ur (anti_flips_of ul ur ll lr))
    (bit_xor ll (anti_flips_of ul ur ll lr)) (bit_xor lr (main_flips_of ul ur ll lr))
words_turned ul ur ll lr =
    grind (arith, common_steps, bit-xor, bit-or, bit-and, by_cases_ul, by_cases_ur, by_cases_ll, by_cases_lr)

-- nothing flips where no block changes
flip_none : (changed other j : ℕ) → bit changed j ≡ false → bit (bit_xor changed (bit_and changed other)) j ≡ false
flip_none changed other j none = rw (bit-xor changed _ j, bit-and changed other j, none) refl

pub no_flips : (changed main anti : ℕ) → HasNoSetBit changed →
    HasNoSetBit (bit_xor changed (bit_and changed anti)) × HasNoSetBit (bit_xor changed (bit_and changed main))
no_flips changed main anti none = (λ j. flip_none changed anti j (none j), λ j. flip_none changed main j (none j))

-- the flips of some blocks
pub flips_found : (f a n b m : ℕ) → let changed = bit_and (changed_of a n b m) f in
    AreFlipBitsForTurn f a n b m (bit_xor changed (bit_and changed (bit_xor n b)))
    (bit_xor changed (bit_and changed (bit_xor a m)))
flips_found f a n b m = grind (
  arith,
  common_steps,
  bit-xor,
  bit-or,
  bit-and,
  and-true,
  by_cases_ul,
  by_cases_ur,
  by_cases_ll,
  by_cases_lr,
  and-false,
)

abbrev pub turns : List ℕ
turns = 0 ∷ 8 ∷ 4 ∷ 3 ∷ 2 ∷ 5 ∷ 9 ∷ 7 ∷ 1 ∷ 6 ∷ 10 ∷ 11 ∷ 12 ∷ 13 ∷ 14 ∷ 15 ∷ []

turns_tested : holds_below (λ n. nat_eq (get_or turns n 0) (turned_block_number n)) 16 ≡ true
unfolding turned_block_number bit turned
turns_tested = refl

pub get_or-turns : (n : ℕ) → n < 16 → get_or turns n 0 ≡ turned_block_number n
get_or-turns n l = eqb-true _ _
    (below_from_test (λ n. nat_eq (get_or turns n 0) (turned_block_number n)) 16 turns_tested n l)
