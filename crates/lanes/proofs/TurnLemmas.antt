-- Parts of lists whose blocks are turned, and blocks that stay
use Rattle.lanes.proofs.Imports.{AreCornerWordsTurned, AreCornerWordsTurnedAt, BlockPlaces, IsBlockStable}
use Rattle.lanes.proofs.Imports.{IsDiagonalStable, IsSameOutsidePart, List}
use Rattle.lanes.proofs.Imports.{Planes, TurnsBlock, TurnsPart, ap, arith, bit, bit-is, bit_and}
use Rattle.lanes.proofs.Imports.{bit_at, bit_or, bit_xor, common_steps, false, false≢true, get_or-drop, get_or-take}
use Rattle.lanes.proofs.Imports.{length, not, not-false, refl, sym, ℕ, ◌+◌, ◌<◌, ◌∙◌, ◌≡◌, ◌≤◌}
use Rattle.lemmas.proofs.Common.{◌↔◌, nat_eq, and_or_self, and_zero_l, bit_at-lt, eqb-true, or_comm, same_from_bits}
use Rattle.lemmas.proofs.Common.{xor_assoc, xor_self, xor_zero_l, xor_zero_r}
use Rattle.std.proofs.lemmas.Slice.{take-put_mid_below, drop-put_mid}
use Rattle.bbm_rule.proofs.BitLemmas.{zero_or_one}
use Rattle.bbm_rule.proofs.Turning.{words_turned, main_flips_of, anti_flips_of}
use Rattle.lanes.proofs.LaneLemmas.{part_read, part_written}
use borrow.Rule.Slice.PartMut.{mid_of, put_mid}

-- ---- words without a difference
pub none_last : (a m : ℕ) → bit_or a m ≡ 0 → m ≡ 0
none_last a m h = sym (and_or_self m a) ∙ ap (λ (n : ℕ). bit_and n m) h ∙ and_zero_l m

pub none_first : (a m : ℕ) → bit_or a m ≡ 0 → a ≡ 0
none_first a m h = none_last m a (or_comm m a ∙ h)

-- four words joined are zero if and only if each is
pub four_zero : (a b d e : ℕ) → (not (nat_eq (bit_or (bit_or (bit_or a b) d) e) 0) ≡ false)
    ↔ ((a ≡ 0) × (b ≡ 0) × (d ≡ 0) × (e ≡ 0))
four_zero a b d e = grind (arith, common_steps, eqb-true, not-false, none_first, none_last)

pub same_word : (a b : ℕ) → bit_xor a b ≡ 0 → a ≡ b
same_word a b e = sym (xor_zero_r a) ∙ ap (λ (n : ℕ). bit_xor a n) (sym (xor_self b)) ∙ sym (xor_assoc a b b)
    ∙ ap (λ (n : ℕ). bit_xor n b) e ∙ xor_zero_l b

-- ---- what is turned in parts of slices
beside : (a k long : ℕ) (xs ys : List ℕ) → k ≡ long → a + long ≤ length xs → length ys ≡ long →
    IsSameOutsidePart a long xs (put_mid a k xs ys)
beside a k long xs ys e room l = grind (arith, common_steps, get_or-take, take-put_mid_below, get_or-drop, drop-put_mid)

pub part_turned : (a b c d ka kb kc kd long : ℕ) (ul ur ll lr p q r s : List ℕ) → ka ≡ long → kb ≡ long → kc ≡ long →
    kd ≡ long → a + long ≤ length ul → b + long ≤ length ur → c + long ≤ length ll → d + long ≤ length lr →
    length p ≡ long → length q ≡ long → length r ≡ long → length s ≡ long →
    ((k : ℕ) → k < long → AreCornerWordsTurnedAt k (mid_of a ka ul) (mid_of b kb ur) (mid_of c kc ll)
    (mid_of d kd lr) p q r s) → TurnsPart a b c d long ul ur ll lr (put_mid a ka ul p) (put_mid b kb ur q)
    (put_mid c kc ll r) (put_mid d kd lr s)
part_turned a b c d ka kb kc kd long ul ur ll lr p q r s ea eb ec ed ra rb rc rd lp lq lr' ls turns = record {
  turned = λ k l.
      let h = turns k l in
      let h = rw (
        part_read a ka k ul (omega arith),
        part_read b kb k ur (omega arith),
        part_read c kc k ll (omega arith),
        part_read d kd k lr (omega arith),
      ) at h in
      rw (
        part_written a ka k ul p (omega arith) (omega arith),
        part_written b kb k ur q (omega arith) (omega arith),
        part_written c kc k ll r (omega arith) (omega arith),
        part_written d kd k lr s (omega arith) (omega arith),
      ) h;
  upper_left = beside a ka long ul p ea ra lp;
  upper_right = beside b kb long ur q eb rb lq;
  lower_left = beside c kc long ll r ec rc lr';
  lower_right = beside d kd long lr s ed rd ls;
}

pub same_beside : (a n : ℕ) (xs : List ℕ) → IsSameOutsidePart a n xs xs
same_beside a n xs = record { below = λ k l. refl; above = λ k l. refl }

-- ---- blocks that stay
pub main_stays : (ul ur ll lr : ℕ) → main_flips_of ul ur ll lr ≡ 0 → IsDiagonalStable ul lr ur ll
main_stays ul ur ll lr e j =
    let t = words_turned ul ur ll lr in grind (arith, common_steps, main_flips_of)

pub anti_stays : (ul ur ll lr : ℕ) → anti_flips_of ul ur ll lr ≡ 0 → IsDiagonalStable ur ll ul lr
anti_stays ul ur ll lr e j =
    let t = words_turned ul ur ll lr in grind (arith, common_steps, anti_flips_of)

pub calm_turned : (ul ur ll lr : ℕ) → IsDiagonalStable ul lr ur ll → IsDiagonalStable ur ll ul lr →
    AreCornerWordsTurned ul ur ll lr ul ur ll lr
calm_turned ul ur ll lr main anti = grind (arith, common_steps)

-- a word is what its bits are
word_of_bits : (a b : ℕ) → ((j : ℕ) → bit a j ≡ bit b j) → a ≡ b
word_of_bits a b same = same_from_bits a b (λ j. at_place j (same j))
  where
    set_at : (n j m : ℕ) → bit_at n j ≡ m → bit n j ≡ nat_eq m 1
    set_at n j m e = rw (bit-is n j, e) refl

    at_place : (j : ℕ) → bit a j ≡ bit b j → bit_at a j ≡ bit_at b j
    at_place j e = grind (arith, common_steps, zero_or_one, bit_at-lt, false≢true, set_at)

-- the words of a diagonal that stays are as they were
pub main_words : (ul ur ll lr ul' ur' ll' lr' : ℕ) → IsDiagonalStable ul lr ur ll →
    AreCornerWordsTurned ul ur ll lr ul' ur' ll' lr' → (ul' ≡ ul) × (lr' ≡ lr)
main_words ul ur ll lr ul' ur' ll' lr' stays t =
    (word_of_bits ul' ul (λ j. t.upper_left j ∙ (stays j).0), word_of_bits lr' lr (λ j. t.lower_right j ∙ (stays j).1))

pub anti_words : (ul ur ll lr ul' ur' ll' lr' : ℕ) → IsDiagonalStable ur ll ul lr →
    AreCornerWordsTurned ul ur ll lr ul' ur' ll' lr' → (ur' ≡ ur) × (ll' ≡ ll)
anti_words ul ur ll lr ul' ur' ll' lr' stays t =
    (word_of_bits ur' ur (λ j. t.upper_right j ∙ (stays j).0), word_of_bits ll' ll (λ j. t.lower_left j ∙ (stays j).1))

-- one block that stays
pub stable_turned : (b : BlockPlaces) (p : Planes) → IsBlockStable b p → TurnsBlock b p p
stable_turned b p stable = grind (arith, common_steps, calm_turned, same_beside)

-- the rule is the same after half a turn
pub half_turned : (a b c d a' b' c' d' : ℕ) → AreCornerWordsTurned a b c d a' b' c' d' →
    AreCornerWordsTurned d c b a d' c' b' a'
half_turned a b c d a' b' c' d' t = grind (arith, common_steps)
