-- Runs of blocks that begin at the second cell of each word
use Rattle.bbm_rule.proofs.Imports.{AreFlipBitsForTurn, AreSameCells, HasNoSetBit, HasWordAt, IsWordPairTurned, List}
use Rattle.bbm_rule.proofs.Imports.{SetsWordAt, TurnsRowPart, ap, arith, bit, bit_or, bit_xor, cell_at, common_steps}
use Rattle.bbm_rule.proofs.Imports.{false, flip_carried_bits, get_or, get_or-set_other, get_or-set_same, length}
use Rattle.bbm_rule.proofs.Imports.{length-set, or-false, paired_place, refl, set, sym, true, turned, ℕ, ◌%◌, ◌*◌, ◌+◌}
use Rattle.bbm_rule.proofs.Imports.{◌-◌, ◌/◌, ◌<◌, ◌^◌, ◌||◌, ◌∙◌, ◌≡◌, ◌≢◌, ◌≤◌}
use Rattle.lemmas.proofs.Common.{set-set, set_comm, xor_assoc, xor_comm}
use Rattle.bbm_rule.specs.Rows.{flip}
use Rattle.bbm_rule.proofs.BitLemmas.{by_lt_or_le, by_eq_or_not, xor, xor_false, bit-or, bit-xor, bit-shr, bit-zero}
use Rattle.bbm_rule.proofs.BitLemmas.{bit_above}
use Rattle.bbm_rule.proofs.PairLemmas.{by_place, cell_in_word, cells_turned, flips_below, joined_zero, row_flipped}
use Rattle.bbm_rule.proofs.PairLemmas.{second_mask, bit_second}
use Rattle.bbm_rule.proofs.BlockRuns.{run_join, windows_turned, word_set}
use Rattle.bbm_rule.proofs.BandLemmas.{window_same}

-- ---- words that get flips
xor_swap : (a b c : ℕ) → bit_xor (bit_xor a b) c ≡ bit_xor (bit_xor a c) b
xor_swap a b c = xor_assoc a b c ∙ ap (bit_xor a) (xor_comm b c) ∙ sym (xor_assoc a c b)

flip_twice : (i f g : ℕ) (words : List ℕ) → i < length words →
    flip i g (flip i f words) ≡ set words i (bit_xor (bit_xor (get_or words i 0) f) g)
flip_twice i f g words room = grind (arith, common_steps, get_or-set_same, set-set)

flip_swap : (i k f g : ℕ) (words : List ℕ) → i < length words → k < length words →
    flip k g (flip i f words) ≡ flip i f (flip k g words)
flip_swap i k f g words room room' = grind (arith, common_steps, flip_twice, xor_swap, get_or-set_other, set_comm)

-- two words that get what is carried to them and then flips of their own
stored : (i k f f' g g' : ℕ) (words : List ℕ) → i ≢ k → i < length words → k < length words →
    set (set words i (bit_xor (bit_xor (get_or words i 0) f) f')) k (bit_xor (bit_xor (get_or words k 0) g) g')
    ≡ flip k g' (flip i f' (flip k g (flip i f words)))
stored i k f f' g g' words apart room room' =
    let one = flip_swap k i g f' (flip i f words) (omega (arith, length-set {A = ℕ}))
    (omega (arith, length-set {A = ℕ})) in
    let two = flip_twice k g g' (flip i f' (flip i f words)) (omega (arith, length-set {A = ℕ})) in
    sym (ap (flip k g') one ∙ two ∙ rw (
      flip_twice i f f' words room,
      get_or-set_other words i k (bit_xor (bit_xor (get_or words i 0) f) f') 0 (λ e. apart (sym e)),
    ) refl)

-- a flip of the first cell of a word changes no other cell
flip_kept : (i f : ℕ) (words : List ℕ) → f < 2 → i < length words → (q : ℕ) → (q ≡ 64 * i → f ≡ 0) →
    cell_at (flip i f words) q ≡ cell_at words q
flip_kept i f words small room = by_place (λ q. (q ≡ 64 * i → f ≡ 0) → cell_at (flip i f words) q ≡ cell_at words q)
    (λ k b l first. by_eq_or_not k i
    (λ same. rw (
      same,
      cell_in_word (flip i f words) i b l,
      get_or-set_same words i (bit_xor (get_or words i 0) f) 0 room,
      bit-xor (get_or words i 0) f b,
      none b (λ e. first (omega (arith, same, e))),
      cell_in_word words i b l,
    ) (xor_false (bit (get_or words i 0) b)))
    (λ other. rw (
      cell_in_word (flip i f words) k b l,
      get_or-set_other words i k (bit_xor (get_or words i 0) f) 0 other,
      cell_in_word words k b l,
    ) refl))
  where
    none : (b : ℕ) → (b ≡ 0 → f ≡ 0) → bit f b ≡ false
    none b first = by_eq_or_not b 0 (λ zero. rw (first zero) (bit-zero b))
        (λ other. bit_above f 1 b (omega (arith, small)) (omega (arith, other)))

-- ---- blocks that begin at the second cell of a word
off_above : (j : ℕ) → 64 ≤ j → bit second_mask j ≡ false
off_above j le = bit_above second_mask 64 j (omega arith) le

off_even : (j : ℕ) → j % 2 ≡ 0 → bit second_mask j ≡ false
off_even j even = by_lt_or_le j 64 (λ l. rw (bit_second j l, even) refl) (off_above j)

-- the flips of a window that begins at the second cell of a word
abbrev window_flips : ℕ → ℕ → ℕ
window_flips main anti = bit_or (main / 2) anti

window_bit : (v main anti j : ℕ) → bit (bit_xor v (window_flips main anti)) j
    ≡ xor (bit v j) (bit main (1 + j) || bit anti j)
window_bit v main anti j = rw (bit-xor v (bit_or (main / 2) anti) j, bit-or (main / 2) anti j, bit-shr main 1 j) refl

side_shifted : (a n b m main anti : ℕ) → AreFlipBitsForTurn second_mask a n b m main anti →
    ((j : ℕ) → j < 63 → bit n j ≡ bit a (1 + j)) → ((j : ℕ) → j < 63 → bit m j ≡ bit b (1 + j)) → (j : ℕ) → j < 64 →
    bit (bit_xor n (window_flips main anti)) j
    ≡ turned (bit n j) (bit m (paired_place j)) (bit n (paired_place j)) (bit m j)
side_shifted a n b m main anti flips above below = cells_turned n m _ (λ i l even. (
  rw (
    window_bit n main anti i,
    (flips.elsewhere i (off_even i even)).1,
    or-false (bit main (1 + i)),
    above i l,
    below i l,
    sym (bit-xor a main (1 + i)),
  ) (flips.upper_first (1 + i) (on (1 + i) (omega arith) (omega arith))),
  rw (
    window_bit n main anti (1 + i),
    (flips.elsewhere (1 + (1 + i)) (off_even (1 + (1 + i)) (omega arith))).0,
    above i l,
    below i l,
    sym (bit-xor n anti (1 + i)),
  ) (flips.upper_second (1 + i) (on (1 + i) (omega arith) (omega arith))),
))
  where
    on : (j : ℕ) → j < 64 → j % 2 ≡ 1 → bit second_mask j ≡ true
    on j l odd = rw (bit_second j l, odd) refl

windows_flipped : (a n b m main anti : ℕ) → AreFlipBitsForTurn second_mask a n b m main anti →
    ((j : ℕ) → j < 63 → bit n j ≡ bit a (1 + j)) → ((j : ℕ) → j < 63 → bit m j ≡ bit b (1 + j)) →
    IsWordPairTurned n m (bit_xor n (window_flips main anti)) (bit_xor m (window_flips anti main))
windows_flipped a n b m main anti flips above below = grind (arith, common_steps, side_shifted, flips_below)

-- a word of flips goes to a word, and its last cell to the next word
abbrev flip_window : ℕ → ℕ → ℕ → List ℕ → List ℕ
flip_window i main anti words = flip (i + 1) (anti / 9223372036854775808)
    (flip i (bit_or main (anti * 2 % 18446744073709551616)) words)

window_set : (i v a n b m main anti : ℕ) (words : List ℕ) → i + 1 < length words →
    AreFlipBitsForTurn second_mask a n b m main anti → HasWordAt words (64 * i + 1) v →
    SetsWordAt (64 * i + 1) (bit_xor v (window_flips main anti)) words (flip_window i main anti words)
window_set i v a n b m main anti words room flips has = record {
  cells = λ j l. by_lt_or_le j 63 (λ low. inside j low) (λ high. let e : j ≡ 63 = omega arith in rw e last);
  before = λ q l. by_lt_or_le q (64 * i) (λ low. two.before q (omega arith) ∙ one.before q low)
      (λ high. let e : q ≡ 64 * i + 0 = omega arith in rw e first);
  after = λ q l. by_lt_or_le q (64 * (i + 1) + 64)
      (λ low. let e : q ≡ 64 * (i + 1) + (q - 64 * (i + 1)) = omega arith in
      rw e (behind (q - 64 * (i + 1)) (omega arith) (omega arith)))
      (λ past. two.after q past ∙ one.after q (omega arith));
}
  where
    own : ℕ
    own = bit_or main (anti * 2 % 18446744073709551616)

    one : SetsWordAt (64 * i) (bit_xor (get_or words i 0) own) words (flip i own words)
    one = word_set words i _ (omega arith)

    next : ℕ
    next = bit_xor (get_or (flip i own words) (i + 1) 0) (anti / 9223372036854775808)

    two : SetsWordAt (64 * (i + 1)) next (flip i own words) (flip_window i main anti words)
    two = word_set (flip i own words) (i + 1) _ (omega (arith, length-set {A = ℕ}))

    next_bit : (b : ℕ) → b < 64 → bit next b ≡ xor (cell_at words (64 * (i + 1) + b)) (bit anti (63 + b))
    next_bit b l = rw (
      bit-xor (get_or (flip i own words) (i + 1) 0) (anti / 2 ^ 63) b,
      bit-shr anti 63 b,
      get_or-set_other words i (i + 1) (bit_xor (get_or words i 0) own) 0 (λ e. absurd (omega (arith, e))),
      cell_in_word words (i + 1) b l,
    ) refl

    inside : (j : ℕ) → j < 63 → cell_at (flip_window i main anti words) (64 * i + 1 + j)
        ≡ bit (bit_xor v (window_flips main anti)) j
    inside j l =
        let e : 64 * i + 1 + j ≡ 64 * i + (1 + j) = omega arith in
        let cell : bit v j ≡ bit (get_or words i 0) (1 + j) =
        has.cells j (omega arith) ∙ ap (cell_at words) e ∙ cell_in_word words i (1 + j) (omega arith) in
        two.before (64 * i + 1 + j) (omega arith) ∙ ap (cell_at (flip i own words)) e ∙ one.cells (1 + j) (omega arith)
        ∙ row_flipped (get_or words i 0) main anti j l ∙ rw (window_bit v main anti j, cell) refl

    last : cell_at (flip_window i main anti words) (64 * i + 1 + 63) ≡ bit (bit_xor v (window_flips main anti)) 63
    last =
        let e : 64 * i + 1 + 63 ≡ 64 * (i + 1) + 0 = omega arith in
        ap (cell_at (flip_window i main anti words)) e ∙ two.cells 0 (omega arith) ∙ next_bit 0 (omega arith)
        ∙ rw (
          window_bit v main anti 63,
          (flips.elsewhere 64 (off_above 64 (omega arith))).0,
          has.cells 63 (omega arith),
          e,
        )
        refl

    first : cell_at (flip_window i main anti words) (64 * i + 0) ≡ cell_at words (64 * i + 0)
    first = two.before (64 * i + 0) (omega arith) ∙ one.cells 0 (omega arith) ∙ rw (
      bit-xor (get_or words i 0) own 0,
      joined_zero main anti,
      (flips.elsewhere 0 (off_even 0 refl)).0,
      cell_in_word words i 0 (omega arith),
    ) (xor_false (bit (get_or words i 0) 0))

    behind : (b : ℕ) → 0 < b → b < 64 →
        cell_at (flip_window i main anti words) (64 * (i + 1) + b) ≡ cell_at words (64 * (i + 1) + b)
    behind b positive l = two.cells b l ∙ next_bit b l
        ∙ rw (flips.elsewhere (63 + b) (off_above (63 + b) (omega arith))).1
        (xor_false (cell_at words (64 * (i + 1) + b)))

-- ---- the steps of the loop
-- one word of each row
pub word_shifted : (i s x y main anti m a : ℕ) (words : List ℕ) → 0 < s → i + s + 1 < length words →
    (s ≡ 1 → main ≡ 0) → main < 2 ^ 64 → anti < 2 ^ 64 → HasWordAt words (64 * i + 1) x →
    HasWordAt words (64 * (i + s) + 1) y →
    AreFlipBitsForTurn second_mask (get_or words i 0) x (get_or words (i + s) 0) y m a →
    let old = flip_carried_bits i s main anti words in
    let new = flip_carried_bits (i + 1) s m a (set (set words i
    (bit_xor (bit_xor (get_or words i 0) (anti / 9223372036854775808)) (bit_or m (a * 2 % 18446744073709551616))))
    (i + s) (bit_xor (bit_xor (get_or words (i + s) 0) (main / 9223372036854775808))
    (bit_or a (m * 2 % 18446744073709551616)))) in
    TurnsRowPart (64 * i + 1) 64 (64 * s) old new × (HasNoSetBit m → HasNoSetBit a → AreSameCells old new)
word_shifted i s x y main anti m a words positive room alone small small' has_x has_y flips = rw same_words (run, stays)
  where
    old : List ℕ
    old = flip_carried_bits i s main anti words

    mid : List ℕ
    mid = flip_window i m a old

    new : List ℕ
    new = flip_window (i + s) a m mid

    kept : (q : ℕ) → q ≢ 64 * i → (q ≡ 64 * (i + s) → main ≡ 0) → cell_at old q ≡ cell_at words q
    kept q other first = flip_kept (i + s) (main / 9223372036854775808)
        (flip i (anti / 9223372036854775808) words) (omega (arith, small)) (omega (arith, length-set {A = ℕ})) q
        (λ e. rw (first e) refl)
        ∙ flip_kept i (anti / 9223372036854775808) words (omega (arith, small')) (omega arith) q (λ e. absurd (other e))

    has_above : HasWordAt old (64 * i + 1) x
    has_above = record {
      cells = λ j l. has_x.cells j l
          ∙ sym (kept (64 * i + 1 + j) (λ e. absurd (omega (arith, e))) (λ e. alone (omega (arith, e))));
    }

    has_below : HasWordAt old (64 * (i + s) + 1) y
    has_below = record {
      cells = λ j l. has_y.cells j l
          ∙ sym (kept (64 * (i + s) + 1 + j) (λ e. absurd (omega (arith, e))) (λ e. absurd (omega (arith, e))));
    }

    long : length old ≡ length words
    long = omega (arith, length-set {A = ℕ})

    sets_above : SetsWordAt (64 * i + 1) (bit_xor x (window_flips m a)) old mid
    sets_above = window_set i x _ _ _ _ m a old (omega (arith, long)) flips has_above

    has_mid : HasWordAt mid (64 * (i + s) + 1) y
    has_mid = record {
      cells = λ j l. has_below.cells j l ∙ sym (sets_above.after (64 * (i + s) + 1 + j) (omega arith));
    }

    sets_below : SetsWordAt (64 * (i + s) + 1) (bit_xor y (window_flips a m)) mid new
    sets_below = window_set (i + s) y _ _ _ _ a m mid (omega (arith, long, length-set {A = ℕ}))
        (flips_below _ _ _ _ _ _ _ flips) has_mid

    pairs : IsWordPairTurned x y (bit_xor x (window_flips m a)) (bit_xor y (window_flips a m))
    pairs = windows_flipped _ x _ y m a flips
        (λ j l. let e : 64 * i + 1 + j ≡ 64 * i + (1 + j) = omega arith in
        has_x.cells j (omega arith) ∙ ap (cell_at words) e ∙ cell_in_word words i (1 + j) (omega arith))
        (λ j l. let e : 64 * (i + s) + 1 + j ≡ 64 * (i + s) + (1 + j) = omega arith in
        has_y.cells j (omega arith) ∙ ap (cell_at words) e ∙ cell_in_word words (i + s) (1 + j) (omega arith))

    run : TurnsRowPart (64 * i + 1) 64 (64 * s) old new
    run =
        let place : 64 * (i + s) + 1 ≡ 64 * i + 1 + 64 * s = omega arith in
        windows_turned (64 * i + 1) (64 * s) x y _ _ old mid new (omega arith) has_above (rw place at has_below) pairs
        sets_above (rw place at sets_below)

    same_bits : (v f g : ℕ) → HasNoSetBit f → HasNoSetBit g → (j : ℕ) → j < 64 →
        bit (bit_xor v (window_flips f g)) j ≡ bit v j
    same_bits v f g no_f no_g j l = rw (window_bit v f g j, no_f (1 + j), no_g j) (xor_false (bit v j))

    stays : HasNoSetBit m → HasNoSetBit a → AreSameCells old new
    stays no_m no_a q =
        window_same (64 * (i + s) + 1) _ y mid new (same_bits y a m no_a no_m) has_mid sets_below q
        ∙ window_same (64 * i + 1) _ x old mid (same_bits x m a no_m no_a) has_above sets_above q

    same_words : flip_carried_bits (i + 1) s m a (set (set words i
        (bit_xor (bit_xor (get_or words i 0) (anti / 9223372036854775808)) (bit_or m (a * 2 % 18446744073709551616))))
        (i + s) (bit_xor (bit_xor (get_or words (i + s) 0) (main / 9223372036854775808))
        (bit_or a (m * 2 % 18446744073709551616)))) ≡ new
    same_words =
        let e : i + 1 + s ≡ i + s + 1 = omega arith in
        let swap = flip_swap (i + s) (i + 1) (bit_or a (m * 2 % 18446744073709551616)) (a / 9223372036854775808)
        (flip i (bit_or m (a * 2 % 18446744073709551616)) old) (omega (arith, long, length-set {A = ℕ}))
        (omega (arith, long, length-set {A = ℕ})) in
        rw (
          e,
          stored i (i + s) _ _ _ _ words (λ e. absurd (omega (arith, e, positive))) (omega arith) (omega arith),
          swap,
        ) refl

-- and the run before it
pub run_longer : (upper k s : ℕ) (first second third : List ℕ) → k < s →
    TurnsRowPart (64 * upper + 1) (64 * k) (64 * s) first second →
    TurnsRowPart (64 * (upper + k) + 1) 64 (64 * s) second third →
    TurnsRowPart (64 * upper + 1) (64 * (k + 1)) (64 * s) first third
run_longer upper k s first second third l run next =
    let place : 64 * (upper + k) + 1 ≡ 64 * upper + 1 + 64 * k = omega arith in
    let more : 64 * (k + 1) ≡ 64 * k + 64 = omega arith in
    rw more (run_join (64 * upper + 1) (64 * k) (64 * s) first second third (omega arith) (omega arith) run
    (rw place at next))
