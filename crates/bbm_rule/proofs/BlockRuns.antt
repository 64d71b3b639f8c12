-- Runs of blocks along two rows, and rows of runs.
use Rattle.bbm_rule.proofs.Imports.{HasWordAt, IsWordPairTurned, List, SetsWordAt, TurnsRowPart, TurnsRows, ap, arith}
use Rattle.bbm_rule.proofs.Imports.{cell_at, common_steps, get_or, get_or-set_other, get_or-set_same, length}
use Rattle.bbm_rule.proofs.Imports.{length-set, mul-le-mul_right, paired_place, refl, set, sym, turned, ℕ, ◌%◌, ◌*◌}
use Rattle.bbm_rule.proofs.Imports.{◌+◌, ◌-◌, ◌<◌, ◌∙◌, ◌≡◌, ◌≢◌, ◌≤◌}
use Rattle.bbm_rule.proofs.BitLemmas.{by_lt_or_le, by_eq_or_not}
use Rattle.bbm_rule.proofs.PairLemmas.{cell_in_word, by_place, mate_even, mate_odd}

pub mate_lt : (j n : ℕ) → n % 2 ≡ 0 → j < n → paired_place j < n
mate_lt j n whole l =
    by_eq_or_not (j % 2) 0
    (λ even. rw (mate_even j even) (omega arith))
    (λ odd.
    let i : ℕ = j - 1 in
    let e : j ≡ 1 + i = omega arith in
    rw (e, mate_odd i (omega arith)) (omega arith))

pub mate_add : (n j : ℕ) → n % 2 ≡ 0 → paired_place (n + j) ≡ n + paired_place j
mate_add n j whole =
    by_eq_or_not (j % 2) 0
    (λ even. rw (mate_even j even, mate_even (n + j) (omega arith)) (omega arith))
    (λ odd.
    let i : ℕ = j - 1 in
    let e : j ≡ 1 + i = omega arith in
    let place : n + (1 + i) ≡ 1 + (n + i) = omega arith in
    rw (e, place, mate_odd i (omega arith), mate_odd (n + i) (omega arith)) refl)

-- ---- one word of each row
pub word_is_window : (words : List ℕ) (i : ℕ) → HasWordAt words (64 * i) (get_or words i 0)
word_is_window words i = record { cells = λ j l. sym (cell_in_word words i j l) }

pub word_set : (words : List ℕ) (i v : ℕ) → i < length words → SetsWordAt (64 * i) v words (set words i v)
word_set words i v room = record {
  cells = λ j l. rw (cell_in_word (set words i v) i j l, get_or-set_same words i v 0 room) refl;
  before = by_place (λ q. q < 64 * i → cell_at (set words i v) q ≡ cell_at words q)
      (λ k b l under. elsewhere k b l (λ e. absurd (omega arith)));
  after = by_place (λ q. 64 * i + 64 ≤ q → cell_at (set words i v) q ≡ cell_at words q)
      (λ k b l over. elsewhere k b l (λ e. absurd (omega arith)));
}
  where
    elsewhere : (k b : ℕ) → b < 64 → k ≢ i → cell_at (set words i v) (64 * k + b) ≡ cell_at words (64 * k + b)
    elsewhere k b l other = grind (arith, common_steps, cell_in_word, get_or-set_other)

pub windows_turned : (p s : ℕ) (va vb a b : ℕ) (old mid new : List ℕ) → 64 ≤ s → HasWordAt old p va →
    HasWordAt old (p + s) vb → IsWordPairTurned va vb a b → SetsWordAt p a old mid → SetsWordAt (p + s) b mid new →
    TurnsRowPart p 64 s old new
windows_turned p s va vb a b old mid new wide has_a has_b pairs set_a set_b = grind (arith, common_steps, mate_lt)

pub no_run : (p s : ℕ) (words : List ℕ) → TurnsRowPart p 0 s words words
no_run p s words = grind (arith, common_steps)

pub run_join : (p n s : ℕ) (first second third : List ℕ) → n % 2 ≡ 0 → n + 64 ≤ s → TurnsRowPart p n s first second →
    TurnsRowPart (p + n) 64 s second third → TurnsRowPart p (n + 64) s first third
run_join p n s first second third whole within one two = record {
  upper = λ j l. by_lt_or_le j n (λ low. two.before (p + j) (omega arith) ∙ one.upper j low)
      (λ high. upper_at (j - n) j (omega arith) (omega arith));
  lower = λ j l. by_lt_or_le j n (λ low. two.between (p + s + j) (omega arith) (omega arith) ∙ one.lower j low)
      (λ high. lower_at (j - n) j (omega arith) (omega arith));
  before = λ q l. two.before q (omega arith) ∙ one.before q l;
  between = λ q low high. two.between q (omega arith) (omega arith) ∙ one.between q (omega arith) high;
  after = λ q l. two.after q (omega arith) ∙ one.after q (omega arith);
}
  where
    upper_kept : (i : ℕ) → i < 64 → cell_at second (p + n + i) ≡ cell_at first (p + (n + i))
    upper_kept i l = one.between (p + n + i) (omega arith) (omega arith) ∙ ap (cell_at first) (omega arith)

    lower_kept : (i : ℕ) → i < 64 → cell_at second (p + n + s + i) ≡ cell_at first (p + s + (n + i))
    lower_kept i l = one.after (p + n + s + i) (omega arith) ∙ ap (cell_at first) (omega arith)

    upper_at : (i j : ℕ) → j ≡ n + i → i < 64 →
        cell_at third (p + j) ≡ turned (cell_at first (p + j)) (cell_at first (p + s + paired_place j))
        (cell_at first (p + paired_place j)) (cell_at first (p + s + j))
    upper_at i j e l =
        let m = mate_lt i 64 refl l in
        let place : p + (n + i) ≡ p + n + i = omega arith in
        rw (
          e,
          mate_add n i whole,
          sym (upper_kept i l),
          sym (upper_kept (paired_place i) m),
          sym (lower_kept i l),
          sym (lower_kept (paired_place i) m),
          place,
        ) (two.upper i l)

    lower_at : (i j : ℕ) → j ≡ n + i → i < 64 →
        cell_at third (p + s + j) ≡ turned (cell_at first (p + s + j)) (cell_at first (p + paired_place j))
        (cell_at first (p + s + paired_place j)) (cell_at first (p + j))
    lower_at i j e l =
        let m = mate_lt i 64 refl l in
        let place : p + s + (n + i) ≡ p + n + s + i = omega arith in
        rw (
          e,
          mate_add n i whole,
          sym (upper_kept i l),
          sym (upper_kept (paired_place i) m),
          sym (lower_kept i l),
          sym (lower_kept (paired_place i) m),
          place,
        ) (two.lower i l)

-- ---- rows
pub no_rows : (p s : ℕ) (words : List ℕ) → TurnsRows p s 0 words words
no_rows p s words = grind (arith, common_steps)

pub rows_join : (p s r : ℕ) (first second third : List ℕ) → s % 2 ≡ 0 → TurnsRows p s r first second →
    TurnsRowPart (p + 2 * (r * s)) s s second third → TurnsRows p s (r + 1) first third
rows_join p s r first second third whole rows run = record {
  upper = λ i j l m. by_lt_or_le i r
      (λ low. let h = earlier i low in run.before (p + 2 * (i * s) + j) (omega arith) ∙ rows.upper i j low m)
      (λ high. upper_at i j (omega arith) m);
  lower = λ i j l m. by_lt_or_le i r
      (λ low. let h = earlier i low in run.before (p + 2 * (i * s) + s + j) (omega arith) ∙ rows.lower i j low m)
      (λ high. lower_at i j (omega arith) m);
  before = λ q l. run.before q (omega arith) ∙ rows.before q l;
  after = λ q l. run.after q (omega arith) ∙ rows.after q (omega arith);
}
  where
    earlier : (i : ℕ) → i < r → i * s + s ≤ r * s
    earlier i l = let h : (i + 1) * s ≤ r * s = mul-le-mul_right s (omega arith) in omega arith

    kept : (q : ℕ) → p + 2 * (r * s) ≤ q → cell_at second q ≡ cell_at first q
    kept = rows.after

    upper_at : (i j : ℕ) → i ≡ r → j < s →
        cell_at third (p + 2 * (i * s) + j)
        ≡ turned (cell_at first (p + 2 * (i * s) + j)) (cell_at first (p + 2 * (i * s) + s + paired_place j))
        (cell_at first (p + 2 * (i * s) + paired_place j)) (cell_at first (p + 2 * (i * s) + s + j))
    upper_at i j e m = grind (arith, common_steps, kept)

    lower_at : (i j : ℕ) → i ≡ r → j < s →
        cell_at third (p + 2 * (i * s) + s + j)
        ≡ turned (cell_at first (p + 2 * (i * s) + s + j)) (cell_at first (p + 2 * (i * s) + paired_place j))
        (cell_at first (p + 2 * (i * s) + s + paired_place j)) (cell_at first (p + 2 * (i * s) + j))
    lower_at i j e m = grind (arith, common_steps, kept)

-- ---- the steps of the loops
pub aligned_step : (upper k stride : ℕ) (first second : List ℕ) (a b : ℕ) → k < stride →
    upper + stride + stride ≤ length second → TurnsRowPart (64 * upper) (64 * k) (64 * stride) first second →
    IsWordPairTurned (get_or second (upper + k) 0) (get_or second (upper + k + stride) 0) a b →
    TurnsRowPart (64 * upper) (64 * (k + 1)) (64 * stride) first (set (set second (upper + k) a) (upper + k + stride) b)
aligned_step upper k stride first second a b l room run pairs =
    let place : 64 * (upper + k) ≡ 64 * upper + 64 * k = omega arith in
    let below : 64 * (upper + k + stride) ≡ 64 * upper + 64 * k + 64 * stride = omega arith in
    let more : 64 * (k + 1) ≡ 64 * k + 64 = omega arith in
    let has_a = rw place at (word_is_window second (upper + k)) in
    let set_a = rw place at (word_set second (upper + k) a (omega arith)) in
    let has_b = rw below at (word_is_window second (upper + k + stride)) in
    let set_b = rw below at (word_set (set second (upper + k) a) (upper + k + stride) b
    (omega (arith, length-set {A = ℕ}))) in
    rw more (run_join (64 * upper) (64 * k) (64 * stride) first second _ (omega arith) (omega arith) run
    (windows_turned (64 * upper + 64 * k) (64 * stride) _ _ a b second _ _ (omega arith) has_a has_b pairs set_a set_b))

pub rows_room : (r pairs stride : ℕ) → r < pairs → 2 * (r * stride) + stride + stride ≤ 2 * (pairs * stride)
rows_room r pairs stride l = grind (arith, common_steps, mul-le-mul_right)
