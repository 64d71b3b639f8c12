-- The commands that one word asks for, and that a number of workers asks for.
use Rattle.check_main.proofs.Imports.{Check, IsAccepted, List, Text, [], ap, arith, asked_by, bbmcheck_app, false}
use Rattle.check_main.proofs.Imports.{fault_of, inl, inr, refl, suc, sym, true, zero, ℕ, ◌++◌, ◌+◌, ◌<◌, ◌∙◌, ◌∷◌, ◌≡◌}
use Rattle.check_main.proofs.Imports.{◌≤◌}
use Rattle.lemmas.proofs.Common.{◌%◌, ◌&&◌, ◌/◌, Bool, codes, cond, eqb, ltb, and_parts, cases_lt, cond-false}
use Rattle.lemmas.proofs.Common.{cond-true, decimal, eqb-true, list_all, lt-ltb, range_with_len}
use Rattle.std.proofs.lemmas.Fmt.{decimal_digit, decimal_step}
use Rattle.clap.specs.Faults.{defaults_fault, flags_fault, walk_fault}
use Rattle.clap.specs.Takes.{flags_pass, walk_passes}
use Rattle.clap.specs.Walk.{bundle_met, walked}
use Rattle.command_line.specs.CommandLine.{workers_asked}
use Rattle.check_main.specs.Laws.{EachWorkerCountIsAccepted, CheckWordAsksForCheck, words_with_workers}

-- ---- one word

is_accepted : IsAccepted (codes "check" ∷ [])
unfolding bundle_met defaults_fault flags_fault flags_pass walk_fault walk_passes walked
is_accepted = refl

is_asked : asked_by (codes "check" ∷ []) ≡ Check
unfolding bundle_met defaults_fault flags_fault flags_pass walk_fault walk_passes walked
is_asked = refl

pub one_word : CheckWordAsksForCheck
one_word = record { accepted = is_accepted; asked = is_asked }

-- ---- the digits of a number below 100

abbrev spelled : ℕ → Text
spelled n = cond (ltb n 10) ((48 + n) ∷ []) ((48 + n / 10) ∷ (48 + n % 10) ∷ [])

decimal_spelled : (n : ℕ) → n < 100 → decimal n ≡ spelled n
decimal_spelled n h = elim (cases_lt n 10) [
  | inl low ↦ decimal_digit n low ∙ sym (cond-true _ _ _ (lt-ltb n 10 low))
  | inr high ↦
      decimal_step n high (omega arith)
      ∙ ap (λ ds. ds ++ (48 + n % 10) ∷ []) (decimal_digit (n / 10) (omega arith))
      ∙ sym (cond-false _ _ _ (not_less n 10 high))
]
  where
    not_less : (n k : ℕ) → k ≤ n → ltb n k ≡ false
    not_less n k h = grind (arith, h)

-- ---- each number of workers

abbrev spelled_words : ℕ → List Text
spelled_words n = codes "check" ∷ codes "--workers" ∷ spelled n ∷ []

abbrev is_none : {X : Type 0} → List X → Bool
is_none [] = true
is_none (x ∷ xs) = false

none_is : {X : Type 0} (xs : List X) → is_none xs ≡ true → xs ≡ []
none_is [] h = refl
none_is (x ∷ xs) h = cc

abbrev passes : ℕ → Bool
passes n = is_none (fault_of bbmcheck_app (spelled_words n)) && eqb (workers_asked (spelled_words n)) n

all_pass : list_all passes (range_with_len 1 64) ≡ true
unfolding bundle_met defaults_fault flags_fault flags_pass walk_fault walk_passes walked
all_pass = refl

each_asks : (text : Text) → asked_by (codes "check" ∷ codes "--workers" ∷ text ∷ []) ≡ Check
unfolding bundle_met defaults_fault flags_fault flags_pass walk_fault walk_passes walked
each_asks text = refl

in_range : (test : ℕ → Bool) (m a n : ℕ) → list_all test (range_with_len a m) ≡ true → a ≤ n → n < a + m → test n ≡ true
in_range test zero a n h low high = absurd (omega (arith, low, high))
in_range test (suc m) a n h low high =
    let both = and_parts (test a) (list_all test (range_with_len (a + 1) m)) h in
    elim (cases_lt a n) [
      | inl above ↦ in_range test m (a + 1) n both.1 (omega (arith, above)) (omega (arith, high))
      | inr same ↦ ap test (omega (arith, same, low)) ∙ both.0
    ]

pub each_number_asks : EachWorkerCountIsAccepted
each_number_asks n low high =
    let e : decimal n ≡ spelled n = decimal_spelled n (omega (arith, high)) in
    let both = and_parts (is_none (fault_of bbmcheck_app (spelled_words n))) (eqb (workers_asked (spelled_words n)) n)
    (in_range passes 64 1 n all_pass low (omega (arith, high))) in
    let as_spelled : words_with_workers n ≡ spelled_words n =
    ap (λ ds. codes "check" ∷ codes "--workers" ∷ ds ∷ []) e in (
      record {
        accepted = ap (fault_of bbmcheck_app) as_spelled ∙ none_is (fault_of bbmcheck_app (spelled_words n)) both.0;
        asked = each_asks (decimal n);
      },
      ap workers_asked as_spelled ∙ eqb-true (workers_asked (spelled_words n)) n both.1,
    )
