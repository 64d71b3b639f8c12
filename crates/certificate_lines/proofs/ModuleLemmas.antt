-- A module after one more line.
use Rattle.certificate_lines.proofs.Imports.{All-append, All-nil, AreLinesInOrder, Bool, CertificateLine, Equal, Less}
use Rattle.certificate_lines.proofs.Imports.{List, Ordering, Use, [], and_parts, ap₂, cell_cmp, cell_of, common_steps}
use Rattle.certificate_lines.proofs.Imports.{false, is_cut_line, line_cmp, list_all, list_all-append, may_follow}
use Rattle.certificate_lines.proofs.Imports.{may_precede, rank_of, refl, sort_number_of, true, used_gate_in, ℕ, ◌++◌}
use Rattle.certificate_lines.proofs.Imports.{◌<◌, ◌||◌, ◌∙◌, ◌∷◌, ◌≡◌}
use Rattle.lemmas.proofs.Common.{All-push, arith, ordering_then, nat_less, ◌≢◌}
use Rattle.certificate_lines.proofs.LineRanks.{rank_rises}
use Rattle.std.specs.List.{All, flat_map}
use Rattle.std.specs.Ordering.{nat_cmp, is_lt}

-- ---- what comes before a line

-- where only lines of a higher rank than k have any, lines that k may follow have none
pub none_before : {A : Type 0} (f : CertificateLine → List A) (rank : ℕ) →
    ((j : CertificateLine) → rank_of j ≢ rank → f j ≡ []) → (k : CertificateLine) → rank_of k < rank →
    (lines : List CertificateLine) → may_follow lines k ≡ true → flat_map f lines ≡ []
unfolding may_follow
none_before f rank only k low [] h = refl
none_before f rank only k low (j ∷ lines) h =
    let both = and_parts (may_precede j k) (list_all (λ i. may_precede i k) lines) h in
    let rises = rank_rises j k both.0 in
    ap₂ (λ xs ys. xs ++ ys) (only j (λ e. absurd (omega (arith, low, rises, e))))
    (none_before f rank only k low lines both.1)

pub all_before : {A : Type 0} (f : CertificateLine → List A) (k : CertificateLine) (P : A → Type 0) →
    ((j : CertificateLine) → may_precede j k ≡ true → All P (f j)) → (lines : List CertificateLine) →
    may_follow lines k ≡ true → All P (flat_map f lines)
unfolding may_follow
all_before f k P each [] h = All-nil P
all_before f k P each (j ∷ lines) h =
    let both = and_parts (may_precede j k) (list_all (λ i. may_precede i k) lines) h in
    All-append P (f j) (flat_map f lines) (each j both.0) (all_before f k P each lines both.1)

-- ---- used gates rise

less_by : (o : Ordering) → is_lt (ordering_then o Equal) ≡ true → o ≡ Less
less_by o h1 = grind (arith, common_steps)

or_false : (a : Bool) → (a || false) ≡ true → a ≡ true
or_false a h = grind arith

use_then_use : (g k : ℕ) → may_precede (Use g) (Use k) ≡ true → g < k
unfolding may_precede line_cmp rank_of sort_number_of cell_of is_cut_line cell_cmp
use_then_use g k h = nat_less g k (less_by (nat_cmp g k) (or_false _ h))

pub lower_uses : (k : ℕ) (j : CertificateLine) → may_precede j (Use k) ≡ true → All (λ g. g < k) (used_gate_in j)
lower_uses k (Use g) h = All-push (λ (x : ℕ). x < k) [] g (All-nil (λ (x : ℕ). x < k)) (use_then_use g k h)
lower_uses k _ h = All-nil (λ (g : ℕ). g < k)

-- ---- order

pub list_all_push : {A : Type 0} (test : A → Bool) (xs : List A) (x : A) → list_all test xs ≡ true → test x ≡ true →
    list_all test (xs ++ x ∷ []) ≡ true
list_all_push test xs x h k = list_all-append test xs (x ∷ []) ∙ rw (h, k) refl

pub order_push : (lines : List CertificateLine) (j : CertificateLine) → AreLinesInOrder lines →
    may_follow lines j ≡ true → AreLinesInOrder (lines ++ j ∷ [])
unfolding AreLinesInOrder may_follow
order_push [] j order h = (refl, tt)
order_push (i ∷ lines) j order h =
    let both = and_parts (may_precede i j) (list_all (λ k. may_precede k j) lines) h in
    (list_all_push (may_precede i) lines j order.0 both.0, order_push lines j order.1 both.1)
