-- Candidates for a least border fault
use Rattle.border_match.proofs.Imports.{BorderFault, Greater, HasCandidateAtMost, IsLeastCandidate, IsUpdatedCandidate}
use Rattle.border_match.proofs.Imports.{None, Option, Ordering, Some, arith, border_fault_cmp, common_steps, false}
use Rattle.border_match.proofs.Imports.{tied_itself, ◌≡◌, ◌≢◌, ◌⊎◌}
use Rattle.lemmas.proofs.Common.{is_gt, upto}
use Rattle.border_match.proofs.FaultOrder.{border_total}

-- ---- the order

not_gt : (o : Ordering) → o ≢ Greater → is_gt o ≡ false
not_gt o h1 = grind (arith, common_steps)

from_not_gt : (o : Ordering) → is_gt o ≡ false → o ≢ Greater
from_not_gt o e g = grind (arith, common_steps)

at_most_trans : (a b c : BorderFault) → border_fault_cmp a b ≢ Greater → border_fault_cmp b c ≢ Greater →
    border_fault_cmp a c ≢ Greater
at_most_trans a b c p q = from_not_gt _ (upto border_total a b c (not_gt _ p) (not_gt _ q))

pub at_most_itself : (a : BorderFault) → border_fault_cmp a a ≢ Greater
at_most_itself a g = grind (arith, common_steps, tied_itself, border_total)

pub lesser_kept : (o m : BorderFault) (best : Option BorderFault) → best ≡ Some o → Greater ≡ border_fault_cmp o m →
    (h : BorderFault) → HasCandidateAtMost best h → border_fault_cmp m h ≢ Greater
lesser_kept o m best is greater h c = grind (arith, common_steps, border_total, at_most_trans)

pub covers_after : (o : Option BorderFault) (m h : BorderFault) → HasCandidateAtMost o m →
    border_fault_cmp m h ≢ Greater → HasCandidateAtMost o h
covers_after o m h h1 h2 = grind (arith, common_steps, at_most_trans)

-- ---- steps of a search

module _ (F : BorderFault → Type 0) where
  -- none of F has P
  pub better_same : (P : BorderFault → Type 0) (o : Option BorderFault) → ((h : BorderFault) → F h → P h → ⊥) →
      IsUpdatedCandidate F P o o
  better_same P o none = record { sound = λ s. s; kept = λ h c. c; covers = λ h f p. absurd (none h f p) }

  -- the new candidate is at most m, which is one of F and at most each of F with P
  pub better_with : (P : BorderFault → Type 0) (o o' : Option BorderFault) (m : BorderFault) → F m →
      ((h : BorderFault) → F h → P h → border_fault_cmp m h ≢ Greater) →
      ((h : BorderFault) → HasCandidateAtMost o h → HasCandidateAtMost o' h) → (o' ≡ o) ⊎ (o' ≡ Some m) →
      HasCandidateAtMost o' m → IsUpdatedCandidate F P o o'
  better_with P o o' m f least kept one covered = grind (arith, common_steps, covers_after)

  pub better_then : (P Q R : BorderFault → Type 0) (a b c : Option BorderFault) → IsUpdatedCandidate F P a b →
      IsUpdatedCandidate F Q b c → ((h : BorderFault) → F h → R h → P h ⊎ Q h) → IsUpdatedCandidate F R a c
  better_then P Q R a b c p q split = grind (arith, common_steps)

  pub better_for : (P Q : BorderFault → Type 0) (a b : Option BorderFault) → IsUpdatedCandidate F P a b →
      ((h : BorderFault) → F h → Q h → P h) → IsUpdatedCandidate F Q a b
  better_for P Q a b better weaker = grind (arith, common_steps)

  pub better_rest : (P Q : BorderFault → Type 0) (a b : Option BorderFault) → IsUpdatedCandidate F P a b →
      ((h : BorderFault) → Q h → P h ⊎ HasCandidateAtMost b h) → IsUpdatedCandidate F Q a b
  better_rest P Q a b better split = grind (arith, common_steps)

  pub least_by_three : (P Q R : BorderFault → Type 0) (a b c : Option BorderFault) → IsUpdatedCandidate F P None a →
      IsUpdatedCandidate F Q a b → IsUpdatedCandidate F R b c →
      ((h : BorderFault) → F h → P h ⊎ (Q h ⊎ R h)) → IsLeastCandidate F c
  least_by_three P Q R a b c p q r all = grind (arith, common_steps)
