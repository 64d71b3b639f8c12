-- Candidates for the least of some border faults
use Rattle.std.specs.Prelude.{◌≢◌, Option, Some, None}
use Rattle.std.specs.declared.cmp.Ordering.TheVariants.{Greater}
use Rattle.border_match.specs.BorderFaults.{border_fault_cmp}
use Rattle.border_match.specs.declared.fault.BorderFault.{BorderFault}

-- the candidate, if there is one, is one of F
abbrev pub CandidateSatisfies : (BorderFault → Type 0) → Option BorderFault → Type 0
CandidateSatisfies F None = Unit {0}
CandidateSatisfies F (Some f) = F f

-- there is a candidate, and it is at most h
abbrev pub HasCandidateAtMost : Option BorderFault → BorderFault → Type 0
HasCandidateAtMost None h = ⊥
HasCandidateAtMost (Some f) h = border_fault_cmp f h ≢ Greater

-- the least of F, or `None` if F is empty
pub record IsLeastCandidate (F : BorderFault → Type 0) (o : Option BorderFault) : Type 0 where
  pub sound : CandidateSatisfies F o
  pub least : (h : BorderFault) → F h → HasCandidateAtMost o h

-- A candidate for the least of F becomes another
pub record IsUpdatedCandidate (F P : BorderFault → Type 0) (old new : Option BorderFault) : Type 0 where
  -- which is one of F if the old one was
  pub sound : CandidateSatisfies F old → CandidateSatisfies F new
  -- and at most whatever the old one was at most
  pub kept : (h : BorderFault) → HasCandidateAtMost old h → HasCandidateAtMost new h
  -- and at most each of F with P
  pub covers : (h : BorderFault) → F h → P h → HasCandidateAtMost new h
