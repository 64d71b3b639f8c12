-- Books that hold a finding for each job
use Rattle.core_book.proofs.Imports.{BookView, Finding, IsBook, IsFindingHeld, JobView, List, None, Option, Some, []}
use Rattle.core_book.proofs.Imports.{arith, common_steps, cond, count_by, get_or, held_finding, is_some, length, refl}
use Rattle.core_book.proofs.Imports.{same_Some, slice_get, suc, sym, true, zero, ℕ, ◌+◌, ◌<◌, ◌∙◌, ◌∷◌, ◌≡◌}
use Rattle.lemmas.proofs.Common.{count_by-le-length, sum_by-cons}
use Rattle.core_book.specs.Laws.{FullBookHoldsAll}

pub count : (o : Option Finding) (os : List (Option Finding)) →
    count_by is_some (o ∷ os) ≡ cond (is_some o) 1 0 + count_by is_some os
count o os = sum_by-cons (λ (x : Option Finding). cond (is_some x) 1 0) o os

-- where all are counted, each is there
all_there : (os : List (Option Finding)) (k : ℕ) → count_by is_some os ≡ length os → k < length os →
    is_some (get_or os k None) ≡ true
all_there [] k full below = absurd (omega (arith, below))
all_there (None ∷ os) k full below = absurd (omega (arith, full, count None os, count_by-le-length is_some os))
all_there (Some f ∷ os) zero full below = refl
all_there (Some f ∷ os) (suc k) full below =
    all_there os k (omega (arith, full, count (Some f) os)) (omega (arith, below))

held : (b : BookView) (k : ℕ) (j : JobView) (o : Option Finding) → IsBook b → held_finding b k ≡ o → is_some o ≡ true →
    slice_get b.jobs k ≡ Some j → IsFindingHeld b k j
held b k j None is e some at = cc
held b k j (Some f) is e some at = record { finding = f; held = e; whole = same_Some _ _ (sym (is.own k f e).job ∙ at) }

pub full_book_holds-all : FullBookHoldsAll
full_book_holds-all b is full k j below at = grind (arith, common_steps, held, all_there)
