-- The first keys that are the same, as a map has them
use Rattle.module_job.proofs.Imports.{IsFirstEqualElement, List, None, Option, Some, arith, cases_Bool, cases_lt}
use Rattle.module_job.proofs.Imports.{common_steps, false≢true, if◌then◌else◌, lists, same_key, slice_get, unwrap_or, ℕ}
use Rattle.module_job.proofs.Imports.{◌+◌, ◌<◌, ◌≡◌, ◌≢◌}

-- what is known of a key after the first n
abbrev pub IsFirstOf : List (List ℕ) → ℕ → List ℕ → Option ℕ → Type 0
IsFirstOf keys n key None = (i : ℕ) → i < n → slice_get keys i ≢ Some key
IsFirstOf keys n key (Some f) =
    (f < n) × (slice_get keys f ≡ Some key) × ((i : ℕ) → i < f → slice_get keys i ≢ Some key)

pub first_found : (keys : List (List ℕ)) (n : ℕ) (key : List ℕ) (o : Option ℕ) → slice_get keys n ≡ Some key →
    IsFirstOf keys n key o → IsFirstEqualElement keys n (unwrap_or o n)
first_found keys n key o h1 h2 = grind (arith, common_steps)

pub found_within : (keys : List (List ℕ)) (n : ℕ) (key : List ℕ) (o : Option ℕ) → IsFirstOf keys n key o →
    unwrap_or o n < n + 1
found_within keys n key None known = omega arith
found_within keys n key (Some f) known = let lt = known.0 in omega (arith, lt)

-- one more key
same_one : (x y : List ℕ) (o : Option (List ℕ)) → o ≡ Some x → o ≡ Some y → x ≡ y
same_one x y o e f = cc

its_first : (keys : List (List ℕ)) (n : ℕ) (key : List ℕ) (o : Option ℕ) → slice_get keys n ≡ Some key →
    IsFirstOf keys n key o → IsFirstOf keys (n + 1) key (Some (unwrap_or o n))
its_first keys n key o h1 h2 = grind (arith, common_steps)

others_first : (keys : List (List ℕ)) (n : ℕ) (key other : List ℕ) (o : Option ℕ) → slice_get keys n ≡ Some key →
    (key ≡ other → ⊥) → IsFirstOf keys n other o → IsFirstOf keys (n + 1) other o
others_first keys n key other None there apart known = grind (arith, common_steps, cases_lt, same_one)
others_first keys n key other (Some f) there apart known = let lt = known.0 in (omega (arith, lt), known.1, known.2)

pub known_more : (keys : List (List ℕ)) (n : ℕ) (key other : List ℕ) (o p : Option ℕ) (first : ℕ) →
    slice_get keys n ≡ Some key → IsFirstOf keys n key o → first ≡ unwrap_or o n → IsFirstOf keys n other p →
    IsFirstOf keys (n + 1) other (if same_key key other then Some first else p)
known_more keys n key other o p first there known is others =
    grind (arith, common_steps, cases_Bool, lists, its_first, others_first, false≢true)
