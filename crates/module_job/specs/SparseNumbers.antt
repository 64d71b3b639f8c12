-- Lists of numbers of which most are 0, by the entries of the others
use Rattle.std.specs.Prelude.{◌≡◌, ℕ, zero, suc, ◌+◌, ◌/◌, ◌<◌, nat_eq, if◌then◌else◌, List, [], ◌∷◌, get_or, length}
use Rattle.bbm_rule.specs.Marks.{IsNumberUnmarked}
use Rattle.module_job.specs.Keys.{sparse_entries_from}
use Rattle.module_job.specs.declared.sparse_numbers.SparseNumbers.TheInside.{Inside}

-- as many numbers as the count, from this place on, with these entries: a place without an entry has the number 0
unfoldable pub numbers_from_entries : ℕ → ℕ → List ℕ → List ℕ
numbers_from_entries zero place es = []
numbers_from_entries (suc count) place [] = 0 ∷ numbers_from_entries count (place + 1) []
numbers_from_entries (suc count) place (p ∷ []) = 0 ∷ numbers_from_entries count (place + 1) []
numbers_from_entries (suc count) place (p ∷ n ∷ es) =
    if nat_eq p (place + 1) then n ∷ numbers_from_entries count (place + 1) es
    else (0 ∷ numbers_from_entries count (place + 1) (p ∷ n ∷ es))

-- the list, from the fields
abbrev pub sparse_view : Inside → List ℕ
sparse_view a = numbers_from_entries a.count 0 a.entries.items

-- the entries are those of the list, and a place that could have a mark has none exactly if its number is 0
pub record AreSparseEntries (a : Inside) : Type 0 where
  pub entries : a.entries.items ≡ sparse_entries_from 0 (sparse_view a)
  pub unmarked : (u : ℕ) → u / 64 < length a.marks.items → IsNumberUnmarked a.marks.items u →
      get_or (sparse_view a) u 0 ≡ 0
  pub marked : (u : ℕ) → get_or (sparse_view a) u 0 ≡ 0 → IsNumberUnmarked a.marks.items u
