-- Lists of what cells carry or must be, by their numbers.
use Rattle.module_job.proofs.Imports.{All, All-head, All-tail, Bool, Decides, Decides-eqb, List}
use Rattle.module_job.proofs.Imports.{Zero, [], ap, ap₂, arith, common_steps, demand_from_number, demand_number}
use Rattle.module_job.proofs.Imports.{length, length-map, lists, map, nat_eq, pointwise, refl}
use Rattle.module_job.proofs.Imports.{replicate, same_demand, same_from_decides, same_signal, signal_decides}
use Rattle.module_job.proofs.Imports.{signal_from_number, signal_number, slice_get, sparse_entries_from}
use Rattle.module_job.proofs.Imports.{sparse_list_numbers, suc, sym, unwrap_or, zero, ℕ, ◌++◌, ◌<◌, ◌∙◌, ◌∷◌, ◌≡◌}
use Rattle.lemmas.proofs.Common.{map-append}
use Rattle.module_job.proofs.EqualJobs.{demand_decides}
use Rattle.module_job.specs.declared.job.Demand.TheVariants as Demanded

-- ---- one signal, one demand

signal_back : (n : ℕ) → signal_number (signal_from_number n) ≡ n
signal_back (suc (suc w)) = omega arith
signal_back _ = refl

demand_back : (n : ℕ) → demand_number (demand_from_number n) ≡ n
demand_back (suc (suc (suc w))) = omega arith
demand_back _ = refl

-- ---- lists

map_zeros : {A : Type 0} (of : ℕ → A) (count : ℕ) → map of (replicate count 0) ≡ replicate count (of 0)
map_zeros of zero = refl
map_zeros of (suc count) = ap (λ xs. of 0 ∷ xs) (map_zeros of count)

at_place : {A : Type 0} (of : ℕ → A) (ns : List ℕ) (place : ℕ) →
    of (unwrap_or (slice_get ns place) 0) ≡ unwrap_or (slice_get (map of ns) place) (of 0)
at_place of [] place = refl
at_place of (n ∷ ns) zero = refl
at_place of (n ∷ ns) (suc place) = at_place of ns place

pub below : (bound : ℕ) (ns : List ℕ) (place : ℕ) → 0 < bound → All (λ n. n < bound) ns →
    unwrap_or (slice_get ns place) 0 < bound
below bound [] place some all = some
below bound (n ∷ ns) zero some all = All-head (λ m. m < bound) n ns all
below bound (n ∷ ns) (suc place) some all = below bound ns place some (All-tail (λ m. m < bound) n ns all)

module _ {A : Type 0} (of : ℕ → A) (number : A → ℕ) (exact : (n : ℕ) → number (of n) ≡ n) where
  numbers_again : (ns : List ℕ) → map number (map of ns) ≡ ns
  numbers_again [] = refl
  numbers_again (n ∷ ns) = ap₂ (λ m ms. m ∷ ms) (exact n) (numbers_again ns)

  length_prefixed : (ns : List ℕ) →
      sparse_list_numbers number (map of ns) ≡ length ns ∷ sparse_entries_from 0 ns ++ 0 ∷ []
  length_prefixed ns = grind (arith, common_steps, length-map, numbers_again)

  same_tests : (E : A → A → Bool) → ((a b : A) → Decides (E a b) (a ≡ b)) → (ns ms : List ℕ) →
      pointwise nat_eq ns ms ≡ pointwise E (map of ns) (map of ms)
  same_tests E decides ns ms =
      let cells = lists E decides (map of ns) (map of ms) in
      same_from_decides _ _ (lists nat_eq Decides-eqb ns ms)
      (λ h. sym (numbers_again ns) ∙ ap (map number) (cells.0 h) ∙ numbers_again ms, λ e. cells.1 (ap (map of) e))

-- ---- what the cells carry at time 0

pub dead_pushed : (ns : List ℕ) (count : ℕ) →
    map signal_from_number (ns ++ replicate count 0) ≡ map signal_from_number ns ++ replicate count Zero
dead_pushed ns count = grind (arith, common_steps, map-append, map_zeros)

pub start_found : (ns : List ℕ) (place : ℕ) →
    signal_from_number (unwrap_or (slice_get ns place) 0) ≡ unwrap_or (slice_get (map signal_from_number ns) place) Zero
start_found = at_place signal_from_number

pub start_numbers : (ns : List ℕ) →
    sparse_list_numbers signal_number (map signal_from_number ns) ≡ length ns ∷ sparse_entries_from 0 ns ++ 0 ∷ []
start_numbers = length_prefixed signal_from_number signal_number signal_back

pub start_tests : (ns ms : List ℕ) →
    pointwise nat_eq ns ms ≡ pointwise same_signal (map signal_from_number ns) (map signal_from_number ms)
start_tests = same_tests signal_from_number signal_number signal_back same_signal signal_decides

-- ---- what they must be at the last time

pub dead_demands_pushed : (ns : List ℕ) (count : ℕ) →
    map demand_from_number (ns ++ replicate count 0) ≡ map demand_from_number ns ++ replicate count Demanded.Dead
dead_demands_pushed ns count = grind (arith, common_steps, map-append, map_zeros)

pub demand_found : (ns : List ℕ) (place : ℕ) →
    demand_from_number (unwrap_or (slice_get ns place) 0)
    ≡ unwrap_or (slice_get (map demand_from_number ns) place) Demanded.Dead
demand_found = at_place demand_from_number

pub demand_numbers : (ns : List ℕ) →
    sparse_list_numbers demand_number (map demand_from_number ns) ≡ length ns ∷ sparse_entries_from 0 ns ++ 0 ∷ []
demand_numbers = length_prefixed demand_from_number demand_number demand_back

pub demand_tests : (ns ms : List ℕ) →
    pointwise nat_eq ns ms ≡ pointwise same_demand (map demand_from_number ns) (map demand_from_number ms)
demand_tests = same_tests demand_from_number demand_number demand_back same_demand demand_decides
