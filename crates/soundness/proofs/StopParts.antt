-- If all stops of the jobs have a property, all stop lines have it.
use Rattle.soundness.proofs.Imports.{All, All-append, All-cons, All-head, All-nil, All-tail, List, None, Option, Some}
use Rattle.soundness.proofs.Imports.{StopLine, [], arith, common_steps, flat_map, is_local_wire, map, refl, same_Some}
use Rattle.soundness.proofs.Imports.{slice_get, stop_with_wire_number, subst, suc, true, zero, ℕ, ◌∷◌, ◌≡◌}
use Rattle.module_job.specs.declared.job.Stop as listed

pub all_map : {X Y : Type 0} (P : Y → Type 0) (f : X → Y) (xs : List X) → All (λ x. P (f x)) xs → All P (map f xs)
all_map P f [] h = All-nil P
all_map P f (x ∷ xs) h = All-cons P (f x) (map f xs) (All-head (λ z. P (f z)) x xs h)
    (all_map P f xs (All-tail (λ z. P (f z)) x xs h))

pub all_flat : {X A : Type 0} (P : A → Type 0) (f : X → List A) (xs : List X) →
    ((k : ℕ) (x : X) → slice_get xs k ≡ Some x → All P (f x)) → All P (flat_map f xs)
all_flat P f [] h = All-nil P
all_flat P f (x ∷ xs) h = All-append P (f x) (flat_map f xs) (h zero x refl) (all_flat P f xs (λ k. h (suc k)))

-- a name that is local is that of a wire
pub local_wire_is : (local : List ℕ) (o : Option ℕ) → is_local_wire local o ≡ true → (w : ℕ) × (o ≡ Some w)
local_wire_is local o h1 = grind (arith, common_steps)

pub one_said : (P : listed.Stop → Type 0) (s : StopLine) (w : ℕ) (o : Option ℕ) → o ≡ Some w →
    All P (stop_with_wire_number s o) → P (record { at = record { time = s.time; cell = s.cell }; wire = w })
one_said P s w None e h = absurd cc
one_said P s w (Some u) e h =
    subst (λ n. P (record { at = record { time = s.time; cell = s.cell }; wire = n })) (same_Some u w e)
    (All-head P (record { at = record { time = s.time; cell = s.cell }; wire = u }) [] h)
