-- The modules of lines after one more line.
use Rattle.certificate_lines.proofs.Imports.{CertificateLine, IsBodyLine, List, ModuleLines, Some, [], add_line, ap}
use Rattle.certificate_lines.proofs.Imports.{append-nil, areas, arith, change_last, common_steps, flat_map}
use Rattle.certificate_lines.proofs.Imports.{flat_map-append, inl, inr, last_of, length, map, module_with_line}
use Rattle.certificate_lines.proofs.Imports.{modules_of, option_map, refl, slice_get, suc, sym, zero, ℕ, ◌++◌, ◌+◌, ◌-◌}
use Rattle.certificate_lines.proofs.Imports.{◌<◌, ◌∙◌, ◌∷◌, ◌≡◌, ◌⊎◌}
use Rattle.lemmas.proofs.Common.{fold_push}
use Rattle.certificate_lines.proofs.Lists.{some_is}

pub modules_push : (es : List CertificateLine) (i : CertificateLine) →
    modules_of (es ++ i ∷ []) ≡ add_line (modules_of es) i
unfolding modules_of
modules_push es i = fold_push add_line [] es i

-- a line that is no module line is one more of the last module
pub body_step : (i : CertificateLine) → IsBodyLine i → (ms : List ModuleLines) →
    add_line ms i ≡ change_last (module_with_line i) ms
unfolding add_line
body_step i h1 ms = grind (arith, common_steps)

pub flat_push : {X A : Type 0} (f : X → List A) (xs : List X) (x : X) → flat_map f (xs ++ x ∷ []) ≡ flat_map f xs ++ f x
flat_push f xs x = flat_map-append f xs (x ∷ []) ∙ ap (λ l. flat_map f xs ++ l) (append-nil (f x))

pub flat_same : {X A : Type 0} (f : X → List A) (xs : List X) (x : X) → f x ≡ [] →
    flat_map f (xs ++ x ∷ []) ≡ flat_map f xs
flat_same f xs x none = flat_push f xs x ∙ ap (λ l. flat_map f xs ++ l) none ∙ append-nil (flat_map f xs)

pub last_pushed : {X : Type 0} (xs : List X) (x : X) → last_of (xs ++ x ∷ []) ≡ Some x
unfolding last_of
last_pushed [] x = refl
last_pushed (y ∷ []) x = refl
last_pushed (y ∷ z ∷ xs) x = last_pushed (z ∷ xs) x

pub last_changed : {X : Type 0} (f : X → X) (xs : List X) → last_of (change_last f xs) ≡ option_map f (last_of xs)
unfolding last_of change_last
last_changed f [] = refl
last_changed f (x ∷ []) = refl
last_changed f (x ∷ y ∷ []) = refl
last_changed f (x ∷ y ∷ z ∷ xs) = last_changed f (y ∷ z ∷ xs)

pub map_changed : {X Y : Type 0} (h : X → Y) (f : X → X) (g : Y → Y) → ((x : X) → h (f x) ≡ g (h x)) → (xs : List X) →
    map h (change_last f xs) ≡ change_last g (map h xs)
unfolding change_last
map_changed h f g same [] = refl
map_changed h f g same (x ∷ []) = ap (λ y. y ∷ []) (same x)
map_changed h f g same (x ∷ y ∷ xs) = ap (λ l. h x ∷ l) (map_changed h f g same (y ∷ xs))

pub unchanged : {X : Type 0} (xs : List X) → change_last (λ x. x) xs ≡ xs
unfolding change_last
unchanged [] = refl
unchanged (x ∷ []) = refl
unchanged (x ∷ y ∷ xs) = ap (λ l. x ∷ l) (unchanged (y ∷ xs))

-- a line more leaves the boxes
pub areas_changed : (i : CertificateLine) (ms : List ModuleLines) →
    areas (change_last (module_with_line i) ms) ≡ areas ms
areas_changed i ms = map_changed (λ (m : ModuleLines). m.area) (module_with_line i) (λ b. b) (λ m. refl) ms
    ∙ unchanged (areas ms)

pub length_changed : {X : Type 0} (f : X → X) (xs : List X) → length (change_last f xs) ≡ length xs
unfolding change_last
length_changed f [] = refl
length_changed f (x ∷ []) = refl
length_changed f (x ∷ y ∷ xs) = ap suc (length_changed f (y ∷ xs))

-- where the last element stands
pub last_at : {X : Type 0} (xs : List X) (x : X) → last_of xs ≡ Some x →
    (i : ℕ) × (i + 1 ≡ length xs) × (slice_get xs i ≡ Some x)
unfolding last_of
last_at [] x e = absurd cc
last_at (y ∷ []) x e = (0, refl, e)
last_at (y ∷ z ∷ xs) x e = let r = last_at (z ∷ xs) x e in (suc r.0, omega (arith, r.1), r.2)

-- an element after the last was changed: one of those before it, or the last one
pub changed_at : {X : Type 0} (f : X → X) (xs : List X) (i : ℕ) (y : X) → slice_get (change_last f xs) i ≡ Some y →
    ((i + 1 < length xs) × (slice_get xs i ≡ Some y))
    ⊎ ((x : X) × (i + 1 ≡ length xs) × (last_of xs ≡ Some x) × (y ≡ f x))
unfolding change_last last_of
changed_at f [] i y e = absurd cc
changed_at f (x ∷ []) zero y e = inr (x, refl, refl, sym (some_is (f x) y e))
changed_at f (x ∷ []) (suc i) y e = absurd cc
changed_at f (x ∷ z ∷ xs) zero y e = inl (omega arith, e)
changed_at f (x ∷ z ∷ xs) (suc i) y e = grind (arith, common_steps, changed_at f (z ∷ xs) i y e)

-- the last of a list by its place
pub last_by_place : {X : Type 0} (xs : List X) → slice_get xs (length xs - 1) ≡ last_of xs
unfolding last_of
last_by_place [] = refl
last_by_place (x ∷ []) = refl
last_by_place (x ∷ y ∷ xs) =
    let here : length (x ∷ y ∷ xs) - 1 ≡ suc (length xs) = omega arith in
    let there : length (y ∷ xs) - 1 ≡ length xs = omega arith in
    ap (slice_get (x ∷ y ∷ xs)) here ∙ ap (slice_get (y ∷ xs)) (sym there) ∙ last_by_place (y ∷ xs)

pub last_mapped : {X Y : Type 0} (h : X → Y) (xs : List X) → last_of (map h xs) ≡ option_map h (last_of xs)
unfolding last_of
last_mapped h [] = refl
last_mapped h (x ∷ []) = refl
last_mapped h (x ∷ y ∷ xs) = last_mapped h (y ∷ xs)
