-- The inverse gates that no module keeps
use Rattle.certificate.proofs.Imports.{Bool, Gate, List, ModuleLines, Some, [], append-nil, ap₂, arith, common_steps}
use Rattle.certificate.proofs.Imports.{drop, get_or, get_or_from_slice_get, is_inverse, is_kept, length, not, slice_get}
use Rattle.certificate.proofs.Imports.{sym, unkept_gates_from, ℕ, ◌&&◌, ◌++◌, ◌+◌, ◌<◌, ◌∙◌, ◌∷◌, ◌≡◌, ◌≤◌}
use Rattle.certificate.proofs.Imports.{Circuit, StoredModule, ap, is_among, list_any, map, module_lines, refl, ◌||◌}
use Rattle.lemmas.proofs.Common.{add-one, cond, drop-cons}
use Rattle.certificate_lines.proofs.StoredLemmas.{keeps_with}

-- ---- the gates that nobody keeps

-- those among the first gates are found
pub unkept_more : (all out new : List ℕ) (ms : List ModuleLines) (gs : List Gate) (n : ℕ) (g : Gate)
    (inverse kept : Bool) → n < length gs → slice_get gs n ≡ Some g → inverse ≡ is_inverse g.kind →
    kept ≡ is_kept ms n → new ≡ out ++ cond (inverse && not kept) (n ∷ []) [] →
    out ++ unkept_gates_from ms n (drop n gs) ≡ all → new ++ unkept_gates_from ms (n + 1) (drop (n + 1) gs) ≡ all
unfolding unkept_gates_from
unkept_more all out new ms gs n g inverse kept within at is_inv is_kept more so_far =
    let here : get_or gs n g ≡ g = get_or_from_slice_get gs n g g at in
    let front : drop n gs ≡ g ∷ drop (n + 1) gs =
    drop-cons gs n g within ∙ ap₂ (λ (x : Gate) m. x ∷ drop m gs) here (sym (add-one n)) in
    grind (arith, common_steps)

pub unkept_all : (all out : List ℕ) (ms : List ModuleLines) (gs : List Gate) (n : ℕ) → length gs ≤ n →
    out ++ unkept_gates_from ms n (drop n gs) ≡ all → out ≡ all
unfolding unkept_gates_from
unkept_all all out ms gs n past so_far = grind (arith, common_steps, append-nil)

-- ---- modules as they are kept

pub kept_stored : (c : Circuit) (ms : List StoredModule) (n : ℕ) →
    is_kept (map (module_lines c) ms) n ≡ list_any (λ (m : StoredModule). is_among m.keeps.items n) ms
kept_stored c [] n = refl
kept_stored c (m ∷ ms) n =
    ap₂ (λ a b. a || b) (ap (λ ks. is_among ks n) (keeps_with c m m.halos.items)) (kept_stored c ms n)
