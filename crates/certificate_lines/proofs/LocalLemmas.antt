-- The lines of local wires after one more cut, and after one more used gate.
use Rattle.certificate_lines.proofs.Imports.{AreLocalLines, Gate, List, Netlist, Some, [], and_parts, append-nil}
use Rattle.certificate_lines.proofs.Imports.{append_assoc, are_new_and_distinct, arith, common_steps, false}
use Rattle.certificate_lines.proofs.Imports.{false_from_not, get_or_from_slice_get, inl, inr, is_among, length}
use Rattle.certificate_lines.proofs.Imports.{length_push, list_all, local_wires, none_at, not, pushed, slice_get}
use Rattle.certificate_lines.proofs.Imports.{slice_get_within, subst, sym, take, true, ℕ, ◌++◌, ◌<◌, ◌∷◌, ◌≡◌}
use Rattle.lemmas.proofs.Common.{All-get_or, take-append_seam}
use Rattle.std.specs.List.{All}
use Rattle.module_box.specs.Locals.{AreDistinct, UsesOnlyKnownWires}
use Rattle.std.proofs.lemmas.List.{take-append-le}
use Rattle.module_box.proofs.WireLists.{different_push}
use Rattle.certificate_lines.proofs.Growing.{flat_push}

-- ---- no wire twice

pub different_append : (ys xs : List ℕ) → AreDistinct xs → are_new_and_distinct xs ys ≡ true → AreDistinct (xs ++ ys)
unfolding are_new_and_distinct
different_append [] xs different new = subst AreDistinct (sym (append-nil xs)) different
different_append (y ∷ ys) xs different new =
    let both = and_parts (not (is_among xs y)) (are_new_and_distinct (xs ++ y ∷ []) ys) new in
    subst AreDistinct (append_assoc xs (y ∷ []) ys)
    (different_append ys (xs ++ y ∷ []) (different_push xs y different (false_from_not (is_among xs y) both.0)) both.1)

-- ---- cuts

pub local_cut : (n : Netlist) (cw : List ℕ) (w : ℕ) → AreLocalLines n cw [] → length cw < 12 →
    is_among (local_wires n cw []) w ≡ false → AreLocalLines n (cw ++ w ∷ []) []
local_cut n cw w l few fresh = grind (arith, common_steps, length_push, none_at, different_push)

-- ---- used gates

pub local_more : (n : Netlist) (cw gs : List ℕ) (k : ℕ) (g : Gate) → slice_get n.gates k ≡ Some g →
    local_wires n cw (gs ++ k ∷ []) ≡ local_wires n cw gs ++ g.outs
local_more n cw gs k g e = grind (arith, common_steps, flat_push)

at_all : (P : ℕ → Type 0) (xs : List ℕ) (i x : ℕ) → All P xs → slice_get xs i ≡ Some x → P x
at_all P xs i x all e = subst P (get_or_from_slice_get xs i x x e) (All-get_or P xs i x (slice_get_within xs i x e) all)

module _ (n : Netlist) (cw gs : List ℕ) (k : ℕ) (g : Gate) (l : AreLocalLines n cw gs)
    (at : slice_get n.gates k ≡ Some g) (lower : All (λ j. j < k) gs)
    (ins : list_all (is_among (local_wires n cw gs)) g.ins ≡ true)
    (new : are_new_and_distinct (local_wires n cw gs) g.outs ≡ true) where
  rises : (i j a b : ℕ) → i < j → slice_get (gs ++ k ∷ []) i ≡ Some a → slice_get (gs ++ k ∷ []) j ≡ Some b → a < b
  rises i j a b lt e f = elim (pushed gs k j b f) [
    | inl old' ↦ grind (arith, common_steps, pushed, slice_get_within)
    | inr last' ↦ elim (pushed gs k i a e) [
      | inl old ↦ subst (λ (x : ℕ). a < x) last'.1 (at_all (λ x. x < k) gs i a lower old)
      | inr last ↦ absurd (omega (arith, last.0, last'.0))
    ]
  ]

  last_known : UsesOnlyKnownWires n (local_wires n cw gs) k
  last_known = grind (arith, common_steps)

  knows : (i a : ℕ) → slice_get (gs ++ k ∷ []) i ≡ Some a →
      UsesOnlyKnownWires n (local_wires n cw (take i (gs ++ k ∷ []))) a
  knows i a e = grind (arith, common_steps, pushed, take-append-le, slice_get_within, take-append_seam, last_known)

  pub local_use : length gs < 64 → AreLocalLines n cw (gs ++ k ∷ [])
  local_use few = grind (arith, common_steps, length_push, rises, knows, local_more, different_append)
