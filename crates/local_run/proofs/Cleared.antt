-- Values that are cleared under the assignments under which some used gate lacks a row
use Rattle.local_run.proofs.Imports.{AreValueRows, AreValueRowsAt, List, Netlist, Satisfies, Valuation, and-true, arith}
use Rattle.local_run.proofs.Imports.{bit, bit-and, bit_and, bit_of_row, by_lt_or_le, common_steps, length, subst, sym}
use Rattle.local_run.proofs.Imports.{true, value_of, ℕ, ◌%◌, ◌*◌, ◌<◌, ◌≡◌, ◌≤◌}
use Rattle.lemmas.proofs.Common.{slice_index, mod-mul-add, mul_comm}
use Rattle.module_box.specs.declared.values.ValueRows.{ValueRows}
use Rattle.local_run.specs.Scans.{KeepsDefinedValues}

-- the words below a place are cleared, and the others are the old ones
pub record AreCleared (defined : List ℕ) (place : ℕ) (old new : List ℕ) : Type 0 where
  pub long : length new ≡ length old
  pub below : (k : ℕ) → k < place →
      slice_index new k ≡ bit_and (slice_index old k) (slice_index defined (k % length defined))
  pub above : (k : ℕ) → place ≤ k → slice_index new k ≡ slice_index old k

-- a bit of a defined assignment stays
pub cleared_keeps : (defined : List ℕ) (place : ℕ) (old new : List ℕ) → AreCleared defined place old new →
    KeepsDefinedValues defined old new
unfolding value_of bit_of_row
cleared_keeps defined place old new c a w small is =
    grind (arith, common_steps, common_steps, by_lt_or_le, bit-and, and-true, mul_comm, mod-mul-add)

-- so the rows of words stay what they are to be
pub rows_kept : (n : Netlist) (words : ℕ) (old new : ValueRows) → new.defined ≡ old.defined →
    new.undefined ≡ old.undefined → length new.values.items ≡ length old.values.items →
    KeepsDefinedValues old.defined.items old.values.items new.values.items → AreValueRows n words old →
    AreValueRows n words new
rows_kept n words old new whole lacking long keeps rows = grind (arith, common_steps, at)
  where
    Stay : ℕ → Type 0
    Stay n = (a w : ℕ) → a < 64 * n → bit_of_row old.defined.items a ≡ true →
        value_of n new.values.items a w ≡ value_of n old.values.items a w

    stay : Stay words
    stay = subst Stay rows.wide keeps

    at : (a : ℕ) → a < 64 * words → AreValueRowsAt n words a old.values.items old.undefined.items old.defined.items →
        AreValueRowsAt n words a new.values.items new.undefined.items new.defined.items
    at a small h = rw (whole, lacking) (record {
      local = λ e. subst (λ (v : Valuation). Satisfies n (bit a) v) (sym (λ i w. stay a w small e i)) (h.local e);
      undefined = h.undefined;
      none = h.none;
    })
