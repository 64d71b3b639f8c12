-- The cells of rows and rectangles.
use Rattle.bbm_rule.proofs.Imports.{Bool, List, [], ap, arith, cases_Bool, common_steps, false, inl, inr, ints}
use Rattle.bbm_rule.proofs.Imports.{nat_lt, nat_tests, refl, suc, sym, true, w32, zero, ℕ, ◌+◌, ◌-◌, ◌<◌}
use Rattle.bbm_rule.proofs.Imports.{◌||◌, ◌∙◌, ◌∷◌, ◌≡◌, ◌≤◌}
use Rattle.bbm_rule.specs.CellLists.{cell, row_cells}
use Rattle.bbm_rule.specs.declared.block.Cell.{Cell}
use Rattle.lemmas.proofs.Common.{append-nil, append_assoc, ap₂, cond, filter, filter-append}
use Rattle.lemmas.proofs.Common.{filter_of_map_range_with_len_more, flat_map, flat_map-append, list_any}
use Rattle.lemmas.proofs.Common.{list_any-append, map-id, map-range_with_len_more, or-true, range_with_len, to_z, ◌++◌}
use Rattle.lemmas.specs.Bounds.{max_side}

pub row_more : (x n y j : ℕ) → x + n ≡ j → row_cells x (n + 1) y ≡ row_cells x n y ++ cell j y ∷ []
row_more x n y j e = map-range_with_len_more (λ c. cell c y) x n j e

range_more : (a n j : ℕ) → a + n ≡ j → range_with_len a (n + 1) ≡ range_with_len a n ++ j ∷ []
range_more a n j e = sym (map-id (range_with_len a (n + 1))) ∙ map-range_with_len_more (λ (k : ℕ). k) a n j e
    ∙ ap (λ (l : List ℕ). l ++ j ∷ []) (map-id (range_with_len a n))

pub flat_map_range_more : {X : Type 0} (f : ℕ → List X) (a n j : ℕ) → a + n ≡ j →
    flat_map f (range_with_len a (n + 1)) ≡ flat_map f (range_with_len a n) ++ f j
flat_map_range_more f a n j e =
    ap (flat_map f) (range_more a n j e) ∙ flat_map-append f (range_with_len a n) (j ∷ [])
    ∙ ap (λ (l : List _). flat_map f (range_with_len a n) ++ l) (append-nil (f j))

-- a cell whose numbers were cast
pub cast_cell : (x y : ℕ) → x < max_side → y < max_side → record { x = to_z w32 x; y = to_z w32 y } ≡ cell x y
cast_cell x y a b = grind (arith, common_steps, ints)

pub row_pushed : (first out out' : List Cell) (x y c : ℕ) → x ≤ c → c < max_side → y < max_side →
    out ≡ first ++ row_cells x (c - x) y → out' ≡ out ++ record { x = to_z w32 c; y = to_z w32 y } ∷ [] →
    out' ≡ first ++ row_cells x (c + 1 - x) y
row_pushed first out out' x y c from low row before now = grind (arith, common_steps, cast_cell, row_more)

pub rows_pushed : (first out out' : List Cell) (x w y k : ℕ) → y ≤ k →
    out ≡ first ++ flat_map (row_cells x w) (range_with_len y (k - y)) → out' ≡ out ++ row_cells x w k →
    out' ≡ first ++ flat_map (row_cells x w) (range_with_len y (k + 1 - y))
rows_pushed first out out' x w y k from before now =
    let n : k + 1 - y ≡ (k - y) + 1 = omega arith in
    now ∙ ap (λ (l : List Cell). l ++ row_cells x w k) before
    ∙ append_assoc first (flat_map (row_cells x w) (range_with_len y (k - y))) (row_cells x w k)
    ∙ ap (λ (l : List Cell). first ++ l) (sym (flat_map_range_more (row_cells x w) y (k - y) k (omega arith)))
    ∙ ap (λ (m : ℕ). first ++ flat_map (row_cells x w) (range_with_len y m)) (sym n)

-- ---- whether some cell of a row passes a test

any_in_row : (test : Cell → Bool) (x n y k : ℕ) → k < n → test (cell (x + k) y) ≡ true →
    list_any test (row_cells x n y) ≡ true
any_in_row test x zero y k l t = absurd (omega arith)
any_in_row test x (suc n) y zero l t = grind (arith, common_steps)
any_in_row test x (suc n) y (suc k) l t =
    let e : x + suc k ≡ x + 1 + k = omega arith in
    let t = rw e at t in
    rw (any_in_row test (x + 1) n y k (omega arith) t) (or-true (test (cell x y)))

pub none_in_row : (test : Cell → Bool) (x n y : ℕ) → ((k : ℕ) → k < n → test (cell (x + k) y) ≡ false) →
    list_any test (row_cells x n y) ≡ false
none_in_row test x zero y none = refl
none_in_row test x (suc n) y none =
    let e : x + 0 ≡ x = omega arith in
    let here = rw e at (none 0 (omega arith)) in
    rw here (none_in_row test (x + 1) n y (λ k l.
    let e : x + suc k ≡ x + 1 + k = omega arith in rw e at (none (suc k) (omega arith))))

-- as the first that passes it tells
pub row_found : (test : Cell → Bool) (x n y first : ℕ) → x ≤ first → first ≤ x + n →
    ((k : ℕ) → x ≤ k → k < first → test (cell k y) ≡ false) → (first < x + n → test (cell first y) ≡ true) →
    nat_lt first (x + n) ≡ list_any test (row_cells x n y)
row_found test x n y first low high none some = elim (cases_Bool (nat_lt first (x + n))) [
  | inl e ↦
      let e' : x + (first - x) ≡ first = omega arith in
      let l : first < x + n = grind (arith, nat_tests) in
      e ∙ sym (any_in_row test x n y (first - x) (omega arith) (rw e' (some l)))
  | inr e ↦
      let le : x + n ≤ first = grind (arith, nat_tests) in
      e ∙ sym (none_in_row test x n y (λ k l. none (x + k) (omega arith) (omega arith)))
]

-- one row more
pub rows_found : (test : Cell → Bool) (x w y k : ℕ) (before here : Bool) → y ≤ k →
    before ≡ list_any test (flat_map (row_cells x w) (range_with_len y (k - y))) →
    here ≡ list_any test (row_cells x w k) →
    (before || here) ≡ list_any test (flat_map (row_cells x w) (range_with_len y (k + 1 - y)))
rows_found test x w y k before here from was now =
    let n : k + 1 - y ≡ (k - y) + 1 = omega arith in
    ap₂ (λ a b. a || b) was now
    ∙ sym (list_any-append test (flat_map (row_cells x w) (range_with_len y (k - y))) (row_cells x w k))
    ∙ ap (list_any test) (sym (flat_map_range_more (row_cells x w) y (k - y) k (omega arith)))
    ∙ ap (λ (m : ℕ). list_any test (flat_map (row_cells x w) (range_with_len y m))) (sym n)

-- ---- rows that are filtered

pub row_filtered : (test : Cell → Bool) (first out out' : List Cell) (x y : ℕ) (b : Bool) → test (cell x y) ≡ b →
    out ≡ first ++ filter test (row_cells 0 x y) → out' ≡ out ++ cond b (cell x y ∷ []) [] →
    out' ≡ first ++ filter test (row_cells 0 (x + 1) y)
row_filtered test first out out' x y b passes before now =
    now ∙ ap (λ (l : List Cell). l ++ cond b (cell x y ∷ []) []) before
    ∙ append_assoc first (filter test (row_cells 0 x y)) (cond b (cell x y ∷ []) [])
    ∙ ap (λ (d : Bool). first ++ (filter test (row_cells 0 x y) ++ cond d (cell x y ∷ []) [])) (sym passes)
    ∙ ap (λ (l : List Cell). first ++ l)
    (sym (filter_of_map_range_with_len_more test (λ c. cell c y) 0 x x (omega arith)))

pub rows_filtered : (test : Cell → Bool) (out out' : List Cell) (w y : ℕ) →
    out ≡ filter test (flat_map (row_cells 0 w) (range_with_len 0 y)) → out' ≡ out ++ filter test (row_cells 0 w y) →
    out' ≡ filter test (flat_map (row_cells 0 w) (range_with_len 0 (y + 1)))
rows_filtered test out out' w y before now =
    now ∙ ap (λ (l : List Cell). l ++ filter test (row_cells 0 w y)) before
    ∙ sym (filter-append test (flat_map (row_cells 0 w) (range_with_len 0 y)) (row_cells 0 w y))
    ∙ ap (filter test) (sym (flat_map_range_more (row_cells 0 w) 0 y y (omega arith)))
