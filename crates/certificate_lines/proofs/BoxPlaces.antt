-- The places of the cells of a box, row by row
use Rattle.certificate_lines.proofs.Imports.{Box2, Cell, List, Some, [], ap, ap₂, arith, cell, cell_itself}
use Rattle.certificate_lines.proofs.Imports.{common_steps, flat_map, in_box, in_box_nats, is_cell_at, length}
use Rattle.certificate_lines.proofs.Imports.{length-map, map, place_in, pos, range_with_len, rectangle_cells, refl}
use Rattle.certificate_lines.proofs.Imports.{row_cells, slice_get, suc, sym, true, zero, ℕ, ℤ, ◌*◌, ◌++◌, ◌+◌, ◌-◌, ◌<◌}
use Rattle.certificate_lines.proofs.Imports.{◌∙◌, ◌∷◌, ◌≡◌, ◌≤◌}
use Rattle.lemmas.proofs.Common.{length-append, unwrap_or, mapped_at}
use Rattle.certificate_lines.proofs.Lists.{kept, any_at, some_is}
use Rattle.bbm_rule.proofs.RectangleLemmas.{in_box_cells}

-- ---- the cells of a box, row by row

-- an element behind the first n
pub skipped : {A : Type 0} (xs ys : List A) (n i : ℕ) → length xs ≡ n → slice_get (xs ++ ys) (n + i) ≡ slice_get ys i
skipped [] ys n i e = ap (λ (k : ℕ). slice_get ys k) (omega arith)
skipped (x ∷ xs) ys n i e = grind (arith, common_steps, skipped xs ys (length xs) i refl)

row_length : (x n y : ℕ) → length (row_cells x n y) ≡ n
row_length x zero y = refl
row_length x (suc n) y = ap (λ (k : ℕ). suc k) (row_length (x + 1) n y)

same_place : (x y u v : ℕ) → x ≡ u → y ≡ v → Some (cell x y) ≡ Some (cell u v)
same_place x y u v e f = ap₂ (λ a b. Some (cell a b)) e f

row_place : (x n y k : ℕ) → k < n → slice_get (row_cells x n y) k ≡ Some (cell (x + k) y)
row_place x zero y k h = absurd (omega arith)
row_place x (suc n) y zero h = same_place _ y _ y (omega arith) refl
row_place x (suc n) y (suc k) h = row_place (x + 1) n y k (omega arith) ∙ same_place _ y _ y (omega arith) refl

next_row : (r w k : ℕ) → suc r * w + k ≡ w + (r * w + k)
next_row r w k = omega arith

first_row : (w k : ℕ) → 0 * w + k ≡ k
first_row w k = omega arith

rows_length : (x w y h : ℕ) → length (flat_map (row_cells x w) (range_with_len y h)) ≡ h * w
rows_length x w y zero = omega arith
rows_length x w y (suc h) = grind (arith, common_steps, rows_length x w (y + 1) h, length-append, row_length)

rows_place : (x w y h r k : ℕ) → r < h → k < w →
    slice_get (flat_map (row_cells x w) (range_with_len y h)) (r * w + k) ≡ Some (cell (x + k) (y + r))
rows_place x w y zero r k low near = absurd (omega arith)
rows_place x w y (suc h) zero k low near =
    ap (λ (i : ℕ). slice_get (row_cells x w y ++ flat_map (row_cells x w) (range_with_len (y + 1) h)) i) (first_row w k)
    ∙ kept (row_cells x w y) (flat_map (row_cells x w) (range_with_len (y + 1) h)) k (cell (x + k) y)
    (row_place x w y k near) ∙ same_place (x + k) _ (x + k) _ refl (omega arith)
rows_place x w y (suc h) (suc r) k low near =
    ap (λ (i : ℕ). slice_get (row_cells x w y ++ flat_map (row_cells x w) (range_with_len (y + 1) h)) i)
    (next_row r w k)
    ∙ skipped (row_cells x w y) (flat_map (row_cells x w) (range_with_len (y + 1) h)) w (r * w + k) (row_length x w y)
    ∙ rows_place x w (y + 1) h r k (omega arith) near
    ∙ same_place (x + k) _ (x + k) _ refl (omega arith)

-- the cells of a box are as many as its width times its height
pub box_length : (b : Box2) → length (rectangle_cells b) ≡ b.w * b.h
unfolding rectangle_cells
box_length b = rows_length b.x b.w b.y b.h ∙ omega arith

-- the place of a cell of a box is where it stands in the list of them
nat_place : (b : Box2) (x y : ℕ) → b.x ≤ x → x < b.x + b.w → b.y ≤ y → y < b.y + b.h →
    slice_get (rectangle_cells b) (place_in b (pos x) (pos y)) ≡ Some (cell x y)
unfolding rectangle_cells
nat_place b x y left right top bottom =
    let low : y - b.y < b.h = omega arith in
    let near : x - b.x < b.w = omega arith in
    rows_place b.x b.w b.y b.h (y - b.y) (x - b.x) low near ∙ same_place _ _ x y (omega arith) (omega arith)

pub box_place : (b : Box2) (x y : ℤ) → in_box b x y ≡ true →
    slice_get (rectangle_cells b) (place_in b x y) ≡ Some (record { x = x; y = y })
box_place b x y h = grind (arith, common_steps, in_box_nats, nat_place)

-- the cells of a box are in it
pub cells_inside : (b : Box2) (k : ℕ) (c : Cell) → slice_get (rectangle_cells b) k ≡ Some c → in_box b c.x c.y ≡ true
cells_inside b k c e = sym (in_box_cells b c.x c.y)
    ∙ any_at (λ (d : Cell). is_cell_at d c.x c.y) (rectangle_cells b) k c e (cell_itself c)

-- ---- a list with an element for each cell of a box

mapped_from : {A B : Type 0} (g : A → B) (xs : List A) (i : ℕ) (b : B) (other : A) → slice_get (map g xs) i ≡ Some b →
    g (unwrap_or (slice_get xs i) other) ≡ b
mapped_from g [] i b other e = absurd cc
mapped_from g (x ∷ xs) zero b other e = some_is (g x) b e
mapped_from g (x ∷ xs) (suc i) b other e = mapped_from g xs i b other e

pub same_count : {A B : Type 0} (g : A → B) (f : Cell → B) (b : Box2) (xs : List A) →
    map g xs ≡ map f (rectangle_cells b) → length xs ≡ b.w * b.h
same_count g f b xs e = sym (length-map xs g) ∙ ap length e ∙ length-map (rectangle_cells b) f ∙ box_length b

pub found_at : {A B : Type 0} (g : A → B) (f : Cell → B) (b : Box2) (xs : List A) (other : A) →
    map g xs ≡ map f (rectangle_cells b)
    → (x y : ℤ) → in_box b x y ≡ true →
    g (unwrap_or (slice_get xs (place_in b x y)) other) ≡ f (record { x = x; y = y })
found_at g f b xs other e x y h =
    mapped_from g xs (place_in b x y) (f (record { x = x; y = y })) other
    (ap (λ (l : List _). slice_get l (place_in b x y)) e
    ∙ mapped_at f (rectangle_cells b) (place_in b x y) (record { x = x; y = y }) (box_place b x y h))
