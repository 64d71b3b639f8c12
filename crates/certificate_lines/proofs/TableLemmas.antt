-- The tables of ports, and the ports in a box.
use Rattle.certificate_lines.proofs.Imports.{ArePortTableFields, ArePortsInLayout, AreRowsWithPortsNumbered, Bool, Box2}
use Rattle.certificate_lines.proofs.Imports.{Cell, Circuit, HaveDistinctCells, Inside, LayoutHeader, List, None, Option}
use Rattle.certificate_lines.proofs.Imports.{Port, Some, [], and_parts, ap, ap₂, arith, cell, cell_itself, cell_same}
use Rattle.certificate_lines.proofs.Imports.{common_steps, drop, entry_place, entry_place_by_row_number, eqb-true}
use Rattle.certificate_lines.proofs.Imports.{false, flat_map, get_or, get_or-set_same, get_or_default}
use Rattle.certificate_lines.proofs.Imports.{get_or_from_slice_get, if◌then◌else◌, in_box, inl, inr, is_cell_at}
use Rattle.certificate_lines.proofs.Imports.{is_local, is_nonlocal_signal, length, length-replicate, length-set}
use Rattle.certificate_lines.proofs.Imports.{list_all, list_any, list_any-append, map, nat_eq, nat_tests, not}
use Rattle.certificate_lines.proofs.Imports.{option_map, or-false, port_at, port_number_at, pos, range_with_len}
use Rattle.certificate_lines.proofs.Imports.{rectangle_cells, refl, replicate, row_cells, set, slice_get}
use Rattle.certificate_lines.proofs.Imports.{slice_get-get_or, slice_get-map, slice_get_within, subst, suc, sym, take}
use Rattle.certificate_lines.proofs.Imports.{take-suc, to_z, true, w32, whole, wire_of, zero, ℕ, ℤ, ◌&&◌, ◌*◌, ◌++◌}
use Rattle.certificate_lines.proofs.Imports.{◌+◌, ◌-◌, ◌<◌, ◌||◌, ◌∙◌, ◌∷◌, ◌≡◌, ◌≤◌}
use Rattle.lemmas.proofs.Common.{and_or_self, and_zero_l, bit_and, bit_or, cases_Bool, get_or-drop, get_or-set_other}
use Rattle.lemmas.proofs.Common.{length-take-le, list_all-append, mul-le-mul_right, or_comm, or_zero_l, same_truth}
use Rattle.bbm_rule.proofs.CellLists.{cast_cell, none_in_row, row_more, rows_found}
use Rattle.certificate_lines.specs.PortTables.{ArePortsInBox, entry_or_zero, number_with_port_in_front}
use Rattle.certificate_lines.proofs.RowLemmas.{entry_few, entry_own, filled, filled_less, filled_more, filled_none}
use Rattle.certificate_lines.proofs.Lists.{passed, any_at, some_is}
use Rattle.certificate_lines.proofs.LayoutPorts.{port_stands, none_stands}
use Rattle.certificate_lines.proofs.PortLemmas.{cell_passed, has_cell}
use Rattle.bbm_rule.proofs.RectangleLemmas.{in_box_cells}
use Rattle.lemmas.specs.Bounds.{max_side}

-- ---- the ports in a box

port_from_words : (ports : List Port) → HaveDistinctCells ports → (i : ℕ) (p : Port) → slice_get ports i ≡ Some p →
    (o : Option (List ℕ)) → port_at ports p.cell.x p.cell.y ≡ o → o ≡ Some p.name
port_from_words ports apart i p at None e = absurd (none_stands ports p.cell.x p.cell.y e i p at (cell_itself p.cell))
port_from_words ports apart i p at (Some name) e =
    let s = port_stands ports p.cell.x p.cell.y name e in
    let same : s.number ≡ i = apart s.number i s.port p s.numbered at (cell_same s.port.cell p.cell s.stands) in
    let here : s.port ≡ p = some_is s.port p (sym s.numbered ∙ ap (λ (k : ℕ). slice_get ports k) same ∙ at) in
    ap (λ (n : List ℕ). Some n) (sym s.named ∙ ap (λ (q : Port). q.name) here)

-- where no two ports stand at one cell, each is the port at its cell
pub port_there : (ports : List Port) → HaveDistinctCells ports → (i : ℕ) (p : Port) → slice_get ports i ≡ Some p →
    port_at ports p.cell.x p.cell.y ≡ Some p.name
port_there ports apart i p at = port_from_words ports apart i p at _ refl

-- a signal that is not local has a name
passed_name : (c : Circuit) (local : List ℕ) (o : Option (List ℕ)) → is_nonlocal_signal c local o ≡ true →
    (name : List ℕ) × (o ≡ Some name) × (not (is_local c local name) ≡ true)
passed_name c local o h1 = grind (arith, common_steps)

module _ (ports : List Port) (apart : HaveDistinctCells ports) (b : Box2) (c : Circuit) (local : List ℕ) where
  abbrev by_cell : Cell → Bool
  by_cell d = is_nonlocal_signal c local (port_at ports d.x d.y)

  abbrev by_port : Port → Bool
  by_port p = in_box b p.cell.x p.cell.y && not (is_local c local p.name)

  from_cells : list_any by_cell (rectangle_cells b) ≡ true → list_any by_port ports ≡ true
  from_cells h =
      let r = cell_passed by_cell (rectangle_cells b) h in
      let n = passed_name c local (port_at ports r.0.x r.0.y) r.2 in
      let p = port_stands ports r.0.x r.0.y n.0 n.1 in
      let inside : in_box b p.port.cell.x p.port.cell.y ≡ true = grind (arith, common_steps, cell_same, in_box_cells) in
      let named : not (is_local c local p.port.name) ≡ true = ap (λ n. not (is_local c local n)) p.named ∙ n.2 in
      any_at by_port ports p.number p.port p.numbered (rw (inside, named) refl)

  from_ports : list_any by_port ports ≡ true → list_any by_cell (rectangle_cells b) ≡ true
  from_ports h =
      let r = passed by_port ports h in
      let both = and_parts (in_box b r.element.cell.x r.element.cell.y) (not (is_local c local r.element.name))
      r.passes in
      let there = port_there ports apart r.place r.element r.stands in
      has_cell by_cell (rectangle_cells b) r.element.cell (in_box_cells b r.element.cell.x r.element.cell.y ∙ both.0)
      (ap (is_nonlocal_signal c local) there ∙ both.1)

  pub ports_in_box : list_any by_cell (rectangle_cells b) ≡ list_any by_port ports
  ports_in_box = same_truth _ _ from_cells from_ports

-- the ports at one cell more
pub row_named : (test : Cell → Bool) (here : Bool) (x y k : ℕ) → x ≤ k → k < max_side → y < max_side →
    here ≡ test (record { x = to_z w32 k; y = to_z w32 y }) →
    (list_any test (row_cells x (k - x) y) || here) ≡ list_any test (row_cells x (k + 1 - x) y)
row_named test here x y k from low row is =
    let n : k + 1 - x ≡ (k - x) + 1 = omega arith in
    ap (λ b. list_any test (row_cells x (k - x) y) || b)
    (is ∙ ap test (cast_cell k y low row) ∙ sym (or-false (test (cell k y))))
    ∙ sym (list_any-append test (row_cells x (k - x) y) (cell k y ∷ []))
    ∙ ap (list_any test) (sym (row_more x (k - x) y k (omega arith)))
    ∙ ap (λ (m : ℕ). list_any test (row_cells x m y)) (sym n)

-- and at the cells of one row more
pub rows_named : (test : Cell → Bool) (x w y k : ℕ) → y ≤ k →
    (list_any test (flat_map (row_cells x w) (range_with_len y (k - y))) || list_any test (row_cells x w k))
    ≡ list_any test (flat_map (row_cells x w) (range_with_len y (k + 1 - y)))
rows_named test x w y k from = grind (arith, common_steps, rows_found)

-- and at the cells of rows of which none passes
pub none_in_rows : (test : Cell → Bool) (x w y n : ℕ) →
    ((m k : ℕ) → m < n → k < w → test (cell (x + k) (y + m)) ≡ false) →
    list_any test (flat_map (row_cells x w) (range_with_len y n)) ≡ false
none_in_rows test x w y zero none = refl
none_in_rows test x w y (suc n) none =
    let here : y + 0 ≡ y = omega arith in
    list_any-append test (row_cells x w y) (flat_map (row_cells x w) (range_with_len (y + 1) n))
    ∙ ap₂ (λ a b. a || b) (none_in_row test x w y (λ k l.
    subst (λ (r : ℕ). test (cell (x + k) r) ≡ false) here (none 0 k (omega arith) l)))
    (none_in_rows test x w (y + 1) n (λ m k lm lk.
    let e : y + suc m ≡ y + 1 + m = omega arith in rw e at (none (suc m) k (omega (arith, lm)) lk)))

-- the ports of both kinds
pub both_ports : (p q : List Port) → HaveDistinctCells p → HaveDistinctCells q →
    (b : Box2) (c : Circuit) (local : List ℕ)
    → (list_any (λ d. is_nonlocal_signal c local (port_at p d.x d.y)) (rectangle_cells b)
    || list_any (λ d. is_nonlocal_signal c local (port_at q d.x d.y)) (rectangle_cells b))
    ≡ list_any (λ r. in_box b r.cell.x r.cell.y && not (is_local c local r.name)) (p ++ q)
both_ports p q apart apart' b c local = grind (arith, common_steps, ports_in_box, list_any-append)

-- ---- the number of the port at a cell

no_number : (b : Bool) (n : ℕ) → (if b then 1 else number_with_port_in_front n) ≡ 0 → (b ≡ false) × (n ≡ 0)
no_number b n h1 = grind (arith, common_steps)

-- no number, no port
pub unnumbered : (ports : List Port) (x y : ℤ) → port_number_at ports x y ≡ 0 → port_at ports x y ≡ None
unfolding port_number_at port_at
unnumbered [] x y e = refl
unnumbered (p ∷ ports) x y e = grind (arith, common_steps, no_number, unnumbered ports x y)

-- the port of a number
pub record IsNumbered (ports : List Port) (k : ℕ) (x y : ℤ) : Type 0 where
  pub within : k < length ports
  pub named : (d : Port) → Some (get_or ports k d).name ≡ port_at ports x y

numbered_by : (b : Bool) (n k : ℕ) (p : Port) (ports : List Port) (x y : ℤ) → is_cell_at p.cell x y ≡ b →
    ((j : ℕ) → n ≡ suc j → IsNumbered ports j x y)
    → (if b then 1 else number_with_port_in_front n) ≡ suc k → IsNumbered (p ∷ ports) k x y
unfolding port_at
numbered_by true n zero p ports x y here more e = record { within = omega arith; named = λ d. rw here refl }
numbered_by true n (suc k) p ports x y here more e = absurd (omega arith)
numbered_by false zero k p ports x y here more e = absurd cc
numbered_by false (suc n) zero p ports x y here more e = absurd (omega arith)
numbered_by false (suc n) (suc k) p ports x y here more e =
    let same : n ≡ k = omega arith in
    let rest = more k (ap suc same) in
    record { within = omega (arith, rest.within); named = λ d. rest.named d ∙ rw here refl }

pub numbered : (ports : List Port) (k : ℕ) (x y : ℤ) → port_number_at ports x y ≡ suc k → IsNumbered ports k x y
unfolding port_number_at
numbered [] k x y e = absurd cc
numbered (p ∷ ports) k x y e =
    numbered_by (is_cell_at p.cell x y) (port_number_at ports x y) k p ports x y refl
    (λ j is. numbered ports j x y is) e

pub numbered_below : (ports : List Port) (n : ℕ) (x y : ℤ) → n ≡ port_number_at ports x y → 0 < n →
    IsNumbered ports (n - 1) x y
numbered_below ports zero x y e some = absurd (omega arith)
numbered_below ports (suc k) x y e some =
    subst (λ (j : ℕ). IsNumbered ports j x y) (omega arith) (numbered ports k x y (sym e))

-- the wire of a numbered port
pub numbered_wire : (c : Circuit) (ports : List Port) (wires : List (Option ℕ)) (k : ℕ) (x y : ℤ) (w : Option ℕ) →
    wires ≡ map (λ p. wire_of c p.name) ports → IsNumbered ports k x y → w ≡ get_or wires k w →
    Some w ≡ option_map (wire_of c) (port_at ports x y)
numbered_wire c ports wires k x y w are is at =
    let q : Port = get_or ports k (record { cell = record { x = pos 0; y = pos 0 }; name = [] }) in
    let there : slice_get wires k ≡ Some (wire_of c q.name) =
    ap (λ ws. slice_get ws k) are ∙ slice_get-map (λ (p : Port). wire_of c p.name) ports k
    ∙ ap (option_map (λ (p : Port). wire_of c p.name)) (slice_get-get_or ports k _ is.within) in
    ap (λ (o : Option ℕ). Some o) (at ∙ get_or_from_slice_get wires k (wire_of c q.name) w there)
    ∙ ap (option_map (wire_of c)) (is.named _)

-- ---- one more port

push_elsewhere : (ports : List Port) (p : Port) (x y : ℤ) → is_cell_at p.cell x y ≡ false →
    port_number_at (ports ++ p ∷ []) x y ≡ port_number_at ports x y
unfolding port_number_at
push_elsewhere [] p x y off = rw off refl
push_elsewhere (q ∷ ports) p x y off = rw (push_elsewhere ports p x y off) refl

push_here : (ports : List Port) (p : Port) (x y : ℤ) → is_cell_at p.cell x y ≡ true → port_number_at ports x y ≡ 0 →
    port_number_at (ports ++ p ∷ []) x y ≡ suc (length ports)
unfolding port_number_at
push_here [] p x y on none = rw on refl
push_here (q ∷ ports) p x y on none = grind (arith, common_steps, no_number, push_here ports p x y on)

none_there : (ports : List Port) (x y : ℤ) →
    ((i : ℕ) (q : Port) → slice_get ports i ≡ Some q → is_cell_at q.cell x y ≡ true → ⊥) → port_number_at ports x y ≡ 0
unfolding port_number_at
none_there [] x y none = refl
none_there (q ∷ ports) x y none =
    let off : is_cell_at q.cell x y ≡ false = not_true (is_cell_at q.cell x y) (none 0 q refl) in
    rw (off, none_there ports x y (λ i p e. none (suc i) p e)) refl
  where
    not_true : (b : Bool) → (b ≡ true → ⊥) → b ≡ false
    not_true b h1 = grind (arith, common_steps)

within_take : (xs : List Port) (k i : ℕ) (q : Port) → slice_get (take k xs) i ≡ Some q →
    (i < k) × (slice_get xs i ≡ Some q)
within_take [] zero i q e = absurd cc
within_take [] (suc k) i q e = absurd cc
within_take (x ∷ xs) zero i q e = absurd cc
within_take (x ∷ xs) (suc k) zero q e = (omega arith, e)
within_take (x ∷ xs) (suc k) (suc i) q e = let r = within_take xs k i q e in (omega (arith, r.0), r.1)

-- entries that are all zero
-- two numbers join to 0 if and only if both are 0
first_zero : (a b : ℕ) → nat_eq (bit_or a b) 0 ≡ true → a ≡ 0
first_zero a b e =
    sym (and_or_self a b)
    ∙ ap (λ (n : ℕ). bit_and n a) (or_comm b a ∙ eqb-true (bit_or a b) 0 e)
    ∙ and_zero_l a

join_zero : (a b : ℕ) → nat_eq (bit_or a b) 0 ≡ (nat_eq a 0 && nat_eq b 0)
join_zero a b = grind (arith, common_steps, cases_Bool, nat_tests, first_zero, or_zero_l)

-- numbers that join to 0 are 0, and so with one more
pub one_more_zero : (numbers : List ℕ) (i joined : ℕ) → i < length numbers →
    nat_eq joined 0 ≡ list_all (λ m. nat_eq m 0) (take i numbers) →
    nat_eq (bit_or joined (get_or numbers i 0)) 0 ≡ list_all (λ m. nat_eq m 0) (take (i + 1) numbers)
one_more_zero numbers i joined lt so = grind (arith, common_steps, join_zero, take-suc, list_all-append)

zero_at : (numbers : List ℕ) (n k : ℕ) → list_all (λ m. nat_eq m 0) (take n numbers) ≡ true → k < n →
    get_or numbers k 0 ≡ 0
zero_at [] n zero all l = refl
zero_at [] n (suc k) all l = refl
zero_at (m ∷ numbers) zero k all l = absurd (omega arith)
zero_at (m ∷ numbers) (suc n) zero all l = let p = and_parts _ _ all in eqb-true m 0 p.0
zero_at (m ∷ numbers) (suc n) (suc k) all l = zero_at numbers n k (and_parts _ _ all).1 (omega arith)

pub part_zero : (numbers : List ℕ) (p n k : ℕ) → list_all (λ m. nat_eq m 0) (take n (drop p numbers)) ≡ true → k < n →
    get_or numbers (p + k) 0 ≡ 0
part_zero numbers p n k all l = sym (get_or-drop p numbers k 0) ∙ zero_at (drop p numbers) n k all l

pub few_entries : (count w h : ℕ) → count ≤ h → w ≤ max_side → h ≤ max_side → count * w ≤ 16777216
few_entries count w h few p q = grind (arith, common_steps, mul-le-mul_right)

pub entry_is : (numbers : List ℕ) (place n : ℕ) → n ≡ get_or numbers place n → place < length numbers →
    n ≡ get_or numbers place 0
entry_is numbers place n is lt = is ∙ get_or_default numbers place n 0 lt

pub placed : (numbers : List ℕ) (o : Option ℕ) (place : ℕ) → o ≡ Some place →
    entry_or_zero numbers o ≡ get_or numbers place 0
unfolding entry_or_zero
placed numbers o place e = ap (entry_or_zero numbers) e

pub unplaced : (numbers : List ℕ) (o : Option ℕ) → o ≡ None → entry_or_zero numbers o ≡ 0
unfolding entry_or_zero
unplaced numbers o e = ap (entry_or_zero numbers) e

-- an entry at another place
kept_entry : (numbers : List ℕ) (place v : ℕ) (o : Option ℕ) → (o ≡ Some place → ⊥) →
    entry_or_zero (set numbers place v) o ≡ entry_or_zero numbers o
unfolding entry_or_zero
kept_entry numbers place v o h1 = grind (arith, common_steps, get_or-set_other)

-- ---- a table of the ports so far

pub record IsFilling (b : Box2) (ports : List Port) (rows : List ℕ) (count k : ℕ) (numbers : List ℕ) : Type 0 where
  pub sized : length numbers ≡ count * b.w
  pub numbered : (x y : ℤ) → in_box b x y ≡ true →
      entry_or_zero numbers (entry_place b rows x y) ≡ port_number_at (take k ports) x y
  pub counted : filled numbers ≡ k

no_entry : (n : ℕ) (o : Option ℕ) → entry_or_zero (replicate n zero) o ≡ 0
unfolding entry_or_zero
no_entry n o = grind (arith, common_steps)

pub no_ports : (b : Box2) (ports : List Port) (rows : List ℕ) (count n : ℕ) → n ≡ count * b.w →
    IsFilling b ports rows count 0 (replicate n zero)
unfolding port_number_at
no_ports b ports rows count n is = grind (arith, common_steps, length-replicate, numbered, no_entry, filled_none)

pub in_whole : (s : LayoutHeader) (b : Box2) → b ≡ whole s → (ports : List Port) → ArePortsInLayout s ports →
    ArePortsInBox b ports
unfolding in_box
in_whole s b is ports on_board i p at = ap (λ (a : Box2). in_box a p.cell.x p.cell.y) is ∙ on_board i p at

module _ (b : Box2) (ports : List Port) (apart : HaveDistinctCells ports) (inside : ArePortsInBox b ports)
    (rows : List ℕ)
    (count : ℕ) (are : AreRowsWithPortsNumbered b ports rows count) (k : ℕ) (p : Port) (at : slice_get ports k ≡ Some p)
    (place : ℕ) (there : entry_place b rows p.cell.x p.cell.y ≡ Some place) (numbers : List ℕ)
    (so_far : IsFilling b ports rows count k numbers) where
  here_inside : in_box b p.cell.x p.cell.y ≡ true
  here_inside = inside k p at

  not_before : (i : ℕ) (q : Port) → slice_get (take k ports) i ≡ Some q → is_cell_at q.cell p.cell.x p.cell.y ≡ true → ⊥
  not_before i q e same =
      let r = within_take ports k i q e in
      let once : i ≡ k = apart i k q p r.1 at (cell_same q.cell p.cell same) in
      absurd (omega (arith, r.0))

  unnumbered_so_far : port_number_at (take k ports) p.cell.x p.cell.y ≡ 0
  unnumbered_so_far = none_there (take k ports) p.cell.x p.cell.y not_before

  entry_free : get_or numbers place 0 ≡ 0
  entry_free = grind (arith, common_steps, placed, numbered, here_inside, unnumbered_so_far)

  pub entry_there : place < length numbers
  entry_there =
      let lt = entry_few b ports rows count are p.cell.x p.cell.y place here_inside there in
      omega (arith, lt, so_far.sized)

  pub number_small : k < count * b.w
  number_small = grind (arith, common_steps, filled_less, entry_there, entry_free)

  within : k < length ports
  within = slice_get_within ports k p at

  suc_is : k + 1 ≡ suc k
  suc_is = omega arith

  longer : take (k + 1) ports ≡ take k ports ++ p ∷ []
  longer =
      ap (λ (j : ℕ). take j ports) suc_is ∙ take-suc ports k p within
      ∙ ap (λ (q : Port). take k ports ++ q ∷ [])
      (some_is (get_or ports k p) p (sym (slice_get-get_or ports k p within) ∙ at))

  so_many : length (take k ports) ≡ k
  so_many = length-take-le k ports (omega (arith, within))

  numbered_after : (c : Cell) → in_box b c.x c.y ≡ true → (on : Bool) → is_cell_at p.cell c.x c.y ≡ on
      → entry_or_zero (set numbers place (k + 1)) (entry_place b rows c.x c.y)
      ≡ port_number_at (take k ports ++ p ∷ []) c.x c.y
  numbered_after c h true on =
      let same : p.cell ≡ c = cell_same p.cell c on in
      subst (λ (d : Cell). entry_or_zero (set numbers place (k + 1)) (entry_place b rows d.x d.y)
      ≡ port_number_at (take k ports ++ p ∷ []) d.x d.y) same
      (placed (set numbers place (k + 1)) (entry_place b rows p.cell.x p.cell.y) place there
      ∙ get_or-set_same numbers place (k + 1) 0 entry_there
      ∙ suc_is ∙ ap suc (sym so_many)
      ∙ sym (push_here (take k ports) p p.cell.x p.cell.y (cell_itself p.cell) unnumbered_so_far))
  numbered_after c h false off =
      kept_entry numbers place (k + 1) (entry_place b rows c.x c.y)
      (λ same. clash (ap (λ (d : Cell). is_cell_at p.cell d.x d.y)
      (entry_own b ports rows count are c p.cell place h here_inside same there)))
      ∙ so_far.numbered c.x c.y h ∙ sym (push_elsewhere (take k ports) p c.x c.y off)
    where
      clash : is_cell_at p.cell c.x c.y ≡ is_cell_at p.cell p.cell.x p.cell.y → ⊥
      clash e = cc (e, off, cell_itself p.cell)

  pub one_more : (number : ℕ) → number ≡ k + 1 → IsFilling b ports rows count (k + 1) (set numbers place number)
  one_more number also = rw also (record {
    sized = length-set numbers place (k + 1) ∙ so_far.sized;
    numbered = λ x y h. numbered_after (record { x = x; y = y }) h _ refl
        ∙ ap (λ (ps : List Port). port_number_at ps x y) (sym longer);
    counted = grind (arith, common_steps, filled, suc_is, filled_more, entry_there, entry_free);
  })

-- ---- outside

not_inside : (b : Box2) (c : Cell) (x y : ℤ) → in_box b x y ≡ false → in_box b c.x c.y ≡ true →
    is_cell_at c x y ≡ true → ⊥
not_inside b c x y out inside here = grind (arith, common_steps, cell_same)

no_name : (ports : List Port) (x y : ℤ) → ((name : List ℕ) → port_at ports x y ≡ Some name → ⊥) →
    (o : Option (List ℕ)) → port_at ports x y ≡ o → o ≡ None
no_name ports x y h1 o h2 = grind (arith, common_steps)

pub none_outside : (b : Box2) (ports : List Port) → ArePortsInBox b ports → (x y : ℤ) → in_box b x y ≡ false →
    port_at ports x y ≡ None
none_outside b ports inside x y out =
    no_name ports x y (λ name e. let r = port_stands ports x y name e in
    not_inside b r.port.cell x y out (inside r.number r.port r.numbered) r.stands) _ refl

-- ---- rows without a port

-- no port is in a row of the number 0
pub row_empty : (a : Inside) → ArePortTableFields a → (x : ℤ) (y : ℕ) → get_or a.rows.items (y - a.area.y) 0 ≡ 0 →
    port_at a.ports.now x (pos y) ≡ None
unfolding entry_place_by_row_number
row_empty a is x y none = elim (cases_Bool (in_box a.area x (pos y))) [
  | inl inside ↦ grind (arith, common_steps, unnumbered, unplaced)
  | inr outside ↦ is.elsewhere x (pos y) outside
]
