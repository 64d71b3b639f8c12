-- The lines of a good layout can be written, if its ports have names, and no line has a fault after those before it
use Rattle.headline.proofs.Imports.{AllByRecursion, AreFaultless, Ball, Bool, Box2, Cell, CircuitLine, End, HaveNames}
use Rattle.headline.proofs.Imports.{Header, In, IsFaultless, IsNamed, Item, LayoutHeader, LayoutLine, List, Mirror}
use Rattle.headline.proofs.Imports.{None, Option, Out, Pattern, Port, PortNameLists, RefusalCode, Some}
use Rattle.headline.proofs.Imports.{SomethingMissing, TakenCell, Waste, [], and_parts, any_at, ap, append-nil, ap₂}
use Rattle.headline.proofs.Imports.{arith, box_of, bytes_same, cell, cell_fault, code_if, codes, common_steps}
use Rattle.headline.proofs.Imports.{corner_and_sides, decimal, false, has, if_one_word, in_box, in_layout, input_names}
use Rattle.headline.proofs.Imports.{has_taken_cell, is_inside, is_name, is_word_at, layout_grammar, layout_line_fault}
use Rattle.headline.proofs.Imports.{largest_limit_code, line_fault, list_all, list_any, map, name_at, nat_tests}
use Rattle.headline.proofs.Imports.{no_code, not}
use Rattle.headline.proofs.Imports.{number_at, number_written, option_map, or_else, output_names, parts_of}
use Rattle.headline.proofs.Imports.{port_names_of, refl, size_fault, slice_get, slice_get-map, subst, suc, sym, true}
use Rattle.headline.proofs.Imports.{whole, ℕ, ◌&&◌, ◌++◌, ◌+◌, ◌<◌, ◌>>=◌, ◌^◌, ◌||◌, ◌∙◌, ◌∷◌, ◌≡◌, ◌≤◌}
use Rattle.lemmas.proofs.Common.{at_most_by_test, not_lt_test}
use Rattle.module_box.proofs.BoxCells.{in_box_nats}
use Rattle.pattern.specs.Forms.{cell_of_words_from, form_of, cell_after_keyword, port_after_keyword, port_of}
use Rattle.pattern.specs.Forms.{sides_and_steps, size_of}
use Rattle.pattern.specs.Lines.{AreGoodAfter, has_later_kind_before, is_input_cell_named, is_output_cell_named}
use Rattle.pattern.specs.Lines.{missing_port_fault, name_fault, order_fault, rank_of, text_limit_fault, text_size_fault}
use Rattle.soundness.proofs.PortNames.{in_lines, out_lines}
use Rattle.headline.proofs.Written.{HasLine, HasSection, has_section, line_by, name_word}
use Rattle.headline.proofs.WrittenCircuits.{AreNames, decimal_word, has_name, named}
use Rattle.section_text.specs.declared.limits.Limits.{Limits}
use Rattle.section_text.specs.Limits.{most_side, most_steps}
use Rattle.lemmas.specs.Bounds.{max_side, max_steps}

-- ---- sizes

pub record HasLimits (s : LayoutHeader) : Type 0 where
  pub wide : s.w ≤ max_side
  pub high : s.h ≤ max_side
  pub long : s.steps ≤ max_steps

pub has_limits : (s : LayoutHeader) → size_fault s ≡ None → HasLimits s
unfolding size_fault
has_limits s e = grind (arith, common_steps, no_code, and_parts, at_most_by_test)

-- ---- lines

pub number : (n k : ℕ) → n ≤ k → k ≤ max_steps → n < 10 ^ 9
number n k h g = omega (arith, h, g)

pub size_line : (s : LayoutHeader) → s.w < 10 ^ 9 → s.h < 10 ^ 9 → s.steps < 10 ^ 9 → HasLine form_of (Header s)
unfolding form_of is_word_at size_of sides_and_steps number_at
size_line s w h t =
    line_by form_of (Header s) (codes "layout") (decimal s.w ∷ decimal s.h ∷ decimal s.steps ∷ []) refl
    (decimal_word s.w w, (decimal_word s.h h, (decimal_word s.steps t, tt)))
    (λ i. (number_written s.w w i >>= λ w. number_written s.h h i >>= λ h. number_written s.steps t i >>= λ t.
    Some (record { w = w; h = h; steps = t })) >>= λ s. Some (Header s))

pub end_line : HasLine form_of End
unfolding form_of if_one_word is_word_at
end_line = line_by form_of End (codes "end") [] refl tt refl

-- a cell by its numbers
pub record IsNumbered (c : Cell) : Type 0 where
  pub x : ℕ
  pub y : ℕ
  pub is : c ≡ cell x y
  pub x_small : x < 10 ^ 9
  pub y_small : y < 10 ^ 9

pub ball_line : (c : Cell) → IsNumbered c → HasLine form_of (Item (Ball c))
unfolding form_of is_word_at cell_after_keyword cell_of_words_from number_at
ball_line c n =
    subst (λ (d : Cell). HasLine form_of (Item (Ball d))) (sym n.is)
    (line_by form_of (Item (Ball (cell n.x n.y))) (codes "ball") (decimal n.x ∷ decimal n.y ∷ []) refl
    (decimal_word n.x n.x_small, (decimal_word n.y n.y_small, tt))
    (λ i. (number_written n.x n.x_small i >>= λ x. number_written n.y n.y_small i >>= λ y. Some (cell x y)) >>= λ c.
    Some (Item (Ball c))))

pub waste_line : (c : Cell) → IsNumbered c → HasLine form_of (Item (Waste c))
unfolding form_of is_word_at cell_after_keyword cell_of_words_from number_at
waste_line c n =
    subst (λ (d : Cell). HasLine form_of (Item (Waste d))) (sym n.is)
    (line_by form_of (Item (Waste (cell n.x n.y))) (codes "waste") (decimal n.x ∷ decimal n.y ∷ []) refl
    (decimal_word n.x n.x_small, (decimal_word n.y n.y_small, tt))
    (λ i. (number_written n.x n.x_small i >>= λ x. number_written n.y n.y_small i >>= λ y. Some (cell x y)) >>= λ c.
    Some (Item (Waste c))))

pub in_line : (n : List ℕ) (c : Cell) → is_name n ≡ true → IsNumbered c →
    HasLine form_of (Item (In (record { name = n; cell = c })))
unfolding form_of is_word_at port_of port_after_keyword name_at cell_of_words_from number_at
in_line n c e k =
    subst (λ (d : Cell). HasLine form_of (Item (In (record { name = n; cell = d })))) (sym k.is)
    (line_by form_of (Item (In (record { name = n; cell = cell k.x k.y }))) (codes "in")
    (n ∷ decimal k.x ∷ decimal k.y ∷ []) refl
    (name_word n e, (decimal_word k.x k.x_small, (decimal_word k.y k.y_small, tt)))
    (λ i. (named n e i >>= λ m. (number_written k.x k.x_small i >>= λ x. number_written k.y k.y_small i >>= λ y.
    Some (cell x y)) >>= λ c. Some (record { name = m; cell = c })) >>= λ q. Some (Item (In q))))

pub out_line : (n : List ℕ) (c : Cell) → is_name n ≡ true → IsNumbered c →
    HasLine form_of (Item (Out (record { name = n; cell = c })))
unfolding form_of is_word_at port_of port_after_keyword name_at cell_of_words_from number_at
out_line n c e k =
    subst (λ (d : Cell). HasLine form_of (Item (Out (record { name = n; cell = d })))) (sym k.is)
    (line_by form_of (Item (Out (record { name = n; cell = cell k.x k.y }))) (codes "out")
    (n ∷ decimal k.x ∷ decimal k.y ∷ []) refl
    (name_word n e, (decimal_word k.x k.x_small, (decimal_word k.y k.y_small, tt)))
    (λ i. (named n e i >>= λ m. (number_written k.x k.x_small i >>= λ x. number_written k.y k.y_small i >>= λ y.
    Some (cell x y)) >>= λ c. Some (record { name = m; cell = c })) >>= λ q. Some (Item (Out q))))

pub mirror_line : (r : Box2) → r.x < 10 ^ 9 → r.y < 10 ^ 9 → r.w < 10 ^ 9 → r.h < 10 ^ 9 →
    HasLine form_of (Item (Mirror r))
unfolding form_of is_word_at box_of corner_and_sides number_at
mirror_line r x y w k =
    line_by form_of (Item (Mirror r)) (codes "mirror") (decimal r.x ∷ decimal r.y ∷ decimal r.w ∷ decimal r.h ∷ [])
    refl
    (decimal_word r.x x, (decimal_word r.y y, (decimal_word r.w w, (decimal_word r.h k, tt))))
    (λ i. (number_written r.x x i >>= λ x. number_written r.y y i >>= λ y. number_written r.w w i >>= λ w.
    number_written r.h k i >>= λ h. Some (record { x = x; y = y; w = w; h = h })) >>= λ r. Some (Item (Mirror r)))

-- the numbers of a mirror are small
pub record HasSmallNumbers (r : Box2) : Type 0 where
  pub x : r.x < 10 ^ 9
  pub y : r.y < 10 ^ 9
  pub w : r.w < 10 ^ 9
  pub h : r.h < 10 ^ 9

module _ (s : LayoutHeader) (l : HasLimits s) where
  pub numbered : (c : Cell) → in_layout s c.x c.y ≡ true → IsNumbered c
  unfolding in_box
  numbered c h = grind (arith, common_steps, (in_box_nats (whole s) c.x c.y h), (whole s))

  pub small_mirror : (r : Box2) → is_inside s (Mirror r) ≡ true → HasSmallNumbers r
  unfolding is_inside
  small_mirror r h = grind (arith, common_steps, at_most_by_test)

  -- ---- lines that are good

  -- the name of a port is a name, and one that a port may have
  abbrev pub IsPortName : PortNameLists → LayoutLine → Type 0
  IsPortName names (In q) = (is_name q.name ≡ true) × (has names.ins q.name ≡ true)
  IsPortName names (Out q) = (is_name q.name ≡ true) × (has names.outs q.name ≡ true)
  IsPortName names _ = Unit {0}

  first_holds : (a b : Bool) → code_if (not a || b) TakenCell ≡ None → a ≡ true
  first_holds a b h1 = grind (arith, common_steps)

  pub inside : (before : List LayoutLine) (part : LayoutLine) → cell_fault s before part ≡ None →
      is_inside s part ≡ true
  unfolding cell_fault
  inside before part e = first_holds (is_inside s part) (has_taken_cell before part) e

  line_of : (names : PortNameLists) (part : LayoutLine) → IsPortName names part → largest_limit_code part ≡ None →
      is_inside s part ≡ true → HasLine form_of (Item part)
  unfolding is_inside
  line_of names (Mirror r) n e h = let k = small_mirror r h in mirror_line r k.x k.y k.w k.h
  line_of names (Ball c) n e h = ball_line c (numbered c h)
  line_of names (In q) n e h = in_line q.name q.cell n.0 (numbered q.cell h)
  line_of names (Out q) n e h = out_line q.name q.cell n.0 (numbered q.cell h)
  line_of names (Waste c) n e h = waste_line c (numbered c h)

  lines_of : (names : PortNameLists) (before parts : List LayoutLine) → AreGoodAfter s before parts →
      AllByRecursion (IsPortName names) parts → AllByRecursion (λ part. HasLine form_of (Item part)) parts
  lines_of names before [] good n = tt
  lines_of names before (part ∷ parts) good n =
      grind (arith, common_steps, line_of, inside, (lines_of names (before ++ part ∷ []) parts good.2 n.1))

-- ---- lines that are in order

abbrev InOrder : List LayoutLine → List LayoutLine → Type 0
InOrder before [] = Unit {0}
InOrder before (part ∷ parts) = (order_fault before part ≡ None) × InOrder (before ++ part ∷ []) parts

abbrev AreUpTo : ℕ → List LayoutLine → Type 0
AreUpTo k parts = AllByRecursion (λ b. rank_of b ≤ k) parts

none_late : (k : ℕ) (part : LayoutLine) (before : List LayoutLine) → rank_of part ≡ k → AreUpTo k before →
    has_later_kind_before before part ≡ false
unfolding has_later_kind_before
none_late k part [] e h = refl
none_late k part (b ∷ before) e h = ap₂ (λ x y. x || y) (not_lt_test (rank_of part) (rank_of b) (omega (arith, e, h.0)))
    (none_late k part before e h.1)

up_more : (k : ℕ) (before : List LayoutLine) (part : LayoutLine) → rank_of part ≤ k → AreUpTo k before →
    AreUpTo k (before ++ part ∷ [])
up_more k [] part e h = (e, tt)
up_more k (b ∷ before) part e h = (h.0, up_more k before part e h.1)

up_next : (k : ℕ) (before : List LayoutLine) → AreUpTo k before → AreUpTo (k + 1) before
up_next k [] h = tt
up_next k (b ∷ before) h = (let low = h.0 in omega (arith, low), up_next k before h.1)

run_of : {X : Type 0} (mk : X → LayoutLine) (k : ℕ) → ((x : X) → rank_of (mk x) ≡ k) → (xs : List X)
    (before rest : List LayoutLine) → AreUpTo k before →
    ((longer : List LayoutLine) → AreUpTo k longer → InOrder longer rest) → InOrder before (map mk xs ++ rest)
unfolding order_fault
run_of mk k rank [] before rest h next = next before h
run_of mk k rank (x ∷ xs) before rest h next =
    grind (
      arith,
      common_steps,
      none_late,
      up_more,
      (run_of mk k rank xs (before ++ mk x ∷ []) rest
          (up_more k before (mk x) (let e = rank x in omega (arith, e)) h) next),
    )

last_run : {X : Type 0} (mk : X → LayoutLine) (k : ℕ) → ((x : X) → rank_of (mk x) ≡ k) → (xs : List X)
    (before : List LayoutLine) → AreUpTo k before → InOrder before (map mk xs)
last_run mk k rank xs before h = grind (arith, common_steps, (run_of mk k rank xs before [] h (λ longer more. tt)))

in_order : (p : Pattern) → InOrder [] (parts_of p)
unfolding rank_of
in_order p =
    run_of Mirror 0 (λ r. refl) p.mirrors [] _ tt (λ a ha.
    run_of Ball 1 (λ c. refl) p.balls a _ (up_next 0 a ha) (λ b hb.
    run_of In 2 (λ q. refl) p.ins b _ (up_next 1 b hb) (λ c hc.
    run_of Out 3 (λ q. refl) p.outs c _ (up_next 2 c hc) (λ d hd.
    last_run Waste 4 (λ c. refl) p.wastes d (up_next 3 d hd)))))

-- ---- no line has a fault

name_ok : (s : LayoutHeader) (l : HasLimits s) (names : PortNameLists) (part : LayoutLine) → IsPortName s l names part →
    name_fault (Some names) part ≡ None
unfolding name_fault
name_ok s l names part h1 = grind (arith, common_steps)

all_none : (a b c d : Option RefusalCode) → a ≡ None → b ≡ None → c ≡ None → d ≡ None →
    or_else (or_else a (or_else b c)) d ≡ None
all_none a b c d e f g h = ap₂ or_else (ap₂ or_else e (ap₂ or_else f g)) h

-- the size is within the limits of a text
abbrev pub IsWithin : Limits → LayoutHeader → Type 0
IsWithin k s = (s.w ≤ most_side k) × (s.h ≤ most_side k) × (s.steps ≤ most_steps k)

size_within : (k : Limits) (s : LayoutHeader) → IsWithin k s → text_size_fault k s ≡ None
unfolding text_size_fault
size_within k s within = grind (arith, common_steps, nat_tests)

-- and so is each mirror inside
mirror_within : (k : Limits) (s : LayoutHeader) (before : List LayoutLine) (part : LayoutLine) → IsWithin k s →
    cell_fault s before part ≡ None → text_limit_fault k part ≡ None
unfolding text_limit_fault cell_fault is_inside
mirror_within k s before (Mirror r) within good = grind (arith, common_steps, nat_tests)
mirror_within k s before part within good = refl

faultless_on : (k : Limits) (s : LayoutHeader) (l : HasLimits s) (names : PortNameLists)
    (before parts : List LayoutLine) → IsWithin k s → InOrder before parts → AreGoodAfter s before parts →
    AllByRecursion (IsPortName s l names) parts → AreFaultless (layout_grammar k (Some names)) s before parts
unfolding layout_line_fault line_fault
faultless_on k s l names before [] within order good n = tt
faultless_on k s l names before (part ∷ parts) within order good n = (
  ap₂ or_else order.0 (ap₂ or_else (mirror_within k s before part within good.1)
      (all_none (order_fault before part) (largest_limit_code part) (name_fault (Some names) part)
      (cell_fault s before part)
      order.0 good.0 (name_ok s l names part n.0) good.1)),
  faultless_on k s l names (before ++ part ∷ []) parts within order.1 good.2 n.1,
)

-- ---- the names of the ports

all_have : (test : List ℕ → Bool) (names : List (List ℕ)) →
    ((k : ℕ) (n : List ℕ) → slice_get names k ≡ Some n → test n ≡ true) → list_all test names ≡ true
all_have test [] h = refl
all_have test (n ∷ names) h = ap₂ (λ a b. a && b) (h 0 n refl) (all_have test names (λ k. h (suc k)))

-- each name of the list has a port
each_port : (names : List (List ℕ)) (ports : List Port) → HaveNames ports names → (k : ℕ) (n : List ℕ) →
    slice_get names k ≡ Some n → has (map (λ q. q.name) ports) n ≡ true
each_port names ports same k n at = same n ∙ any_at _ names k n at (bytes_same n)

-- each port has a name of the list
port_named : (names : List (List ℕ)) (ports : List Port) → HaveNames ports names → (k : ℕ) (q : Port) →
    slice_get ports k ≡ Some q → has names q.name ≡ true
port_named names ports same k q at =
    sym (same q.name) ∙ any_at _ (map (λ (q : Port). q.name) ports) k q.name
    (slice_get-map (λ (q : Port). q.name) ports k ∙ ap (option_map (λ (q : Port). q.name)) at) (bytes_same q.name)

all_mapped : {X : Type 0} (P : LayoutLine → Type 0) (mk : X → LayoutLine) (xs : List X) (rest : List LayoutLine) →
    ((k : ℕ) (x : X) → slice_get xs k ≡ Some x → P (mk x)) → AllByRecursion P rest →
    AllByRecursion P (map mk xs ++ rest)
all_mapped P mk [] rest h r = r
all_mapped P mk (x ∷ xs) rest h r = (h 0 x refl, all_mapped P mk xs rest (λ k. h (suc k)) r)

all_last : {X : Type 0} (P : LayoutLine → Type 0) (mk : X → LayoutLine) (xs : List X) →
    ((k : ℕ) (x : X) → slice_get xs k ≡ Some x → P (mk x)) → AllByRecursion P (map mk xs)
all_last P mk xs h = subst (AllByRecursion P) (append-nil (map mk xs)) (all_mapped P mk xs [] h tt)

-- ---- the section

module _ (circuit : List CircuitLine) (p : Pattern) (limits : size_fault p.size ≡ None)
    (good : AreGoodAfter p.size [] (parts_of p)) (are : IsNamed circuit p) (ins : AreNames (input_names circuit))
    (outs : AreNames (output_names circuit)) where
  abbrev pub s : LayoutHeader
  s = p.size

  pub l : HasLimits s
  l = has_limits s limits

  abbrev pub names : PortNameLists
  names = port_names_of circuit

  pub ports_named : AllByRecursion (IsPortName s l names) (parts_of p)
  ports_named =
      all_mapped (IsPortName s l names) Mirror p.mirrors _ (λ k r at. tt)
      (all_mapped (IsPortName s l names) Ball p.balls _ (λ k c at. tt)
      (all_mapped (IsPortName s l names) In p.ins _ (λ k q at.
      let known = port_named (input_names circuit) p.ins are.ins k q at in
      (has_name (input_names circuit) q.name ins known, known))
      (all_mapped (IsPortName s l names) Out p.outs _ (λ k q at.
      let known = port_named (output_names circuit) p.outs are.outs k q at in
      (has_name (output_names circuit) q.name outs known, known))
      (all_last (IsPortName s l names) Waste p.wastes (λ k c at. tt)))))

  pub layout_written : HasSection form_of s (parts_of p)
  layout_written = has_section form_of s (parts_of p)
      (size_line s (number s.w max_side l.wide (omega arith)) (number s.h max_side l.high (omega arith))
      (number s.steps max_steps l.long (omega arith)))
      end_line (lines_of s l names [] (parts_of p) good ports_named)

  pub layout_faultless : (k : Limits) → IsWithin k s → IsFaultless (layout_grammar k (Some names)) s (parts_of p)
  unfolding missing_port_fault
  layout_faultless k within = record {
    header = ap₂ or_else (size_within k s within) limits;
    each = faultless_on k s l names [] (parts_of p) within (in_order p) good ports_named;
    end = ap₂ (λ a b. code_if (not (a && b)) SomethingMissing)
        (all_have (λ n. list_any (is_input_cell_named n) (parts_of p)) names.ins (λ k n at.
        in_lines p n ∙ each_port names.ins p.ins are.ins k n at))
        (all_have (λ n. list_any (is_output_cell_named n) (parts_of p)) names.outs (λ k n at.
        out_lines p n ∙ each_port names.outs p.outs are.outs k n at));
  }
