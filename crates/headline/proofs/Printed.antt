-- A text that begins with a design says it, and the printing is the text of the sections.
use Rattle.headline.proofs.Imports.{All, All-head, All-tail, AllByRecursion, AreLines, Ball, Cell, CircuitLine, End}
use Rattle.headline.proofs.Imports.{HasNameCountOfKind, Header, In, IsForm, IsLine, IsTrue, Item, LayoutLine, List}
use Rattle.headline.proofs.Imports.{Mirror, None, Out, Pattern, Waste, [], ap, append-nil, append_assoc, ap₂, arith}
use Rattle.headline.proofs.Imports.{circuit_grammar, clean_both, codes, common_steps, ended-cons, entry, flat_map}
use Rattle.headline.proofs.Imports.{flat_map-append, is_name, layout_grammar, length, line_text, lines_of, map}
use Rattle.headline.proofs.Imports.{part_form, parts_of, pos, refl, slice_split_at, some_part, sym, text_said, true}
use Rattle.headline.proofs.Imports.{with_line_feed, ℕ, ℤ, ◌&&◌, ◌++◌, ◌<◌, ◌^◌, ◌∙◌, ◌∷◌, ◌≡◌}
use Rattle.lemmas.proofs.Common.{inl, inr, signed_decimal}
use Rattle.circuit.specs.Bridge.{kind_in_count, kind_out_count}
use Rattle.circuit.specs.declared.circuit_line.CircuitLineKind.{CircuitLineKind}
use Rattle.meaning.specs.Printed.{IsFront, circuit_printed, form, layout_printed, line_words, printed}
use Rattle.headline.specs.Laws.{BeginsWithOneDesign, PrintedDesignIsRead}
use Rattle.headline.proofs.Designs.{one_design}
use Rattle.headline.proofs.Written.{HasLine, HasSection, has_section}
use Rattle.headline.proofs.WrittenCircuits.{AreNames, first_line, last_line, line_of, names_left, names_right}
use Rattle.headline.proofs.WrittenLayouts.{IsNumbered, ball_line, end_line, in_line, mirror_line, out_line, size_line}
use Rattle.headline.proofs.WrittenLayouts.{waste_line}
use Rattle.circuit.specs.Forms.{form_of as circuit_form}
use Rattle.circuit.specs.Text.{circuit_text, entry_text, first_word, form_text as circuit_line, words_after_keyword}
use Rattle.circuit.proofs.Spelling.{form_line as circuit_spelled}
use Rattle.pattern.specs.Forms.{form_of as layout_form}
use Rattle.pattern.specs.Text.{form_text as layout_line, layout_text, part_text}
use Rattle.pattern.proofs.Spelling.{form_line as layout_spelled}
use Rattle.section_text.specs.Limits.{limits_of}
use Rattle.section_text.specs.declared.limits.Limits.TheVariants.{First, Second}
use Rattle.meaning.specs.Design.{section_lines, text_limits}
use Rattle.meaning.proofs.Fronts.{first_limits, has_front}

-- ---- lines at the head of a text

pub lines_more : (ls : List (List ℕ)) (rest : List ℕ) → AreLines ls →
    lines_of (flat_map with_line_feed ls ++ rest) ≡ ls ++ lines_of rest
unfolding lines_of
lines_more [] rest clean = refl
lines_more (l ∷ ls) rest clean =
    grind (arith, common_steps, append_assoc, slice_split_at, ended-cons, some_part, (lines_more ls rest clean.1))

-- ---- a line of a circuit

kind_counts : (kind : CircuitLineKind) → ((form kind).1 ≡ kind_in_count kind) × ((form kind).3 ≡ kind_out_count kind)
kind_counts kind = grind (arith, common_steps)

pub fits_of : (r : CircuitLine) → IsLine r → HasNameCountOfKind r
fits_of r is = (is.consumes ∙ (kind_counts r.kind).0, is.defines ∙ (kind_counts r.kind).1)

pub counts_of : (r : CircuitLine) → HasNameCountOfKind r →
    (length r.ins ≡ (form r.kind).1) × (length r.outs ≡ (form r.kind).3)
counts_of r fits = (fits.0 ∙ sym (kind_counts r.kind).0, fits.1 ∙ sym (kind_counts r.kind).1)

pub are_names : (ns : List (List ℕ)) → All (λ n. IsTrue (is_name n)) ns → AreNames ns
are_names [] h = refl
are_names (n ∷ ns) h = ap₂ (λ a b. a && b) (All-head (λ n. IsTrue (is_name n)) n ns h)
    (are_names ns (All-tail (λ n. IsTrue (is_name n)) n ns h))

line_printed : (kind : CircuitLineKind) (ins outs : List (List ℕ)) → HasNameCountOfKind (entry kind ins outs) →
    printed (line_words (entry kind ins outs)) ≡ entry_text (entry kind ins outs)
unfolding entry_text first_word words_after_keyword
line_printed kind ins outs h1 = grind (arith, common_steps, append-nil)

abbrev pub Fit : List CircuitLine → Type 0
Fit circuit = AllByRecursion HasNameCountOfKind circuit

items_printed : (circuit : List CircuitLine) → Fit circuit →
    flat_map printed (map line_words circuit ++ (codes "end" ∷ []) ∷ [])
    ≡ flat_map entry_text circuit ++ line_text (codes "end") []
items_printed [] fit = refl
items_printed (r ∷ circuit) fit = grind (arith, common_steps, line_printed, append_assoc, (items_printed circuit fit.1))

-- the printing of a circuit is the text of its section
pub circuit_same : (circuit : List CircuitLine) → Fit circuit → circuit_printed circuit ≡ circuit_text circuit
unfolding circuit_text
circuit_same circuit fit = grind (arith, common_steps, items_printed, append_assoc)

-- ---- a line of a layout

abbrev form_printed : List ℕ × List (List ℕ) × List ℤ → List ℕ
form_printed l = printed (l.0 ∷ l.1 ++ map signed_decimal l.2)

-- the first line of a layout, and the others
abbrev pub size_form : Pattern → List ℕ × List (List ℕ) × List ℤ
size_form p = (codes "layout", [], pos p.size.w ∷ pos p.size.h ∷ pos p.size.steps ∷ [])

abbrev pub other_forms : Pattern → List (List ℕ × List (List ℕ) × List ℤ)
other_forms p = map part_form (parts_of p) ++ (codes "end", [], []) ∷ []

abbrev pub IsNumber : ℤ → Type 0
IsNumber z = (n : ℕ) × (z ≡ pos n) × (n < 10 ^ 9)

small : (n : ℕ) → IsNumber (pos n) → n < 10 ^ 9
small n h = grind (arith, common_steps)

-- the cells of a part have numbers
abbrev pub IsPart : LayoutLine → Type 0
IsPart (Mirror r) = Unit {0}
IsPart (Ball c) = IsNumbered c
IsPart (In q) = IsNumbered q.cell
IsPart (Out q) = IsNumbered q.cell
IsPart (Waste c) = IsNumbered c

parts_printed : (parts : List LayoutLine) → AllByRecursion IsPart parts →
    flat_map form_printed (map part_form parts ++ (codes "end", [], []) ∷ [])
    ≡ flat_map part_text parts ++ line_text (codes "end") []
parts_printed [] h = refl
parts_printed (part ∷ parts) h = grind (arith, common_steps, append_assoc, (parts_printed parts h.1))

-- the printing of a layout is the text of its section
pub layout_same : (p : Pattern) → AllByRecursion IsPart (parts_of p) → layout_printed p ≡ layout_text p
unfolding layout_text
layout_same p h = grind (arith, common_steps, parts_printed, append_assoc)

-- ---- the sections that are printed can be read

pub circuit_lines : (circuit : List CircuitLine) → All IsLine circuit →
    AllByRecursion (λ r. HasLine circuit_form (Item r)) circuit × Fit circuit
circuit_lines [] h = (tt, tt)
circuit_lines (r ∷ circuit) h =
    let is = All-head IsLine r circuit h in
    let more = circuit_lines circuit (All-tail IsLine r circuit h) in
    let names = are_names (r.ins ++ r.outs) is.names in
    let fits = fits_of r is in (
      (
        line_of r.kind r.ins r.outs fits (names_left r.ins r.outs names) (names_right r.ins r.outs names) is.number,
        more.0,
      ),
      (fits, more.1),
    )

first_number : (z : ℤ) (zs : List ℤ) → All IsNumber (z ∷ zs) → IsNumber z
first_number z zs h = All-head IsNumber z zs h

other_numbers : (z : ℤ) (zs : List ℤ) → All IsNumber (z ∷ zs) → All IsNumber zs
other_numbers z zs h = All-tail IsNumber z zs h

numbered_by : (c : Cell) → All IsNumber (c.x ∷ c.y ∷ []) → IsNumbered c
numbered_by c h = grind (arith, common_steps, first_number, other_numbers, c.x, c.y)

one_name : (n : List ℕ) → All (λ n. IsTrue (is_name n)) (n ∷ []) → is_name n ≡ true
one_name n h = All-head (λ n. IsTrue (is_name n)) n [] h

part_read : (part : LayoutLine) → IsForm (part_form part) → HasLine layout_form (Item part) × IsPart part
part_read (Mirror r) h =
    let a = h.numbers in
    let xs : List ℤ = pos r.y ∷ pos r.w ∷ pos r.h ∷ [] in
    let ys : List ℤ = pos r.w ∷ pos r.h ∷ [] in
    let ws : List ℤ = pos r.h ∷ [] in
    let b = other_numbers (pos r.x) xs a in
    let c = other_numbers (pos r.y) ys b in
    let d = other_numbers (pos r.w) ws c in grind (arith, common_steps, mirror_line, small, first_number)
part_read (Ball c) h = let n = numbered_by c h.numbers in (ball_line c n, n)
part_read (In q) h = let n = numbered_by q.cell h.numbers in (in_line q.name q.cell (one_name q.name h.names) n, n)
part_read (Out q) h = let n = numbered_by q.cell h.numbers in (out_line q.name q.cell (one_name q.name h.names) n, n)
part_read (Waste c) h = let n = numbered_by c h.numbers in (waste_line c n, n)

pub parts_read : (parts : List LayoutLine) → All IsForm (map part_form parts ++ (codes "end", [], []) ∷ []) →
    AllByRecursion (λ part. HasLine layout_form (Item part)) parts × AllByRecursion IsPart parts
parts_read [] h = (tt, tt)
parts_read (part ∷ parts) h =
    let one = part_read part (All-head IsForm (part_form part) (map part_form parts ++ (codes "end", [], []) ∷ []) h) in
    let more = parts_read parts (All-tail IsForm (part_form part)
    (map part_form parts ++ (codes "end", [], []) ∷ []) h) in
    ((one.0, more.0), (one.1, more.1))

circuit_whole : (circuit : List CircuitLine) →
    circuit_line (Header tt) ++ (flat_map (λ i. circuit_line (Item i)) circuit ++ circuit_line End)
    ≡ circuit_text circuit
unfolding circuit_text
circuit_whole circuit = grind (arith, common_steps, append_assoc)

layout_whole : (p : Pattern) →
    layout_line (Header p.size) ++ (flat_map (λ i. layout_line (Item i)) (parts_of p) ++ layout_line End)
    ≡ layout_text p
unfolding layout_text
layout_whole p = grind (arith, common_steps, append_assoc)

-- the lines behind a front are those of what stands behind it
pub behind_front : (text front sections : List ℕ) → IsFront front → text ≡ front ++ sections →
    text_limits sections ≡ First → section_lines text ≡ lines_of sections
behind_front text front sections is e none = elim is [
  | inl nothing ↦ ap section_lines (e ∙ ap (λ f. f ++ sections) nothing) ∙ (has_front First sections none).lines
  | inr line ↦ ap section_lines (e ∙ ap (λ f. f ++ sections) line) ∙ (has_front Second sections none).lines
]

-- a text that begins with a design says it
pub printed_is_read : PrintedDesignIsRead
printed_is_read text circuit p b =
    let c = circuit_lines circuit b.circuit_lines in
    let size = All-head IsForm (size_form p) (other_forms p) b.layout_lines in
    let l = parts_read (parts_of p) (All-tail IsForm (size_form p) (other_forms p) b.layout_lines) in
    let w = size.numbers in
    let ws : List ℤ = pos p.size.h ∷ pos p.size.steps ∷ [] in
    let hs : List ℤ = pos p.size.steps ∷ [] in
    let h = other_numbers (pos p.size.w) ws w in
    let t = other_numbers (pos p.size.h) hs h in
    let first : HasSection circuit_form tt circuit = has_section circuit_form tt circuit first_line last_line c.0 in
    let second : HasSection layout_form p.size (parts_of p) =
    has_section layout_form p.size (parts_of p)
    (size_line p.size (small p.size.w (first_number (pos p.size.w) ws w))
    (small p.size.h (first_number (pos p.size.h) hs h)) (small p.size.steps (first_number (pos p.size.steps) [] t)))
    end_line l.0 in
    let one : flat_map with_line_feed first.lines ≡ circuit_printed circuit =
    text_said (circuit_grammar First) circuit_line circuit_spelled first.lines tt circuit first.is
    ∙ circuit_whole circuit ∙ sym (circuit_same circuit c.1) in
    let two : flat_map with_line_feed second.lines ≡ layout_printed p =
    text_said (layout_grammar First None) layout_line layout_spelled second.lines p.size (parts_of p) second.is
    ∙ layout_whole p ∙ sym (layout_same p l.1) in
    let spelled : flat_map with_line_feed (first.lines ++ second.lines) ≡ circuit_printed circuit ++ layout_printed p =
    flat_map-append with_line_feed first.lines second.lines ∙ ap₂ (λ a b. a ++ b) one two in
    let sections : List ℕ = circuit_printed circuit ++ (layout_printed p ++ b.rest) in
    let lines : lines_of sections ≡ first.lines ++ (second.lines ++ lines_of b.rest) =
    ap lines_of (sym (append_assoc (circuit_printed circuit) (layout_printed p) b.rest)
    ∙ ap (λ t. t ++ b.rest) (sym spelled))
    ∙ lines_more (first.lines ++ second.lines) b.rest (clean_both first.lines second.lines first.clean second.clean)
    ∙ append_assoc first.lines second.lines (lines_of b.rest) in
    record {
      first = first.lines;
      second = second.lines;
      others = lines_of b.rest;
      lines = behind_front text b.front sections b.is_front b.begins
          (ap limits_of lines ∙ first_limits first.lines (second.lines ++ lines_of b.rest) circuit first.is)
          ∙ lines;
      circuit_is = first.is;
      layout_is = second.is;
    }

-- and no other
pub begins_with_one : BeginsWithOneDesign
begins_with_one text circuit circuit' layout layout' b b' =
    one_design text circuit circuit' layout layout' (printed_is_read text circuit layout b)
    (printed_is_read text circuit' layout' b')
