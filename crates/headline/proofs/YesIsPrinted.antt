-- A text that is not refused begins with the design that it says, and one that is reported with a yes is right.
use Rattle.headline.proofs.Imports.{All, All-cons, All-from_recursion, All-nil, All-tail, AllByRecursion, AreGoodAfter}
use Rattle.headline.proofs.Imports.{Ball, Cell, CircuitLine, In, IsDesign, IsForm, IsLine, IsTrue, LayoutHeader}
use Rattle.headline.proofs.Imports.{LayoutLine, List, Mirror, Out, Pattern, PortNameLists, Waste, [], ap₂, arith}
use Rattle.headline.proofs.Imports.{circuit_text, codes, common_steps, consume_have, consumed, defined, is_name}
use Rattle.headline.proofs.Imports.{layout_text, map, names_pass, part_form, parts_of, port_names_of, pos, refl, subst}
use Rattle.headline.proofs.Imports.{sym, true, ℕ, ℤ, ◌++◌, ◌<◌, ◌^◌, ◌∙◌, ◌∷◌, ◌≡◌}
use Rattle.meaning.specs.Printed.{BeginsWithDesign, IsFront, layout_forms}
use Rattle.meaning.specs.Design.{front_text}
use Rattle.section_text.specs.declared.limits.Limits.{Limits}
use Rattle.headline.specs.Laws.{TextBeginsWithReadDesign, RightSaysCorrectDesign, YesMeansRight}
use Rattle.headline.proofs.Printed.{IsNumber, are_names, circuit_lines, circuit_same, counts_of, layout_same}
use Rattle.headline.proofs.Printed.{other_forms, parts_read, printed_is_read, size_form}
use Rattle.headline.proofs.ReadDesigns.{designs_are_read, each_name}
use Rattle.headline.proofs.WrittenCircuits.{AreNames, defined_more, have_names, is_short, names_both, names_left}
use Rattle.headline.proofs.WrittenCircuits.{names_right, right_delay}
use Rattle.headline.proofs.WrittenLayouts.{HasLimits, IsNumbered, IsPortName, has_limits, inside, number, numbered}
use Rattle.headline.proofs.WrittenLayouts.{ports_named, small_mirror}
use Rattle.headline.proofs.WrittenNames.{input_named, outs_named}
use Rattle.headline.proofs.YesIsRight.{good_designs, not_refused, yes_is_right_as_read}
use Rattle.lemmas.specs.Bounds.{max_side, max_steps}
use Rattle.pattern.specs.Lines as lines

lines_formed : (before rest : List CircuitLine) → AreGoodAfter before rest → AreNames (defined before) →
    AreNames (defined rest) → AllByRecursion IsLine rest
unfolding AreGoodAfter
lines_formed before [] good h k = tt
lines_formed before (r ∷ rest) good h k =
    let outs = names_left r.outs (defined rest) k in
    let ins : AreNames r.ins = have_names (defined before) r.ins h
    (consume_have (defined before) (consumed before) r.ins (names_pass before r good.0.adds).0) in
    let counts = counts_of r good.0.fits in (
      record {
        consumes = counts.0;
        defines = counts.1;
        names = All-from_recursion (λ n. IsTrue (is_name n)) (r.ins ++ r.outs)
            (each_name (r.ins ++ r.outs) (names_both r.ins r.outs ins outs));
        number = is_short r.kind (right_delay before r good.0.adds);
      },
      lines_formed (before ++ r ∷ []) rest good.1 (defined_more before r h outs) (names_right r.outs (defined rest) k),
    )

no_names : All (λ n. IsTrue (is_name n)) []
no_names = All-nil (λ n. IsTrue (is_name n))

one_name : (n : List ℕ) → is_name n ≡ true → All (λ n. IsTrue (is_name n)) (n ∷ [])
one_name n h = All-cons (λ n. IsTrue (is_name n)) n [] h no_names

more_numbers : (n : ℕ) (zs : List ℤ) → n < 10 ^ 9 → All IsNumber zs → All IsNumber (pos n ∷ zs)
more_numbers n zs h k = All-cons IsNumber (pos n) zs (n, refl, h) k

-- a cell has its numbers
cell_numbers : (c : Cell) → IsNumbered c → All IsNumber (c.x ∷ c.y ∷ [])
cell_numbers c k =
    subst (λ (d : Cell). All IsNumber (d.x ∷ d.y ∷ [])) (sym k.is)
    (more_numbers k.x (pos k.y ∷ []) k.x_small (more_numbers k.y [] k.y_small (All-nil IsNumber)))

module _ (s : LayoutHeader) (l : HasLimits s) (names : PortNameLists) where
  part_formed : (part : LayoutLine) → IsPortName s l names part → lines.is_inside s part ≡ true →
      IsForm (part_form part)
  unfolding lines.is_inside
  part_formed (Mirror r) n h =
      let k = small_mirror s l r h in
      record {
        names = no_names;
        numbers = more_numbers r.x (pos r.y ∷ pos r.w ∷ pos r.h ∷ []) k.x
            (more_numbers r.y (pos r.w ∷ pos r.h ∷ []) k.y
            (more_numbers r.w (pos r.h ∷ []) k.w (more_numbers r.h [] k.h (All-nil IsNumber))));
      }
  part_formed (Ball c) n h = record { names = no_names; numbers = cell_numbers c (numbered s l c h) }
  part_formed (In q) n h =
      record { names = one_name q.name n.0; numbers = cell_numbers q.cell (numbered s l q.cell h) }
  part_formed (Out q) n h =
      record { names = one_name q.name n.0; numbers = cell_numbers q.cell (numbered s l q.cell h) }
  part_formed (Waste c) n h = record { names = no_names; numbers = cell_numbers c (numbered s l c h) }

  parts_formed : (before parts : List LayoutLine) → lines.AreGoodAfter s before parts →
      AllByRecursion (IsPortName s l names) parts →
      AllByRecursion IsForm (map part_form parts ++ (codes "end", [], []) ∷ [])
  parts_formed before [] good n = (record { names = no_names; numbers = All-nil IsNumber }, tt)
  parts_formed before (part ∷ parts) good n =
      grind (arith, common_steps, part_formed, inside, (parts_formed (before ++ part ∷ []) parts good.2 n.1))

module _ (circuit : List CircuitLine) (p : Pattern) (design : IsDesign circuit p) where
  wires : AreNames (defined circuit)
  wires = are_names (defined circuit) design.names

  pub all_lines : All IsLine circuit
  all_lines = All-from_recursion IsLine circuit (lines_formed [] circuit design.circuit_lines refl wires)

  limits : HasLimits p.size
  limits = has_limits p.size design.size

  pub all_forms : All IsForm (layout_forms p)
  all_forms =
      All-cons IsForm (size_form p) (other_forms p) (record {
        names = no_names;
        numbers = more_numbers p.size.w (pos p.size.h ∷ pos p.size.steps ∷ [])
            (number p.size.w max_side limits.wide (omega arith))
            (more_numbers p.size.h (pos p.size.steps ∷ []) (number p.size.h max_side limits.high (omega arith))
            (more_numbers p.size.steps [] (number p.size.steps max_steps limits.long (omega arith))
            (All-nil IsNumber)));
      })
      (All-from_recursion IsForm (other_forms p) (parts_formed p.size limits (port_names_of circuit) [] (parts_of p)
      design.layout_lines (ports_named circuit p design.size design.layout_lines design.ports
      (input_named circuit wires) (outs_named circuit design.circuit_lines wires))))

is_front : (l : Limits) → IsFront (front_text l)
is_front l = grind (arith, common_steps)

-- a text that begins with the sections of a design, in their one spelling, begins with the design
pub design_printed : (l : Limits) (text rest : List ℕ) (circuit : List CircuitLine) (p : Pattern) → IsDesign circuit p →
    text ≡ front_text l ++ (circuit_text circuit ++ (layout_text p ++ rest)) → BeginsWithDesign text circuit p
design_printed l text rest circuit p design e =
    let ls = all_lines circuit p design in
    let fs = all_forms circuit p design in
    let fit = (circuit_lines circuit ls).1 in
    let parts = (parts_read (parts_of p) (All-tail IsForm (size_form p) (other_forms p) fs)).1 in
    record {
      front = front_text l;
      is_front = is_front l;
      rest = rest;
      begins = e ∙ ap₂ (λ a b. front_text l ++ (a ++ (b ++ rest))) (sym (circuit_same circuit fit))
          (sym (layout_same p parts));
      circuit_lines = ls;
      layout_lines = fs;
    }

pub read_is_printed : TextBeginsWithReadDesign
read_is_printed text output outcome circuit p reports some says =
    let good = good_designs text output outcome circuit p reports some says in
    grind (arith, common_steps, design_printed, designs_are_read)

pub yes_is_right : YesMeansRight
yes_is_right text output says = grind (arith, common_steps, yes_is_right_as_read, read_is_printed, not_refused)

pub right_as_read : RightSaysCorrectDesign
right_as_read text r = grind (arith, common_steps, printed_is_read)
