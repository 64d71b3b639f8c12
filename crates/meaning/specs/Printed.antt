-- How a text prints a design: the line `limits 2` or none, a circuit, and then a layout. Each line is as
-- docs/FORMATS.md shows it. Three laws of the crate `headline` are about it. A text begins with one design at most
-- (`BeginsWithOneDesign`). It is the design that the text is read as (`PrintedDesignIsRead`,
-- `TextBeginsWithReadDesign`; `SaysDesign` in Design.antt).
use Rattle.std.specs.Prelude.{◌≡◌, ◌<◌, ◌^◌, ◌⊎◌, ℕ, ℤ, pos, List, [], ◌∷◌, ◌++◌, drop, length, map, codes, IsTrue}
use Rattle.std.specs.Prelude.{if◌then◌else◌}
use Rattle.std.specs.List.{All, flat_map}
use Rattle.std.specs.Fmt.{decimal, signed_decimal}
use Rattle.section_text.specs.Words.{is_name}
use Rattle.circuit.specs.declared.circuit_line.GateKind.TheVariants.{Source, Fredkin, Cswap, Interact, Switch, Delay}
use Rattle.circuit.specs.declared.circuit_line.GateKind.TheVariants.{Unswitch, Uninteract}
use Rattle.circuit.specs.declared.circuit_line.CircuitLineKind.{CircuitLineKind}
use Rattle.circuit.specs.declared.circuit_line.CircuitLineKind.TheVariants.{Input, Gate, Output, Spill}
use Rattle.circuit.specs.declared.circuit_line.CircuitLine.{CircuitLine}
use Rattle.pattern.specs.declared.layout_line.LayoutLine.{LayoutLine}
use Rattle.pattern.specs.declared.layout_line.LayoutLine.TheVariants.{Mirror, Ball, In, Out, Waste}
use Rattle.pattern.specs.Layout.{Pattern, parts_of}

-- a line: words with a space between them, and then a line feed
abbrev pub printed : List (List ℕ) → List ℕ
printed words = drop 1 (flat_map (λ w. 32 ∷ w) words) ++ 10 ∷ []

-- ---- the circuit

-- a kind of line: its first words, how many names it consumes, its arrow, and how many names it defines
abbrev pub form : CircuitLineKind → List ℕ × ℕ × List (List ℕ) × ℕ
form Input = (codes "input", 0, [], 1)
form (Gate (Source b)) = (if b then codes "source 1" else codes "source 0", 0, codes "->" ∷ [], 1)
form (Gate Fredkin) = (codes "fredkin", 3, codes "->" ∷ [], 3)
form (Gate Cswap) = (codes "cswap", 3, codes "->" ∷ [], 3)
form (Gate Interact) = (codes "interact", 2, codes "->" ∷ [], 4)
form (Gate Switch) = (codes "switch", 2, codes "->" ∷ [], 3)
form (Gate (Delay n)) = (codes "delay " ++ decimal n, 1, codes "->" ∷ [], 1)
form (Gate Unswitch) = (codes "unswitch", 3, codes "->" ∷ [], 2)
form (Gate Uninteract) = (codes "uninteract", 4, codes "->" ∷ [], 2)
form Output = (codes "output", 1, [], 0)
form Spill = (codes "spill", 1, [], 0)

-- the words of a line
abbrev pub line_words : CircuitLine → List (List ℕ)
line_words r = (form r.kind).0 ∷ (r.ins ++ ((form r.kind).2 ++ r.outs))

-- the line has as many names as its kind asks for, and its number has at most nine digits
pub record IsLine (r : CircuitLine) : Type 0 where
  pub consumes : length r.ins ≡ (form r.kind).1
  pub defines : length r.outs ≡ (form r.kind).3
  pub names : All (λ n. IsTrue (is_name n)) (r.ins ++ r.outs)
  pub number : (n : ℕ) → r.kind ≡ Gate (Delay n) → n < 10 ^ 9

-- the text of a circuit
abbrev pub circuit_printed : List CircuitLine → List ℕ
circuit_printed circuit = flat_map printed ((codes "circuit" ∷ []) ∷ map line_words circuit ++ (codes "end" ∷ []) ∷ [])

-- ---- the layout

-- a part: its keyword, its name if it has one, and its numbers; those of a cell are its column and its row
abbrev pub part_form : LayoutLine → List ℕ × List (List ℕ) × List ℤ
part_form (Mirror r) = (codes "mirror", [], pos r.x ∷ pos r.y ∷ pos r.w ∷ pos r.h ∷ [])
part_form (Ball c) = (codes "ball", [], c.x ∷ c.y ∷ [])
part_form (In p) = (codes "in", p.name ∷ [], p.cell.x ∷ p.cell.y ∷ [])
part_form (Out p) = (codes "out", p.name ∷ [], p.cell.x ∷ p.cell.y ∷ [])
part_form (Waste c) = (codes "waste", [], c.x ∷ c.y ∷ [])

-- the lines of a layout
abbrev pub layout_forms : Pattern → List (List ℕ × List (List ℕ) × List ℤ)
layout_forms p = (codes "layout", [], pos p.size.w ∷ pos p.size.h ∷ pos p.size.steps ∷ [])
    ∷ map part_form (parts_of p) ++ (codes "end", [], []) ∷ []

-- the names are names, and the numbers are not negative and have at most nine digits
pub record IsForm (line : List ℕ × List (List ℕ) × List ℤ) : Type 0 where
  pub names : All (λ n. IsTrue (is_name n)) line.1
  pub numbers : All (λ z. (n : ℕ) × (z ≡ pos n) × (n < 10 ^ 9)) line.2

-- the text of a layout
abbrev pub layout_printed : Pattern → List ℕ
layout_printed p = flat_map (λ l. printed (l.0 ∷ l.1 ++ map signed_decimal l.2)) (layout_forms p)

-- ---- both

-- the text before a design: nothing, or the line that chooses the second limits
abbrev pub IsFront : List ℕ → Type 0
IsFront front = (front ≡ []) ⊎ (front ≡ printed (codes "limits" ∷ codes "2" ∷ []))

-- the text begins with this circuit and this layout, behind such a front, and goes on in any way
pub record BeginsWithDesign (text : List ℕ) (circuit : List CircuitLine) (layout : Pattern) : Type 0 where
  pub front : List ℕ
  pub is_front : IsFront front
  pub rest : List ℕ
  pub begins : text ≡ front ++ (circuit_printed circuit ++ (layout_printed layout ++ rest))
  pub circuit_lines : All IsLine circuit
  pub layout_lines : All IsForm (layout_forms layout)
