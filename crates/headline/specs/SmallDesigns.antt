-- The plain certificate of a design, and the text of a small design.
--
-- Read before: Plain.antt; the rules of a design (RightInFull.antt names them); the grammars of sections
-- (section_text/specs/Section.antt, circuit/specs/Grammars.antt and pattern/specs/Grammars.antt), and how their lines
-- are spelled (circuit/specs/Text.antt, pattern/specs/Text.antt and certificate/specs/Text.antt).
use Rattle.std.specs.Prelude.{◌≡◌, ℕ, List, [], ◌∷◌, ◌++◌, ◌≤◌, length, map, filter, slice_get, Ok, Some, None, IsTrue}
use Rattle.std.specs.List.{All, range_with_len}
use Rattle.section_text.specs.SaidSection.{IsSection}
use Rattle.section_text.specs.Section.{section_of}
use Rattle.meaning.specs.Design.{section_lines, text_limits}
use Rattle.section_text.specs.Words.{is_name, bytes_after_last_line_feed}
use Rattle.circuit.specs.Bridge.{AreGoodCircuitLines, circuit_of, input_names, netlist_of}
use Rattle.circuit.specs.Entries.{defined}
use Rattle.circuit.specs.Forms.{form_of as circuit_form}
use Rattle.circuit.specs.Grammars.{circuit_grammar}
use Rattle.circuit.specs.Rules.{consumed, order_fault, first_unconsumed}
use Rattle.circuit.specs.Text.{circuit_text}
use Rattle.pattern.specs.Forms.{form_of as layout_form}
use Rattle.pattern.specs.Grammars.{layout_grammar, layout_section}
use Rattle.pattern.specs.Lines.{AreGoodAfter, size_fault}
use Rattle.pattern.specs.Text.{layout_text}
use Rattle.certificate_lines.specs.Forms.{form_of as certificate_form}
use Rattle.certificate.specs.Arrivals.{IsDelayBetweenWires}
use Rattle.certificate.specs.Text.{certificate_text}
use Rattle.meaning.specs.Implements.{IsNamed}
use Rattle.core_book.specs.Concluding.{port_names_of}
use Rattle.circuit.specs.declared.circuit_line.CircuitLine.{CircuitLine}
use Rattle.pattern.specs.Layout.{Pattern, parts_of}
use Rattle.certificate_lines.specs.Rules.{is_inverse_gate, whole}
use Rattle.certificate_lines.specs.declared.certificate_line.CertificateLine.{CertificateLine}
use Rattle.certificate_lines.specs.declared.certificate_line.CertificateLine.TheVariants.{Module, Cut, Use, Keep}

-- the numbers of the gates of a circuit
abbrev pub gate_numbers : List CircuitLine → List ℕ
gate_numbers circuit = range_with_len 0 (length (netlist_of circuit).gates)

-- those of its inverse gates
abbrev pub inverse_gate_numbers : List CircuitLine → List ℕ
inverse_gate_numbers circuit =
    filter (λ k. is_inverse_gate (slice_get (netlist_of circuit).gates k)) (gate_numbers circuit)

-- The lines of the plain certificate: one module, the whole rectangle, which cuts each input, uses each gate and keeps
-- each inverse gate.
abbrev pub plain_lines : List CircuitLine → Pattern → List CertificateLine
plain_lines circuit layout = Module (whole layout.size)
    ∷ (map Cut (input_names circuit) ++ map Use (gate_numbers circuit) ++ map Keep (inverse_gate_numbers circuit))

-- The text says this circuit and this layout, in sections that are read, then the plain certificate, and nothing more.
pub record IsPlainText (text : List ℕ) (circuit : List CircuitLine) (layout : Pattern) : Type 0 where
  pub first : List (List ℕ)
  pub second : List (List ℕ)
  pub third : List (List ℕ)
  pub lines : section_lines text ≡ first ++ (second ++ third)
  pub ended : bytes_after_last_line_feed text ≡ []
  pub circuit_is : IsSection circuit_form first tt circuit
  pub circuit_read : section_of (circuit_grammar (text_limits text)) 0 first ≡ Ok (tt, circuit)
  pub layout_is : IsSection layout_form second layout.size (parts_of layout)
  pub layout_read : section_of (layout_grammar (text_limits text) (Some (port_names_of circuit))) 0 second
      ≡ Ok (layout_section layout)
  pub certificate_is : IsSection certificate_form third 1 (plain_lines circuit layout)

-- at most 64 by 64 cells, 65,536 steps, 12 inputs and 64 gates
pub record IsSmallDesign (circuit : List CircuitLine) (layout : Pattern) : Type 0 where
  pub wide : layout.size.w ≤ 64
  pub high : layout.size.h ≤ 64
  pub short : layout.size.steps ≤ 65536
  pub inputs : length (input_names circuit) ≤ 12
  pub gates : length (netlist_of circuit).gates ≤ 64

-- ---- the rules of a design

-- no line of the circuit is of an earlier kind than the line before it
abbrev pub AreLinesInOrder : List CircuitLine → List CircuitLine → Type 0
AreLinesInOrder before [] = Unit {0}
AreLinesInOrder before (r ∷ rest) = (order_fault before r ≡ None) × AreLinesInOrder (before ++ r ∷ []) rest

-- The circuit and the layout keep the rules of their sections. Each line of the circuit is good after those before it,
-- and of no earlier kind. Each wire's name is a name, and some line consumes the wire. The size of the layout is within
-- its limits, and each line is good after those before it. The ports are named as the inputs and the outputs.
pub record IsDesign (circuit : List CircuitLine) (layout : Pattern) : Type 0 where
  pub circuit_lines : AreGoodCircuitLines circuit
  pub in_order : AreLinesInOrder [] circuit
  pub names : All (λ n. IsTrue (is_name n)) (defined circuit)
  pub all_consumed : first_unconsumed (consumed circuit) (defined circuit) ≡ None
  pub size : size_fault layout.size ≡ None
  pub layout_lines : AreGoodAfter layout.size [] (parts_of layout)
  pub ports : IsNamed circuit layout

-- The text of a design with its plain certificate: the circuit, the layout and the plain lines in version 1, each line
-- in its one spelling.
abbrev pub design_text : List CircuitLine → Pattern → List ℕ
design_text circuit layout = circuit_text circuit ++ (layout_text layout ++ certificate_text
    (record { circuit = circuit; layout = layout; version = 1; entries = plain_lines circuit layout }))

-- no gate of the circuit is a delay
abbrev pub HasNoDelay : List CircuitLine → Type 0
HasNoDelay circuit = (k steps a b : ℕ) → ¬ IsDelayBetweenWires (circuit_of circuit) k steps a b

-- ---- other texts

-- the text is not the plain text of a small design
abbrev pub IsNoSmallDesignText : List ℕ → Type 0
IsNoSmallDesignText text = (circuit : List CircuitLine) (layout : Pattern) → IsPlainText text circuit layout →
    ¬ IsSmallDesign circuit layout
