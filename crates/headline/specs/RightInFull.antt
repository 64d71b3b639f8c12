-- The whole meaning of a yes of `check`, of texts and bytes alone.
--
-- Read before: all that meaning/specs/Headline.antt and Stops.antt name; soundness/specs/PlainCertificates.antt from
-- `IsLiveOnRim` to `TouchesRim`; circuit/specs/Bridge.antt up to `AreGoodCircuitLines` and Rules.antt up to
-- `limit_or_name_code` (the rules of a circuit); pattern/specs/Lines.antt (those of a layout).
use Rattle.std.specs.Prelude.{◌≡◌, ◌<◌, ◌≤◌, ℕ, List, [], ◌++◌, length, None, Some, slice_get, take}
use Rattle.circuit.specs.Bridge.{AreGoodCircuitLines, input_count, input_names, netlist_of}
use Rattle.circuit.specs.Entries.{defined}
use Rattle.circuit.specs.Meaning.{Satisfies, Valuation, wires}
use Rattle.circuit.specs.Rules.{consumed, first_unconsumed, gate_count}
use Rattle.circuit.specs.Text.{circuit_text}
use Rattle.section_text.specs.Limits.{most_gates, most_wires}
use Rattle.section_text.specs.declared.limits.Limits.{Limits}
use Rattle.circuit.specs.declared.circuit_line.CircuitLine.{CircuitLine}
use Rattle.pattern.specs.Layout.{Pattern, parts_of}
use Rattle.pattern.specs.Lines.{AreGoodAfter, size_fault, text_size_fault}
use Rattle.pattern.specs.Text.{layout_text}
use Rattle.soundness.specs.PlainCertificates.{TouchesRim}
use Rattle.meaning.specs.Design.{front_text, text_limits}
use Rattle.meaning.specs.Headline.{IsRight}
use Rattle.headline.specs.Stops.{HasRightStops}

-- ---- the rules of a design

-- no more wires and no more gates than a text with these limits may have
abbrev pub KeepsWireAndGateLimits : Limits → List CircuitLine → Type 0
KeepsWireAndGateLimits l circuit = (length (defined circuit) ≤ most_wires l) × (gate_count circuit ≤ most_gates l)

-- The design of a text that is not refused is good: each of its lines is good after those before it, by names, limits
-- and cells, and some line of the circuit consumes each wire. The text begins with the lines of both sections in their
-- one spelling, behind that of its limits, if it has one.
pub record IsGoodDesign (text : List ℕ) (circuit : List CircuitLine) (layout : Pattern) : Type 0 where
  pub circuit_lines : AreGoodCircuitLines circuit
  pub all_consumed : first_unconsumed (consumed circuit) (defined circuit) ≡ None
  pub few_wires : KeepsWireAndGateLimits (text_limits text) circuit
  pub size : size_fault layout.size ≡ None
  pub text_size : text_size_fault (text_limits text) layout.size ≡ None
  pub layout_lines : AreGoodAfter layout.size [] (parts_of layout)
  pub rest : List ℕ
  pub begins : text ≡ front_text (text_limits text) ++ (circuit_text circuit ++ (layout_text layout ++ rest))

-- no two wires have one name
abbrev pub HasDistinctNames : List CircuitLine → Type 0
HasDistinctNames circuit = (u w : ℕ) (name : List ℕ) → slice_get (defined circuit) u ≡ Some name →
    slice_get (defined circuit) w ≡ Some name → u ≡ w

-- the first wires are the inputs, in the order of their lines
abbrev pub BeginsWithInputs : List CircuitLine → Type 0
BeginsWithInputs circuit = take (input_count circuit) (defined circuit) ≡ input_names circuit

-- ---- the valuation

-- The inputs have these values. Then some valuation satisfies the circuit, and each that does so has its values at all
-- wires.
pub record HasOneValuation (circuit : List CircuitLine) (inputs : Valuation) : Type 0 where
  pub values : Valuation
  pub satisfied : Satisfies (netlist_of circuit) inputs values
  pub only : (v : Valuation) → Satisfies (netlist_of circuit) inputs v → (w : ℕ) → w < wires (netlist_of circuit) →
      v w ≡ values w

-- ---- the whole

-- The text begins with one circuit and one layout. All fields are of these two.
pub record IsRightInFull (text : List ℕ) : Type 0 where
  -- the layout computes the circuit
  pub right : IsRight text
  -- the text goes on with a certificate, whose stops, delays and meetings are right for the same circuit and layout
  pub stops : HasRightStops text
  pub same_circuit : stops.circuit ≡ right.circuit
  pub same_layout : stops.layout ≡ right.layout
  -- for all values of the inputs the circuit has one valuation
  pub one_valuation : (inputs : Valuation) → HasOneValuation right.circuit inputs
  -- no cell of the rim is live at an odd time below the steps
  pub off_rim : ¬ TouchesRim right.circuit right.layout
  -- each line is as the grammar asks, and both sections have their one spelling
  pub good : IsGoodDesign text right.circuit right.layout
  pub distinct_names : HasDistinctNames right.circuit
  pub inputs_first : BeginsWithInputs right.circuit
