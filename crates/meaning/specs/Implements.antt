-- The meaning of a yes: the layout computes the circuit.
--
-- Read first, in this order: names among names (`has`, section_text/specs/Words.antt); the plane, a step and a run, and
-- cells of a rectangle (bbm_rule/specs/{Plane,Spans}.antt); what a layout says, and the plane at time 0 and at time t
-- (pattern/specs/Layout.antt); the lines of a circuit (circuit/specs/Entries.antt) and the rows of its gates
-- (Gates.antt); which valuations satisfy a circuit (Meaning.antt); the circuit that lines make, and the names of its
-- inputs and outputs (Bridge.antt).
use Rattle.std.specs.Prelude.{◌≡◌, ℕ, ℤ, ◌≤◌, Bool, List, map, slice_get, Some, IsTrue, IsFalse}
use Rattle.std.specs.List.{list_any}
use Rattle.bbm_rule.specs.Plane.{State, is_cell_at}
use Rattle.section_text.specs.Words.{has}
use Rattle.circuit.specs.Bridge.{circuit_of, input_names, output_names}
use Rattle.circuit.specs.Meaning.{Circuit, Valuation, Satisfies, values_by_name}
use Rattle.circuit.specs.declared.circuit_line.CircuitLine.{CircuitLine}
use Rattle.bbm_rule.specs.CellLists.{in_cells}
use Rattle.pattern.specs.Layout.{Pattern, in_rectangles, plane_at, IsDeadOutside}
use Rattle.pattern.specs.declared.layout_line.Port.{Port}

-- ---- names

-- each port has one of these names, and each of these names has a port at least
abbrev pub HaveNames : List Port → List (List ℕ) → Type 0
HaveNames ports names = (n : List ℕ) → has (map (λ q. q.name) ports) n ≡ has names n

-- the input cells have the names of the inputs, and the output cells those of the outputs
pub record IsNamed (lines : List CircuitLine) (p : Pattern) : Type 0 where
  pub ins : HaveNames p.ins (input_names lines)
  pub outs : HaveNames p.outs (output_names lines)

-- ---- one run

-- the cells of the ports
abbrev pub in_ports : List Port → State
in_ports ports x y = list_any (λ q. is_cell_at q.cell x y) ports

-- The plane after the last step is as asked, if `value` gives each wire its truth value. Mirrors are live, an output
-- cell is live exactly if its wire is true, and every other cell is dead. A waste cell may be live or dead.
pub record LooksAsAsked (p : Pattern) (value : List ℕ → Bool) (state : State) : Type 0 where
  pub mirrors : (x y : ℤ) → IsTrue (in_rectangles p.mirrors x y) → IsTrue (state x y)
  pub outputs : (i : ℕ) (q : Port) → slice_get p.outs i ≡ Some q → state q.cell.x q.cell.y ≡ value q.name
  pub elsewhere : (x y : ℤ) → IsFalse (in_rectangles p.mirrors x y) → IsFalse (in_ports p.outs x y) →
      IsFalse (in_cells p.wastes x y) → IsFalse (state x y)

-- the plane at time t of the run that begins with the mirrors, the balls and the input cells whose wire is true under v
abbrev pub run_under : Circuit → Pattern → Valuation → ℕ → State
run_under c p v t = plane_at p (values_by_name c v) t

-- ---- all runs

-- The inputs have these values. Then some valuation satisfies the circuit, and under each that does, the plane that
-- began with the true inputs looks as asked after the layout's steps.
pub record Computes (c : Circuit) (p : Pattern) (inputs : Valuation) : Type 0 where
  pub values : Valuation
  pub satisfied : Satisfies c.netlist inputs values
  pub looks : (v : Valuation) → Satisfies c.netlist inputs v →
      LooksAsAsked p (values_by_name c v) (run_under c p inputs p.size.steps)

-- it does so for all values of the inputs
abbrev pub Implements : Circuit → Pattern → Type 0
Implements c p = (inputs : Valuation) → Computes c p inputs

-- The layout computes the circuit of these lines. Its ports are named as the inputs and outputs, and it computes the
-- circuit for all values of the inputs. At no time up to the last step there is a live cell outside the rectangle.
pub record IsCorrect (lines : List CircuitLine) (p : Pattern) : Type 0 where
  pub named : IsNamed lines p
  pub implements : Implements (circuit_of lines) p
  pub stays : (inputs : Valuation) (t : ℕ) → t ≤ p.size.steps →
      IsDeadOutside p.size (run_under (circuit_of lines) p inputs t)
