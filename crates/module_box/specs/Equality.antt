-- Whether two values are the same in all that contracts see of them: `equality_is_of_content` is the law that the tests
-- answer this
use Rattle.std.specs.Prelude.{ℕ, Bool, true, false, Option, Some, None, nat_eq}
use Rattle.std.specs.Bool.{beq}
use Rattle.std.specs.Ordering.{int_eq, on, eq_of_both}
use Rattle.std.specs.Cmp.{IsEquivalence, and_equiv, on_equiv, nat_eq_equiv, int_eq_equiv, bool_eq_equiv}
use Rattle.std.specs.Cmp.Lexicographic.{pointwise, lists_equiv, options_equiv}
use Rattle.std.specs.Option.{option_eq}
use Rattle.bbm_rule.specs.declared.block.Cell.{Cell}
use Rattle.circuit.specs.declared.circuit_line.GateKind.{GateKind}
use Rattle.circuit.specs.declared.circuit_line.GateKind.TheVariants.{Source, Fredkin, Cswap, Interact, Switch, Delay}
use Rattle.circuit.specs.declared.circuit_line.GateKind.TheVariants.{Unswitch, Uninteract}
use Rattle.circuit.specs.Meaning.{Gate, Netlist}
use Rattle.module_box.specs.declared.schedules.AllTimesSignal.{AllTimesSignal}
use Rattle.module_box.specs.declared.schedules.TimedSignal.{TimedSignal}
use Rattle.module_box.specs.declared.schedules.Signal.{Signal}
use Rattle.module_box.specs.declared.schedules.Signal.TheVariants.{Zero, One, Wire}
use Rattle.module_box.specs.Schedules.{Signals}
use Rattle.module_box.specs.Locals.{LocalNet}

-- ---- schedules
-- whether the signal is the constant 1
abbrev pub is_one : Signal → Bool
is_one Zero = false
is_one One = true
is_one (Wire w) = false

-- the wire of a signal, if it has one
abbrev pub signal_wire : Signal → Option ℕ
signal_wire Zero = None
signal_wire One = None
signal_wire (Wire w) = Some w

-- whether two signals are the same
abbrev pub same_signal : Signal → Signal → Bool
same_signal = eq_of_both (on is_one beq) (on signal_wire (option_eq nat_eq))

-- whether two cells are the same
abbrev pub same_cell : Cell → Cell → Bool
same_cell = eq_of_both (on (λ c. c.x) int_eq) (on (λ c. c.y) int_eq)

-- whether two signals at all times are the same
abbrev pub same_all_times : AllTimesSignal → AllTimesSignal → Bool
same_all_times = eq_of_both (on (λ h. h.cell) same_cell) (on (λ h. h.signal) same_signal)

-- whether two events are the same
abbrev pub same_event : TimedSignal → TimedSignal → Bool
same_event = eq_of_both (on (λ e. e.at.time) nat_eq)
    (eq_of_both (on (λ e. e.at.cell) same_cell) (on (λ e. e.signal) same_signal))

-- whether two schedules are the same
abbrev pub same_signals : Signals → Signals → Bool
same_signals = eq_of_both (on (λ s. s.all_times) (pointwise same_all_times)) (on (λ s. s.events) (pointwise same_event))

-- these tests are equivalences
pub signal_equivalence : IsEquivalence same_signal
signal_equivalence = and_equiv (on_equiv is_one bool_eq_equiv) (on_equiv signal_wire (options_equiv nat_eq_equiv))

-- the test on cells is an equivalence
pub cell_equivalence : IsEquivalence same_cell
cell_equivalence = and_equiv (on_equiv (λ c. c.x) int_eq_equiv) (on_equiv (λ c. c.y) int_eq_equiv)

-- the test on signals at all times is an equivalence
all_times_equivalence : IsEquivalence same_all_times
all_times_equivalence = and_equiv (on_equiv (λ h. h.cell) cell_equivalence)
    (on_equiv (λ h. h.signal) signal_equivalence)

-- the test on events is an equivalence
event_equivalence : IsEquivalence same_event
event_equivalence = and_equiv (on_equiv (λ e. e.at.time) nat_eq_equiv)
    (and_equiv (on_equiv (λ e. e.at.cell) cell_equivalence) (on_equiv (λ e. e.signal) signal_equivalence))

-- the test on schedules is an equivalence
pub schedule_equivalence : IsEquivalence same_signals
schedule_equivalence = and_equiv (on_equiv (λ s. s.all_times) (lists_equiv all_times_equivalence))
    (on_equiv (λ s. s.events) (lists_equiv event_equivalence))

-- ---- the wires and gates of modules
-- the number of a kind of gate, whatever its bit or its steps
abbrev pub gate_kind_number : GateKind → ℕ
gate_kind_number (Source b) = 0
gate_kind_number Fredkin = 1
gate_kind_number Cswap = 2
gate_kind_number Interact = 3
gate_kind_number Switch = 4
gate_kind_number (Delay n) = 5
gate_kind_number Unswitch = 6
gate_kind_number Uninteract = 7

-- the bit of a source
abbrev pub source_bit : GateKind → Option Bool
source_bit (Source b) = Some b
source_bit _ = None

-- the steps of a delay
abbrev pub delay_steps : GateKind → Option ℕ
delay_steps (Delay n) = Some n
delay_steps _ = None

-- whether two kinds of gate are the same
abbrev pub same_gate_kind : GateKind → GateKind → Bool
same_gate_kind = eq_of_both (on gate_kind_number nat_eq)
    (eq_of_both (on source_bit (option_eq beq)) (on delay_steps (option_eq nat_eq)))

-- whether two gates are the same
abbrev pub same_gate : Gate → Gate → Bool
same_gate = eq_of_both (on (λ g. g.kind) same_gate_kind)
    (eq_of_both (on (λ g. g.ins) (pointwise nat_eq)) (on (λ g. g.outs) (pointwise nat_eq)))

-- whether two netlists are the same
abbrev pub same_netlist : Netlist → Netlist → Bool
same_netlist = eq_of_both (on (λ n. n.given) nat_eq) (on (λ n. n.gates) (pointwise same_gate))

-- whether the wires and gates of two modules are the same
abbrev pub same_locals : LocalNet → LocalNet → Bool
same_locals =
    eq_of_both (eq_of_both (eq_of_both (on (λ l. l.netlist.given) nat_eq)
    (on (λ l. l.netlist.gates) (pointwise same_gate))) (on (λ l. l.circuit_wires) (pointwise nat_eq)))
    (on (λ l. l.circuit_gates) (pointwise nat_eq))

-- these tests are equivalences
gate_kind_equivalence : IsEquivalence same_gate_kind
gate_kind_equivalence = and_equiv (on_equiv gate_kind_number nat_eq_equiv)
    (and_equiv (on_equiv source_bit (options_equiv bool_eq_equiv)) (on_equiv delay_steps (options_equiv nat_eq_equiv)))

-- the test on gates is an equivalence
pub gate_equivalence : IsEquivalence same_gate
gate_equivalence = and_equiv (on_equiv (λ g. g.kind) gate_kind_equivalence)
    (and_equiv (on_equiv (λ g. g.ins) (lists_equiv nat_eq_equiv)) (on_equiv (λ g. g.outs) (lists_equiv nat_eq_equiv)))

-- the test on netlists is an equivalence
pub netlist_equivalence : IsEquivalence same_netlist
netlist_equivalence = and_equiv (on_equiv (λ n. n.given) nat_eq_equiv)
    (on_equiv (λ n. n.gates) (lists_equiv gate_equivalence))

-- the test on the wires and gates of modules is an equivalence
pub locals_equivalence : IsEquivalence same_locals
locals_equivalence =
    and_equiv (and_equiv (and_equiv (on_equiv (λ l. l.netlist.given) nat_eq_equiv)
    (on_equiv (λ l. l.netlist.gates) (lists_equiv gate_equivalence)))
    (on_equiv (λ l. l.circuit_wires) (lists_equiv nat_eq_equiv)))
    (on_equiv (λ l. l.circuit_gates) (lists_equiv nat_eq_equiv))
