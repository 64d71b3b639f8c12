-- The circuit, the names that are on, and the end of the text.
use Rattle.lemmas.proofs.Common.{◌∙◌, List, ℕ}
use Rattle.circuit.specs.declared.circuit_line.CircuitLine.{CircuitLine}
use Rattle.circuit.specs.Bridge.{input_names}
use Rattle.circuit.specs.Grammars.{circuit_grammar, circuit_section}
use Rattle.answers.specs.ValueText.{value_sections_with_limits}
use Rattle.answers.proofs.AskedLemmas.{first_failed, then_failed, then_read}
use Rattle.answers.proofs.value.read_circuit_and_assign.Goals as goal

entries : Unit {0} → List CircuitLine → List CircuitLine
entries _ list = list

names : Unit {0} → List CircuitLine → List (List ℕ)
names _ list = input_names list

pub returns-in-Err : goal.returns-in-Err
unfolding value_sections_with_limits entries names
returns-in-Err c = first_failed {A = List CircuitLine}
    (circuit_grammar c.args.limits) circuit_section entries names c.args.limits c.args.feed.now
    c.read_circuit_within.new.feed c.requires.front_taken c.requires.feed_not_stopped c.in-Err.fault c.in-Err.ensures

pub returns-in-Err-read_assign_and_end : goal.returns-in-Err-read_assign_and_end
unfolding value_sections_with_limits entries names
returns-in-Err-read_assign_and_end c =
    then_failed {A = List CircuitLine}
    (circuit_grammar c.args.limits) circuit_section entries names c.args.limits c.args.feed.now
    c.read_circuit_within.new.feed
    c.requires.front_taken c.requires.feed_not_stopped c.in-Ok.circuit c.deref.result.now
    c.in-Err-read_assign_and_end.fault
    c.in-Ok.ensures
    (c.deref.ensures.value ∙ c.in-Ok-input_name_list.ensures.names) c.in-Err-read_assign_and_end.ensures

pub returns-in-Ok-read_assign_and_end : goal.returns-in-Ok-read_assign_and_end
unfolding value_sections_with_limits entries names
returns-in-Ok-read_assign_and_end c =
    then_read {A = List CircuitLine}
    (circuit_grammar c.args.limits) circuit_section entries names c.args.limits c.args.feed.now
    c.read_circuit_within.new.feed
    c.requires.front_taken c.requires.feed_not_stopped c.in-Ok.circuit c.deref.result.now
    c.in-Ok-read_assign_and_end.on.items
    c.in-Ok.ensures
    (c.deref.ensures.value ∙ c.in-Ok-input_name_list.ensures.names) c.in-Ok-read_assign_and_end.ensures
