-- The layout, the names that are on, and the end of the text.
use Rattle.lemmas.proofs.Common.{◌∙◌, List, None, flat_map, sym, ℕ}
use Rattle.pattern.specs.declared.layout_line.LayoutLine.{LayoutLine}
use Rattle.pattern.specs.declared.layout_line.LayoutHeader.{LayoutHeader}
use Rattle.pattern.specs.Layout.{Pattern}
use Rattle.pattern.specs.Grammars.{layout_grammar, layout_section}
use Rattle.answers.specs.RunText.{input_name_of_line, run_sections_with_limits}
use Rattle.answers.proofs.AskedLemmas.{first_failed, then_failed, then_read}
use Rattle.answers.proofs.InNames.{in_names_are}
use Rattle.answers.proofs.run.read_layout_and_assign.Goals as goal

lines : LayoutHeader → List LayoutLine → LayoutHeader × List LayoutLine
lines size parts = (size, parts)

names : LayoutHeader → List LayoutLine → List (List ℕ)
names size parts = flat_map input_name_of_line parts

pub returns-in-Err : goal.returns-in-Err
unfolding run_sections_with_limits lines names
returns-in-Err c = first_failed {A = Pattern}
    (layout_grammar c.args.limits None) layout_section lines names c.args.limits c.args.feed.now
    c.read_layout_within.new.feed c.requires.front_taken
    c.requires.feed_not_stopped c.in-Err.fault c.in-Err.ensures.reads

pub returns-in-Err-read_assign_and_end : goal.returns-in-Err-read_assign_and_end
unfolding run_sections_with_limits lines names
returns-in-Err-read_assign_and_end c =
    then_failed {A = Pattern} (layout_grammar c.args.limits None) layout_section lines names c.args.limits
    c.args.feed.now c.read_layout_within.new.feed
    c.requires.front_taken c.requires.feed_not_stopped c.in-Ok.layout c.deref.result.now
    c.in-Err-read_assign_and_end.fault
    c.in-Ok.ensures.reads
    (c.deref.ensures.value ∙ c.in-Ok-input_cell_names.ensures ∙ sym (in_names_are c.in-Ok.layout))
    c.in-Err-read_assign_and_end.ensures

pub returns-in-Ok-read_assign_and_end : goal.returns-in-Ok-read_assign_and_end
unfolding run_sections_with_limits lines names
returns-in-Ok-read_assign_and_end c =
    then_read {A = Pattern} (layout_grammar c.args.limits None) layout_section lines names c.args.limits c.args.feed.now
    c.read_layout_within.new.feed
    c.requires.front_taken c.requires.feed_not_stopped c.in-Ok.layout c.deref.result.now
    c.in-Ok-read_assign_and_end.on.items
    c.in-Ok.ensures.reads
    (c.deref.ensures.value ∙ c.in-Ok-input_cell_names.ensures ∙ sym (in_names_are c.in-Ok.layout))
    c.in-Ok-read_assign_and_end.ensures
