use Rattle.module_box.proofs.Imports.{gate_out_words, length, rules, word_of_input, ◌++◌, ◌≡◌}
use Rattle.module_box.proofs.WordRows.{gate_done}
use Rattle.module_box.proofs.values.push_out_words.Goals as goal

pub returns : goal.returns
returns c =
    let four : length c.args.gate.ins ≡ 4 = search rules in
    let more : c.push_gate_out_words.new.words.items
    ≡ c.args.words.now.items ++ gate_out_words c.args.gate.kind
    (word_of_input c.args.words.now.items c.args.gate.ins 0)
    (word_of_input c.args.words.now.items c.args.gate.ins 1)
    (word_of_input c.args.words.now.items c.args.gate.ins 2)
    (word_of_input c.args.words.now.items c.args.gate.ins 3) = search rules in
    gate_done c.args.words.now.items c.push_gate_out_words.new.words.items c.args.gate _ four more (search rules)
