use Rattle.module_box.proofs.Imports.{List, ap, drop, length, rules, subst, sym, take, wires, ℕ, ◌++◌, ◌+◌, ◌∙◌, ◌≡◌}
use Rattle.lemmas.proofs.Common.{take-append_seam}
use Rattle.module_box.proofs.LocalRows.{AreRowsBelow, rows_more, written}
use Rattle.module_box.proofs.wiring.Wiring.value_rows.Goals as goal

pub loop-chunk-preserved : goal.loop-chunk-preserved
loop-chunk-preserved c =
    let l = c.args.self.now in
    let values : List ℕ = c.loop-chunk.values.items in
    let values' : List ℕ = c.put_word_in_each_row.new.rows in
    let gaps : List ℕ = c.loop-chunk.undefined.items in
    let gaps' : List ℕ = c.put_word_in_each_row-in-loop-chunk.new.rows in
    let kept_len : c.loop-chunk.values.len ≡ length values' =
    sym (c.put_word_in_each_row.ensures.length_unchanged ∙ c.deref_mut.ensures.len) in
    let same : take c.loop-chunk.values.len (values' ++ drop (length values') values) ≡ values' =
    ap (λ n. take n (values' ++ drop (length values') values)) kept_len
    ∙ take-append_seam values' (drop (length values') values) in
    let kept_len' : c.loop-chunk.undefined.len ≡ length gaps' =
    sym (c.put_word_in_each_row-in-loop-chunk.ensures.length_unchanged ∙ c.deref_mut-in-loop-chunk.ensures.len) in
    let same' : take c.loop-chunk.undefined.len (gaps' ++ drop (length gaps') gaps) ≡ gaps' =
    ap (λ n. take n (gaps' ++ drop (length gaps') gaps)) kept_len'
    ∙ take-append_seam gaps' (drop (length gaps') gaps) in
    let more : AreRowsBelow l c.args.words (c.loop-chunk.chunk + 1) values' gaps' c.push.new.self.items =
    rows_more l c.args.words c.loop-chunk.chunk c.in_ok-column.column.defined c.in_ok-column.column.words.items
    c.in_ok-column.column.undefined.items values values' gaps gaps' c.loop-chunk.defined.items c.push.new.self.items
    c.words_of_chunk.ensures.gates_ordered c.loop-chunk-test.true
    (written c.args.words c.loop-chunk.chunk
    (wires l) c.in_ok-column.column.words.items values values' c.deref.result.now c.deref_mut.result.now
    c.deref.ensures.value c.deref_mut.ensures.value c.in_ok-column.ensures.count
    c.put_word_in_each_row.ensures.column_put_in_rows
    c.put_word_in_each_row.ensures.others_unchanged)
    (written c.args.words c.loop-chunk.chunk
    (length l.gates) c.in_ok-column.column.undefined.items gaps gaps' c.deref-in-loop-chunk.result.now
    c.deref_mut-in-loop-chunk.result.now c.deref-in-loop-chunk.ensures.value c.deref_mut-in-loop-chunk.ensures.value
    c.in_ok-column.ensures.gates
    c.put_word_in_each_row-in-loop-chunk.ensures.column_put_in_rows
    c.put_word_in_each_row-in-loop-chunk.ensures.others_unchanged)
    (c.put_word_in_each_row.ensures.length_unchanged ∙ ap length c.deref_mut.ensures.value)
    (c.put_word_in_each_row-in-loop-chunk.ensures.length_unchanged ∙ ap length c.deref_mut-in-loop-chunk.ensures.value)
    (search rules) c.in_ok-column.ensures.values c.loop-chunk.invariant in
    subst (λ (rows : List ℕ). AreRowsBelow l c.args.words (c.loop-chunk.chunk + 1) rows
    (take c.loop-chunk.undefined.len (gaps' ++ drop (length gaps') gaps)) c.push.new.self.items) (sym same)
    (subst (λ (rows : List ℕ). AreRowsBelow l c.args.words (c.loop-chunk.chunk + 1) values' rows c.push.new.self.items)
    (sym same') more)
